-- The sides of a layout at which its ends stand.
use Rattle.std.proofs.Common.{◌≡◌, ℕ, suc, ◌+◌, ◌<◌, ◌≤◌, ◌↔◌, Bool, List, [], ◌∷◌, ◌++◌, length, get_or, take, inl, inr, refl, sym, ap, subst, ◌∙◌, ⊎_elim, arith}
use Rattle.std.specs.Prelude.{Result, Ok, Err, All, Option, Some, None, IsTrue}
use Rattle.std.proofs.lemmas.Bool.{cases_eq}
use Rattle.std.proofs.lemmas.List.{append-nil, append_assoc, get_or_default, length-take-le, take_more}
use Rattle.std.proofs.lemmas.Option.{same_Some}
use Rattle.bt_text.specs.Answers.{UnlessMemory, Answers, HasOneAnswer}
use Rattle.bt_text.proofs.OneAnswer.{answers_of}
use Rattle.bt_parts.specs.declared.part.Cell.{Cell}
use Rattle.bt_parts.specs.declared.part.Dir.{Dir}
use Rattle.bt_parts.specs.declared.part.Part.{Part}
use Rattle.bt_parts.specs.Cells.{opposite, IsGreaterHalf}
use Rattle.bt_parts.specs.Layouts.{HasPart}
use Rattle.bt_parts.proofs.Steps.{opposite-opposite}
use Rattle.bt_net.specs.declared.network.Demand.{Demand}
use Rattle.bt_net.specs.declared.network.End.{End}
use Rattle.bt_net.specs.declared.network.End.TheVariants.{Input, Output}
use Rattle.bt_net.specs.declared.network.TheConstants.{MOST_OF_EACH}
use Rattle.bt_net.specs.Network.{Network}
use Rattle.bt_model.specs.Chains.{IsInput, IsOutput}
use Rattle.bt_model.specs.Laying.{way_across}
use Rattle.bt_model.specs.Shown.{Naming}
use Rattle.bt_recover.specs.declared.fault.RecoverFault.{RecoverFault}
use Rattle.bt_recover.specs.declared.fault.RecoverFault.TheVariants.{Memory}
use Rattle.bt_recover.specs.Recovered.{IsRecovered}
use Rattle.bt_recover.specs.declared.sides.EndKind.{EndKind}
use Rattle.bt_recover.specs.Sides.{IsFarther, ReachesFarther, IsStayOf, AreStaysOf, AreStays, AreEndSides, stay}
use Rattle.bt_recover.specs.inner.Staying.{AddsStays, end_of}
use Rattle.bt_recover.proofs.NetworkLemmas.{each_within, input_within, output_within}
use Rattle.bt_recover.proofs.OneRecovery.{one_recovery}

-- a part looks across one side
pub one_across : (end : End) (d e : Dir) → way_across end d ≡ way_across end e → d ≡ e
one_across (Input k) d e same = sym (opposite-opposite d) ∙ ap opposite same ∙ opposite-opposite e
one_across (Output k) d e same = same

one_stay : (parts : List Part) (end : End) (part : Part) (a b : List Demand) → IsStayOf parts end part a → IsStayOf parts end part b → a ≡ b
one_stay parts end part a b (inl (d, looks, h)) (inl (e, other, k)) =
    h ∙ ap (λ dir. stay end dir ∷ []) (one_across end d e (sym looks.0 ∙ other.0)) ∙ sym k
one_stay parts end part a b (inl (d, looks, h)) (inr (none, k)) = absurd (none d looks)
one_stay parts end part a b (inr (none, h)) (inl (e, other, k)) = absurd (none e other)
one_stay parts end part a b (inr (none, h)) (inr (not, k)) = h ∙ sym k

-- so what there is of ends is one list
one_list : (parts : List Part) (end_of : ℕ → End) (number : ℕ) (indices : List ℕ) (a b : List Demand) → AreStaysOf parts end_of number indices a
    → AreStaysOf parts end_of number indices b → a ≡ b
one_list parts end_of number [] a b h k = h ∙ sym k
one_list parts end_of number (i ∷ more) a b (part, first, rest, at, is, are, h) (other, second, behind, there, was, were, k) =
    let same : part ≡ other = same_Some part other (sym at ∙ there) in
    let one = one_stay parts (end_of number) part first second is (subst (λ p. IsStayOf parts (end_of number) p second) (sym same) was) in
    h ∙ ap (λ x. x ++ rest) one ∙ ap (λ x. second ++ x) (one_list parts end_of (number + 1) more rest behind are were) ∙ sym k

one_stays : (parts : List Part) (naming : Naming) (a b : List Demand) → AreStays parts naming a → AreStays parts naming b → a ≡ b
one_stays parts naming a b (ins, outs, h, k, e) (more, others, l, m, f) =
    e ∙ ap (λ x. x ++ outs) (one_list parts Input 0 naming.inputs ins more h l) ∙ ap (λ x. more ++ x) (one_list parts Output 0 naming.outputs outs others k m) ∙ sym f

not_both : {A E : Type 0} (v : A) (e : E) → ◌≡◌ {A = Result A E} (Ok v) (Err e) → ⊥
not_both v e i = cc

-- two right answers are equal
pub one_end_sides : (parts : List Part) → HasOneAnswer (AreEndSides parts)
one_end_sides parts (Ok a) (Ok b) (found, is, h) (other, was, k) =
    let same : found ≡ other = let e = one_recovery parts (Ok found) (Ok other) is was in cc in
    ap Ok (one_stays parts found.1 a b h (subst (λ x. AreStays parts x.1 b) (sym same) k))
one_end_sides parts (Ok a) (Err f) (found, is, h) k = absurd (not_both found f (one_recovery parts (Ok found) (Err f) is k))
one_end_sides parts (Err e) (Ok b) h (other, was, k) = absurd (not_both other e (one_recovery parts (Ok other) (Err e) was h))
one_end_sides parts (Err e) (Err f) h k = let same = one_recovery parts (Err e) (Err f) h k in cc

pub sides_answer : (parts : List Part) (told : Result (List Demand) RecoverFault) → UnlessMemory Memory (AreEndSides parts) told → Answers Memory (AreEndSides parts) told
sides_answer parts = answers_of Memory (AreEndSides parts) (one_end_sides parts)

-- one end more
stays_more : (parts : List Part) (end_of : ℕ → End) (number : ℕ) (indices : List ℕ) (stays : List Demand) (i : ℕ) (part : Part) (last : List Demand)
    → AreStaysOf parts end_of number indices stays → HasPart parts i part → IsStayOf parts (end_of (number + length indices)) part last
    → AreStaysOf parts end_of number (indices ++ i ∷ []) (stays ++ last)
stays_more parts end_of number [] stays i part last h at is =
    (part, last, [], at, subst (λ n. IsStayOf parts (end_of n) part last) (let e : number + 0 ≡ number = omega arith in e) is, refl, ap (λ x. x ++ last) h ∙ sym (append-nil last))
stays_more parts end_of number (j ∷ more) stays i part last (one, first, rest, there, was, are, h) at is = (
  one,
  first,
  rest ++ last,
  there,
  was,
  stays_more parts end_of (number + 1) more rest i part last are at
      (subst (λ n. IsStayOf parts (end_of n) part last) (let e : number + suc (length more) ≡ number + 1 + length more = omega arith in e) is),
  ap (λ x. x ++ last) h ∙ append_assoc first rest last,
)

-- the parts of ends are parts, and they are few
pub record AreFew (parts : List Part) (indices : List ℕ) : Type 0 where
  pub within : All (λ i. i < length parts) indices
  pub few : length indices ≤ MOST_OF_EACH

pub few_inputs : (parts : List Part) (found : Network × Naming) → IsRecovered parts (Ok found) → AreFew parts found.1.inputs
few_inputs parts found h =
    let few = h.1.few_inputs in
    let count = h.0.names.input_count in
    record { within = each_within (IsInput parts) found.1.inputs (length parts) (input_within parts) h.0.names.inputs; few = omega (arith, few, count) }

pub few_outputs : (parts : List Part) (found : Network × Naming) → IsRecovered parts (Ok found) → AreFew parts found.1.outputs
few_outputs parts found h =
    let few = h.1.few_outputs in
    let count = h.0.names.output_count in
    record { within = each_within (IsOutput parts) found.1.outputs (length parts) (output_within parts) h.0.names.outputs; few = omega (arith, few, count) }

-- ---- how far parts reach

module _ (part : Part) (dir : Dir) (cell first : Cell) (second : Option Cell) (is : first ≡ part.cell) (greater : (c : Cell) → (second ≡ Some c) ↔ IsGreaterHalf part c)
    (near : IsFarther dir first cell → ⊥) where
  -- a part of two cells whose first lies no farther
  pub reach_of_two : (other : Cell) (b : Bool) → second ≡ Some other → (IsTrue b ↔ IsFarther dir other cell) → IsTrue b ↔ ReachesFarther part dir cell
  reach_of_two other b some farther = (λ t. (other, inr ((greater other).0 some), farther.0 t), back)
    where
      back : ReachesFarther part dir cell → IsTrue b
      back (c, inl e, far) = absurd (near (subst (λ x. IsFarther dir x cell) (e ∙ sym is) far))
      back (c, inr half, far) = farther.1 (subst (λ x. IsFarther dir x cell) (same_Some c other (sym ((greater c).1 half) ∙ some)) far)

  -- a part of one cell, which lies no farther
  pub reach_of_one : second ≡ None → ReachesFarther part dir cell → ⊥
  reach_of_one none (c, inl e, far) = near (subst (λ x. IsFarther dir x cell) (e ∙ sym is) far)
  reach_of_one none (c, inr half, far) = let e : None ≡ Some c = sym none ∙ (greater c).1 half in cc

-- one part more doesn't reach farther
pub none_more : (parts : List Part) (dir : Dir) (cell : Cell) (index : ℕ) (other : Part) → ((k : ℕ) (d : Part) → k < index → ReachesFarther (get_or parts k d) dir cell → ⊥)
    → index < length parts → (ReachesFarther (get_or parts index other) dir cell → ⊥) → (k : ℕ) (d : Part) → k < index + 1 → ReachesFarther (get_or parts k d) dir cell → ⊥
none_more parts dir cell index other before within none k d lt reach =
    ⊎_elim
    (λ same. none (subst (λ p. ReachesFarther p dir cell) (get_or_default parts index d other within) (subst (λ j. ReachesFarther (get_or parts j d) dir cell) same reach)))
    (λ apart. before k d (omega (arith, lt, apart)) reach)
    (cases_eq k index)

-- the ends so far and one more
pub stays_step : (parts : List Part) (kind : EndKind) (indices : List ℕ) (number : ℕ) (old mid new : List Demand) (d : ℕ) (part : Part) (last : List Demand) → number < length indices
    → AddsStays parts kind (take number indices) old mid → HasPart parts (get_or indices number d) part → IsStayOf parts (end_of kind number) part last → new ≡ mid ++ last
    → AddsStays parts kind (take (number + 1) indices) old new
stays_step parts kind indices number old mid new d part last lt (stays, are, e) at is more =
    let taken = length-take-le number indices (omega (arith, lt)) in
    let count : number ≡ 0 + length (take number indices) = omega (arith, taken) in (
      stays ++ last,
      subst (λ xs. AreStaysOf parts (end_of kind) 0 xs (stays ++ last)) (sym (take_more indices number d lt))
          (stays_more parts (end_of kind) 0 (take number indices) stays (get_or indices number d) part last are at (subst (λ n. IsStayOf parts (end_of kind n) part last) count is)),
      more ∙ ap (λ x. x ++ last) e ∙ append_assoc old stays last,
    )
