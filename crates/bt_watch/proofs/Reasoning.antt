-- Why literals are true.
use Rattle.std.proofs.Common.{◌≡◌, ◌≢◌, ℕ, ◌≤◌, ◌<◌, ◌+◌, ◌⊎◌, inl, inr, arith, Bool, true, false, not, List, [], ◌∷◌, length, get_or, zero, suc, sym, subst, refl, ap, ◌∙◌, Option, None, Some, length-set, length-append, get_or-set_same, get_or-set_other}
use Rattle.std.specs.Prelude.{Contains, slice_get, take}
use Rattle.std.proofs.lemmas.List.{get_or_default, get_or_append_left, get_or_push, take-append-le}
use Rattle.std.proofs.lemmas.List.Elements.{All-contains}
use Rattle.std.proofs.lemmas.List.Sorted.{Contains-permutation, IsPermutation-sym}
use Rattle.bt_cnf.specs.declared.literal.Lit.{Lit}
use Rattle.bt_cnf.specs.Truths.{IsTrueIn, IsFalseIn}
use Rattle.bt_cnf.specs.Units.{opposite, clause_at}
use Rattle.bt_watch.specs.declared.assignment.Assignment.{Assignment}
use Rattle.bt_watch.specs.declared.search.Search.{Search}
use Rattle.bt_watch.specs.Assigning.{Assigns}
use Rattle.bt_watch.specs.Watched.{no_lit}
use Rattle.bt_watch.specs.inner.VisitingClause.{KeepsPair, Leaves}
use Rattle.bt_watch.specs.Keeping.{kept_at, AreTrue}
use Rattle.bt_watch.specs.Reasons.{AreSame, lit_at, IsReason, AreNumbered, AreReasons}
use Rattle.bt_cnf.proofs.Lists.{got_at, all_of, lt_or_eq}

-- a variable that is set makes each of its literals true or false
set_or : (values : List (Option Bool)) (m l : Lit) → IsTrueIn values m → m.var ≡ l.var → IsTrueIn values l ⊎ IsFalseIn values l
set_or values m l true_m same =
    let here : get_or values l.var None ≡ Some m.positive = ap (λ n. get_or values n None) (sym same) ∙ true_m in
    elim (inner m.positive l.positive) [
      | inl e ↦ inl (here ∙ ap (λ b. Some b) e)
      | inr e ↦ inr (here ∙ ap (λ b. Some b) e)
    ]
  where
    inner : (a b : Bool) → (a ≡ b) ⊎ (a ≡ not b)
    inner true true = inl refl
    inner true false = inr refl
    inner false true = inr refl
    inner false false = inl refl

pub got_none : {X : Type 0} (xs : List X) (i : ℕ) → slice_get xs i ≡ None → i < length xs → ⊥
got_none [] i is below = omega (arith, below)
got_none (x ∷ xs) zero is below = cc
got_none (x ∷ xs) (suc i) is below = got_none xs i is (omega (arith, below))

-- the literal at a place is one of the trail
pub lit_in : (trail : List Lit) (k : ℕ) → k < length trail → Contains trail (lit_at trail k)
lit_in trail k small = (k, small, get_or_default trail k (lit_at trail k) no_lit small)

-- one literal more, which was unset
module _ (all : List (List Lit)) (starts : List ℕ) (old now : Assignment) (l : Lit) (reason : Option ℕ) (assigns : Assigns old now l reason) (truths : AreTrue old.values old.trail.items)
    (below : l.var < length old.values) (not_true : IsTrueIn old.values l → ⊥) (not_false : IsFalseIn old.values l → ⊥)
    (by : (n : ℕ) → reason ≡ Some n → IsReason all old.trail.items l n) (or_chosen : reason ≡ None → Contains starts (length old.trail.items)) (are : AreReasons all starts old) where
  trail : List Lit
  trail = old.trail.items

  size : length now.trail.items ≡ length old.trail.items + 1
  size = ap length assigns.trail ∙ length-append old.trail.items (l ∷ [])

  reasons_size : length now.reasons.items ≡ length old.reasons.items + 1
  reasons_size = ap length assigns.reasons ∙ length-append old.reasons.items (reason ∷ [])

  lit_before : (k : ℕ) → k < length old.trail.items → lit_at now.trail.items k ≡ lit_at old.trail.items k
  lit_before k small = ap (λ ts. lit_at ts k) assigns.trail ∙ get_or_append_left old.trail.items (l ∷ []) no_lit k small

  lit_here : (k : ℕ) → k ≡ length old.trail.items → lit_at now.trail.items k ≡ l
  lit_here k same = ap (λ ts. lit_at ts k) assigns.trail ∙ get_or_push old.trail.items l no_lit k (sym same)

  reason_before : (k : ℕ) → k < length old.trail.items → get_or now.reasons.items k None ≡ get_or old.reasons.items k None
  reason_before k small = ap (λ rs. get_or rs k None) assigns.reasons ∙ get_or_append_left old.reasons.items (reason ∷ []) None k (omega (arith, small, are.counted))

  reason_here : (k : ℕ) → k ≡ length old.trail.items → get_or now.reasons.items k None ≡ reason
  reason_here k same = ap (λ rs. get_or rs k None) assigns.reasons ∙ get_or_push old.reasons.items reason None k (are.counted ∙ sym same)

  front : (k : ℕ) → k ≤ length old.trail.items → take k now.trail.items ≡ take k old.trail.items
  front k small = ap (take k) assigns.trail ∙ take-append-le k old.trail.items (l ∷ []) small

  other_var : (k : ℕ) → k < length old.trail.items → (lit_at old.trail.items k).var ≢ l.var
  other_var k small same =
      let m = lit_at old.trail.items k in
      elim (set_or old.values m l (truths.true_in m (lit_in old.trail.items k small)) same) [ inl is ↦ not_true is | inr is ↦ not_false is ]

  placed : (k : ℕ) → k < length now.trail.items → get_or now.places.items (lit_at now.trail.items k).var 0 ≡ k
  unfolding size lit_before lit_here other_var
  placed k small = elim (lt_or_eq k (length old.trail.items) (omega (arith, small, size))) [
    | inl earlier ↦
        ap (λ (m : Lit). get_or now.places.items m.var 0) (lit_before k earlier)
        ∙ ap (λ ps. get_or ps (lit_at old.trail.items k).var 0) assigns.places
        ∙ get_or-set_other old.places.items l.var (lit_at old.trail.items k).var (length old.trail.items) 0 (other_var k earlier)
        ∙ are.placed k earlier
    | inr here ↦
        ap (λ (m : Lit). get_or now.places.items m.var 0) (lit_here k here)
        ∙ ap (λ ps. get_or ps l.var 0) assigns.places
        ∙ get_or-set_same old.places.items l.var (length old.trail.items) 0 (subst (λ n. l.var < n) (sym are.room) below)
        ∙ sym here
  ]

  reasons : (k n : ℕ) → k < length now.trail.items → get_or now.reasons.items k None ≡ Some n → IsReason all (take k now.trail.items) (lit_at now.trail.items k) n
  reasons k n small is = elim (lt_or_eq k (length old.trail.items) (omega (arith, small, size))) [
    | inl earlier ↦
        subst (λ ts. IsReason all ts (lit_at now.trail.items k) n) (sym (front k (omega (arith, earlier))))
        (subst (λ m. IsReason all (take k old.trail.items) m n) (sym (lit_before k earlier)) (are.reasons k n earlier (sym (reason_before k earlier) ∙ is)))
    | inr here ↦
        let whole : take k now.trail.items ≡ old.trail.items = front k (omega (arith, here)) ∙ ap (λ i. take i old.trail.items) here ∙ take_all old.trail.items in
        subst (λ ts. IsReason all ts (lit_at now.trail.items k) n) (sym whole)
        (subst (λ m. IsReason all old.trail.items m n) (sym (lit_here k here)) (by n (sym (reason_here k here) ∙ is)))
  ]
    where
      take_all : (xs : List Lit) → take (length xs) xs ≡ xs
      take_all [] = refl
      take_all (x ∷ xs) = ap (λ ys. x ∷ ys) (take_all xs)

  chosen : (k : ℕ) → k < length now.trail.items → get_or now.reasons.items k None ≡ None → Contains starts k
  chosen k small is = elim (lt_or_eq k (length old.trail.items) (omega (arith, small, size))) [
    | inl earlier ↦ are.chosen k earlier (sym (reason_before k earlier) ∙ is)
    | inr here ↦ subst (Contains starts) (sym here) (or_chosen (sym (reason_here k here) ∙ is))
  ]

  pub reasons_more : AreReasons all starts now
  reasons_more = record {
    counted = omega (arith, reasons_size, size, are.counted);
    room = ap length assigns.places ∙ length-set old.places.items l.var (length old.trail.items) ∙ are.room ∙ sym (ap length assigns.values ∙ length-set old.values l.var (Some l.positive));
    placed = placed;
    reasons = reasons;
    chosen = chosen;
  }

-- the number of a clause that is a unit tells why its literal is true
pub unit_reason : (all : List (List Lit)) (s : Search) (id : ℕ) (clause : List Lit) (l : Lit) (n : ℕ) → AreNumbered all s → AreTrue s.assignment.values s.assignment.trail.items → id < length s.clauses
    → KeepsPair (kept_at s.clauses id) clause → 0 < length clause → Leaves s.assignment.values clause l → slice_get s.numbers.items id ≡ Some n → IsReason all s.assignment.trail.items l n
unit_reason all s id clause l n are truths below kept some leaves is =
    let number : get_or s.numbers.items id 0 ≡ n = got_at s.numbers.items id 0 n is in
    let same : AreSame (clause_at all n) (kept_at s.clauses id) = subst (λ k. AreSame (clause_at all k) (kept_at s.clauses id)) number (are.same id below) in
    let P : Lit → Type 0 = λ m. (m ≡ l) ⊎ IsFalseIn s.assignment.values m in
    let Q : Lit → Type 0 = λ m. (m ≡ l) ⊎ Contains s.assignment.trail.items (opposite m) in
    let here : Contains clause l = (0, some, get_or_default clause 0 l no_lit some ∙ leaves.stands) in
    record {
      below = subst (λ k. k < length all) number (are.below id below);
      among = (same l).1 (Contains-permutation clause (kept_at s.clauses id) l (IsPermutation-sym (kept_at s.clauses id) clause kept.permuted) here);
      others = all_of Q (clause_at all n) (λ m among.
          let there : Contains clause m = Contains-permutation (kept_at s.clauses id) clause m kept.permuted ((same m).0 among) in
          elim (All-contains P clause m leaves.others there) [
            | inl e ↦ inl e
            | inr f ↦ inr (truths.in_trail (opposite m) f)
          ]);
    }
