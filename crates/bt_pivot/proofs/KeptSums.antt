-- What is kept of the sums of classes' lines, and what a pivot leaves of it.
use Rattle.std.proofs.Common.{◌≡◌, ◌≢◌, ◌⊎◌, ◌^◌, false, if◌then◌else◌, zero, suc, ◌+◌, ◌<◌, ◌≤◌, arith, List, length, set, get_or, replicate, Option, Some, None, Result, Ok, Err, IfOk, IfSome, inl, inr, ap, sym, ◌∙◌, refl, subst, ℕ}
use Rattle.std.proofs.lemmas.Bool.{cases_lt}
use Rattle.std.proofs.lemmas.List.{get_or_past, get_or-set_other, get_or-set_same}
use Rattle.bt_pivot.specs.Classes.{member_at, position_at, class_terms, is_outside, slot_by, slots_of}
use Rattle.bt_pivot.specs.SolvedForms.{Slots, slot_at}
use Rattle.bt_linear_forms.specs.Lines.{Terms}
use Rattle.bt_pivot.specs.Tableaus.{TableauParts, IsTableau}
use Rattle.std.specs.declared.alloc.AllocError.{AllocError}
use Rattle.bt_pivot.specs.declared.basis.Member.{Member}
use Rattle.bt_pivot.specs.declared.causes.Cause.{Cause}
use Rattle.bt_pivot.specs.declared.short_points.ClassSums.{ClassSums}
use Rattle.bt_linear_forms.specs.declared.short.merging.Scales.{Scales}
use Rattle.bt_pivot.specs.declared.short_points.Sums.{Sums}
use Rattle.bt_pivot.specs.Points.{resting, standing, IsSamePoint}
use Rattle.bt_pivot.specs.inner.Carrying.{AreCarried, IsCarriedOf}
use Rattle.bt_linear_forms.specs.Changes.{IsScaled}
use Rattle.bt_pivot.specs.Sums.{AreClassSums, delta_of, SumsList, AreKept, SlotsStay}
use Rattle.bt_pivot.specs.inner.SumCache.{Carries, Forgets, IsOwn, OwnsAt, AreOwn, AreMoved, AreFollowed, LinesStay, OthersStay}
use Rattle.bt_pivot.proofs.Carrying.{carried_fits, carried_point}
use Rattle.bt_pivot.proofs.Classes.{slot_is}

abbrev no_sums : Option ClassSums
no_sums = None

none_at : (n i : ℕ) → get_or (replicate n no_sums) i None ≡ None
none_at zero i = refl
none_at (suc n) zero = refl
none_at (suc n) (suc i) = none_at n i

-- nothing is kept at first
pub nothing_kept : (t : TableauParts) (slots : Slots) (n : ℕ) (kept : SumsList) → kept ≡ replicate n None → AreKept t slots kept
nothing_kept t slots n kept is class = subst (λ o. IfSome o (AreClassSums t slots)) (sym (ap (λ l. get_or l class None) is ∙ none_at n class)) tt

-- the places before this one are looked at
abbrev pub OwnsBefore : List Member → ℕ → SumsList → SumsList → Type 0
OwnsBefore members done kept kept' = (class : ℕ) → IfSome (get_or kept' class None) (λ k. (get_or kept class None ≡ Some k) × (class < done → IsOwn members class k))

pub owns_start : (members : List Member) (kept : SumsList) → OwnsBefore members 0 kept kept
owns_start members kept class = go (get_or kept class None) refl
  where
    go : (o : Option ClassSums) → get_or kept class None ≡ o → IfSome o (λ k. (get_or kept class None ≡ Some k) × (class < 0 → IsOwn members class k))
    go None e = tt
    go (Some k) e = (e, λ before. absurd (omega arith))

pub owns_more : (members : List Member) (done : ℕ) (kept kept' kept'' : SumsList) → OwnsBefore members done kept kept' → OwnsAt members done kept' kept'' → OwnsBefore members (done + 1) kept kept''
owns_more members done kept kept' kept'' before at class = go (get_or kept'' class None) (at class)
  where
    told : (k : ClassSums) → get_or kept' class None ≡ Some k → (get_or kept class None ≡ Some k) × (class < done → IsOwn members class k)
    told k was = subst (λ o. IfSome o (λ k. (get_or kept class None ≡ Some k) × (class < done → IsOwn members class k))) was (before class)

    go : (o : Option ClassSums) → IfSome o (λ k. (get_or kept' class None ≡ Some k) × (class ≡ done → IsOwn members class k))
        → IfSome o (λ k. (get_or kept class None ≡ Some k) × (class < done + 1 → IsOwn members class k))
    go None here = tt
    go (Some k) here = (
      (told k here.0).0,
      λ within. elim (cases_lt class done) [
        | inl below ↦ (told k here.0).1 below
        | inr past ↦ here.1 (omega arith)
      ],
    )

pub owns_all : (members : List Member) (done : ℕ) (kept kept' : SumsList) → length kept ≤ done → OwnsBefore members done kept kept' → AreOwn members kept kept'
owns_all members done kept kept' all before class = go (get_or kept' class None) (before class)
  where
    inside : (k : ClassSums) → get_or kept class None ≡ Some k → class < done
    inside k was = elim (cases_lt class (length kept)) [
      | inl below ↦ (omega arith)
      | inr past ↦ let none = get_or_past kept class None past in absurd cc
    ]

    go : (o : Option ClassSums) → IfSome o (λ k. (get_or kept class None ≡ Some k) × (class < done → IsOwn members class k))
        → IfSome o (λ k. (get_or kept class None ≡ Some k) × IsOwn members class k)
    go None here = tt
    go (Some k) here = (here.0, here.1 (inside k here.0))

-- a place that is looked at
pub own_none : (members : List Member) (kept : SumsList) (here : ℕ) (o : Option ClassSums) → o ≡ get_or kept here None → IfSome o (IsOwn members here) → OwnsAt members here kept kept
own_none members kept here o is own class = go (get_or kept class None) refl
  where
    told : (k : ClassSums) → get_or kept class None ≡ Some k → class ≡ here → IsOwn members class k
    told k e same = subst (λ c. IsOwn members c k) (sym same) (subst (λ o. IfSome o (IsOwn members here)) (is ∙ ap (λ c. get_or kept c None) (sym same) ∙ e) own)

    go : (o : Option ClassSums) → get_or kept class None ≡ o → IfSome o (λ k. (get_or kept class None ≡ Some k) × (class ≡ here → IsOwn members class k))
    go None e = tt
    go (Some k) e = (e, told k e)

pub own_forgets : (members : List Member) (kept kept' : SumsList) (here : ℕ) → Forgets here kept kept' → OwnsAt members here kept kept'
own_forgets members kept kept' here forgets class = go (get_or kept' class None) (forgets class)
  where
    go : (o : Option ClassSums) → IfSome o (λ k. (get_or kept class None ≡ Some k) × (class ≢ here)) → IfSome o (λ k. (get_or kept class None ≡ Some k) × (class ≡ here → IsOwn members class k))
    go None told = tt
    go (Some k) told = (told.0, λ same. absurd (told.1 same))

-- what follows what follows
then_follows : (t : TableauParts) (slot slot' slot'' : Option Terms) (k k' k'' : ClassSums) → AreFollowed t slot slot' k k' → AreFollowed t slot' slot'' k' k'' → AreFollowed t slot slot'' k k''
then_follows t slot slot' slot'' k k' k'' (inl (same, is)) (inl (same', is')) = inl (same' ∙ same, is' ∙ is)
then_follows t slot slot' slot'' k k' k'' (inl (same, is)) (inr m) =
    inr (record {
      first_is = m.first_is ∙ ap (λ x. x.first) is;
      terms = m.terms;
      slot_is = sym same ∙ m.slot_is;
      terms_after = m.terms_after;
      slot_after = m.slot_after;
      fits = m.fits;
      moved = λ h. m.moved (subst (λ x. IsSamePoint (delta_of x.sums) (standing (resting t) 0 (Some m.terms))) (sym is) h);
    })
then_follows t slot slot' slot'' k k' k'' (inr m) (inl (same, is)) =
    inr (record {
      first_is = ap (λ x. x.first) is ∙ m.first_is;
      terms = m.terms;
      slot_is = m.slot_is;
      terms_after = m.terms_after;
      slot_after = same ∙ m.slot_after;
      fits = subst (λ x. x.sums.under < 2 ^ 31) (sym is) m.fits;
      moved = λ h. subst (λ x. IsSamePoint (delta_of x.sums) (standing (resting t) 0 (Some m.terms_after))) (sym is) (m.moved h);
    })
then_follows t slot slot' slot'' k k' k'' (inr m) (inr n) =
    let both : Some m.terms_after ≡ Some n.terms = sym m.slot_after ∙ n.slot_is in
    let between : m.terms_after ≡ n.terms = cc in
    inr (record {
      first_is = n.first_is ∙ m.first_is;
      terms = m.terms;
      slot_is = m.slot_is;
      terms_after = n.terms_after;
      slot_after = n.slot_after;
      fits = n.fits;
      moved = λ h. n.moved (subst (λ l. IsSamePoint (delta_of k'.sums) (standing (resting t) 0 (Some l))) between (m.moved h));
    })

-- the sums of one class, after a change of its line
abbrev Before : TableauParts → Slots → Slots → SumsList → ℕ → ClassSums → Type 0
Before t lines lines' kept class after = (before : ClassSums) × (get_or kept class None ≡ Some before) × AreFollowed t (slot_at lines class) (slot_at lines' class) before after

-- lines that stay, and their sums
pub lines_start : (t : TableauParts) (lines : Slots) (kept : SumsList) → LinesStay t lines lines kept kept
lines_start t lines kept class = go (get_or kept class None) refl
  where
    go : (o : Option ClassSums) → get_or kept class None ≡ o → IfSome o (Before t lines lines kept class)
    go None e = tt
    go (Some k) e = (k, e, inl (refl, refl))

-- one more line changes, and its sums are forgotten
pub lines_set : (t : TableauParts) (lines lines' : Slots) (kept kept' kept'' : SumsList) (i : ℕ) (new : Option Terms) → LinesStay t lines lines' kept kept' → Forgets i kept' kept'' → LinesStay t lines (set lines' i new) kept kept''
lines_set t lines lines' kept kept' kept'' i new stay forgets class = go (get_or kept'' class None) (forgets class)
  where
    told : (k : ClassSums) → get_or kept' class None ≡ Some k → Before t lines lines' kept class k
    told k was = subst (λ o. IfSome o (Before t lines lines' kept class)) was (stay class)

    go : (o : Option ClassSums) → IfSome o (λ k. (get_or kept' class None ≡ Some k) × (class ≢ i)) → IfSome o (Before t lines (set lines' i new) kept class)
    go None here = tt
    go (Some k) here =
        let b = told k here.0 in
        (b.0, b.1, subst (λ s. AreFollowed t (slot_at lines class) s b.0 k) (sym (get_or-set_other lines' i class new None here.1)) b.2)

-- or they are carried
pub lines_carried : (t : TableauParts) → IsTableau t → (line : Terms) (lines lines' : Slots) (kept kept' kept'' : SumsList) (i : ℕ) (new : Option Terms) (scales : Scales) (others : Option Sums) → i < length lines'
    → IsScaled line (slot_at lines' i) new scales → IfSome others (λ z. IsSamePoint (delta_of z) (standing (resting t) 0 (Some line))) → LinesStay t lines lines' kept kept' → Carries i others scales kept' kept''
    → LinesStay t lines (set lines' i new) kept kept''
lines_carried t tableau line lines lines' kept kept' kept'' i new scales others inside scaled other_same stay carries class = go (get_or kept'' class None) (carries class)
  where
    told : (k : ClassSums) → get_or kept' class None ≡ Some k → Before t lines lines' kept class k
    told k was = subst (λ o. IfSome o (Before t lines lines' kept class)) was (stay class)

    moved : (k k' : ClassSums) → IsCarriedOf (Some k) others scales k' → AreMoved t (slot_at lines' i) new k k'
    moved k k' of =
        let is : of.before ≡ k = cc in
        let other_is = subst (λ o. IfSome o (λ z. IsSamePoint (delta_of z) (standing (resting t) 0 (Some line)))) of.others_is other_same in
        let carried = subst (λ b. AreCarried scales b.sums of.other k'.sums) is of.carried in
        record {
          first_is = of.first_is ∙ ap (λ b. b.first) is;
          terms = scaled.terms;
          slot_is = scaled.slot_is;
          terms_after = scaled.terms_after;
          slot_after = scaled.slot_after;
          fits = carried_fits line (slot_at lines' i) new scales scaled k.sums of.other k'.sums carried;
          moved = carried_point t tableau line (slot_at lines' i) new scales scaled k.sums of.other k'.sums carried other_is;
        }

    go : (o : Option ClassSums) → IfSome o (λ k. ((get_or kept' class None ≡ Some k) × (class ≢ i)) ⊎ ((class ≡ i) × IsCarriedOf (get_or kept' class None) others scales k))
        → IfSome o (Before t lines (set lines' i new) kept class)
    go None here = tt
    go (Some k) (inl (was, apart)) =
        let b = told k was in
        (b.0, b.1, subst (λ s. AreFollowed t (slot_at lines class) s b.0 k) (sym (get_or-set_other lines' i class new None apart)) b.2)
    go (Some k) (inr (here, of)) =
        let b = told of.before of.sums_is in
        let m = moved of.before k (subst (λ o. IsCarriedOf o others scales k) of.sums_is of) in
        let m' = subst (λ s. AreFollowed t s new of.before k) (ap (λ c. slot_at lines' c) (sym here)) (inr m) in
        let at : slot_at (set lines' i new) class ≡ new = ap (λ c. slot_at (set lines' i new) c) here ∙ get_or-set_same lines' i new None inside in
        (b.0, b.1, subst (λ s. AreFollowed t (slot_at lines class) s b.0 k) (sym at) (then_follows t (slot_at lines class) (slot_at lines' class) new b.0 of.before k b.2 m'))

-- the line of the class that is left is taken first
pub others_stay : (t : TableauParts) (lines lines' : Slots) (kept kept' kept'' : SumsList) (left : ℕ) (new : Option Terms) → Forgets left kept kept' → LinesStay t (set lines left new) lines' kept' kept''
    → OthersStay t left lines lines' kept kept''
others_stay t lines lines' kept kept' kept'' left new forgets stay class = go (get_or kept'' class None) (stay class)
  where
    told : (k : ClassSums) → get_or kept' class None ≡ Some k → (get_or kept class None ≡ Some k) × (class ≢ left)
    told k was = subst (λ o. IfSome o (λ k. (get_or kept class None ≡ Some k) × (class ≢ left))) was (forgets class)

    go : (o : Option ClassSums) → IfSome o (Before t (set lines left new) lines' kept' class)
        → IfSome o (λ k. (before : ClassSums) × (get_or kept class None ≡ Some before) × (class ≢ left) × AreFollowed t (slot_at lines class) (slot_at lines' class) before k)
    go None here = tt
    go (Some k) (before, was, follows) =
        let was' = told before was in
        (before, was'.0, was'.1, subst (λ s. AreFollowed t s (slot_at lines' class) before k) (get_or-set_other lines left class new None was'.1) follows)

-- the slot of a class's position with the sign of its first one
slot_by_member : List Member → Slots → List ℕ → ℕ → Member → Option Terms
slot_by_member members lines outside p m =
    if is_outside (slot_at lines m.class) (position_at outside m.class) p then None else Some (class_terms members (slot_at lines m.class) (position_at outside m.class) m.negated)

own_slot : (members : List Member) (lines : Slots) (outside : List ℕ) (p class : ℕ) (terms : Terms) → p < length members → member_at members p ≡ record { class = class; negated = false } → slot_at lines class ≡ Some terms
    → slot_at (slots_of members lines outside) p ≡ Some terms
unfolding slot_by_member
own_slot members lines outside p class terms within is line =
    slot_is members lines outside p within ∙ ap (slot_by_member members lines outside p) is
    ∙ ap (λ l. if is_outside l (position_at outside class) p then None else Some (class_terms members l (position_at outside class) false)) line

-- the same of the slots of the classes' members
pub slots_stay : (t : TableauParts) (members : List Member) (lines lines' lines'' : Slots) (outside : List ℕ) (left leaves : ℕ) (kept0 kept1 kept2 kept3 : SumsList) → AreOwn members kept0 kept1 → OthersStay t left lines lines' kept1 kept2
    → LinesStay t lines' lines'' kept2 kept3 → SlotsStay t (slots_of members lines outside) (slots_of members lines'' (set outside left leaves)) kept0 kept3
slots_stay t members lines lines' lines'' outside left leaves kept0 kept1 kept2 kept3 own others stay are class = go (get_or kept3 class None) (stay class)
  where
    second : (k : ClassSums) → get_or kept2 class None ≡ Some k → (before : ClassSums) × (get_or kept1 class None ≡ Some before) × (class ≢ left) × AreFollowed t (slot_at lines class) (slot_at lines' class) before k
    second k was =
        subst (λ o. IfSome o (λ k. (before : ClassSums) × (get_or kept1 class None ≡ Some before) × (class ≢ left) × AreFollowed t (slot_at lines class) (slot_at lines' class) before k)) was (others class)

    first : (k : ClassSums) → get_or kept1 class None ≡ Some k → (get_or kept0 class None ≡ Some k) × IsOwn members class k
    first k was = subst (λ o. IfSome o (λ k. (get_or kept0 class None ≡ Some k) × IsOwn members class k)) was (own class)

    at_first : (k : ClassSums) → get_or kept0 class None ≡ Some k → AreClassSums t (slots_of members lines outside) k
    at_first k was = subst (λ o. IfSome o (AreClassSums t (slots_of members lines outside))) was (are class)

    slot : (p : ℕ) → p < length members → (member_at members p).class ≡ class → class ≢ left → slot_at lines'' class ≡ slot_at lines class
        → slot_at (slots_of members lines'' (set outside left leaves)) p ≡ slot_at (slots_of members lines outside) p
    slot p within is apart same =
        slot_is members lines'' (set outside left leaves) p within
        ∙ ap (λ c. slot_by members (slot_at lines'' c) (position_at (set outside left leaves) c) p) is
        ∙ ap (λ l. slot_by members l (position_at (set outside left leaves) class) p) same
        ∙ ap (λ o. slot_by members (slot_at lines class) o p) (get_or-set_other outside left class leaves 0 apart)
        ∙ ap (λ c. slot_by members (slot_at lines c) (position_at outside c) p) (sym is)
        ∙ sym (slot_is members lines outside p within)

    told : (k k' : ClassSums) → IsOwn members class k → class ≢ left → AreClassSums t (slots_of members lines outside) k → AreFollowed t (slot_at lines class) (slot_at lines'' class) k k'
        → AreClassSums t (slots_of members lines'' (set outside left leaves)) k'
    told k k' is apart sums (inl (same, e)) =
        subst (λ x. AreClassSums t (slots_of members lines'' (set outside left leaves)) x) (sym e)
        (record { fits = sums.fits; same = λ terms h. sums.same terms (sym (slot k.first is.0 (ap (λ m. m.class) is.1) apart same) ∙ h) })
    told k k' is apart sums (inr m) = record { fits = m.fits; same = λ terms h. subst (λ l. IsSamePoint (delta_of k'.sums) (standing (resting t) 0 (Some l))) (after terms h) (m.moved here) }
      where
        here : IsSamePoint (delta_of k.sums) (standing (resting t) 0 (Some m.terms))
        here = sums.same m.terms (own_slot members lines outside k.first class m.terms is.0 is.1 m.slot_is)

        after : (terms : Terms) → slot_at (slots_of members lines'' (set outside left leaves)) k'.first ≡ Some terms → m.terms_after ≡ terms
        after terms h =
            let both : Some m.terms_after ≡ Some terms =
            sym (own_slot members lines'' (set outside left leaves) k.first class m.terms_after is.0 is.1 m.slot_after)
            ∙ ap (λ p. slot_at (slots_of members lines'' (set outside left leaves)) p) (sym m.first_is) ∙ h in
            cc

    go : (o : Option ClassSums) → IfSome o (Before t lines' lines'' kept2 class) → IfSome o (AreClassSums t (slots_of members lines'' (set outside left leaves)))
    go None here = tt
    go (Some k) (before, was, follows) =
        let two = second before was in
        let one = first two.0 two.1 in
        told two.0 k one.1 two.2 (at_first two.0 one.0) (then_follows t (slot_at lines class) (slot_at lines' class) (slot_at lines'' class) two.0 before k two.3 follows)

-- what is kept is right after a pivot, where it is made
pub pivot_kept : (t : TableauParts) (slots slots' : Slots) (kept kept' : SumsList) → AreKept t slots kept → (r : Result (Result (Unit {0}) Cause) AllocError) → IfOk r (λ o. IfOk o (λ d. SlotsStay t slots slots' kept kept'))
    → IfOk r (λ o. IfOk o (λ d. AreKept t slots' kept'))
pivot_kept t slots slots' kept kept' are (Err e) stay = tt
pivot_kept t slots slots' kept kept' are (Ok (Err cause)) stay = tt
pivot_kept t slots slots' kept kept' are (Ok (Ok d)) stay = stay are
