-- Bland's pivots one after the other.
use Rattle.std.proofs.Common.{◌≡◌, ◌+◌, ◌<◌, ◌≤◌, arith, length-append, List, ◌∷◌, ◌++◌, length, Option, Some, None, Result, Ok, Err, IfOk, sym, ◌∙◌, refl, subst, inl, inr, ℕ, []}
use Rattle.std.proofs.lemmas.List.{get_or_past}
use Rattle.bt_pivot.specs.SolvedForms.{Slots, slot_at, basis_of, IsOutside, IsSolvedForm}
use Rattle.bt_pivot.specs.Tableaus.{TableauParts, IsTableau, with_slots}
use Rattle.bt_simplex.specs.Pivots.{CanEnter, IsBlandPivot, IsMet, IsStuckAt, IsFinal, IsPivotedBy, Follows}
use Rattle.bt_pivot.specs.declared.basis.Pivot.{Pivot}
use Rattle.bt_farkas.specs.WeightedRows.{coefficient_at}
use Rattle.bt_frac.specs.Ratio.{Ratio}
use Rattle.bt_frac.specs.Rows.{RowParts}
use Rattle.std.specs.declared.alloc.AllocError.{AllocError}
use Rattle.bt_simplex.specs.Causes.{IsStepAt, IsCause}
use Rattle.bt_pivot.specs.declared.causes.Cause.{Cause}
use Rattle.bt_pivot.specs.PivotedSlots.{CanPart, IsUnfitPivot, IsPivoted}
use Rattle.bt_linear_forms.proofs.Zeros.{named_has}
use Rattle.bt_simplex.specs.inner.Runs.{CanPivot, IsAt, IsMade, IsEnd, IsRun}
use Rattle.bt_simplex.specs.declared.running.End.{End}
use Rattle.bt_simplex.specs.declared.running.End.TheVariants.{Met, Stuck, Pivots, Wide}
use Rattle.bt_simplex.proofs.TableauPivots.{pivoted_tableau, pivoted_by}

-- Bland's pivot can be made
pub bland_can : (t : TableauParts) (pivot : Pivot) → IsBlandPivot t pivot → CanPivot t.slots pivot
bland_can t pivot bland = let can = bland.enters.0 in (can.terms, can.line, (can.number, can.names))

-- a basis with a pivot isn't final
bland_goes_on : (t : TableauParts) (pivot : Pivot) → IsBlandPivot t pivot → IsFinal t → ⊥
bland_goes_on t pivot bland (inl met) = met pivot.leaves bland.leaves.0
bland_goes_on t pivot bland (inr (position, least, none)) = none pivot.enters (subst (λ p. CanEnter t p pivot.enters) same bland.enters.0)
  where
    same : pivot.leaves ≡ position
    same = let low = bland.leaves.1 position least.0 in let high = least.1 pivot.leaves bland.leaves.0 in omega arith

-- one more pivot
pub follows_more : (t : TableauParts) (steps : List Pivot) (t' t'' : TableauParts) (pivot : Pivot) → Follows t steps t' → IsBlandPivot t' pivot → IsPivotedBy pivot t' t'' → Follows t (steps ++ pivot ∷ []) t''
follows_more t [] t' t'' pivot same bland pivoted =
    (t'', subst (λ u. IsBlandPivot u pivot) (sym same) bland, subst (λ u. IsPivotedBy pivot u t'') (sym same) pivoted, refl)
follows_more t (x ∷ steps) t' t'' pivot (between, first, made, rest) bland pivoted = (between, first, made, follows_more between steps t' t'' pivot rest bland pivoted)

-- the position that leaves is one
pub leaves_within : (slots : Slots) (pivot : Pivot) → CanPivot slots pivot → pivot.leaves < length slots
leaves_within slots pivot can = inside pivot.leaves (length slots) past
  where
    past : length slots ≤ pivot.leaves → ⊥
    past over = let both : None ≡ Some can.0 = sym (get_or_past slots pivot.leaves None over) ∙ can.1 in cc

    inside : (m n : ℕ) → (n ≤ m → ⊥) → m < n
    inside m n apart = omega arith

-- a pivot that the slots made is Bland's
made_pivot : (t : TableauParts) (slots : Slots) (pivot : Pivot) (slots' : Slots) → IsTableau (with_slots t slots) → IsBlandPivot (with_slots t slots) pivot
    → IsPivoted slots pivot.leaves pivot.enters slots' → IsMade t pivot slots slots'
made_pivot t slots pivot slots' tableau bland made =
    let can = bland_can (with_slots t slots) pivot bland in
    record { tableau = pivoted_tableau (with_slots t slots) pivot slots' tableau can made; pivoted = pivoted_by (with_slots t slots) pivot slots' tableau can made }

pub pivot_made : (t : TableauParts) (slots : Slots) (pivot : Pivot) (slots' : Slots) → IsTableau (with_slots t slots) → IsBlandPivot (with_slots t slots) pivot
    → (r : Result (Result (Unit {0}) Cause) AllocError) → IfOk r (λ o. IfOk o (λ d. IsPivoted slots pivot.leaves pivot.enters slots')) → IfOk r (λ o. IfOk o (λ d. IsMade t pivot slots slots'))
pivot_made t slots pivot slots' tableau bland (Err e) made = tt
pivot_made t slots pivot slots' tableau bland (Ok (Err cause)) made = tt
pivot_made t slots pivot slots' tableau bland (Ok (Ok d)) made = made_pivot t slots pivot slots' tableau bland made

-- the pivots so far, and one more
pub at_more : (t start : TableauParts) (steps : List Pivot) (slots : Slots) (pivot : Pivot) (slots' : Slots) → Follows start steps (with_slots t slots) → IsBlandPivot (with_slots t slots) pivot
    → IsMade t pivot slots slots' → Follows start (steps ++ pivot ∷ []) (with_slots t slots')
at_more t start steps slots pivot slots' follows bland made = follows_more start steps (with_slots t slots) (with_slots t slots') pivot follows bland made.pivoted

-- the line of a leaving position can be taken apart
pub can_part : (rows : List RowParts) (columns : ℕ) (slots : Slots) (pivot : Pivot) → IsSolvedForm rows columns slots → CanPivot slots pivot → CanPart (slot_at slots pivot.leaves) pivot.leaves pivot.enters
can_part rows columns slots pivot form can = record { terms = can.0; slot_is = can.1; number = can.2.0; named = can.2.1; lacks = lacks (coefficient_at pivot.leaves can.0) refl }
  where
    lacks : (o : Option Ratio) → coefficient_at pivot.leaves can.0 ≡ o → coefficient_at pivot.leaves can.0 ≡ None
    lacks None e = e
    lacks (Some number) e =
        let out = named_has (λ q. IsOutside slots q) pivot.leaves can.0 number (form.lines pivot.leaves can.0 can.1).1 e in
        let none : None ≡ Some can.0 = sym out.outside ∙ can.1 in
        absurd cc

-- the operation that doesn't fit in Bland's pivot is a cause
pivot_cause : (t : TableauParts) (pivot : Pivot) (slots' : Slots) (cause : Cause) → IsBlandPivot t pivot → IsUnfitPivot t.slots pivot.leaves pivot.enters slots' cause → IsCause t cause
pivot_cause t pivot slots' cause bland unfit = (
  unfit.none,
  subst (λ place. IsStepAt t place cause.row cause.column cause.operation cause.left cause.right) (sym unfit.place) (pivot, bland, unfit.step),
)

-- where a run ends
module _ (pivots : ℕ) (t : TableauParts) (steps : List Pivot) (slots : Slots) (few : length steps ≤ pivots) (at : IsAt t steps slots) where
  ended : (slots' : Slots) (end : End) → basis_of slots' ≡ basis_of slots → IsEnd pivots t (with_slots t slots) steps slots' end
      → IsRun pivots t steps slots' end
  ended slots' end basis ends = record { few = few; last = with_slots t slots; follows = at.follows; basis = basis; ends = ends }

  pub met_run : IsMet (with_slots t slots) → IsRun pivots t steps slots Met
  met_run met = ended slots Met refl (refl, at.tableau, met)

  pub stuck_run : (position : ℕ) → IsStuckAt (with_slots t slots) position → IsRun pivots t steps slots (Stuck position)
  stuck_run position stuck = ended slots (Stuck position) refl (refl, at.tableau, stuck)

  pub wide_run : (cause : Cause) → IsCause (with_slots t slots) cause → IsRun pivots t steps slots (Wide cause)
  wide_run cause told = ended slots (Wide cause) refl told

  pub pivots_run : (pivot : Pivot) → pivots ≤ length steps → IsBlandPivot (with_slots t slots) pivot → IsRun pivots t steps slots Pivots
  pivots_run pivot many bland = ended slots Pivots refl (omega arith, bland_goes_on (with_slots t slots) pivot bland)

  pub pivot_run : (slots' : Slots) (pivot : Pivot) (cause : Cause) → IsBlandPivot (with_slots t slots) pivot → IsUnfitPivot slots pivot.leaves pivot.enters slots' cause
      → IsRun pivots t steps slots' (Wide cause)
  pivot_run slots' pivot cause bland unfit = ended slots' (Wide cause) unfit.same_basis (pivot_cause (with_slots t slots) pivot slots' cause bland unfit)

pub more_steps : (steps : List Pivot) (pivot : Pivot) (pivots : ℕ) → length steps + 1 ≤ pivots → length (steps ++ pivot ∷ []) ≤ pivots
more_steps steps pivot pivots few = rw length-append few
