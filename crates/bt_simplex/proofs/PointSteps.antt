-- What a line adds up to, term by term, and the term at which that doesn't fit.
use Rattle.std.proofs.Common.{◌≡◌, ◌+◌, ◌<◌, get_or, take, drop, take-append-drop, ◌∷◌, ◌++◌, length, Some, inl, inr, ap, sym, ◌∙◌, refl, subst, ℕ}
use Rattle.bt_frac.specs.Ratio.{Ratio, SameRatio, IsLowest}
use Rattle.bt_frac.specs.Values.{times}
use Rattle.bt_frac.specs.declared.delta.Delta.{Delta}
use Rattle.bt_farkas.specs.WeightedRows.{coefficient_at}
use Rattle.bt_linear_forms.specs.Lines.{Terms, IsLine, total}
use Rattle.bt_pivot.specs.Tableaus.{TableauParts, IsTableau}
use Rattle.bt_pivot.specs.SolvedForms.{slot_at}
use Rattle.bt_pivot.specs.Points.{resting, standing, IsSamePoint}
use Rattle.bt_linear_forms.specs.Unfits.{IsNone, IsUnfitStep, IsUnfitHere}
use Rattle.bt_simplex.specs.Causes.{IsSumStep, IsStepAt, IsCause}
use Rattle.bt_linear_forms.specs.declared.unfit.Operation.{Operation}
use Rattle.bt_linear_forms.specs.declared.unfit.Operation.TheVariants.{Add, Mul, Div}
use Rattle.bt_linear_forms.specs.declared.unfit.Unfit.{Unfit}
use Rattle.bt_pivot.specs.declared.causes.Cause.{Cause}
use Rattle.bt_simplex.specs.inner.UnfitPoints.{AddsTerm, IsUnfitTerm, IsUnfitPoint, value_cause}
use Rattle.bt_linear_forms.proofs.NamedTerms.{item_named, drop_here}
use Rattle.bt_linear_forms.proofs.Numbers.{Positive, alike}
use Rattle.bt_pivot.proofs.Resting.{part_more, rest_value, rest_tiny}

-- the same of both parts of a point
pub point_more : (t : TableauParts) → IsTableau t → (terms : Terms) → IsLine terms → (i : ℕ) (x : ℕ × Ratio) (sum after : Delta) → i < length terms → x ≡ get_or terms i x
    → IsSamePoint sum (standing (resting t) 0 (Some (take i terms))) → AddsTerm (resting t x.0) sum x.1 after → IsSamePoint after (standing (resting t) 0 (Some (take (i + 1) terms)))
point_more t tableau terms line i x sum after inside is so_far adds =
    let has : Positive x.1 = subst (λ y. Positive y.1) (sym is) (line.numbers i x inside).0.positive in
    let values = rest_value t tableau.rows in
    let tinies = rest_tiny t in
    let value =
    part_more (λ p. (resting t p).value) values terms line.numbers i x sum.value adds.value.product after.value inside is has
    (alike sum.value (total (λ p. (resting t p).value) (take i terms)) so_far.left_value so_far.right_value so_far.same.0) adds.value.product_lowest.positive adds.value.is_product adds.value.lowest.positive adds.value.is_sum in
    let tiny =
    part_more (λ p. (resting t p).tiny) tinies terms line.numbers i x sum.tiny adds.tiny.product after.tiny inside is has
    (alike sum.tiny (total (λ p. (resting t p).tiny) (take i terms)) so_far.left_tiny so_far.right_tiny so_far.same.1) adds.tiny.product_lowest.positive adds.tiny.is_product adds.tiny.lowest.positive adds.tiny.is_sum in
    record { left_value = value.left; left_tiny = tiny.left; right_value = value.right; right_tiny = tiny.right; same = (value.same, tiny.same) }

-- a line, split at a place
line_split : (terms : Terms) (i : ℕ) (x : ℕ × Ratio) → i < length terms → x ≡ get_or terms i x → terms ≡ take i terms ++ x ∷ drop (i + 1) terms
line_split terms i x inside is = sym (take-append-drop i terms) ∙ ap (λ l. take i terms ++ l) (drop_here terms i x inside is)

-- a part that doesn't fit is one of the line's sum
part_unfit : (at : ℕ → Ratio) (terms : Terms) → IsLine terms → (i : ℕ) (x : ℕ × Ratio) (sum : Ratio) (unfit : Unfit) → i < length terms → x ≡ get_or terms i x
    → IsLowest sum → SameRatio sum (total at (take i terms)) → IsUnfitHere x.0 (Some sum) x.1 (at x.0) unfit
    → IsNone unfit.operation unfit.left unfit.right × IsSumStep at terms unfit.column unfit.operation unfit.left unfit.right
part_unfit at terms line i x sum unfit inside is low same (column, none, step) = (none, cases unfit.operation step)
  where
    cases : (operation : Operation) → IsUnfitStep (Some sum) x.1 (at x.0) operation unfit.left unfit.right → IsSumStep at terms unfit.column operation unfit.left unfit.right
    cases Add step =
        let sum_is : sum ≡ unfit.left = (let e = step.0 in cc) in (
          take i terms,
          (
            x.1,
            (
              drop (i + 1) terms,
              subst (λ p. terms ≡ take i terms ++ (p, x.1) ∷ drop (i + 1) terms) (sym column) (line_split terms i x inside is),
              (subst IsLowest sum_is low, subst (λ s. SameRatio s (total at (take i terms))) sum_is same),
              (step.1, subst (λ p. SameRatio unfit.right (times x.1 (at p))) (sym column) step.2),
            ),
          ),
        )
    cases Mul step = (
      ap (λ p. coefficient_at p terms) column ∙ item_named terms i x line inside is ∙ ap (λ n. Some n) (sym step.0),
      step.1 ∙ ap at (sym column),
    )
    cases Div step = step

-- a point that doesn't fit
pub point_unfit : (t : TableauParts) (position : ℕ) (terms : Terms) → IsLine terms → (i : ℕ) (x : ℕ × Ratio) (sum : Delta) (unfit : Unfit) (cause : Cause) → i < length terms → x ≡ get_or terms i x
    → IsSamePoint sum (standing (resting t) 0 (Some (take i terms))) → IsUnfitTerm (resting t x.0) sum x unfit → cause ≡ value_cause position unfit → IsUnfitPoint (resting t) position terms cause
point_unfit t position terms line i x sum unfit cause inside is so_far told cause_is =
    subst (λ c. IsUnfitPoint (resting t) position terms c) (sym cause_is) (which told)
  where
    which : IsUnfitTerm (resting t x.0) sum x unfit → IsUnfitPoint (resting t) position terms (value_cause position unfit)
    which (inl (low, here)) =
        let found = part_unfit (λ q. (resting t q).value) terms line i x sum.value unfit inside is low so_far.same.0 here in
        record { place = refl; row = refl; none = found.0; step = inl found.1 }
    which (inr (low, here)) =
        let found = part_unfit (λ q. (resting t q).tiny) terms line i x sum.tiny unfit inside is low so_far.same.1 here in
        record { place = refl; row = refl; none = found.0; step = inr found.1 }

-- it is a cause of the tableau's basis
pub point_cause : (t : TableauParts) (position : ℕ) (terms : Terms) (cause : Cause) → slot_at t.slots position ≡ Some terms → IsUnfitPoint (resting t) position terms cause → IsCause t cause
point_cause t position terms cause line unfit = (
  unfit.none,
  subst (λ place. IsStepAt t place cause.row cause.column cause.operation cause.left cause.right) (sym unfit.place) (terms, ap (λ p. slot_at t.slots p) unfit.row ∙ line, unfit.step),
)
