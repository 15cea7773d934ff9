-- Where a sum of weighted rows is wide, and by which operation.
use Rattle.std.proofs.Common.{◌≡◌, ◌<◌, ◌+◌, arith, List, ◌∷◌, ◌++◌, length, get_or, take, drop, take-append-drop, Some, None, map, zero, suc, ◌⊎◌, inl, inr, ap, sym, ◌∙◌, refl, subst, ℕ, []}
use Rattle.std.specs.List.{All}
use Rattle.std.specs.Prelude.{Contains}
use Rattle.std.proofs.lemmas.List.{get_or_default, length-take-le}
use Rattle.std.proofs.lemmas.List.Elements.{All-contains}
use Rattle.bt_frac.specs.Ratio.{Ratio, IsLowest, IsWide, SameRatio}
use Rattle.bt_frac.specs.Products.{IsProduct}
use Rattle.bt_frac.specs.Rows.{RowParts, columns_in, end_of}
use Rattle.bt_frac.specs.Values.{nothing, sum_of_products}
use Rattle.bt_frac.proofs.RowColumns.{left_from}
use Rattle.bt_farkas.specs.Farkas.{IsWidePlace, IsFirstWide}
use Rattle.bt_farkas.specs.RunningSums.{AddsProduct, IsWideStep, RunsTo}
use Rattle.bt_farkas.specs.WeightedRows.{empty_row, coefficient_at, part_of, pairs_at, number_of}
use Rattle.bt_farkas.specs.declared.places.Place.{Place}
use Rattle.bt_farkas.specs.declared.places.Place.TheVariants.{Column, Bound}
use Rattle.bt_farkas.specs.declared.wide.WideAt.{WideAt}
use Rattle.bt_farkas.proofs.FarkasLemmas.{below_end}
use Rattle.bt_farkas.proofs.PlaceLemmas.{wide_at, unwide_before, row_within, coefficient_named, named_at}
use Rattle.bt_farkas.proofs.RunLemmas.{runs_reach}
use Rattle.bt_linear_forms.specs.Unfits.{IsNone, IsUnfitStep, IsUnfitHere}
use Rattle.bt_simplex.specs.Causes.{IsAddend, IsRowStep, IsStepAt, IsCause}
use Rattle.bt_pivot.specs.Tableaus.{TableauParts, IsTableau}
use Rattle.bt_simplex.specs.Pivots.{IsStuckAt}
use Rattle.bt_simplex.specs.Weights.{weighted_rows}
use Rattle.bt_linear_forms.specs.declared.unfit.Operation.{Operation}
use Rattle.bt_linear_forms.specs.declared.unfit.Operation.TheVariants.{Add, Mul, Div}
use Rattle.bt_pivot.specs.declared.causes.Cause.{Cause}
use Rattle.bt_linear_forms.specs.declared.unfit.Unfit.{Unfit}
use Rattle.bt_simplex.specs.inner.Lemmas.{AreLineWeights}
use Rattle.bt_simplex.specs.inner.Sums.{lemma_cause, IsUnfitAt, IsUnfitSum}
use Rattle.bt_simplex.specs.inner.UnfitPoints.{AddsPart}
use Rattle.bt_simplex.proofs.LineWeights.{are_weights}

-- there is a weighted row for each weight
pub length_weighted : (rows : List RowParts) (weights : List (ℕ × Ratio)) → length (weighted_rows rows weights) ≡ length weights
length_weighted rows [] = refl
length_weighted rows (w ∷ weights) = ap suc (length_weighted rows weights)

weighted_item : (rows : List RowParts) (weights : List (ℕ × Ratio)) (i : ℕ) (x : ℕ × Ratio) (d : RowParts × Ratio) → i < length weights → x ≡ get_or weights i x
    → get_or (weighted_rows rows weights) i d ≡ (get_or rows x.0 empty_row, x.1)
weighted_item rows [] i x d inside is = absurd (omega (arith, inside))
weighted_item rows (w ∷ weights) zero x d inside is = ap (λ (y : ℕ × Ratio). (get_or rows y.0 empty_row, y.1)) (sym is)
weighted_item rows (w ∷ weights) (suc i) x d inside is = weighted_item rows weights i x d (omega (arith, inside)) is

-- the row and the weight at a place
pub weighted_here : (rows : List RowParts) (weights : List (ℕ × Ratio)) (i : ℕ) (x : ℕ × Ratio) (row : RowParts) → All (λ w. w.0 < length rows) weights → i < length weights
    → x ≡ get_or weights i x → row ≡ get_or rows x.0 row → get_or (weighted_rows rows weights) i (row, x.1) ≡ (row, x.1)
weighted_here rows weights i x row within inside is row_is =
    let low : x.0 < length rows = subst (λ (y : ℕ × Ratio). y.0 < length rows) (sym is) (within i x inside) in
    let row_at : get_or rows x.0 empty_row ≡ row = get_or_default rows x.0 empty_row row low ∙ sym row_is in
    weighted_item rows weights i x (row, x.1) inside is ∙ ap (λ r. (r, x.1)) row_at

-- the row of a wide place is one of the rows
pub row_inside : (rows : List RowParts) (weights : List (ℕ × Ratio)) (at : WideAt) → IsFirstWide (weighted_rows rows weights) at → at.row < length weights
row_inside rows weights at first = subst (λ n. at.row < n) (length_weighted rows weights) (row_within (weighted_rows rows weights) first.place at.row first.wide)

at_front : (front : List (RowParts × Ratio)) (here : RowParts × Ratio) (rest : List (RowParts × Ratio)) (d : RowParts × Ratio) → get_or (front ++ here ∷ rest) (length front) d ≡ here
at_front [] here rest d = refl
at_front (x ∷ front) here rest d = at_front front here rest d

here_is : (sum : List (RowParts × Ratio)) (row : ℕ) (place : Place) (w : IsWidePlace sum row place) (r : RowParts × Ratio) → get_or sum row r ≡ r → w.here ≡ r
here_is sum row place w r is =
    sym (at_front w.front w.here w.rest r) ∙ ap (λ n. get_or (w.front ++ w.here ∷ w.rest) n r) (sym w.number) ∙ ap (λ xs. get_or xs row r) (sym w.split) ∙ is

-- where the row has the column, the sum is wide at the column
pub wide_column : (sum : List (RowParts × Ratio)) (at : WideAt) (r : RowParts × Ratio) (part : Ratio) → IsFirstWide sum at → get_or sum at.row r ≡ r → coefficient_at at.column r.0.terms ≡ Some part
    → IsWidePlace sum at.row (Column at.column)
wide_column sum at r part first here named = by first.place first.wide first.column
  where
    by : (place : Place) → IsWidePlace sum at.row place → at.column ≡ number_of sum place → IsWidePlace sum at.row (Column at.column)
    by (Column column) wide is = subst (λ c. IsWidePlace sum at.row (Column c)) (sym is) wide
    by Bound wide is =
        let among = named_at wide.front wide.here wide.rest at.column
        (coefficient_named at.column wide.here.0.terms part (ap (λ (x : RowParts × Ratio). coefficient_at at.column x.0.terms) (here_is sum at.row Bound wide r here) ∙ named)) in
        let among' = subst (λ xs. Contains (columns_in (map (λ (x : RowParts × Ratio). x.0) xs)) at.column) (sym wide.split) among in
        let columns : List ℕ = columns_in (map (λ (x : RowParts × Ratio). x.0) sum) in
        let less : at.column < end_of columns = All-contains (λ x. x < end_of columns) columns at.column (below_end columns) among' in
        absurd (omega (arith, less, is))

-- and otherwise at the bound
pub wide_bound : (sum : List (RowParts × Ratio)) (at : WideAt) (r : RowParts × Ratio) → IsFirstWide sum at → get_or sum at.row r ≡ r → coefficient_at at.column r.0.terms ≡ None
    → IsWidePlace sum at.row Bound × (at.column ≡ number_of sum Bound)
wide_bound sum at r first here lacks = by first.place first.wide first.column
  where
    by : (place : Place) → IsWidePlace sum at.row place → at.column ≡ number_of sum place → IsWidePlace sum at.row Bound × (at.column ≡ number_of sum Bound)
    by Bound wide is = (wide, is)
    by (Column column) wide is =
        let part : Some wide.part ≡ None =
        sym wide.part_is ∙ ap (λ (x : RowParts × Ratio). coefficient_at column x.0.terms) (here_is sum at.row (Column column) wide r here) ∙ ap (λ c. coefficient_at c r.0.terms) (sym is) ∙ lacks in
        absurd cc

-- a part that is added is a step of the running sum
pub adds_product : (sum weight part next : Ratio) → IsLowest sum × IsLowest weight × IsLowest part → AddsPart sum weight part next → AddsProduct sum (weight, part) next
adds_product sum weight part next known adds =
    record {
      start = known.0;
      left = known.1;
      right = known.2;
      product = adds.product;
      product_lowest = adds.product_lowest;
      is_product = adds.is_product;
      sum = adds.is_sum;
      fits = adds.fits;
      lowest = adds.lowest;
    }

-- a step that doesn't fit is wide
wide_step : (total weight part : Ratio) (column : ℕ) (unfit : Unfit) → IsUnfitHere column (Some total) weight part unfit → IsWideStep total (weight, part)
wide_step total weight part column unfit (is, none, step) = by unfit.operation none step
  where
    by : (operation : Operation) → IsNone operation unfit.left unfit.right → IsUnfitStep (Some total) weight part operation unfit.left unfit.right → IsWideStep total (weight, part)
    by Add none step =
        let left : unfit.left ≡ total = (let e = step.0 in cc) in
        inr (unfit.right, step.1, step.2, subst (λ l. IsWide l unfit.right) left none)
    by Mul none step =
        inl (λ p low product. none p low (subst (λ l. IsProduct l unfit.right p) (sym step.0) (subst (λ r. IsProduct weight r p) (sym step.1) product)))
    by Div none step = absurd step

one_row : (a b : ℕ) → (a ≡ b) ⊎ ((a < b) ⊎ (b < a))
one_row a b = grind arith

-- the operation of a running sum that doesn't fit
pub sum_unfit : (sum : List (RowParts × Ratio)) (at : WideAt) (place : Place) (i : ℕ) (r : RowParts × Ratio) (part total : Ratio) (unfit : Unfit) (cause : Cause) → IsWidePlace sum at.row place
    → i < length sum → get_or sum i r ≡ r → part_of place r.0 ≡ Some part → IsLowest total → RunsTo nothing (pairs_at place (take i sum)) total
    → IsUnfitHere at.column (Some total) r.1 part unfit → cause ≡ lemma_cause at.row unfit → IsUnfitAt sum at place cause
sum_unfit sum at place i r part total unfit cause wide inside here is low runs told cause_is =
    subst (λ c. IsUnfitAt sum at place c) (sym cause_is)
    (record { lemma = refl; row = refl; column = told.0; none = told.1; step = subst (λ n. IsRowStep sum n place unfit.operation unfit.left unfit.right) same step })
  where
    there : IsWidePlace sum i place
    there = wide_at place sum i r part total inside here is runs (wide_step total r.1 part at.column unfit told)

    same : i ≡ at.row
    same = elim (one_row i at.row) [
      | inl equal ↦ equal
      | inr (inl less) ↦ absurd (unwide_before sum place at.row i wide less there)
      | inr (inr more) ↦ absurd (unwide_before sum place i at.row there more wide)
    ]

    addend : (operation : Operation) → IsUnfitStep (Some total) r.1 part operation unfit.left unfit.right → IsAddend operation unfit.left unfit.right r.1 part (sum_of_products (pairs_at place (take i sum)))
    addend Add step =
        let left : total ≡ unfit.left = (let e = step.0 in cc) in
        ((subst IsLowest left low, subst (λ t. SameRatio t (sum_of_products (pairs_at place (take i sum)))) left (runs_reach total (pairs_at place (take i sum)) runs).same), (step.1, step.2))
    addend Mul step = step
    addend Div step = step

    step : IsRowStep sum i place unfit.operation unfit.left unfit.right
    step =
        record {
          front = take i sum;
          here = r;
          rest = drop (i + 1) sum;
          split = sym (take-append-drop i sum) ∙ ap (λ xs. take i sum ++ xs) (left_from sum i r inside (sym here));
          number = sym (length-take-le i sum (omega arith));
          part = part;
          part_is = is;
          step = addend unfit.operation told.2;
        }

-- it is a cause of a basis at which a position fails and none can enter
pub sum_is_cause : (t : TableauParts) (p : ℕ) (weights : List (ℕ × Ratio)) (at : WideAt) (cause : Cause) → IsTableau t → IsStuckAt t p → AreLineWeights t p weights
    → IsFirstWide (weighted_rows t.rows weights) at → IsUnfitSum (weighted_rows t.rows weights) at cause → IsCause t cause
sum_is_cause t p weights at cause tableau stuck are first (place, number, unfit) = (
  unfit.none,
  subst (λ reason. IsStepAt t reason cause.row cause.column cause.operation cause.left cause.right) (sym unfit.lemma) (
    p,
    stuck,
    record {
      weights = weights;
      are_weights = are_weights t p weights tableau stuck are;
      first = subst (λ n. IsFirstWide (weighted_rows t.rows weights) (record { row = n; column = cause.column })) (sym unfit.row) (subst (λ n. IsFirstWide (weighted_rows t.rows weights) (record { row = at.row; column = n })) (sym unfit.column) first);
      place = place;
      column_is = unfit.column ∙ number;
      step = subst (λ n. IsRowStep (weighted_rows t.rows weights) n place cause.operation cause.left cause.right) (sym unfit.row) unfit.step;
    },
  ),
)
