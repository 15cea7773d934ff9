-- The sum of the run of a column, and the sum of the column over the rows.
use Rattle.std.proofs.Common.{◌≡◌, ℕ, ◌<◌, ◌≤◌, ◌+◌, ◌==◌, arith, List, [], ◌∷◌, ◌++◌, length, get_or, take, drop, zero, suc, Bool, true, false, if◌then◌else◌, map, Option, None, Some, Ok, Err, ap, sym, ◌∙◌, refl, subst, take-append-drop}
use Rattle.std.specs.List.{All}
use Rattle.std.specs.declared.result.Result.{Result}
use Rattle.std.proofs.lemmas.List.{take_more, map_push, get_or_default}
use Rattle.std.proofs.lemmas.List.Elements.{All-nil, All-cons, All-head, All-tail, All-more, filter-append}
use Rattle.bt_frac.specs.Ratio.{Ratio}
use Rattle.bt_frac.specs.Columns.{AreColumnsFrom}
use Rattle.bt_frac.specs.Rows.{RowParts, HaveColumns, columns_of}
use Rattle.bt_frac.specs.Values.{nothing}
use Rattle.bt_frac.proofs.RowColumns.{left_from}
use Rattle.bt_farkas.specs.RunningSums.{IsWideStep, RunsTo, AddsProduct}
use Rattle.bt_farkas.specs.WeightedRows.{coefficient_at, part_of, pairs_at}
use Rattle.bt_farkas.specs.inner.Gathering.{entries_of, entries_from, entries_at, HaveWeights, pair_of, RunsBelow, IsWideRun, IsRunTotal}
use Rattle.bt_farkas.specs.inner.Totals.{IsTotal}
use Rattle.bt_farkas.specs.declared.gathering.Entry.{Entry}
use Rattle.bt_farkas.specs.declared.places.Place.TheVariants.{Column}
use Rattle.bt_farkas.proofs.GatheredLemmas.{kept, skipped, test_same, test_other}
use Rattle.bt_farkas.proofs.RunLemmas.{runs_more}

-- the sum so far stops at an entry of a row from the limit on
pub run_stops : (weights : List Ratio) (run : List Entry) (limit i : ℕ) (e : Entry) (total : Ratio) → i < length run → e ≡ get_or run i e → limit ≤ e.row
    → All (λ (x : Entry). x.row < limit) (take i run) → RunsTo nothing (map (pair_of weights) (take i run)) total → RunsBelow weights run limit total
run_stops weights run limit i e total inside here past below runs = record {
  front = take i run;
  rest = drop i run;
  split = sym (take-append-drop i run);
  below = below;
  stops = λ x more is.
      let same : e ≡ x = (let first = sym (left_from run i e inside here) ∙ is in cc) in
      subst (λ y. limit ≤ y.row) same past;
  runs = runs;
}

entry_within : (weights : List Ratio) (run : List Entry) (i : ℕ) (e : Entry) → i < length run → e ≡ get_or run i e → All (λ (x : Entry). x.row < length weights) run → e.row < length weights
entry_within weights run i e inside here all = subst (λ x. x.row < length weights) (sym here) (all i e inside)

pub run_wide : (weights : List Ratio) (run : List Entry) (i : ℕ) (e : Entry) (weight total : Ratio) → i < length run → e ≡ get_or run i e
    → All (λ (x : Entry). x.row < length weights) run → weight ≡ get_or weights e.row weight → RunsTo nothing (map (pair_of weights) (take i run)) total → IsWideStep total (weight, e.coefficient)
    → IsWideRun weights run e.row
run_wide weights run i e weight total inside here within is runs wide = record {
  front = take i run;
  here = e;
  rest = drop (i + 1) run;
  split = sym (take-append-drop i run) ∙ ap (λ xs. take i run ++ xs) (left_from run i e inside here);
  number = refl;
  total = total;
  runs = runs;
  wide = subst (λ w. IsWideStep total (w, e.coefficient)) (is ∙ get_or_default weights e.row weight nothing (entry_within weights run i e inside here within)) wide;
}

pub record RunsSo (weights : List Ratio) (run : List Entry) (limit i : ℕ) (total : Ratio) : Type 0 where
  pub below : All (λ (e : Entry). e.row < limit) (take i run)
  pub runs : RunsTo nothing (map (pair_of weights) (take i run)) total

pub run_more : (weights : List Ratio) (run : List Entry) (limit i : ℕ) (e : Entry) (weight total next : Ratio) → i < length run → e ≡ get_or run i e
    → All (λ (x : Entry). x.row < length weights) run → weight ≡ get_or weights e.row weight → e.row < limit
    → All (λ (x : Entry). x.row < limit) (take i run) → RunsTo nothing (map (pair_of weights) (take i run)) total → AddsProduct total (weight, e.coefficient) next
    → RunsSo weights run limit (i + 1) next
run_more weights run limit i e weight total next inside here within is less below runs adds =
    let pair : (weight, e.coefficient) ≡ pair_of weights e = ap (λ w. (w, e.coefficient)) (is ∙ get_or_default weights e.row weight nothing (entry_within weights run i e inside here within)) in
    let taken : take (i + 1) run ≡ take i run ++ e ∷ [] = take_more run i e inside ∙ ap (λ x. take i run ++ x ∷ []) (sym here) in
    record {
      below = All-more (λ (x : Entry). x.row < limit) run i e inside below (subst (λ x. x.row < limit) here less);
      runs =
          subst (λ xs. RunsTo nothing (map (pair_of weights) xs) next) (sym taken)
          (subst (λ ps. RunsTo nothing ps next) (sym (map_push (pair_of weights) (take i run) e))
          (runs_more nothing total next (map (pair_of weights) (take i run)) (pair_of weights e) runs (subst (λ p. AddsProduct total p next) pair adds)));
    }

-- what a row has at a column
none_above : (place least column : ℕ) (terms : List (ℕ × Ratio)) → AreColumnsFrom least (columns_of terms) → column < least → entries_at column (entries_of place terms) ≡ []
none_above place least column [] are below = refl
none_above place least column (term ∷ terms) are below =
    skipped column (record { column = term.0; row = place; coefficient = term.1 }) (entries_of place terms) (omega (arith, are.0))
    ∙ none_above place (term.0 + 1) column terms are.2 (omega (arith, are.0))

none_by : (place column : ℕ) (term : ℕ × Ratio) (terms : List (ℕ × Ratio)) (test : Bool) → (term.0 == column) ≡ test
    → (if test then Some term.1 else coefficient_at column terms) ≡ None → (coefficient_at column terms ≡ None → entries_at column (entries_of place terms) ≡ [])
    → entries_at column (entries_of place (term ∷ terms)) ≡ []
none_by place column term terms true same is later = cc
none_by place column term terms false same is later =
    skipped column (record { column = term.0; row = place; coefficient = term.1 }) (entries_of place terms) (test_other term.0 column same) ∙ later is

entries_none : (place column : ℕ) (terms : List (ℕ × Ratio)) → coefficient_at column terms ≡ None → entries_at column (entries_of place terms) ≡ []
entries_none place column [] is = refl
entries_none place column (term ∷ terms) is = none_by place column term terms (term.0 == column) refl is (entries_none place column terms)

some_by : (place least column : ℕ) (term : ℕ × Ratio) (terms : List (ℕ × Ratio)) (part : Ratio) (test : Bool) → (term.0 == column) ≡ test → AreColumnsFrom least (columns_of (term ∷ terms))
    → (if test then Some term.1 else coefficient_at column terms) ≡ Some part
    → (coefficient_at column terms ≡ Some part → entries_at column (entries_of place terms) ≡ record { column = column; row = place; coefficient = part } ∷ [])
    → entries_at column (entries_of place (term ∷ terms)) ≡ record { column = column; row = place; coefficient = part } ∷ []
some_by place least column term terms part true same are is later =
    let named : term.0 ≡ column = test_same term.0 column same in
    let value : term.1 ≡ part = cc in
    kept column (record { column = term.0; row = place; coefficient = term.1 }) (entries_of place terms) named
    ∙ ap (λ es. record { column = term.0; row = place; coefficient = term.1 } ∷ es) (none_above place (term.0 + 1) column terms are.2 (omega arith))
    ∙ ap (λ c. record { column = c; row = place; coefficient = term.1 } ∷ []) named ∙ ap (λ v. record { column = column; row = place; coefficient = v } ∷ []) value
some_by place least column term terms part false same are is later =
    skipped column (record { column = term.0; row = place; coefficient = term.1 }) (entries_of place terms) (test_other term.0 column same) ∙ later is

entries_some : (place least column : ℕ) (terms : List (ℕ × Ratio)) (part : Ratio) → AreColumnsFrom least (columns_of terms) → coefficient_at column terms ≡ Some part
    → entries_at column (entries_of place terms) ≡ record { column = column; row = place; coefficient = part } ∷ []
entries_some place least column [] part are is = cc
entries_some place least column (term ∷ terms) part are is =
    some_by place least column term terms part (term.0 == column) refl are is (entries_some place (term.0 + 1) column terms part are.2)

-- the rows of a sum
abbrev rows_of : List (RowParts × Ratio) → List RowParts
rows_of sum = map (λ r. r.0) sum

-- the entries of a column: of the first row, and of the others
step_none : (place column : ℕ) (r : RowParts) (rows : List RowParts) → coefficient_at column r.terms ≡ None
    → entries_at column (entries_from place (r ∷ rows)) ≡ entries_at column (entries_from (place + 1) rows)
step_none place column r rows is =
    filter-append (λ e. e.column == column) (entries_of place r.terms) (entries_from (place + 1) rows)
    ∙ ap (λ es. es ++ entries_at column (entries_from (place + 1) rows)) (entries_none place column r.terms is)

step_some : (place column : ℕ) (r : RowParts) (rows : List RowParts) (part : Ratio) → HaveColumns r.terms → coefficient_at column r.terms ≡ Some part
    → entries_at column (entries_from place (r ∷ rows)) ≡ record { column = column; row = place; coefficient = part } ∷ entries_at column (entries_from (place + 1) rows)
step_some place column r rows part are is =
    filter-append (λ e. e.column == column) (entries_of place r.terms) (entries_from (place + 1) rows)
    ∙ ap (λ es. es ++ entries_at column (entries_from (place + 1) rows)) (entries_some place 0 column r.terms part are is)

rows_from : (place : ℕ) (column : ℕ) (rows : List RowParts) → All (λ (row : RowParts). HaveColumns row.terms) rows → All (λ (e : Entry). place ≤ e.row) (entries_at column (entries_from place rows))
rows_from place column [] are = All-nil (λ (e : Entry). place ≤ e.row)
rows_from place column (r ∷ rows) are =
    rows_by (coefficient_at column r.terms) refl (rows_from (place + 1) column rows (All-tail (λ (row : RowParts). HaveColumns row.terms) r rows are))
  where
    rest_from : All (λ (e : Entry). place + 1 ≤ e.row) (entries_at column (entries_from (place + 1) rows)) → All (λ (e : Entry). place ≤ e.row) (entries_at column (entries_from (place + 1) rows))
    rest_from later k d inside = let above = later k d inside in omega (arith, above)

    rows_by : (o : Option Ratio) → coefficient_at column r.terms ≡ o → All (λ (e : Entry). place + 1 ≤ e.row) (entries_at column (entries_from (place + 1) rows))
        → All (λ (e : Entry). place ≤ e.row) (entries_at column (entries_from place (r ∷ rows)))
    rows_by None is later = subst (All (λ (e : Entry). place ≤ e.row)) (sym (step_none place column r rows is)) (rest_from later)
    rows_by (Some part) is later =
        subst (All (λ (e : Entry). place ≤ e.row)) (sym (step_some place column r rows part (All-head (λ (row : RowParts). HaveColumns row.terms) r rows are) is))
        (All-cons (λ (e : Entry). place ≤ e.row) (record { column = column; row = place; coefficient = part }) (entries_at column (entries_from (place + 1) rows)) (omega arith) (rest_from later))

pairs_skip : (column : ℕ) (r : RowParts × Ratio) (sum : List (RowParts × Ratio)) → coefficient_at column r.0.terms ≡ None → pairs_at (Column column) (r ∷ sum) ≡ pairs_at (Column column) sum
pairs_skip column r sum is = rw is refl

pairs_keep : (column : ℕ) (r : RowParts × Ratio) (sum : List (RowParts × Ratio)) (part : Ratio) → coefficient_at column r.0.terms ≡ Some part
    → pairs_at (Column column) (r ∷ sum) ≡ (r.1, part) ∷ pairs_at (Column column) sum
pairs_keep column r sum part is = rw is refl

-- the first entries of a run, so far as their rows are below a bound, are the pairs of the rows below it
pub record FitsRun (weights : List Ratio) (place bound : ℕ) (front rest : List Entry) : Type 0 where
  pub below : All (λ (e : Entry). e.row < bound) front
  pub stops : (e : Entry) (more : List Entry) → rest ≡ e ∷ more → bound ≤ e.row

run_pairs : (weights : List Ratio) (place bound column n : ℕ) (sum : List (RowParts × Ratio)) (front rest : List Entry) → bound ≡ place + n
    → All (λ (row : RowParts). HaveColumns row.terms) (rows_of sum) → HaveWeights weights place sum
    → front ++ rest ≡ entries_at column (entries_from place (rows_of sum)) → FitsRun weights place bound front rest
    → pairs_at (Column column) (take n sum) ≡ map (pair_of weights) front
run_pairs weights place bound column zero sum [] rest at are have is fits = refl
run_pairs weights place bound column zero sum (f ∷ front) rest at are have is fits =
    let from : place ≤ f.row = All-head (λ (e : Entry). place ≤ e.row) f (front ++ rest) (subst (All (λ (e : Entry). place ≤ e.row)) (sym is) (rows_from place column (rows_of sum) are)) in
    let below : f.row < bound = All-head (λ (e : Entry). e.row < bound) f front fits.below in
    absurd (omega arith)
run_pairs weights place bound column (suc n) [] [] rest at are have is fits = refl
run_pairs weights place bound column (suc n) [] (f ∷ front) rest at are have is fits = cc
run_pairs weights place bound column (suc n) (r ∷ sum) front rest at are have is fits =
    by_row (coefficient_at column r.0.terms) refl front is fits
    (λ front' is' fits'. run_pairs weights (place + 1) bound column n sum front' rest (omega (arith, at)) (All-tail (λ (row : RowParts). HaveColumns row.terms) r.0 (rows_of sum) are) have.1 is' fits')
  where
    by_row : (o : Option Ratio) → coefficient_at column r.0.terms ≡ o → (front : List Entry) → front ++ rest ≡ entries_at column (entries_from place (rows_of (r ∷ sum)))
        → FitsRun weights place bound front rest
        → ((front' : List Entry) → front' ++ rest ≡ entries_at column (entries_from (place + 1) (rows_of sum)) → FitsRun weights (place + 1) bound front' rest
        → pairs_at (Column column) (take n sum) ≡ map (pair_of weights) front')
        → pairs_at (Column column) (r ∷ take n sum) ≡ map (pair_of weights) front
    by_row None none front is fits later =
        pairs_skip column r (take n sum) none
        ∙ later front (is ∙ step_none place column r.0 (rows_of sum) none) (record { below = fits.below; stops = fits.stops })
    by_row (Some part) some [] is fits later =
        let stop : bound ≤ place = fits.stops (record { column = column; row = place; coefficient = part }) (entries_at column (entries_from (place + 1) (rows_of sum)))
        (is ∙ step_some place column r.0 (rows_of sum) part (All-head (λ (row : RowParts). HaveColumns row.terms) r.0 (rows_of sum) are) some) in
        absurd (omega (arith, at, stop))
    by_row (Some part) some (f ∷ front) is fits later =
        let both : f ∷ (front ++ rest) ≡ record { column = column; row = place; coefficient = part } ∷ entries_at column (entries_from (place + 1) (rows_of sum)) =
        is ∙ step_some place column r.0 (rows_of sum) part (All-head (λ (row : RowParts). HaveColumns row.terms) r.0 (rows_of sum) are) some in
        let first : f ≡ record { column = column; row = place; coefficient = part } = cc in
        let others : front ++ rest ≡ entries_at column (entries_from (place + 1) (rows_of sum)) = cc in
        pairs_keep column r (take n sum) part some
        ∙ ap (λ w. (w, part) ∷ pairs_at (Column column) (take n sum)) (sym have.0)
        ∙ ap (λ ps. (get_or weights place nothing, part) ∷ ps)
        (later front others (record { below = All-tail (λ (e : Entry). e.row < bound) f front fits.below; stops = fits.stops }))
        ∙ ap (λ e. pair_of weights e ∷ map (pair_of weights) front) (sym first)

-- the row of an entry of a run
pub record IsRowOf (weights : List Ratio) (place column : ℕ) (sum : List (RowParts × Ratio)) (before : List Entry) (here : Entry) : Type 0 where
  pub front : List (RowParts × Ratio)
  pub row : RowParts × Ratio
  pub rest : List (RowParts × Ratio)
  pub split : sum ≡ front ++ row ∷ rest
  pub number : here.row ≡ place + length front
  pub part_is : part_of (Column column) row.0 ≡ Some here.coefficient
  pub weight : get_or weights here.row nothing ≡ row.1
  pub pairs : pairs_at (Column column) front ≡ map (pair_of weights) before

row_of_entry : (weights : List Ratio) (place column : ℕ) (sum : List (RowParts × Ratio)) (before : List Entry) (here : Entry) (after : List Entry)
    → All (λ (row : RowParts). HaveColumns row.terms) (rows_of sum) → HaveWeights weights place sum
    → before ++ here ∷ after ≡ entries_at column (entries_from place (rows_of sum)) → IsRowOf weights place column sum before here
row_of_entry weights place column [] [] here after are have is = cc
row_of_entry weights place column [] (f ∷ before) here after are have is = cc
row_of_entry weights place column (r ∷ sum) before here after are have is =
    by_row (coefficient_at column r.0.terms) refl before is
    (λ before' is'. row_of_entry weights (place + 1) column sum before' here after (All-tail (λ (row : RowParts). HaveColumns row.terms) r.0 (rows_of sum) are) have.1 is')
  where
    by_row : (o : Option Ratio) → coefficient_at column r.0.terms ≡ o → (before : List Entry) → before ++ here ∷ after ≡ entries_at column (entries_from place (rows_of (r ∷ sum)))
        → ((before' : List Entry) → before' ++ here ∷ after ≡ entries_at column (entries_from (place + 1) (rows_of sum)) → IsRowOf weights (place + 1) column sum before' here)
        → IsRowOf weights place column (r ∷ sum) before here
    by_row None none before is later =
        let row = later before (is ∙ step_none place column r.0 (rows_of sum) none) in
        let number = row.number in
        record {
          front = r ∷ row.front;
          row = row.row;
          rest = row.rest;
          split = ap (λ rs. r ∷ rs) row.split;
          number = omega arith;
          part_is = row.part_is;
          weight = row.weight;
          pairs = pairs_skip column r row.front none ∙ row.pairs;
        }
    by_row (Some part) some [] is later =
        let both : here ∷ after ≡ record { column = column; row = place; coefficient = part } ∷ entries_at column (entries_from (place + 1) (rows_of sum)) =
        is ∙ step_some place column r.0 (rows_of sum) part (All-head (λ (row : RowParts). HaveColumns row.terms) r.0 (rows_of sum) are) some in
        let first : here ≡ record { column = column; row = place; coefficient = part } = cc in
        let placed : here.row ≡ place = ap (λ (e : Entry). e.row) first in
        record {
          front = [];
          row = r;
          rest = sum;
          split = refl;
          number = omega arith;
          part_is = some ∙ ap (λ (e : Entry). Some e.coefficient) (sym first);
          weight = ap (λ n. get_or weights n nothing) placed ∙ have.0;
          pairs = refl;
        }
    by_row (Some part) some (f ∷ before) is later =
        let both : f ∷ (before ++ here ∷ after) ≡ record { column = column; row = place; coefficient = part } ∷ entries_at column (entries_from (place + 1) (rows_of sum)) =
        is ∙ step_some place column r.0 (rows_of sum) part (All-head (λ (row : RowParts). HaveColumns row.terms) r.0 (rows_of sum) are) some in
        let first : f ≡ record { column = column; row = place; coefficient = part } = cc in
        let others : before ++ here ∷ after ≡ entries_at column (entries_from (place + 1) (rows_of sum)) = cc in
        let row = later before others in
        let number = row.number in
        record {
          front = r ∷ row.front;
          row = row.row;
          rest = row.rest;
          split = ap (λ rs. r ∷ rs) row.split;
          number = omega arith;
          part_is = row.part_is;
          weight = row.weight;
          pairs =
              pairs_keep column r row.front part some ∙ ap (λ w. (w, part) ∷ pairs_at (Column column) row.front) (sym have.0)
              ∙ ap (λ ps. (get_or weights place nothing, part) ∷ ps) row.pairs ∙ ap (λ e. pair_of weights e ∷ map (pair_of weights) before) (sym first);
        }

-- the total of a column's run is that of the column
pub run_is_total : (weights : List Ratio) (sum : List (RowParts × Ratio)) (column limit : ℕ) (run : List Entry) (result : Result Ratio ℕ)
    → All (λ (row : RowParts). HaveColumns row.terms) (map (λ r. r.0) sum) → HaveWeights weights 0 sum → run ≡ entries_at column (entries_from 0 (map (λ r. r.0) sum))
    → IsRunTotal weights run limit result → IsTotal sum (Column column) limit result
run_is_total weights sum column limit run (Ok total) are have is told =
    subst (λ ps. RunsTo nothing ps total)
    (sym (run_pairs weights 0 limit column limit sum told.front told.rest (omega arith) are have (sym told.split ∙ is) (record { below = told.below; stops = told.stops }))) told.runs
run_is_total weights sum column limit run (Err row) are have is (less, told) =
    let at = row_of_entry weights 0 column sum told.front told.here told.rest are have (sym told.split ∙ is) in
    let number = at.number in
    let told_number = told.number in (
      less,
      record {
        front = at.front;
        here = at.row;
        rest = at.rest;
        split = at.split;
        number = omega arith;
        part = told.here.coefficient;
        part_is = at.part_is;
        total = told.total;
        runs = subst (λ ps. RunsTo nothing ps told.total) (sym at.pairs) told.runs;
        wide = subst (λ w. IsWideStep told.total (w, told.here.coefficient)) at.weight told.wide;
      },
    )
