-- Where a sum of weighted rows is wide.
use Rattle.std.proofs.Common.{◌≡◌, ℕ, ◌<◌, ◌+◌, ◌==◌, arith, List, [], ◌∷◌, ◌++◌, length, get_or, take, drop, Option, None, Some, Bool, true, false, map, ap, sym, ◌∙◌, refl, subst, zero, suc, if◌then◌else◌, length-append, take-append-drop}
use Rattle.std.specs.Prelude.{Contains}
use Rattle.std.proofs.lemmas.List.{length-take-le}
use Rattle.std.proofs.lemmas.List.Elements.{Contains-append_left, Contains-append_right}
use Rattle.std.proofs.lemmas.Bool.Decides.{nat_tests}
use Rattle.std.proofs.Math.Seq.{take-append_seam}
use Rattle.bt_frac.specs.Ratio.{Ratio}
use Rattle.bt_frac.specs.Rows.{RowParts, columns_of, columns_in}
use Rattle.bt_frac.specs.Values.{nothing}
use Rattle.bt_frac.proofs.RowColumns.{left_from}
use Rattle.bt_farkas.specs.Farkas.{IsWidePlace}
use Rattle.bt_farkas.specs.RunningSums.{IsWideStep, RunsTo, AddsProduct}
use Rattle.bt_farkas.specs.WeightedRows.{coefficient_at, part_of, pairs_at}
use Rattle.bt_farkas.specs.declared.places.Place.{Place}
use Rattle.bt_farkas.specs.declared.places.Place.TheVariants.{Column}
use Rattle.bt_farkas.proofs.ColumnLemmas.{contains_first, contains_later}
use Rattle.bt_farkas.proofs.RunLemmas.{runs_through, runs_more}
use Rattle.bt_farkas.proofs.WeightedLemmas.{pairs-append, pairs_more, pairs_stay}

-- a wide step at a place of the list
pub wide_at : (place : Place) (sum : List (RowParts × Ratio)) (i : ℕ) (r : RowParts × Ratio) (part total : Ratio) → i < length sum → get_or sum i r ≡ r
    → part_of place r.0 ≡ Some part → RunsTo nothing (pairs_at place (take i sum)) total → IsWideStep total (r.1, part) → IsWidePlace sum i place
wide_at place sum i r part total inside here is runs wide = record {
  front = take i sum;
  here = r;
  rest = drop (i + 1) sum;
  split = sym (take-append-drop i sum) ∙ ap (λ xs. take i sum ++ xs) (left_from sum i r inside (sym here));
  number = sym (length-take-le i sum (omega arith));
  part = part;
  part_is = is;
  total = total;
  runs = runs;
  wide = wide;
}

-- one more row of a running sum
pub total_more : (place : Place) (sum : List (RowParts × Ratio)) (i : ℕ) (r : RowParts × Ratio) (part total next : Ratio) → i < length sum → get_or sum i r ≡ r
    → part_of place r.0 ≡ Some part → RunsTo nothing (pairs_at place (take i sum)) total → AddsProduct total (r.1, part) next
    → RunsTo nothing (pairs_at place (take (i + 1) sum)) next
total_more place sum i r part total next inside here is runs adds =
    subst (λ ps. RunsTo nothing ps next) (sym (pairs_more place sum i r part inside here is)) (runs_more nothing total next (pairs_at place (take i sum)) (r.1, part) runs adds)

pub total_stays : (place : Place) (sum : List (RowParts × Ratio)) (i : ℕ) (r : RowParts × Ratio) (total : Ratio) → i < length sum → get_or sum i r ≡ r
    → part_of place r.0 ≡ None → RunsTo nothing (pairs_at place (take i sum)) total → RunsTo nothing (pairs_at place (take (i + 1) sum)) total
total_stays place sum i r total inside here is runs = subst (λ ps. RunsTo nothing ps total) (sym (pairs_stay place sum i r inside here is)) runs

-- more than the front, and what it is
take_past : {X : Type 0} (front : List X) (here : X) (rest : List X) (n : ℕ) → length front < n → (more : List X) × (take n (front ++ here ∷ rest) ≡ front ++ here ∷ more)
take_past [] here rest zero past = absurd (omega (arith, past))
take_past [] here rest (suc n) past = (take n rest, refl)
take_past (x ∷ front) here rest zero past = absurd (omega (arith, past))
take_past (x ∷ front) here rest (suc n) past = let less = take_past front here rest n (omega (arith, past)) in (less.0, ap (λ xs. x ∷ xs) less.1)

pairs_from : (place : Place) (here : RowParts × Ratio) (rest : List (RowParts × Ratio)) (part : Ratio) → part_of place here.0 ≡ Some part
    → pairs_at place (here ∷ rest) ≡ (here.1, part) ∷ pairs_at place rest
pairs_from place here rest part is = rw is refl

-- a sum that runs through the first rows is wide at none of them
pub unwide_by_run : (sum : List (RowParts × Ratio)) (place : Place) (limit row : ℕ) (total : Ratio) → RunsTo nothing (pairs_at place (take limit sum)) total
    → row < limit → IsWidePlace sum row place → ⊥
unwide_by_run sum place limit row total runs less w =
    let past = take_past w.front w.here w.rest limit (subst (λ n. n < limit) w.number less) in
    let pairs : pairs_at place (take limit sum) ≡ pairs_at place w.front ++ (w.here.1, w.part) ∷ pairs_at place past.0 =
    ap (λ xs. pairs_at place (take limit xs)) w.split ∙ ap (pairs_at place) past.1 ∙ pairs-append place w.front (w.here ∷ past.0)
    ∙ ap (λ ps. pairs_at place w.front ++ ps) (pairs_from place w.here past.0 w.part w.part_is) in
    runs_through nothing w.total total (pairs_at place w.front) (w.here.1, w.part) (pairs_at place past.0) (subst (λ ps. RunsTo nothing ps total) pairs runs) w.runs w.wide

front_is : (sum : List (RowParts × Ratio)) (row : ℕ) (place : Place) → (w : IsWidePlace sum row place) → w.front ≡ take row sum
front_is sum row place w =
    sym (take-append_seam w.front (w.here ∷ w.rest)) ∙ ap (λ xs. take (length w.front) xs) (sym w.split) ∙ ap (λ n. take n sum) (sym w.number)

-- a sum is wide at one row of a place at most
pub unwide_before : (sum : List (RowParts × Ratio)) (place : Place) (row other : ℕ) → IsWidePlace sum row place → other < row → IsWidePlace sum other place → ⊥
unwide_before sum place row other w less v =
    unwide_by_run sum place row other w.total (subst (λ xs. RunsTo nothing (pairs_at place xs) w.total) (front_is sum row place w) w.runs) less v

pub row_within : (sum : List (RowParts × Ratio)) (place : Place) (row : ℕ) → IsWidePlace sum row place → row < length sum
row_within sum place row w =
    let size : length sum ≡ length w.front + length (w.here ∷ w.rest) = ap length w.split ∙ length-append w.front (w.here ∷ w.rest) in
    let number = w.number in
    omega (arith, size, number)

eq_test : (m n : ℕ) → (m == n) ≡ true → m ≡ n
eq_test m n h = grind (arith, nat_tests)

coefficient_named_by : (column : ℕ) (term : ℕ × Ratio) (terms : List (ℕ × Ratio)) (part : Ratio) (test : Bool) → (term.0 == column) ≡ test
    → (if test then Some term.1 else coefficient_at column terms) ≡ Some part → (coefficient_at column terms ≡ Some part → Contains (columns_of terms) column)
    → Contains (columns_of (term ∷ terms)) column
coefficient_named_by column term terms part true same is later =
    subst (Contains (columns_of (term ∷ terms))) (eq_test term.0 column same) (contains_first term.0 (columns_of terms))
coefficient_named_by column term terms part false same is later = contains_later term.0 column (columns_of terms) (later is)

-- a column with a coefficient is named
pub coefficient_named : (column : ℕ) (terms : List (ℕ × Ratio)) (part : Ratio) → coefficient_at column terms ≡ Some part → Contains (columns_of terms) column
coefficient_named column [] part is = cc
coefficient_named column (term ∷ terms) part is =
    coefficient_named_by column term terms part (term.0 == column) refl is (coefficient_named column terms part)

pub named_at : (front : List (RowParts × Ratio)) (here : RowParts × Ratio) (rest : List (RowParts × Ratio)) (column : ℕ) → Contains (columns_of here.0.terms) column
    → Contains (columns_in (map (λ r. r.0) (front ++ here ∷ rest))) column
named_at [] here rest column h = Contains-append_left (columns_of here.0.terms) (columns_in (map (λ r. r.0) rest)) column h
named_at (x ∷ front) here rest column h =
    Contains-append_right (columns_of x.0.terms) (columns_in (map (λ r. r.0) (front ++ here ∷ rest))) column (named_at front here rest column h)

-- a column at which a sum is wide is named
pub wide_named : (sum : List (RowParts × Ratio)) (row column : ℕ) → IsWidePlace sum row (Column column) → Contains (columns_in (map (λ r. r.0) sum)) column
wide_named sum row column w =
    subst (λ xs. Contains (columns_in (map (λ r. r.0) xs)) column) (sym w.split)
    (named_at w.front w.here w.rest column (coefficient_named column w.here.0.terms w.part w.part_is))

pairs_by : (column : ℕ) (r : RowParts × Ratio) (rest : List (RowParts × Ratio)) (o : Option Ratio) → part_of (Column column) r.0 ≡ o
    → (Contains (columns_of r.0.terms) column → ⊥) → pairs_at (Column column) rest ≡ [] → pairs_at (Column column) (r ∷ rest) ≡ []
pairs_by column r rest None is lacks none = rw is none
pairs_by column r rest (Some part) is lacks none = absurd (lacks (coefficient_named column r.0.terms part is))

-- a column that no row names has no pairs
pub no_pairs : (sum : List (RowParts × Ratio)) (column : ℕ) → (Contains (columns_in (map (λ r. r.0) sum)) column → ⊥) → pairs_at (Column column) sum ≡ []
no_pairs [] column lacks = refl
no_pairs (r ∷ rest) column lacks =
    pairs_by column r rest (part_of (Column column) r.0) refl
    (λ h. lacks (Contains-append_left (columns_of r.0.terms) (columns_in (map (λ r. r.0) rest)) column h))
    (no_pairs rest column (λ h. lacks (Contains-append_right (columns_of r.0.terms) (columns_in (map (λ r. r.0) rest)) column h)))
