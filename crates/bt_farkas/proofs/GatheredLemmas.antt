-- Sorted terms of rows: the run of a column, and what is left after it.
use Rattle.std.proofs.Common.{◌≡◌, ◌≢◌, ℕ, ◌<◌, ◌≤◌, ◌+◌, ◌==◌, arith, List, [], ◌∷◌, ◌++◌, length, get_or, take, drop, zero, suc, Bool, true, false, cond, map, Some, ap, sym, ◌∙◌, refl, subst}
use Rattle.std.specs.Prelude.{Contains}
use Rattle.std.specs.List.{All}
use Rattle.std.specs.List.Sorted.{IsNonDecreasingBy}
use Rattle.std.proofs.lemmas.Bool.Decides.{nat_tests}
use Rattle.std.proofs.lemmas.List.{map-append}
use Rattle.bt_frac.specs.Ratio.{Ratio}
use Rattle.bt_frac.specs.Rows.{RowParts, columns_of, columns_in}
use Rattle.bt_farkas.specs.inner.Gathering.{entries_of, entries_from, entries_at, AreGathered, IsRunLength}
use Rattle.bt_farkas.specs.inner.Totals.{IsLeastFrom, AreColumnsBelow}
use Rattle.bt_farkas.specs.declared.columns.Columns.{Columns}
use Rattle.bt_farkas.specs.declared.gathering.Entry.{Entry}
use Rattle.bt_farkas.proofs.ColumnLemmas.{contains_first, contains_later}

same_test : (m n : ℕ) → m ≡ n → (m == n) ≡ true
same_test m n h = grind (arith, nat_tests)

other_test : (m n : ℕ) → m ≢ n → (m == n) ≡ false
other_test m n h = grind (arith, nat_tests)

pub test_same : (m n : ℕ) → (m == n) ≡ true → m ≡ n
test_same m n h = grind (arith, nat_tests)

pub test_other : (m n : ℕ) → (m == n) ≡ false → m ≢ n
test_other m n h = grind (arith, nat_tests)

-- an entry of the column is kept, and another isn't
pub kept : (column : ℕ) (e : Entry) (entries : List Entry) → e.column ≡ column → entries_at column (e ∷ entries) ≡ e ∷ entries_at column entries
kept column e entries same = ap (λ b. cond b (e ∷ entries_at column entries) (entries_at column entries)) (same_test e.column column same)

pub skipped : (column : ℕ) (e : Entry) (entries : List Entry) → e.column ≢ column → entries_at column (e ∷ entries) ≡ entries_at column entries
skipped column e entries other = ap (λ b. cond b (e ∷ entries_at column entries) (entries_at column entries)) (other_test e.column column other)

-- the columns of the entries never fall, from this one on
abbrev Rise : ℕ → List Entry → Type 0
Rise least [] = Unit {0}
Rise least (e ∷ entries) = (least ≤ e.column) × Rise e.column entries

rise_by : (least : ℕ) (entries : List Entry) → IsNonDecreasingBy (λ (e : Entry). e.column) entries → ((d : Entry) → 0 < length entries → least ≤ (get_or entries 0 d).column) → Rise least entries
rise_by least [] up first = tt
rise_by least (e ∷ entries) up first =
    (first e (omega arith), rise_by e.column entries (λ i j d order inside. up (suc i) (suc j) d (omega arith) (omega (arith, inside))) (λ d some. up 0 1 d (omega arith) (omega (arith, some))))

-- a column below all has no entry
pub none_below : (least column : ℕ) (entries : List Entry) → Rise least entries → column < least → entries_at column entries ≡ []
none_below least column [] rise below = refl
none_below least column (e ∷ entries) rise below =
    let from = rise.0 in skipped column e entries (omega arith) ∙ none_below e.column column entries rise.1 (omega arith)

-- the run of a column that is the least, and what is left after it
pub record IsRunSplit (column size : ℕ) (entries : List Entry) : Type 0 where
  pub run : entries_at column entries ≡ take size entries
  pub later : Rise (column + 1) (drop size entries)
  pub others : (other : ℕ) → column < other → entries_at other entries ≡ entries_at other (drop size entries)

run_split : (column size : ℕ) (entries : List Entry) → Rise column entries → IsRunLength column entries size → IsRunSplit column size entries
run_split column zero [] rise is = record { run = refl; later = tt; others = λ other less. refl }
run_split column (suc size) [] rise is = let within = is.within in absurd (omega arith)
run_split column zero (e ∷ entries) rise is =
    let from = rise.0 in
    let differs : e.column ≢ column = is.other e (omega arith) in
    record {
      run = skipped column e entries differs ∙ none_below e.column column entries rise.1 (omega arith);
      later = (omega arith, rise.1);
      others = λ other less. refl;
    }
run_split column (suc size) (e ∷ entries) rise is =
    let same : e.column ≡ column = is.same 0 e (omega arith) in
    let within = is.within in
    let rest = run_split column size entries (subst (λ c. Rise c entries) same rise.1) (record {
      within = omega arith;
      same = λ k d below. is.same (suc k) d (omega (arith, below));
      other = λ d below. is.other d (omega (arith, below));
    }) in
    record {
      run = kept column e entries same ∙ ap (λ es. e ∷ es) rest.run;
      later = rest.later;
      others = λ other less. skipped other e entries (omega arith) ∙ rest.others other less;
    }

-- a column has entries exactly where it is one of theirs
found_by : (column : ℕ) (e : Entry) (entries : List Entry) (test : Bool) → (e.column == column) ≡ test → (Contains (map (λ x. x.column) entries) column → entries_at column entries ≡ [] → ⊥)
    → Contains (map (λ x. x.column) (e ∷ entries)) column → entries_at column (e ∷ entries) ≡ [] → ⊥
found_by column e entries true same rest among none = let is = sym (kept column e entries (test_same e.column column same)) ∙ none in cc
found_by column e entries false same rest (zero, inside, is) none = test_other e.column column same is
found_by column e entries false same rest (suc k, inside, is) none =
    rest (k, omega (arith, inside), is) (sym (skipped column e entries (test_other e.column column same)) ∙ none)

pub found_at : (column : ℕ) (entries : List Entry) → Contains (map (λ e. e.column) entries) column → entries_at column entries ≡ [] → ⊥
found_at column [] among none = absurd (let inside = among.1 in omega arith)
found_at column (e ∷ entries) among none = found_by column e entries (e.column == column) refl (found_at column entries) among none

named_by : (column : ℕ) (e : Entry) (entries : List Entry) (test : Bool) → (e.column == column) ≡ test → ((entries_at column entries ≡ [] → ⊥) → Contains (map (λ x. x.column) entries) column)
    → (entries_at column (e ∷ entries) ≡ [] → ⊥) → Contains (map (λ x. x.column) (e ∷ entries)) column
named_by column e entries true same rest some =
    subst (Contains (map (λ x. x.column) (e ∷ entries))) (test_same e.column column same) (contains_first e.column (map (λ x. x.column) entries))
named_by column e entries false same rest some =
    contains_later e.column column (map (λ x. x.column) entries) (rest (λ none. some (skipped column e entries (test_other e.column column same) ∙ none)))

pub named_at : (column : ℕ) (entries : List Entry) → (entries_at column entries ≡ [] → ⊥) → Contains (map (λ e. e.column) entries) column
named_at column [] some = absurd (some refl)
named_at column (e ∷ entries) some = named_by column e entries (e.column == column) refl (named_at column entries) some

columns_of_entries : (place : ℕ) (terms : List (ℕ × Ratio)) → map (λ e. e.column) (entries_of place terms) ≡ columns_of terms
columns_of_entries place [] = refl
columns_of_entries place (term ∷ terms) = ap (λ cs. term.0 ∷ cs) (columns_of_entries place terms)

columns_gathered : (place : ℕ) (rows : List RowParts) → map (λ e. e.column) (entries_from place rows) ≡ columns_in rows
columns_gathered place [] = refl
columns_gathered place (row ∷ rows) =
    map-append (λ e. e.column) (entries_of place row.terms) (entries_from (place + 1) rows) ∙ ap (λ cs. cs ++ map (λ e. e.column) (entries_from (place + 1) rows)) (columns_of_entries place row.terms)
    ∙ ap (λ cs. columns_of row.terms ++ cs) (columns_gathered (place + 1) rows)

-- what is left of the terms of rows once those of the columns below an end are taken
pub record IsRest (rows : List RowParts) (end : ℕ) (rest : List Entry) : Type 0 where
  pub rise : Rise end rest
  pub each : (column : ℕ) → end ≤ column → entries_at column rest ≡ entries_at column (entries_from 0 rows)

pub rest_first : (rows : List RowParts) (entries : List Entry) → AreGathered rows entries → IsRest rows 0 entries
rest_first rows entries are = record {
  rise = rise_by 0 entries are.rise (λ d some. omega arith);
  each = λ column from. are.each column;
}

named_in : (rows : List RowParts) (end : ℕ) (rest : List Entry) (column : ℕ) → IsRest rows end rest → end ≤ column → Contains (columns_in rows) column → entries_at column rest ≡ [] → ⊥
named_in rows end rest column is from among none =
    found_at column (entries_from 0 rows) (subst (λ cs. Contains cs column) (sym (columns_gathered 0 rows)) among) (sym (is.each column from) ∙ none)

-- once nothing is left, all columns are below the end
pub rest_none : (rows : List RowParts) (end : ℕ) (rest : List Entry) → IsRest rows end rest → rest ≡ [] → All (λ column. column < end) (columns_in rows)
rest_none rows end rest is none k d inside =
    let column = get_or (columns_in rows) k d in
    below_or column (λ from. named_in rows end rest column is from (k, inside, get_or_same (columns_in rows) k d inside) (ap (entries_at column) none))
  where
    below_or : (column : ℕ) → (end ≤ column → ⊥) → column < end
    below_or column past = grind arith

    get_or_same : (columns : List ℕ) (k d : ℕ) → k < length columns → get_or columns k (get_or columns k d) ≡ get_or columns k d
    get_or_same [] k d inside = absurd (omega arith)
    get_or_same (column ∷ columns) zero d inside = refl
    get_or_same (column ∷ columns) (suc k) d inside = get_or_same columns k d (omega (arith, inside))

-- the least column from the end on is that of the first entry that is left
pub rest_least : (rows : List RowParts) (end : ℕ) (rest : List Entry) (first : Entry) → IsRest rows end rest → 0 < length rest → first ≡ get_or rest 0 first
    → IsLeastFrom end (columns_in rows) (Some first.column)
rest_least rows end [] first is some here = absurd (omega arith)
rest_least rows end (e ∷ entries) first is some here =
    subst (λ x. IsLeastFrom end (columns_in rows) (Some x.column)) (sym here) (
      is.rise.0,
      subst (λ cs. Contains cs e.column) (columns_gathered 0 rows)
          (named_at e.column (entries_from 0 rows) (λ none. let clash = sym (kept e.column e entries refl) ∙ is.each e.column is.rise.0 ∙ none in cc)),
      λ k d inside from. least_of (get_or (columns_in rows) k d) from (k, inside, get_or_same (columns_in rows) k d inside),
    )
  where
    least_or : (m n : ℕ) → (m < n → ⊥) → n ≤ m
    least_or m n h = grind arith

    least_of : (other : ℕ) → end ≤ other → Contains (columns_in rows) other → e.column ≤ other
    least_of other from among = least_or other e.column (λ less. named_in rows end (e ∷ entries) other is from among (none_below e.column other (e ∷ entries) (omega arith, is.rise.1) less))

    get_or_same : (columns : List ℕ) (k d : ℕ) → k < length columns → get_or columns k (get_or columns k d) ≡ get_or columns k d
    get_or_same [] k d inside = absurd (omega arith)
    get_or_same (column ∷ columns) zero d inside = refl
    get_or_same (column ∷ columns) (suc k) d inside = get_or_same columns k d (omega (arith, inside))

-- the run of that column, and the rest after it
pub record IsRunTaken (rows : List RowParts) (column size : ℕ) (rest : List Entry) : Type 0 where
  pub run : take size rest ≡ entries_at column (entries_from 0 rows)
  pub later : IsRest rows (column + 1) (drop size rest)
  pub some : 0 < size

pub rest_more : (rows : List RowParts) (end size : ℕ) (rest : List Entry) (first : Entry) → IsRest rows end rest → 0 < length rest → first ≡ get_or rest 0 first
    → IsRunLength first.column rest size → IsRunTaken rows first.column size rest
rest_more rows end size [] first is some here run = absurd (omega arith)
rest_more rows end size (e ∷ entries) first is some here run =
    subst (λ x. IsRunTaken rows x.column size (e ∷ entries)) (sym here) (taken (subst (λ x. IsRunLength x.column (e ∷ entries) size) here run))
  where
    positive : (n : ℕ) → (0 ≡ n → ⊥) → 0 < n
    positive n h = grind arith

    taken : IsRunLength e.column (e ∷ entries) size → IsRunTaken rows e.column size (e ∷ entries)
    taken is_run =
        let split = run_split e.column size (e ∷ entries) (omega arith, is.rise.1) is_run in
        let from = is.rise.0 in
        record {
          run = sym split.run ∙ is.each e.column from;
          later = record {
            rise = split.later;
            each = λ column past. sym (split.others column (omega (arith, past))) ∙ is.each column (omega (arith, past));
          };
          some = positive size (λ zero'. subst (λ n. (d : Entry) → n < length (e ∷ entries) → (get_or (e ∷ entries) n d).column ≢ e.column) (sym zero') is_run.other e (omega arith) refl);
        }

-- what is known of the columns of the entries that were taken, and what is left
pub record AreSoFar (sum : List (RowParts × Ratio)) (columns : Columns) (rest : List Entry) : Type 0 where
  pub columns_are : AreColumnsBelow sum (columns_in (map (λ r. r.0) sum)) columns
  pub rest_is : IsRest (map (λ r. r.0) sum) columns.end rest
