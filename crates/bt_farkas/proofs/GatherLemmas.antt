-- The terms of rows, gathered row by row and sorted.
use Rattle.std.proofs.Common.{◌≡◌, ℕ, ◌<◌, ◌≤◌, ◌+◌, ◌-◌, ◌^◌, ◌==◌, arith, List, [], ◌∷◌, ◌++◌, length, get_or, take, append_assoc, ap, sym, ◌∙◌, refl, subst, append-nil}
use Rattle.std.specs.Prelude.{not, ◌&&◌}
use Rattle.std.specs.List.{All, filter}
use Rattle.std.specs.List.Sorted.{IsPermutation, IsNonDecreasingBy, IsStableByKey}
use Rattle.std.specs.Ordering.{is_lt, nat_cmp}
use Rattle.std.proofs.lemmas.Bool.Decides.{nat_tests}
use Rattle.std.proofs.lemmas.List.{take_more, map_push, get_or_default, length-take-le, length-map}
use Rattle.std.proofs.lemmas.List.Elements.{All-nil, All-cons, All-head, All-tail, All-push, All-append, filter_agree}
use Rattle.std.proofs.lemmas.List.Sorted.{All-permutation}
use Rattle.bt_frac.specs.Ratio.{Ratio}
use Rattle.bt_frac.specs.Columns.{AreColumnsFrom}
use Rattle.bt_frac.specs.Rows.{RowParts, HaveColumns, columns_of}
use Rattle.bt_frac.specs.Values.{nothing}
use Rattle.bt_farkas.specs.WeightedRows.{empty_row, picked}
use Rattle.bt_farkas.specs.inner.Gathering.{entries_of, entries_from, entries_at, AreGathered}
use Rattle.bt_farkas.specs.inner.Totals.{ArePicks}
use Rattle.bt_farkas.specs.declared.gathering.Entry.{Entry}

-- one more pick
pub picked_more : (rows : List RowParts) (picks : List ℕ) (i : ℕ) (row : RowParts) → ArePicks rows picks → i < length picks → row ≡ get_or rows (get_or picks i 0) row
    → picked rows (take (i + 1) picks) ≡ picked rows (take i picks) ++ row ∷ []
picked_more rows picks i row are inside is =
    ap (picked rows) (take_more picks i 0 inside) ∙ map_push (λ p. get_or rows p empty_row) (take i picks) (get_or picks i 0)
    ∙ ap (λ r. picked rows (take i picks) ++ r ∷ []) (get_or_default rows (get_or picks i 0) empty_row row (are i 0 inside) ∙ sym is)

regrouped : (xs ys zs : List Entry) → xs ++ (ys ++ zs) ≡ (xs ++ ys) ++ zs
regrouped xs ys zs = rw append_assoc refl

-- the terms of one more row
pub gathered_more : (place : ℕ) (rows : List RowParts) (row : RowParts) → entries_from place (rows ++ row ∷ []) ≡ entries_from place rows ++ entries_of (place + length rows) row.terms
gathered_more place [] row = append-nil (entries_of place row.terms) ∙ ap (λ n. entries_of n row.terms) (let e : place ≡ place + 0 = omega arith in e)
gathered_more place (r ∷ rows) row =
    ap (λ es. entries_of place r.terms ++ es) (gathered_more (place + 1) rows row)
    ∙ ap (λ n. entries_of place r.terms ++ (entries_from (place + 1) rows ++ entries_of n row.terms)) (let e : place + 1 + length rows ≡ place + length (r ∷ rows) = omega arith in e)
    ∙ regrouped (entries_of place r.terms) (entries_from (place + 1) rows) (entries_of (place + length (r ∷ rows)) row.terms)

-- what is gathered of the first picks
pub record IsGatheredOf (rows : List RowParts) (entries : List Entry) : Type 0 where
  pub entries_are : entries ≡ entries_from 0 rows
  pub ascend : All (λ (row : RowParts). HaveColumns row.terms) rows

pub gather_more : (rows : List RowParts) (picks : List ℕ) (i : ℕ) (row : RowParts) (before after : List Entry) → ArePicks rows picks → i < length picks
    → row ≡ get_or rows (get_or picks i 0) row → HaveColumns row.terms → before ≡ entries_from 0 (picked rows (take i picks))
    → All (λ (row : RowParts). HaveColumns row.terms) (picked rows (take i picks)) → after ≡ before ++ entries_of i row.terms → IsGatheredOf (picked rows (take (i + 1) picks)) after
gather_more rows picks i row before after are inside here columns is ascend added =
    let size : 0 + length (picked rows (take i picks)) ≡ i =
    (let e = length-map (take i picks) (λ p. get_or rows p empty_row) ∙ length-take-le i picks (omega arith) in omega (arith, e)) in
    let more = picked_more rows picks i row are inside here in
    record {
      entries_are =
          added ∙ ap (λ es. es ++ entries_of i row.terms) is ∙ ap (λ n. entries_from 0 (picked rows (take i picks)) ++ entries_of n row.terms) (sym size)
          ∙ sym (gathered_more 0 (picked rows (take i picks)) row) ∙ ap (entries_from 0) (sym more);
      ascend = subst (All (λ (r : RowParts). HaveColumns r.terms)) (sym more) (All-push (λ (r : RowParts). HaveColumns r.terms) (picked rows (take i picks)) row ascend columns);
    }

-- two numbers tie where they are equal
tie_is : (m n : ℕ) → (not (is_lt (nat_cmp m n)) && not (is_lt (nat_cmp n m))) ≡ (n == m)
tie_is m n = grind (arith, nat_tests)

rows_of_terms : (place end : ℕ) (terms : List (ℕ × Ratio)) → place < end → All (λ (e : Entry). e.row < end) (entries_of place terms)
rows_of_terms place end [] less = All-nil (λ (e : Entry). e.row < end)
rows_of_terms place end (term ∷ terms) less =
    All-cons (λ (e : Entry). e.row < end) (record { column = term.0; row = place; coefficient = term.1 }) (entries_of place terms) less (rows_of_terms place end terms less)

rows_within : (place end : ℕ) (rows : List RowParts) → place + length rows ≤ end → All (λ (e : Entry). e.row < end) (entries_from place rows)
rows_within place end [] most = All-nil (λ (e : Entry). e.row < end)
rows_within place end (r ∷ rows) most =
    All-append (λ (e : Entry). e.row < end) (entries_of place r.terms) (entries_from (place + 1) rows) (rows_of_terms place end r.terms (omega arith)) (rows_within (place + 1) end rows (omega arith))

columns_of_terms : (place least : ℕ) (terms : List (ℕ × Ratio)) → AreColumnsFrom least (columns_of terms) → All (λ (e : Entry). e.column < 2 ^ 64 - 1) (entries_of place terms)
columns_of_terms place least [] are = All-nil (λ (e : Entry). e.column < 2 ^ 64 - 1)
columns_of_terms place least (term ∷ terms) are =
    All-cons (λ (e : Entry). e.column < 2 ^ 64 - 1) (record { column = term.0; row = place; coefficient = term.1 }) (entries_of place terms) are.1 (columns_of_terms place (term.0 + 1) terms are.2)

columns_within : (place : ℕ) (rows : List RowParts) → All (λ (row : RowParts). HaveColumns row.terms) rows → All (λ (e : Entry). e.column < 2 ^ 64 - 1) (entries_from place rows)
columns_within place [] are = All-nil (λ (e : Entry). e.column < 2 ^ 64 - 1)
columns_within place (r ∷ rows) are =
    All-append (λ (e : Entry). e.column < 2 ^ 64 - 1) (entries_of place r.terms) (entries_from (place + 1) rows)
    (columns_of_terms place 0 r.terms (All-head (λ (row : RowParts). HaveColumns row.terms) r rows are))
    (columns_within (place + 1) rows (All-tail (λ (row : RowParts). HaveColumns row.terms) r rows are))

-- sorted by their columns, and those of a column left in their order
pub gathered_sorted : (rows : List RowParts) (before after : List Entry) → before ≡ entries_from 0 rows → All (λ (row : RowParts). HaveColumns row.terms) rows → IsPermutation before after
    → IsNonDecreasingBy (λ (e : Entry). e.column) after → IsStableByKey (λ (e : Entry). e.column) nat_cmp before after → AreGathered rows after
gathered_sorted rows before after is ascend moved rise stable = record {
  rise = rise;
  each = λ column.
      let of_column : Entry = record { column = column; row = 0; coefficient = nothing } in
      let tied : (xs : List Entry) → filter (λ e. not (is_lt (nat_cmp column e.column)) && not (is_lt (nat_cmp e.column column))) xs ≡ entries_at column xs =
      filter_agree (λ e. not (is_lt (nat_cmp column e.column)) && not (is_lt (nat_cmp e.column column))) (λ e. e.column == column) (λ e. tie_is column e.column) in
      sym (tied after) ∙ stable of_column ∙ tied before ∙ ap (entries_at column) is;
  rows_below = All-permutation (λ (e : Entry). e.row < length rows) before after moved
      (subst (All (λ (e : Entry). e.row < length rows)) (sym is) (rows_within 0 (length rows) rows (omega arith)));
  columns_below = All-permutation (λ (e : Entry). e.column < 2 ^ 64 - 1) before after moved
      (subst (All (λ (e : Entry). e.column < 2 ^ 64 - 1)) (sym is) (columns_within 0 rows ascend));
  ascend = ascend;
}
