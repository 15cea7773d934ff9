-- The first basis, of the rows, has their terms as its solved form.
use Rattle.std.proofs.Common.{◌≡◌, zero, suc, ◌+◌, ◌-◌, ◌<◌, ◌≤◌, arith, Bool, true, false, if◌then◌else◌, nat_lt, List, ◌∷◌, ◌++◌, length, replicate, map, get_or, Some, None, ap, sym, ◌∙◌, refl, subst, inl, inr, ℕ, []}
use Rattle.std.specs.List.{All}
use Rattle.std.proofs.lemmas.Bool.{cases_lt}
use Rattle.std.proofs.lemmas.Bool.Decides.{nat_tests}
use Rattle.bt_frac.specs.Ratio.{Ratio, SameRatio}
use Rattle.bt_frac.specs.Rows.{RowParts, IsRow}
use Rattle.bt_frac.specs.Values.{AreValues}
use Rattle.bt_farkas.specs.WeightedRows.{empty_row}
use Rattle.bt_linear_forms.specs.Lines.{Terms, IsLine, total}
use Rattle.bt_pivot.specs.SolvedForms.{Slots, slot_at, basis_from, basis_of, at_position, IsOutside, IsSolvedForm}
use Rattle.bt_pivot.specs.Tableaus.{AreOverColumns, IsTableau, IsNew, positions_from}
use Rattle.bt_pivot.specs.inner.Starts.{kept, start_slots}
use Rattle.bt_pivot.proofs.FirstLines.{kept_line, kept_total, kept_over}
use Rattle.bt_linear_forms.proofs.Numbers.{Alike, itself, back, next}
use Rattle.bt_pivot.proofs.Denominators.{stands_some}
use Rattle.bt_linear_forms.proofs.Zeros.{total_along}

slot_low : (columns p : ℕ) (more : Slots) → p < columns → slot_at (replicate columns None ++ more) p ≡ None
slot_low zero p more h = absurd (omega arith)
slot_low (suc columns) zero more h = refl
slot_low (suc columns) (suc p) more h = slot_low columns p more (omega arith)

slot_high : (columns i : ℕ) (more : Slots) → slot_at (replicate columns None ++ more) (columns + i) ≡ slot_at more i
slot_high zero i more = ap (λ n. slot_at more n) (let e : 0 + i ≡ i = omega arith in e)
slot_high (suc columns) i more =
    ap (λ n. slot_at (None ∷ (replicate columns None ++ more)) n) (let e : suc columns + i ≡ suc (columns + i) = omega arith in e) ∙ slot_high columns i more

slot_some : (rows : List RowParts) (i : ℕ) → i < length rows → slot_at (map (λ row. Some (kept row.terms)) rows) i ≡ Some (kept (get_or rows i empty_row).terms)
slot_some [] i h = absurd (omega arith)
slot_some (row ∷ rows) zero h = refl
slot_some (row ∷ rows) (suc i) h = slot_some rows i (omega arith)

slot_none : (rows : List RowParts) (i : ℕ) → length rows ≤ i → slot_at (map (λ row. Some (kept row.terms)) rows) i ≡ None
slot_none [] i h = refl
slot_none (row ∷ rows) zero h = absurd (omega arith)
slot_none (row ∷ rows) (suc i) h = slot_none rows i (omega arith)

-- the basis is the rows
basis_rows : (k : ℕ) (rows : List RowParts) → basis_from k (map (λ row. Some (kept row.terms)) rows) ≡ positions_from k rows
basis_rows k [] = refl
basis_rows k (row ∷ rows) = ap (λ l. k ∷ l) (basis_rows (k + 1) rows)

basis_at : (columns k : ℕ) (rows : List RowParts) → basis_from k (replicate columns None ++ map (λ row. Some (kept row.terms)) rows) ≡ positions_from (k + columns) rows
basis_at zero k rows = basis_rows k rows ∙ ap (λ n. positions_from n rows) (let e : k ≡ k + 0 = omega arith in e)
basis_at (suc columns) k rows =
    basis_at columns (k + 1) rows ∙ ap (λ n. positions_from n rows) (let e : k + 1 + columns ≡ k + suc columns = omega arith in e)

start_basis : (rows : List RowParts) (columns : ℕ) → basis_of (start_slots rows columns) ≡ positions_from columns rows
start_basis rows columns = basis_at columns 0 rows ∙ ap (λ n. positions_from n rows) (let e : 0 + columns ≡ columns = omega arith in e)

positions_length : (k : ℕ) (rows : List RowParts) → length (positions_from k rows) ≡ length rows
positions_length k [] = refl
positions_length k (row ∷ rows) = let rest = positions_length (k + 1) rows in omega arith

lines_length : (rows : List RowParts) → length (map (λ row. Some (kept row.terms)) rows) ≡ length rows
lines_length [] = refl
lines_length (row ∷ rows) = let rest = lines_length rows in omega arith

padded_length : (columns : ℕ) (more : Slots) → length (replicate columns None ++ more) ≡ columns + length more
padded_length zero more = let e : length more ≡ 0 + length more = omega arith in e
padded_length (suc columns) more = let rest = padded_length columns more in omega arith

start_length : (rows : List RowParts) (columns : ℕ) → length (start_slots rows columns) ≡ columns + length rows
start_length rows columns = padded_length columns (map (λ row. Some (kept row.terms)) rows) ∙ ap (λ n. columns + n) (lines_length rows)

column_at : (rows : List RowParts) (columns : ℕ) (values : ℕ → Ratio) (p : ℕ) → p < columns → at_position rows columns values p ≡ values p
column_at rows columns values p h =
    let test : nat_lt p columns ≡ true = grind (arith, nat_tests) in
    ap (λ b. if b then values p else total values (get_or rows (p - columns) empty_row).terms) test

row_at : (rows : List RowParts) (columns : ℕ) (values : ℕ → Ratio) (p : ℕ) → columns ≤ p → at_position rows columns values p ≡ total values (get_or rows (p - columns) empty_row).terms
row_at rows columns values p h =
    let test : nat_lt p columns ≡ false = grind (arith, nat_tests) in
    ap (λ b. if b then values p else total values (get_or rows (p - columns) empty_row).terms) test

module _ (rows : List RowParts) (columns : ℕ) (are : All IsRow rows) (over : AreOverColumns columns rows) where
  slot_of : (p : ℕ) → columns ≤ p → slot_at (start_slots rows columns) p ≡ slot_at (map (λ row. Some (kept row.terms)) rows) (p - columns)
  slot_of p h =
      ap (λ n. slot_at (start_slots rows columns) n) (let e : p ≡ columns + (p - columns) = omega arith in e)
      ∙ slot_high columns (p - columns) (map (λ row. Some (kept row.terms)) rows)

  -- a slot with a line is that of a row
  line_of : (p : ℕ) (terms : Terms) → slot_at (start_slots rows columns) p ≡ Some terms
      → (columns ≤ p) × (p - columns < length rows) × (terms ≡ kept (get_or rows (p - columns) empty_row).terms)
  line_of p terms e = elim (cases_lt p columns) [
    | inl low ↦ let none = slot_low columns p (map (λ row. Some (kept row.terms)) rows) low in absurd cc
    | inr high ↦ elim (cases_lt (p - columns) (length rows)) [
      | inl within ↦
          let same : Some terms ≡ Some (kept (get_or rows (p - columns) empty_row).terms) = sym e ∙ slot_of p high ∙ slot_some rows (p - columns) within in
          (high, within, cc)
      | inr past ↦ let none = slot_of p high ∙ slot_none rows (p - columns) past in absurd cc
    ]
  ]

  low_outside : (p : ℕ) → p < columns → IsOutside (start_slots rows columns) p
  low_outside p h = record { within = let l = start_length rows columns in omega arith; outside = slot_low columns p (map (λ row. Some (kept row.terms)) rows) h }

  outside_low : (p : ℕ) → IsOutside (start_slots rows columns) p → p < columns
  outside_low p o = elim (cases_lt p columns) [
    | inl low ↦ low
    | inr high ↦
        let within : p - columns < length rows = let l = start_length rows columns in let w = o.within in omega arith in
        let some = slot_of p high ∙ slot_some rows (p - columns) within in
        let none = o.outside in absurd cc
  ]

  row_line : (i : ℕ) → i < length rows → IsLine (kept (get_or rows i empty_row).terms)
  row_line i h = let row = are i empty_row h in kept_line 0 (get_or rows i empty_row).terms row.columns row.coefficients

  row_over : (i : ℕ) → i < length rows → All (λ t. t.0 < columns) (kept (get_or rows i empty_row).terms)
  row_over i h = kept_over (λ q. q < columns) (get_or rows i empty_row).terms (over i empty_row h)

  lines : (p : ℕ) (terms : Terms) → slot_at (start_slots rows columns) p ≡ Some terms → IsLine terms × All (λ t. IsOutside (start_slots rows columns) t.0) terms
  lines p terms e =
      let of = line_of p terms e in (
        subst (λ l. IsLine l) (sym of.2) (row_line (p - columns) of.1),
        subst (λ l. All (λ t. IsOutside (start_slots rows columns) t.0) l) (sym of.2) (λ k d h. low_outside _ (row_over (p - columns) of.1 k d h)),
      )

  holds : (values : ℕ → Ratio) → AreValues values → (p : ℕ) (terms : Terms) → slot_at (start_slots rows columns) p ≡ Some terms
      → SameRatio (at_position rows columns values p) (total (at_position rows columns values) terms)
  holds values some p terms e =
      let of = line_of p terms e in
      let row : RowParts = get_or rows (p - columns) empty_row in
      let at : ℕ → Ratio = at_position rows columns values in
      let stands = stands_some rows columns are values some in
      let along : Alike (total at (kept row.terms)) (total values (kept row.terms)) =
      total_along at values stands some (kept row.terms) (row_line (p - columns) of.1).numbers
      (λ k d h. let q : ℕ = (get_or (kept row.terms) k d).0 in
      subst (λ r. Alike r (values q)) (sym (column_at rows columns values q (row_over (p - columns) of.1 k d h))) (itself (values q) (some q))) in
      let whole = next along (kept_total values some row.terms (are (p - columns) empty_row of.1).coefficients) in
      subst (λ l. SameRatio (at p) (total at l)) (sym of.2) (subst (λ r. SameRatio r (total at (kept row.terms))) (sym (row_at rows columns values p of.0)) (back whole).same)

  pub start_solved : IsSolvedForm rows columns (start_slots rows columns)
  start_solved = record {
    positions = start_length rows columns;
    basis = ap length (start_basis rows columns) ∙ positions_length columns rows;
    lines = lines;
    holds = holds;
    free = λ numbers some. (
      numbers,
      some,
      λ p o. subst (λ r. SameRatio r (numbers p)) (sym (column_at rows columns numbers p (outside_low p o))) refl,
    );
  }

-- a new tableau is one, whose basis is the rows
pub start_tableau : (rows : List RowParts) (columns : ℕ) (rows' : List RowParts) (bound : List Bool) (slots : Slots) → All IsRow rows → AreOverColumns columns rows → rows' ≡ rows
    → bound ≡ replicate (length rows) false → slots ≡ start_slots rows columns → IsTableau (record { rows = rows'; columns = columns; bound = bound; slots = slots })
start_tableau rows columns rows' bound slots are over rows_are bound_are slots_are = record {
  rows = subst (λ l. All IsRow l) (sym rows_are) are;
  over = subst (λ l. AreOverColumns columns l) (sym rows_are) over;
  bound = ap length bound_are ∙ unbound_length (length rows) ∙ sym (ap length rows_are);
  solved = subst (λ s. IsSolvedForm rows' columns s) (sym slots_are) (subst (λ l. IsSolvedForm l columns (start_slots rows columns)) (sym rows_are) (start_solved rows columns are over));
}
  where
    unbound_length : (n : ℕ) → length (replicate n false) ≡ n
    unbound_length zero = refl
    unbound_length (suc n) = let rest = unbound_length n in omega arith

pub start_new : (rows : List RowParts) (columns : ℕ) (rows' : List RowParts) (bound : List Bool) (slots : Slots) → rows' ≡ rows → bound ≡ replicate (length rows) false
    → slots ≡ start_slots rows columns → IsNew rows columns (record { rows = rows'; columns = columns; bound = bound; slots = slots })
start_new rows columns rows' bound slots rows_are bound_are slots_are =
    record { rows_are = rows_are; columns_are = refl; bound = bound_are; basis = ap basis_of slots_are ∙ start_basis rows columns }
