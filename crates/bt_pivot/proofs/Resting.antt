-- What lines add up to where their positions rest.
use Rattle.std.proofs.Common.{◌≡◌, ◌+◌, ◌-◌, ◌<◌, arith, Bool, true, false, if◌then◌else◌, nat_lt, zero, suc, get_or, take, List, ◌∷◌, ◌++◌, length, Option, Some, None, inl, inr, ap, sym, ◌∙◌, refl, subst, ℕ, []}
use Rattle.std.specs.List.{All}
use Rattle.std.proofs.lemmas.List.{take_more, get_or_past}
use Rattle.std.proofs.lemmas.List.Elements.{All-head, All-tail, All-take}
use Rattle.bt_frac.specs.Ratio.{Ratio, IsSum}
use Rattle.bt_frac.specs.Products.{IsProduct}
use Rattle.bt_frac.specs.Rows.{RowParts, IsRow}
use Rattle.bt_frac.specs.Values.{AreValues, nothing, plus, times}
use Rattle.bt_frac.specs.declared.delta.Delta.{Delta}
use Rattle.bt_frac.specs.declared.relation.Relation.{Relation}
use Rattle.bt_frac.specs.declared.relation.Relation.TheVariants.{AtLeast, Above, Equal}
use Rattle.bt_farkas.specs.WeightedRows.{empty_row}
use Rattle.bt_linear_forms.specs.Lines.{Terms, HasNumber, total}
use Rattle.bt_pivot.specs.Tableaus.{TableauParts, IsTableau}
use Rattle.bt_pivot.specs.SolvedForms.{slot_at}
use Rattle.std.proofs.lemmas.Bool.{cases_lt}
use Rattle.std.proofs.lemmas.Bool.Decides.{nat_tests}
use Rattle.bt_pivot.specs.Points.{bound_row, tiny_of, value_or_zero, resting, standing, point_at, IsSamePoint}
use Rattle.bt_linear_forms.proofs.Numbers.{Positive, nothing_some, Alike, alike, itself, back, next, both_plus, swap_plus, group_plus, plus_positive, times_positive}
use Rattle.bt_linear_forms.proofs.Totals.{total_positive}

pub tiny_some : (r : Relation) → Positive (tiny_of r)
tiny_some AtLeast = omega arith
tiny_some Above = omega arith
tiny_some Equal = omega arith

pub bound_some : (rows : List RowParts) (i : ℕ) → All IsRow rows → Positive (get_or rows i empty_row).bound
bound_some [] i all = omega arith
bound_some (row ∷ rows) zero all = (All-head IsRow row rows all).bound.positive
bound_some (row ∷ rows) (suc i) all = bound_some rows i (All-tail IsRow row rows all)

-- where positions rest has positive denominators
pub rest_value : (t : TableauParts) → All IsRow t.rows → AreValues (λ p. (resting t p).value)
rest_value t all p = first (nat_lt p t.columns)
  where
    second : (b : Bool) → Positive (value_or_zero (if b then Some (get_or t.rows (p - t.columns) empty_row) else None)).value
    second true = bound_some t.rows (p - t.columns) all
    second false = nothing_some

    first : (b : Bool) → Positive (value_or_zero (if b then None else if get_or t.bound (p - t.columns) false then Some (get_or t.rows (p - t.columns) empty_row) else None)).value
    first true = nothing_some
    first false = second (get_or t.bound (p - t.columns) false)

pub rest_tiny : (t : TableauParts) → AreValues (λ p. (resting t p).tiny)
rest_tiny t p = first (nat_lt p t.columns)
  where
    second : (b : Bool) → Positive (value_or_zero (if b then Some (get_or t.rows (p - t.columns) empty_row) else None)).tiny
    second true = tiny_some (get_or t.rows (p - t.columns) empty_row).relation
    second false = nothing_some

    first : (b : Bool) → Positive (value_or_zero (if b then None else if get_or t.bound (p - t.columns) false then Some (get_or t.rows (p - t.columns) empty_row) else None)).tiny
    first true = nothing_some
    first false = second (get_or t.bound (p - t.columns) false)

-- one more term at the end of a sum
total_push : (at : ℕ → Ratio) → AreValues at → (terms : Terms) → All HasNumber terms → (x : ℕ × Ratio) → Positive x.1
    → Alike (total at (terms ++ x ∷ [])) (plus (total at terms) (times x.1 (at x.0)))
total_push at some [] all x has = swap_plus (times x.1 (at x.0)) nothing (times_positive x.1 (at x.0) has (some x.0)) nothing_some
total_push at some (t ∷ terms) all x has =
    let rest = All-tail HasNumber t terms all in
    let first = times_positive t.1 (at t.0) (All-head HasNumber t terms all).0.positive (some t.0) in
    let last = times_positive x.1 (at x.0) has (some x.0) in
    next (both_plus (itself (times t.1 (at t.0)) first) (total_push at some terms rest x has))
    (back (group_plus (times t.1 (at t.0)) (total at terms) (times x.1 (at x.0)) first (total_positive at some terms rest) last))

-- a running sum with one more product
pub part_more : (at : ℕ → Ratio) → AreValues at → (terms : Terms) → All HasNumber terms → (i : ℕ) (x : ℕ × Ratio) (sum product after : Ratio) → i < length terms → x ≡ get_or terms i x → Positive x.1
    → Alike sum (total at (take i terms)) → Positive product → IsProduct x.1 (at x.0) product → Positive after → IsSum sum product after → Alike after (total at (take (i + 1) terms))
part_more at some terms all i x sum product after inside is has so_far product_some is_product after_some is_sum =
    let told = alike product (times x.1 (at x.0)) product_some (times_positive x.1 (at x.0) has (some x.0)) is_product in
    let added = alike after (plus sum product) after_some (plus_positive sum product so_far.left product_some) is_sum in
    let pushed = back (total_push at some (take i terms) (All-take HasNumber i terms all) x has) in
    let more : take (i + 1) terms ≡ take i terms ++ x ∷ [] = take_more terms i x inside ∙ ap (λ t. take i terms ++ t ∷ []) (sym is) in
    subst (λ ts. Alike after (total at ts)) (sym more) (next added (next (both_plus so_far told) pushed))

-- and every other position where it rests
pub rest_stands : (t : TableauParts) (position : ℕ) (d : Delta) → All IsRow t.rows → slot_at t.slots position ≡ None → d ≡ resting t position → IsSamePoint d (point_at t position)
rest_stands t position d rows none is = subst (λ slot. IsSamePoint d (standing (resting t) position slot)) (sym none) (subst (λ e. IsSamePoint e (resting t position)) (sym is) rests)
  where
    rests : IsSamePoint (resting t position) (resting t position)
    rests =
        record {
          left_value = rest_value t rows position;
          left_tiny = rest_tiny t position;
          right_value = rest_value t rows position;
          right_tiny = rest_tiny t position;
          same = (refl, refl);
        }

-- where positions stand has positive denominators
pub point_some : (t : TableauParts) → IsTableau t → (p : ℕ) → Positive (point_at t p).value × Positive (point_at t p).tiny
point_some t tableau p = at (slot_at t.slots p) refl
  where
    at : (o : Option Terms) → slot_at t.slots p ≡ o → Positive (standing (resting t) p o).value × Positive (standing (resting t) p o).tiny
    at None e = (rest_value t tableau.rows p, rest_tiny t p)
    at (Some terms) e =
        let numbers = (tableau.solved.lines p terms e).0.numbers in
        (total_positive (λ q. (resting t q).value) (rest_value t tableau.rows) terms numbers, total_positive (λ q. (resting t q).tiny) (rest_tiny t) terms numbers)

-- the bound of a bound row has a positive denominator
pub bound_some_of : (t : TableauParts) → All IsRow t.rows → (p : ℕ) (row : RowParts) → bound_row t p ≡ Some row → Positive row.bound
bound_some_of t rows p row e = subst (λ o. Positive (value_or_zero o).value) e (rest_value t rows p)

-- a bound row is one of the positions
pub bound_within : (t : TableauParts) → IsTableau t → (p : ℕ) (row : RowParts) → bound_row t p ≡ Some row → p < length t.slots
bound_within t tableau p row e = elim (cases_lt p (length t.slots)) [
  | inl within ↦ within
  | inr past ↦
      let count = tableau.solved.positions in
      let same = tableau.bound in
      let over : nat_lt p t.columns ≡ false = grind (arith, nat_tests) in
      let none : get_or t.bound (p - t.columns) false ≡ false = get_or_past t.bound (p - t.columns) false (omega arith) in
      let first : bound_row t p ≡ (if get_or t.bound (p - t.columns) false then Some (get_or t.rows (p - t.columns) empty_row) else None) =
      ap (λ b. if b then None else if get_or t.bound (p - t.columns) false then Some (get_or t.rows (p - t.columns) empty_row) else None) over in
      let second : bound_row t p ≡ None = first ∙ ap (λ b. if b then Some (get_or t.rows (p - t.columns) empty_row) else None) none in
      let both : None ≡ Some row = sym second ∙ e in
      absurd cc
]
