-- The formula of two networks is a formula, and a small one.
use Rattle.std.proofs.Common.{◌≡◌, ℕ, ◌<◌, ◌≤◌, ◌+◌, ◌*◌, ◌-◌, ◌^◌, Bool, true, false, List, [], ◌∷◌, ◌++◌, length, map, cond, ltb, ap, sym, ◌∙◌, refl, subst, arith, zero, suc, length-append}
use Rattle.std.specs.List.{All, AllByRecursion, flat_map, range_with_len}
use Rattle.std.proofs.lemmas.Bool.{lt-ltb, ltb-true}
use Rattle.std.proofs.lemmas.List.{length-map}
use Rattle.bt_frac.specs.Ratio.{Ratio, IsLowest}
use Rattle.bt_frac.specs.Columns.{AreColumnsFrom}
use Rattle.bt_frac.specs.Rows.{RowParts, IsRow, columns_of}
use Rattle.bt_cnf.specs.declared.literal.Lit.{Lit}
use Rattle.bt_cnf.specs.Formulas.{LitsBelow, AscendBelow, IsFormula}
use Rattle.bt_net.specs.Network.{Network, IsNetwork}
use Rattle.bt_flow.specs.EndEdges.{output_edge}
use Rattle.bt_flow_formula.specs.Numbering.{mentioned, rows_in, atoms_from}
use Rattle.bt_flow_formula.specs.Properties.{differ}
use Rattle.bt_flow_formula.specs.FlowFormula.{steady_clauses, steady_formula}
use Rattle.bt_flow_formula.proofs.FlowRows.{MentionsRow, above_row, steady_rows}
use Rattle.bt_flow_formula.proofs.Formulas.{numbered_is_formula, ascend, are_rows, steady_is_formula}
use Rattle.bt_flow_formula.proofs.Narrow.{IsNarrow, IsNarrowRow, output_narrow, steady_narrow}
use Rattle.bt_flow_formula.proofs.Numbers.{all_from, all_to, atoms-append}
use Rattle.bt_flow_formula.proofs.Sizes.{steady_formulas_small}
use Rattle.bt_flow_formula.proofs.Withins.{each-three, each-flat_map, each-map, each_any}
use Rattle.bt_same.specs.declared.shift.Shift.{Shift}
use Rattle.bt_same.specs.SameFormula.{shifted, first_shift, second_columns, second_vars, moved_lits, moved_row, moved_atoms, difference, difference_formula, same_formula}
use Rattle.bt_same.specs.Sizes.{SameFormulasAreFormulas, SameFormulasAreSmall}
use Rattle.bt_same.proofs.Moved.{moved_from}
use Rattle.bt_same.proofs.Sides.{named}

module _ (shift : Shift) where
  -- where both ways to go are below an end, a number goes below it
  shifted_below : (k end : ℕ) → k + shift.near < end → k + shift.far < end → shifted shift k < end
  shifted_below k end l m = elim (ltb k shift.edges) as (λ b. cond b (k + shift.near) (k + shift.far) < end) [ true ↦ l | false ↦ m ]

  strict_at : shift.near ≤ shift.far → (c d : ℕ) → c < d → (x y : Bool) → ltb c shift.edges ≡ x → ltb d shift.edges ≡ y
      → cond x (c + shift.near) (c + shift.far) < cond y (d + shift.near) (d + shift.far)
  strict_at far c d l true true e f = omega (arith, l)
  strict_at far c d l true false e f = omega (arith, l, far)
  strict_at far c d l false false e f = omega (arith, l)
  strict_at far c d l false true e f = let below = ltb-true d shift.edges f in let same : false ≡ true = sym e ∙ lt-ltb c shift.edges (omega (arith, l, below)) in cc

  -- numbers keep their order
  shifted_strict : shift.near ≤ shift.far → (c d : ℕ) → c < d → shifted shift c < shifted shift d
  shifted_strict far c d l = strict_at far c d l (ltb c shift.edges) (ltb d shift.edges) refl refl

  module _ (far : shift.near ≤ shift.far) (small : shift.far < 2 ^ 16) where
    moved_columns : (least other : ℕ) (terms : List (ℕ × Ratio)) → ((c : ℕ) → least ≤ c → other ≤ shifted shift c) → AreColumnsFrom least (columns_of terms)
        → AllByRecursion IsNarrow (columns_of terms) → AreColumnsFrom other (columns_of (map (λ t. (shifted shift t.0, t.1)) terms))
    moved_columns least other [] above h narrow = tt
    moved_columns least other (t ∷ terms) above h narrow =
        let low = narrow.0 in (
          above t.0 h.0,
          shifted_below t.0 (2 ^ 64 - 1) (omega (arith, low, far, small)) (omega (arith, low, small)),
          moved_columns (t.0 + 1) (shifted shift t.0 + 1) terms (λ c l. let z : shifted shift t.0 < shifted shift c = shifted_strict far t.0 c (omega (arith, l)) in omega (arith, z)) h.2 narrow.1,
        )

    -- a row that goes elsewhere is a row
    moved_is_row : (row : RowParts) → IsRow row → IsNarrowRow row → IsRow (moved_row shift row)
    moved_is_row row is narrow = record {
      columns = moved_columns 0 0 row.terms (λ c l. omega arith) is.columns narrow;
      coefficients = all_from (λ t. IsLowest t.1) (map (λ t. (shifted shift t.0, t.1)) row.terms)
          (each-map (λ t. IsLowest t.1) (λ t. IsLowest t.1) (λ t. (shifted shift t.0, t.1)) row.terms (all_to (λ t. IsLowest t.1) row.terms is.coefficients) (λ t h. h));
      bound = is.bound;
    }

    moved_are_rows : (rows : List RowParts) → AllByRecursion IsRow rows → AllByRecursion IsNarrowRow rows → AllByRecursion IsRow (map (moved_row shift) rows)
    moved_are_rows [] h narrow = tt
    moved_are_rows (row ∷ rows) h narrow = (moved_is_row row h.0 narrow.0, moved_are_rows rows h.1 narrow.1)

  -- literals go below an end where their variables do
  moved_below : (vars end : ℕ) → ((k : ℕ) → k < vars → shifted shift k < end) → (clauses : List (List Lit)) → All (LitsBelow vars) clauses
      → AllByRecursion (LitsBelow end) (map (moved_lits shift) clauses)
  moved_below vars end below clauses h =
      each-map (LitsBelow end) (LitsBelow vars) (moved_lits shift) clauses (all_to (LitsBelow vars) clauses h)
      (λ lits g. all_from (λ l. l.var < end) (moved_lits shift lits)
      (each-map (λ l. l.var < end) (λ l. l.var < vars) (λ l. record { var = shifted shift l.var; positive = l.positive }) lits (all_to (λ l. l.var < vars) lits g) (λ l. below l.var)))

-- of so many outputs two rows each say that the flows differ
difference_few : (x y : ℕ → ℕ) (m count : ℕ) → length (flat_map mentioned (flat_map (λ o. differ (x o) (y o)) (range_with_len m count))) ≤ 2 * count
difference_few x y m zero = omega arith
difference_few x y m (suc count) = let l = difference_few x y (m + 1) count in omega (arith, l)

module _ (a b : Network) (first : IsNetwork a) (second : IsNetwork b) where
  abbrev marks : ℕ
  marks = length a.edges + length b.edges

  abbrev ones : List RowParts
  ones = map (moved_row (first_shift a b)) (rows_in (steady_clauses a))

  abbrev twos : List RowParts
  twos = map (moved_row (second_columns a b)) (rows_in (steady_clauses b))

  abbrev others : List RowParts
  others = rows_in (difference a b ∷ [])

  abbrev base : ℕ
  base = (steady_formula a).vars + (steady_formula b).vars

  abbrev end : ℕ
  end = (same_formula a b).vars

  ones_long : length ones ≡ length (rows_in (steady_clauses a))
  ones_long = length-map (rows_in (steady_clauses a)) (moved_row (first_shift a b))

  twos_long : length twos ≡ length (rows_in (steady_clauses b))
  twos_long = length-map (rows_in (steady_clauses b)) (moved_row (second_columns a b))

  -- the atoms are the rows of the first, of the second and of the difference, one after another
  atoms_are : (same_formula a b).atoms ≡ atoms_from marks (ones ++ twos ++ others)
  atoms_are =
      let long = length-append ones twos in
      let one = ones_long in
      let two = twos_long in
      sym (
      atoms-append marks (ones ++ twos) others
      ∙ ap (λ l. l ++ atoms_from (marks + length (ones ++ twos)) others)
      (atoms-append marks ones twos
      ∙ ap (λ l. l ++ atoms_from (marks + length ones) twos) (moved_from (first_shift a b) (first_shift a b) (length a.edges) marks (rows_in (steady_clauses a)) (omega arith) refl)
      ∙ ap (λ l. moved_atoms (first_shift a b) (first_shift a b) (steady_formula a).atoms ++ l)
      (moved_from (second_vars a b) (second_columns a b) (length b.edges) (marks + length ones) (rows_in (steady_clauses b)) (omega arith) (omega (arith, one))))
      ∙ ap (λ k. moved_atoms (first_shift a b) (first_shift a b) (steady_formula a).atoms ++ moved_atoms (second_vars a b) (second_columns a b) (steady_formula b).atoms ++ atoms_from k others)
      (let z : marks + length (ones ++ twos) ≡ base = omega (arith, long, one, two) in z)
      )

  first_far : (first_shift a b).far < 2 ^ 16
  first_far = let e = second.few_edges in omega (arith, e)

  second_far : (second_columns a b).far < 2 ^ 16
  second_far = let e = first.few_edges in omega (arith, e)

  others_are : AllByRecursion IsRow others
  others_are =
      each-flat_map IsRow (AllByRecursion MentionsRow) (flat_map mentioned) (difference a b ∷ [])
      (each-flat_map MentionsRow (λ o. Unit {0}) (λ o. differ (output_edge a o) (output_edge b o + length a.edges)) (range_with_len 0 a.outputs) (each_any (range_with_len 0 a.outputs)) differ_rows, tt)
      (λ claims h. each-flat_map IsRow MentionsRow mentioned claims h (λ claim r. r))
    where
      differ_rows : (o : ℕ) → Unit {0} → AllByRecursion MentionsRow (differ (output_edge a o) (output_edge b o + length a.edges))
      differ_rows o t =
          let x = output_narrow a first o in
          let y = output_narrow b second o in
          let e = first.few_edges in
          let one : output_edge a o < 2 ^ 64 - 1 = omega (arith, x) in
          let two : output_edge b o + length a.edges < 2 ^ 64 - 1 = omega (arith, y, e) in
          ((above_row (output_edge a o) (output_edge b o + length a.edges) one two, tt), ((above_row (output_edge b o + length a.edges) (output_edge a o) two one, tt), tt))

  all_rows : AllByRecursion IsRow (ones ++ twos ++ others)
  all_rows =
      each-three IsRow ones twos others
      (moved_are_rows (first_shift a b) (omega arith) first_far (rows_in (steady_clauses a)) (steady_rows a first) (steady_narrow a first))
      (moved_are_rows (second_columns a b) (omega arith) second_far (rows_in (steady_clauses b)) (steady_rows b second) (steady_narrow b second)) others_are

  first_below : (k : ℕ) → k < (steady_formula a).vars → shifted (first_shift a b) k < end
  first_below k l = shifted_below (first_shift a b) k end (omega (arith, l)) (omega (arith, l))

  second_below : (k : ℕ) → k < (steady_formula b).vars → shifted (second_vars a b) k < end
  second_below k l = shifted_below (second_vars a b) k end (omega (arith, l)) (omega (arith, l))

  clauses_below : AllByRecursion (LitsBelow end) (same_formula a b).clauses
  clauses_below =
      each-three (LitsBelow end) (map (moved_lits (first_shift a b)) (steady_formula a).clauses) (map (moved_lits (second_vars a b)) (steady_formula b).clauses) (difference_formula a b base).clauses
      (moved_below (first_shift a b) (steady_formula a).vars end first_below (steady_formula a).clauses (steady_is_formula a first).clauses)
      (moved_below (second_vars a b) (steady_formula b).vars end second_below (steady_formula b).clauses (steady_is_formula b second).clauses)
      (all_to (LitsBelow end) (difference_formula a b base).clauses
      (numbered_is_formula (λ pair. 0) base (difference a b ∷ []) (named a b (λ pair. 0) base) others_are).clauses)

  pub formed : IsFormula (same_formula a b)
  formed =
      let long = length-append (ones ++ twos) others in
      let more = length-append ones twos in
      let one = ones_long in
      let two = twos_long in
      record {
        clauses = all_from (LitsBelow end) (same_formula a b).clauses clauses_below;
        atoms = subst (λ l. AscendBelow 0 end (map (λ x. x.0) l)) (sym atoms_are) (ascend 0 marks end (ones ++ twos ++ others) (omega arith) (omega (arith, long, more, one, two)));
        rows = subst (λ l. All (λ x. IsRow x.1) l) (sym atoms_are) (all_from (λ x. IsRow x.1) (atoms_from marks (ones ++ twos ++ others)) (are_rows marks (ones ++ twos ++ others) all_rows));
      }

pub same_formulas_are_formulas : SameFormulasAreFormulas
same_formulas_are_formulas a b first second = formed a b first second

pub same_formulas_small : SameFormulasAreSmall
same_formulas_small a b first second =
    let one = steady_formulas_small a first in
    let two = steady_formulas_small b second in
    let vars = one.vars in
    let more_vars = two.vars in
    let clauses = one.clauses in
    let more_clauses = two.clauses in
    let outputs = first.few_outputs in
    let rows = difference_few (output_edge a) (λ o. output_edge b o + length a.edges) 0 a.outputs in
    let last = length-append (flat_map mentioned (difference a b)) [] in
    let cs : List (List Lit) = map (moved_lits (first_shift a b)) (steady_formula a).clauses in
    let ds : List (List Lit) = map (moved_lits (second_vars a b)) (steady_formula b).clauses in
    let long = length-append (cs ++ ds) (difference_formula a b ((steady_formula a).vars + (steady_formula b).vars)).clauses in
    let more = length-append cs ds in
    let first_long = length-map (steady_formula a).clauses (moved_lits (first_shift a b)) in
    let second_long = length-map (steady_formula b).clauses (moved_lits (second_vars a b)) in
    record { vars = omega (arith, vars, more_vars, outputs, rows, last); clauses = omega (arith, clauses, more_clauses, long, more, first_long, second_long) }
