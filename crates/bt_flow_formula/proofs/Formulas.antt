-- Clauses of claims that are named rightly and whose rows are rows are numbered as a formula.
use Rattle.std.proofs.Common.{ℕ, ◌<◌, ◌≤◌, ◌+◌, ◌*◌, true, List, [], ◌∷◌, ◌++◌, length, map, arith, sym, subst, length-append}
use Rattle.std.specs.List.{AllByRecursion, flat_map, range_with_len}
use Rattle.std.proofs.lemmas.List.{map-append}
use Rattle.bt_frac.specs.Rows.{RowParts, IsRow}
use Rattle.bt_cnf.specs.Formulas.{FormulaParts, LitsBelow, AscendBelow, IsFormula}
use Rattle.bt_flow_formula.specs.declared.state_literal.Pair.{Pair}
use Rattle.bt_flow_formula.specs.declared.state_literal.StateLiteral.{StateLiteral}
use Rattle.bt_flow_formula.specs.Numbering.{mentioned, rows_in, literals_from, clauses_from, atoms_from, formula_of, IsNamed, AreNamed}
use Rattle.bt_flow_formula.specs.declared.level.LevelRow.{LevelRow}
use Rattle.bt_flow_formula.specs.declared.level.LevelRow.TheVariants.{Below, Short, Reached}
use Rattle.bt_flow.specs.declared.ports.End.{End}
use Rattle.bt_flow.specs.declared.ports.End.TheVariants.{Input, Output}
use Rattle.bt_flow_formula.specs.Levels.{level_column, end_count, end_edge, limit_column, level_row, end_rows, level_rows, some_of, implies, each_implies, level_clauses, with_level}
use Rattle.bt_flow_formula.specs.FlowFormula.{leveled, flow_formula, steady_formula, flow_clauses, steady_clauses, variable_of}
use Rattle.bt_flow_formula.proofs.Numbers.{all_from, all_to, literals_below, named_in_range}
use Rattle.bt_flow_formula.proofs.Named.{families_named, flow_named}
use Rattle.bt_flow_formula.proofs.FlowRows.{IsColumn, above_row, not_below_row, flow_rows, steady_rows}
use Rattle.bt_flow_formula.proofs.Leveled.{level_count}
use Rattle.bt_flow_formula.proofs.Withins.{each-append, each-three, each-map, each-range, input_below, output_below}
use Rattle.bt_net.specs.Network.{Network, IsNetwork}
use Rattle.bt_flow.specs.declared.property.Property.{Property}
use Rattle.bt_flow.specs.declared.property.Property.TheVariants.{Balanced, DrawnEvenly, Unlimited, Full, Fair, DrawnFairly}

clauses_in_range : (at : Pair → ℕ) (n marks m : ℕ) (rows : List RowParts) (clauses : List (List StateLiteral)) → AllByRecursion (AllByRecursion (IsNamed at marks rows)) clauses
    → marks + length rows ≤ n → m + length (rows_in clauses) ≤ n → AllByRecursion (LitsBelow n) (clauses_from at m clauses)
clauses_in_range at n marks m rows [] h all l = tt
clauses_in_range at n marks m rows (claims ∷ clauses) h all l =
    let long = length-append (flat_map mentioned claims) (rows_in clauses) in (
      all_from (λ x. x.var < n) (literals_from at m claims) (literals_below at n m claims (named_in_range at marks n rows all claims h.0) (omega (arith, long, l))),
      clauses_in_range at n marks (m + length (flat_map mentioned claims)) rows clauses h.1 all (omega (arith, long, l)),
    )

pub ascend : (least m end : ℕ) (rows : List RowParts) → least ≤ m → m + length rows ≤ end → AscendBelow least end (map (λ a. a.0) (atoms_from m rows))
ascend least m end [] l few = tt
ascend least m end (row ∷ rows) l few = (l, omega arith, ascend (m + 1) (m + 1) end rows (omega arith) (omega arith))

pub are_rows : (m : ℕ) (rows : List RowParts) → AllByRecursion IsRow rows → AllByRecursion (λ a. IsRow a.1) (atoms_from m rows)
are_rows m [] h = tt
are_rows m (row ∷ rows) h = (h.0, are_rows (m + 1) rows h.1)

-- clauses of claims are numbered as a formula
pub numbered_is_formula : (at : Pair → ℕ) (marks : ℕ) (clauses : List (List StateLiteral)) → AreNamed at marks clauses → AllByRecursion IsRow (rows_in clauses) → IsFormula (formula_of at marks clauses)
numbered_is_formula at marks clauses h rows =
    let vars = marks + length (rows_in clauses) in
    record {
      clauses = all_from (LitsBelow vars) (clauses_from at marks clauses) (clauses_in_range at vars marks marks (rows_in clauses) clauses h (omega arith) (omega arith));
      atoms = ascend 0 marks vars (rows_in clauses) (omega arith) (omega arith);
      rows = all_from (λ a. IsRow a.1) (atoms_from marks (rows_in clauses)) (are_rows marks (rows_in clauses) rows);
    }

-- ---- a level

ascend_later : (least m end : ℕ) (xs : List ℕ) → least ≤ m → AscendBelow m end xs → AscendBelow least end xs
ascend_later least m end [] l h = tt
ascend_later least m end (x ∷ xs) l h = ((let a = h.0 in omega (arith, a, l)), h.1, h.2)

ascend_append : (least m end : ℕ) (xs ys : List ℕ) → least ≤ m → m ≤ end → AscendBelow least m xs → AscendBelow m end ys → AscendBelow least end (xs ++ ys)
ascend_append least m end [] ys l e h g = ascend_later least m end ys l g
ascend_append least m end (x ∷ xs) ys l e h g =
    let below = h.1 in (h.0, omega (arith, below, e), ascend_append (x + 1) m end xs ys (omega (arith, below)) e h.2 g)

pub some_below : (end first count : ℕ) → first + count ≤ end → LitsBelow end (some_of first count)
some_below end first count l =
    all_from (λ x. x.var < end) (some_of first count)
    (each-map (λ x. x.var < end) (λ k. k < count) (λ k. record { var = first + k; positive = true }) (range_with_len 0 count) (each-range (λ k. k < count) 0 count (λ k a b. omega (arith, b))) (λ k m. omega (arith, m, l)))

implied_below : (end a b : ℕ) → a < end → b < end → LitsBelow end (implies a b)
implied_below end a b l m = all_from (λ x. x.var < end) (implies a b) (l, (m, tt))

level_below : (end first count : ℕ) → first + 3 * count ≤ end → AllByRecursion (LitsBelow end) (level_clauses first count)
level_below end first count l = (
  some_below end first count (omega (arith, l)),
  each-append (LitsBelow end) (each_implies first count) (some_of (first + 2 * count) count ∷ [])
      (each-map (LitsBelow end) (λ k. k < count) (λ k. implies (first + k) (first + count + k)) (range_with_len 0 count) (each-range (λ k. k < count) 0 count (λ k a b. omega (arith, b)))
      (λ k m. implied_below end (first + k) (first + count + k) (omega (arith, l, m)) (omega (arith, l, m))))
      (some_below end (first + 2 * count) count (omega (arith, l)), tt),
)

module _ (n : Network) (is : IsNetwork n) where
  level_narrow : IsColumn (level_column n)
  level_narrow =
      let e = is.few_edges in
      let f = is.few_inputs in
      let g = is.few_outputs in
      omega (arith, e, f, g)

  edge_narrow : (end : End) (k : ℕ) → IsColumn (end_edge n end k)
  edge_narrow Input k = let l = input_below n is k in let e = is.few_edges in omega (arith, l, e)
  edge_narrow Output k = let l = output_below n is k in let e = is.few_edges in omega (arith, l, e)

  limit_narrow : (end : End) (k : ℕ) → k < end_count n end → IsColumn (limit_column n end k)
  limit_narrow Input k l =
      let e = is.few_edges in
      let f = is.few_inputs in
      omega (arith, e, f, l)
  limit_narrow Output k l =
      let e = is.few_edges in
      let f = is.few_inputs in
      let g = is.few_outputs in
      omega (arith, e, f, g, l)

  row_is : (end : End) (row : LevelRow) (k : ℕ) → k < end_count n end → IsRow (level_row n end row k)
  row_is end Below k l = above_row (level_column n) (end_edge n end k) level_narrow (edge_narrow end k)
  row_is end Short k l = above_row (limit_column n end k) (end_edge n end k) (limit_narrow end k l) (edge_narrow end k)
  row_is end Reached k l = not_below_row (end_edge n end k) (level_column n) (edge_narrow end k) level_narrow

  end_rows_are : (end : End) (row : LevelRow) → AllByRecursion IsRow (end_rows n end row)
  end_rows_are end row =
      each-map IsRow (λ k. k < end_count n end) (level_row n end row) (range_with_len 0 (end_count n end)) (each-range (λ k. k < end_count n end) 0 (end_count n end) (λ k a b. omega (arith, b))) (row_is end row)

  level_is_formula : (end : End) (f : FormulaParts) → IsFormula f → IsFormula (with_level n end f)
  level_is_formula end f h =
      let rows = level_rows n end in
      let vars = f.vars + length rows in
      let count = level_count n end in
      record {
        clauses = all_from (LitsBelow vars) (f.clauses ++ level_clauses f.vars (end_count n end))
            (each-append (LitsBelow vars) f.clauses (level_clauses f.vars (end_count n end))
            (all_to (LitsBelow vars) f.clauses (λ k d l i e m. let x = h.clauses k d l i e m in omega (arith, x)))
            (level_below vars f.vars (end_count n end) (omega (arith, count))));
        atoms = subst (AscendBelow 0 vars) (sym (map-append (λ a. a.0) f.atoms (atoms_from f.vars rows)))
            (ascend_append 0 f.vars vars (map (λ a. a.0) f.atoms) (map (λ a. a.0) (atoms_from f.vars rows)) (omega arith) (omega arith) h.atoms (ascend f.vars f.vars vars rows (omega arith) (omega arith)));
        rows = all_from (λ a. IsRow a.1) (f.atoms ++ atoms_from f.vars rows)
            (each-append (λ a. IsRow a.1) f.atoms (atoms_from f.vars rows) (all_to (λ a. IsRow a.1) f.atoms h.rows)
            (are_rows f.vars rows (each-three IsRow (end_rows n end Below) (end_rows n end Short) (end_rows n end Reached) (end_rows_are end Below) (end_rows_are end Short) (end_rows_are end Reached))));
      }

  leveled_is_formula : (p : Property) (f : FormulaParts) → IsFormula f → IsFormula (leveled n p f)
  leveled_is_formula Balanced f h = h
  leveled_is_formula DrawnEvenly f h = h
  leveled_is_formula Unlimited f h = h
  leveled_is_formula Full f h = h
  leveled_is_formula Fair f h = level_is_formula Output f h
  leveled_is_formula DrawnFairly f h = level_is_formula Input f h

-- the flow formula of a network is a formula
pub is_formula : (n : Network) (p : Property) → IsNetwork n → IsFormula (flow_formula n p)
is_formula n p is =
    leveled_is_formula n is p (formula_of (variable_of n) (length n.edges) (flow_clauses n p))
    (numbered_is_formula (variable_of n) (length n.edges) (flow_clauses n p) (flow_named n is p) (flow_rows n is p))

-- so is that of a network's steady states
pub steady_is_formula : (n : Network) → IsNetwork n → IsFormula (steady_formula n)
steady_is_formula n is = numbered_is_formula (variable_of n) (length n.edges) (steady_clauses n) (families_named n is) (steady_rows n is)
