-- Flow formulas have rows: a network has an input, so it has an edge, whose flow has bounds.
use Rattle.std.proofs.Common.{◌≡◌, ℕ, suc, ◌+◌, List, [], ◌∷◌, ◌++◌, length, flat_map, refl, sym, subst, arith, append_assoc, append-nil}
use Rattle.std.specs.List.{range_with_len}
use Rattle.std.specs.Prelude.{count_by}
use Rattle.bt_frac.specs.Rows.{RowParts}
use Rattle.bt_net.specs.Network.{Network, IsNetwork, is_input}
use Rattle.bt_net.specs.declared.network.Edge.{Edge}
use Rattle.bt_flow.specs.declared.property.Property.{Property}
use Rattle.bt_flow.specs.declared.property.Property.TheVariants.{Balanced, DrawnEvenly, Unlimited, Full, Fair, DrawnFairly}
use Rattle.bt_flow.specs.declared.ports.End.TheVariants.{Input, Output}
use Rattle.bt_cnf.specs.Formulas.{FormulaParts}
use Rattle.bt_flow_formula.specs.declared.state_literal.StateLiteral.{StateLiteral}
use Rattle.bt_flow_formula.specs.declared.clause_family.ClauseFamily.{ClauseFamily}
use Rattle.bt_flow_formula.specs.declared.clause_family.ClauseFamily.TheVariants.{Flows, Loads, Rooms, Conserve}
use Rattle.bt_flow_formula.specs.Families.{clauses_at, family_clauses, pair_families, laws}
use Rattle.bt_flow_formula.specs.FlowFormula.{flow_formula, steady_formula, steady_clauses, flow_clauses, leveled, variable_of}
use Rattle.bt_flow_formula.specs.Levels.{level_rows}
use Rattle.bt_flow_formula.specs.Numbering.{rows_in, atoms_from, formula_of}
use Rattle.bt_flow_formula.specs.Properties.{property_clauses}
use Rattle.bt_same.specs.declared.shift.Shift.{Shift}
use Rattle.bt_same.specs.SameFormula.{same_formula, first_shift, second_vars, second_columns, moved_atoms, difference_formula}
use Rattle.bt_decide.proofs.Taken.{none_before}

-- the families behind that of flows
abbrev other_families : List ClauseFamily
other_families = Loads ∷ Rooms ∷ Conserve ∷ pair_families ++ laws

some_edge : (edges : List Edge) → count_by (is_input 0) edges ≡ 1 → (m : ℕ) × (length edges ≡ suc m)
some_edge [] one = absurd (omega (arith, one))
some_edge (e ∷ edges) one = (length edges, refl)

-- the clauses of so many flows, and others behind them, mention rows
flow_rows : (n : Network) (m : ℕ) (rest : List (List StateLiteral)) → rows_in (flat_map (clauses_at n Flows) (range_with_len 0 (suc m)) ++ rest) ≡ [] → ⊥
flow_rows n m rest e = absurd cc

no_atoms : (next : ℕ) (rows : List RowParts) → atoms_from next rows ≡ [] → rows ≡ []
no_atoms next [] e = refl
no_atoms next (row ∷ rows) e = absurd cc

none_moved : (vars columns : Shift) (atoms : List (ℕ × RowParts)) → moved_atoms vars columns atoms ≡ [] → atoms ≡ []
none_moved vars columns [] e = refl
none_moved vars columns (a ∷ atoms) e = absurd cc

module _ (n : Network) (is : IsNetwork n) where
  clauses_mention : (rest : List (List StateLiteral)) → rows_in (steady_clauses n ++ rest) ≡ [] → ⊥
  clauses_mention rest e =
      let some = some_edge n.edges (is.wired.one_in 0 (omega (arith, is.some_input))) in
      let first : ℕ → List (List StateLiteral) = λ k. flat_map (clauses_at n Flows) (range_with_len 0 k) in
      let more : List (List StateLiteral) = flat_map (family_clauses n) other_families in
      flow_rows n some.0 (more ++ rest)
      (subst (λ k. rows_in (first k ++ (more ++ rest)) ≡ []) some.1 (subst (λ cs. rows_in cs ≡ []) (append_assoc (first (length n.edges)) more rest) e))

  -- a level has rows of its own behind those of a formula
  before_level : (p : Property) (f : FormulaParts) → (leveled n p f).atoms ≡ [] → f.atoms ≡ []
  before_level Balanced f e = e
  before_level DrawnEvenly f e = e
  before_level Unlimited f e = e
  before_level Full f e = e
  before_level Fair f e = none_before f.atoms (atoms_from f.vars (level_rows n Output)) e
  before_level DrawnFairly f e = none_before f.atoms (atoms_from f.vars (level_rows n Input)) e

  pub flow_formula_has_rows : (p : Property) → (flow_formula n p).atoms ≡ [] → ⊥
  flow_formula_has_rows p e = clauses_mention (property_clauses n p) (no_atoms (length n.edges) _ (before_level p (formula_of (variable_of n) (length n.edges) (flow_clauses n p)) e))

  pub steady_formula_has_rows : (steady_formula n).atoms ≡ [] → ⊥
  steady_formula_has_rows e = clauses_mention [] (subst (λ cs. rows_in cs ≡ []) (sym (append-nil (steady_clauses n))) (no_atoms (length n.edges) _ e))

pub same_formula_has_rows : (a b : Network) → IsNetwork a → (same_formula a b).atoms ≡ [] → ⊥
same_formula_has_rows a b is e =
    let first = moved_atoms (first_shift a b) (first_shift a b) (steady_formula a).atoms in
    let second = moved_atoms (second_vars a b) (second_columns a b) (steady_formula b).atoms in
    let last = (difference_formula a b ((steady_formula a).vars + (steady_formula b).vars)).atoms in
    steady_formula_has_rows a is (none_moved (first_shift a b) (first_shift a b) (steady_formula a).atoms (none_before first second (none_before (first ++ second) last e)))
