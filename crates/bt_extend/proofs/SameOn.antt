-- What meets a formula depends on the formula's variables and columns alone.
use Rattle.std.proofs.Common.{◌≡◌, ℕ, ◌+◌, ◌<◌, ◌≤◌, Bool, true, List, [], ◌∷◌, get_or, map, ap, sym, ◌∙◌, refl, subst, arith}
use Rattle.std.specs.List.{All, AllByRecursion}
use Rattle.std.proofs.lemmas.List.Elements.{All-from_recursion, recursion_from_All}
use Rattle.bt_frac.specs.Ratio.{Ratio}
use Rattle.bt_frac.specs.Rows.{RowParts, columns_of, columns_in, end_of}
use Rattle.bt_frac.specs.Values.{valued, sum_of_products, Stands, RowHolds}
use Rattle.bt_cnf.specs.Formulas.{FormulaParts, LitsBelow, AscendBelow, IsFormula}
use Rattle.bt_cnf.specs.Meeting.{MeetsClause, Meets}
use Rattle.bt_cnf.specs.declared.literal.Lit.{Lit}
use Rattle.bt_cnf.proofs.Ends.{end-append}
use Rattle.bt_extend.specs.Laws.{SameOn}

-- terms have the same values where their columns have
pub valued_same : (values others : ℕ → Ratio) (columns : ℕ) (terms : List (ℕ × Ratio)) → ((column : ℕ) → column < columns → others column ≡ values column)
    → end_of (columns_of terms) ≤ columns → valued others terms ≡ valued values terms
valued_same values others columns [] same within = refl
valued_same values others columns (t ∷ terms) same within =
    ap (λ v. (t.1, v) ∷ valued others terms) (same t.0 (omega (arith, within)))
    ∙ ap (λ ps. (t.1, values t.0) ∷ ps) (valued_same values others columns terms same (omega (arith, within)))

row_same : (values others : ℕ → Ratio) (columns : ℕ) (row : RowParts) → ((column : ℕ) → column < columns → others column ≡ values column)
    → end_of (columns_of row.terms) ≤ columns → RowHolds row values → RowHolds row others
row_same values others columns row same within holds =
    subst (λ ps. Stands row.relation (sum_of_products ps) row.bound) (sym (valued_same values others columns row.terms same within)) holds

module _ (assignment other : ℕ → Bool) (vars : ℕ) (agree : (var : ℕ) → var < vars → other var ≡ assignment var) where
  pub clause_same : (clause : List Lit) → LitsBelow vars clause → MeetsClause assignment clause → MeetsClause other clause
  clause_same clause below met =
      let inside : met.1.var < vars = subst (λ (l : Lit). l.var < vars) met.3 (below met.0 met.1 met.2) in
      (met.0, met.1, met.2, met.3, agree met.1.var inside ∙ met.4)

  pub clauses_same : (clauses : List (List Lit)) → All (LitsBelow vars) clauses → All (MeetsClause assignment) clauses → All (MeetsClause other) clauses
  clauses_same clauses below met = λ k d inside. clause_same (get_or clauses k d) (below k d inside) (met k d inside)

  module _ (values others : ℕ → Ratio) (columns : ℕ) (same : (column : ℕ) → column < columns → others column ≡ values column) where
    atoms_same : (least : ℕ) (atoms : List (ℕ × RowParts)) → AscendBelow least vars (map (λ a. a.0) atoms) → end_of (columns_in (map (λ a. a.1) atoms)) ≤ columns
        → AllByRecursion (λ a. assignment a.0 ≡ true → RowHolds a.1 values) atoms → AllByRecursion (λ a. other a.0 ≡ true → RowHolds a.1 others) atoms
    atoms_same least [] ascend within met = tt
    atoms_same least (a ∷ atoms) ascend within met =
        let ends = end-append (columns_of a.1.terms) (columns_in (map (λ b. b.1) atoms)) in (
          λ so. row_same values others columns a.1 same (omega (arith, ends, within)) (met.0 (sym (agree a.0 ascend.1) ∙ so)),
          atoms_same (a.0 + 1) atoms ascend.2 (omega (arith, ends, within)) met.1,
        )

pub meets_same : (f : FormulaParts) (assignment other : ℕ → Bool) (values others : ℕ → Ratio) → IsFormula f → SameOn f assignment other values others
    → Meets f assignment values → Meets f other others
meets_same f assignment other values others is same met = record {
  clauses = clauses_same assignment other f.vars same.variables f.clauses is.clauses met.clauses;
  atoms = All-from_recursion (λ a. other a.0 ≡ true → RowHolds a.1 others) f.atoms
      (atoms_same assignment other f.vars same.variables values others (end_of (columns_in (map (λ a. a.1) f.atoms))) same.columns 0 f.atoms is.atoms (omega arith)
      (recursion_from_All (λ a. assignment a.0 ≡ true → RowHolds a.1 values) f.atoms met.atoms));
}
