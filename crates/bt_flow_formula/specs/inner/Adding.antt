-- What numbering claims or clauses adds to a formula.
use Rattle.std.specs.Prelude.{◌≡◌, ℕ, ◌+◌, List, ◌++◌, length, flat_map}
use Rattle.bt_cnf.specs.declared.literal.Lit.{Lit}
use Rattle.bt_cnf.specs.Formulas.{FormulaParts}
use Rattle.bt_flow_formula.specs.declared.state_literal.Pair.{Pair}
use Rattle.bt_flow_formula.specs.declared.state_literal.StateLiteral.{StateLiteral}
use Rattle.bt_flow_formula.specs.Numbering.{mentioned, rows_in, literals_from, clauses_from, atoms_from}

-- after a formula these claims have these literals, and the rows that they mention became variables
pub record IsAfter (at : Pair → ℕ) (old : FormulaParts) (claims : List StateLiteral) (new : FormulaParts) (lits : List Lit) : Type 0 where
  pub formula : new ≡ record old { vars = old.vars + length (flat_map mentioned claims); atoms = old.atoms ++ atoms_from old.vars (flat_map mentioned claims) }
  pub literals : lits ≡ literals_from at old.vars claims

-- a formula with clauses of claims after its own; the rows that they mention are variables after its own
abbrev pub with_clauses : (Pair → ℕ) → FormulaParts → List (List StateLiteral) → FormulaParts
with_clauses at f clauses = record {
  vars = f.vars + length (rows_in clauses);
  clauses = f.clauses ++ clauses_from at f.vars clauses;
  atoms = f.atoms ++ atoms_from f.vars (rows_in clauses);
}
