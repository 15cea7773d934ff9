use Rattle.std.proofs.Common.{List, ◌∷◌, [], ◌++◌, ◌<◌, ap, ◌∙◌, sym, subst}
use Rattle.std.specs.List.{All}
use Rattle.bt_cnf.specs.declared.literal.Lit.{Lit}
use Rattle.bt_cnf.specs.Formulas.{FormulaParts}
use Rattle.bt_flow_formula.specs.Properties.{unequal_clause}
use Rattle.bt_flow_formula.specs.inner.Variables.{at_in}
use Rattle.bt_flow_formula.proofs.Numbers.{clause_below, clause_added}
use Rattle.bt_flow_formula.proofs.Kept.{unequal_within}
use Rattle.bt_flow_formula.proofs.properties.add_unequal.Goals as goal

pub add_clause-requires : goal.add_clause-requires
add_clause-requires c =
    let old = c.args.formula.now in
    let now = c.unequal_lits.new.formula in
    let edges = c.args.edges.now in
    subst (All (λ l. l.var < now.vars)) (sym c.deref.ensures.value)
    (clause_below (at_in c.args.pairs.now) old now (unequal_clause edges) c.in_ok-lits.lits.items c.in_ok-lits.ensures (unequal_within (at_in c.args.pairs.now) old.vars edges))

pub returns : goal.returns
returns c =
    let now = c.unequal_lits.new.formula in
    clause_added (at_in c.args.pairs.now) c.args.formula.now now c.add_clause.new.self (unequal_clause c.args.edges.now) c.in_ok-lits.lits.items c.in_ok-lits.ensures
    (c.in_ok-add_clause.ensures.1 ∙ ap {A = List Lit} {B = FormulaParts} (λ l. record now { clauses = now.clauses ++ l ∷ [] }) c.deref.ensures.value)
