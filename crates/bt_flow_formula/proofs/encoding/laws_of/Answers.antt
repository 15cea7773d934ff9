use Rattle.std.proofs.Common.{List, [], length, ap, sym, ◌∙◌, arith}
use Rattle.std.specs.List.{flat_map}
use Rattle.std.proofs.lemmas.Grind.{flat_map-append}
use Rattle.bt_net.specs.declared.network.Edge.{Edge}
use Rattle.bt_cnf.specs.Formulas.{FormulaParts}
use Rattle.bt_flow_formula.specs.Families.{family_clauses, laws, families}
use Rattle.bt_flow_formula.specs.FlowFormula.{steady_clauses}
use Rattle.bt_flow_formula.specs.inner.Adding.{with_clauses}
use Rattle.bt_flow_formula.specs.inner.Variables.{at_in}
use Rattle.bt_flow_formula.proofs.Numbers.{added_more}
use Rattle.bt_flow_formula.proofs.Named.{nameless}
use Rattle.bt_flow_formula.proofs.Kept.{nameless_within, laws_within}
use Rattle.bt_flow_formula.proofs.encoding.laws_of.Goals as goal

pub write_families-requires-clause-within : goal.write_families-requires-clause-within
write_families-requires-clause-within c = nameless_within (at_in c.args.pairs.now) c.in_ok-formula.formula.vars c.args.net.now

pub write_families-requires-2-clause-within : goal.write_families-requires-2-clause-within
write_families-requires-2-clause-within c =
    let vars = ap (λ f. f.vars) c.in_ok-write_families.ensures in
    let start = ap (λ f. f.vars) c.in_ok-formula.ensures in
    let edges = ap length c.edges.ensures.edges in
    laws_within c.args.net.now c.args.pairs.now c.requires.variables c.edges.ensures.network c.write_families.new.formula.vars (omega (arith, vars, start, edges))

pub returns-clause-formula : goal.returns-clause-formula
returns-clause-formula c =
    let n = c.args.net.now in
    let at = at_in c.args.pairs.now in
    added_more at c.in_ok-formula.formula c.write_families.new.formula c.write_families-2.new.formula (flat_map (family_clauses n) nameless) (flat_map (family_clauses n) laws)
    (flat_map (family_clauses n) families) c.in_ok-write_families.ensures c.in_ok-write_families-2.ensures (sym (flat_map-append (family_clauses n) nameless laws))
    ∙ ap {A = FormulaParts} {B = FormulaParts} (λ f. with_clauses at f (steady_clauses n))
    (c.in_ok-formula.ensures ∙ ap {A = List Edge} {B = FormulaParts} (λ l. record { vars = length l; clauses = []; atoms = [] }) c.edges.ensures.edges)
