use Rattle.std.proofs.Common.{List, ◌∷◌, [], ◌++◌, sym, ◌∙◌, ap, subst}
use Rattle.bt_cnf.specs.declared.literal.Lit.{Lit}
use Rattle.bt_cnf.specs.Formulas.{FormulaParts, LitsBelow}
use Rattle.bt_facts.specs.Drafts.{rule_of}
use Rattle.bt_place.proofs.Written.{clause_below}
use Rattle.bt_place.proofs.writing.write_rule.Goals as goal

pub add_clause-requires : goal.add_clause-requires
add_clause-requires c =
    let is = c.deref.ensures.value ∙ c.in_ok-set_literals.ensures in
    subst (LitsBelow c.args.formula.now.vars) (sym is)
    (clause_below c.args.numbers.now c.args.formula.now.vars (rule_of c.args.claims.now) c.requires.vars c.requires.within)

pub returns : goal.returns
returns c =
    let is = c.deref.ensures.value ∙ c.in_ok-set_literals.ensures in
    c.in_ok-add_clause.ensures.1
    ∙ ap {A = List Lit} {B = FormulaParts} (λ l. record c.args.formula.now { clauses = c.args.formula.now.clauses ++ l ∷ [] }) is
