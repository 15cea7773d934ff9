use Rattle.std.proofs.Common.{◌∙◌}
use Rattle.bt_extend.proofs.Added.{disjunction_added, on_ok}
use Rattle.bt_extend.proofs.extension.add_disjunction.Goals as goal

pub returns : goal.returns
returns c =
    on_ok c.add_opposites.result
    (disjunction_added c.args.formula.now c.add_variable.new.self c.add_clause.new.self c.add_opposites.new.formula c.in_ok-var.var c.deref.result.now c.args.lits.now
    c.in_ok-var.ensures.0 c.in_ok-var.ensures.1 (c.deref.ensures.value ∙ c.in_ok-clause.ensures.clause) c.in_ok-add_clause.ensures.1)
    c.add_opposites.ensures
