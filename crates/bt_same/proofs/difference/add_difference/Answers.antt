use Rattle.std.proofs.Common.{◌<◌, ap, sym, ◌∙◌, subst, arith}
use Rattle.bt_cnf.specs.Formulas.{LitsBelow}
use Rattle.bt_flow_formula.proofs.Numbers.{all_from}
use Rattle.bt_same.specs.inner.Joining.{hold_from, difference_rows}
use Rattle.bt_same.proofs.Joined.{hold_below}
use Rattle.bt_same.proofs.difference.add_difference.Goals as goal

pub add_clause-requires : goal.add_clause-requires
add_clause-requires c =
    let end = c.difference_lits.new.formula.vars in
    let start = c.args.formula.now.vars in
    let rows = difference_rows c.args.first.now c.args.second.now in
    let more = ap (λ f. f.vars) c.in_ok-lits.ensures.rows in
    subst (LitsBelow end) (sym c.in_ok-lits.ensures.literals ∙ sym c.deref.ensures.value)
    (all_from (λ l. l.var < end) (hold_from start rows) (hold_below start end rows (omega (arith, more))))
