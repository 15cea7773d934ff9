use Rattle.bt_extend.proofs.Added.{cases_added, on_ok}
use Rattle.bt_extend.proofs.extension.add_cases.Goals as goal

pub returns : goal.returns
returns c =
    on_ok c.add_choices.result
    (cases_added c.args.formula.now c.add_column.new.formula c.add_column-2.new.formula c.add_choices.new.formula c.args.var c.columns-column.result c.args.first.now c.args.second.now
    c.columns-column.ensures c.in_ok-add_column.ensures c.in_ok-add_column-2.ensures)
    c.add_choices.ensures
