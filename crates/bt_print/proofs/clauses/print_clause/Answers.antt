use Rattle.std.specs.Prelude.{codes}
use Rattle.bt_io.proofs.Written.{writes_both}
use Rattle.bt_print.specs.FormulaText.{literals_text}
use Rattle.bt_print.proofs.clauses.print_clause.Goals as goal

pub returns : goal.returns
returns g c =
    writes_both g.K.Sink.held g.K.Sink.faults c.args.sink.now c.print_literals.new.sink c.write_all_of.new.sink (literals_text c.args.lits.now) (codes "0\n") tt
    c.write_all_of.result c.in_ok-print_literals.ensures c.write_all_of.ensures
