use Rattle.std.proofs.Common.{[], refl}
use Rattle.std.proofs.lemmas.Result.{err_from_is_err_and}
use Rattle.bt_io.proofs.Pieces.{last_failed}
use Rattle.bt_extend.specs.Texts.{definition_line}
use Rattle.bt_extend.proofs.printing.print_definitions.Goals as goal

pub returns-in_err-print_definition : goal.returns-in_err-print_definition
returns-in_err-print_definition g c =
    let p = err_from_is_err_and c.from_residual.result c.from_residual.ensures.1 in
    rw p.1
    (last_failed definition_line c.args.definitions.now [] g.K.Sink.held g.K.Sink.faults c.args.sink.now c.loop-definition.sink c.print_definition.new.sink c.loop-definition.definition-index
    c.definition-item.result (definition_line c.definition-item.result) _ _ c.loop-definition.invariant c.loop-definition-test.true c.definition-item.is refl c.in_err-print_definition.ensures)
