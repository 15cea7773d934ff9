use Rattle.std.proofs.Common.{[], refl}
use Rattle.std.proofs.lemmas.Result.{err_from_is_err_and}
use Rattle.bt_io.proofs.Pieces.{last_failed}
use Rattle.bt_grids.specs.SmallestText.{ruled_out_text}
use Rattle.bt_grids.proofs.printing.print_earlier.Goals as goal

pub returns-in_err-print_ruled_out : goal.returns-in_err-print_ruled_out
returns-in_err-print_ruled_out g c =
    let p = err_from_is_err_and c.from_residual.result c.from_residual.ensures.1 in
    rw p.1
    (last_failed ruled_out_text c.args.earlier.now [] g.K.Sink.held g.K.Sink.faults c.args.sink.now c.loop-one.sink c.print_ruled_out.new.sink c.loop-one.one-index
    c.one-item.result (ruled_out_text c.one-item.result) _ _ c.loop-one.invariant c.loop-one-test.true c.one-item.is refl c.in_err-print_ruled_out.ensures)
