use Rattle.std.proofs.Common.{◌<◌, ◌≤◌, arith, [], length, sym, refl}
use Rattle.std.specs.Prelude.{codes}
use Rattle.std.specs.List.{flat_map}
use Rattle.std.proofs.lemmas.Result.{err_from_is_err_and}
use Rattle.bt_cnf.proofs.Atoms.{got}
use Rattle.bt_io.proofs.Written.{writes_both}
use Rattle.bt_log.specs.LogText.{step_line}
use Rattle.bt_log.specs.Views.{step_of}
use Rattle.bt_io.proofs.Pieces.{piece_written, piece_failed, all_written}
use Rattle.bt_log.proofs.log.Log.print.Goals as goal

pub returns-in_err-print_step : goal.returns-in_err-print_step
returns-in_err-print_step g c =
    let steps = c.args.self.now.steps in
    let step = step_of c.step.result in
    let inside : c.loop-n.n < length steps = omega arith in
    let p = err_from_is_err_and c.from_residual.result c.from_residual.ensures.1 in
    rw p.1
    (piece_failed step_line steps [] g.K.Sink.held g.K.Sink.faults c.args.sink.now c.loop-n.sink c.print_step.new.sink c.loop-n.n step (step_line step) (codes "end\n") _ _ c.loop-n.invariant inside
    (sym (got steps c.loop-n.n step step c.step.ensures)) refl c.in_err-print_step.ensures)

pub loop-n-preserved : goal.loop-n-preserved
loop-n-preserved g c =
    let steps = c.args.self.now.steps in
    let step = step_of c.step.result in
    let inside : c.loop-n.n < length steps = omega arith in
    piece_written step_line steps [] g.K.Sink.held g.K.Sink.faults c.args.sink.now c.loop-n.sink c.print_step.new.sink c.loop-n.n step (step_line step) c.loop-n.invariant inside
    (sym (got steps c.loop-n.n step step c.step.ensures)) refl c.in_ok-print_step.ensures

pub returns : goal.returns
returns g c =
    let steps = c.args.self.now.steps in
    let ended : length steps ≤ c.loop-n.n = omega arith in
    writes_both g.K.Sink.held g.K.Sink.faults c.args.sink.now c.loop-n.sink c.write_all_of.new.sink (flat_map step_line steps) (codes "end\n") tt c.write_all_of.result
    (all_written step_line steps [] g.K.Sink.held g.K.Sink.faults c.args.sink.now c.loop-n.sink c.loop-n.n ended c.loop-n.invariant) c.write_all_of.ensures
