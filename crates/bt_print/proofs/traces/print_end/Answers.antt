use Rattle.std.proofs.Common.{subst}
use Rattle.std.specs.Prelude.{codes}
use Rattle.bt_io.specs.Bytes.{WritesText}
use Rattle.bt_io.specs.Passages.{passage}
use Rattle.bt_print.proofs.TraceTexts.{three_and_end}
use Rattle.bt_print.proofs.traces.print_end.Goals as goal

pub returns : goal.returns
returns g c =
    subst (λ text. WritesText (passage g.K.Sink.held g.K.Sink.faults c.args.sink.now c.write_pieces.new.sink) text c.write_pieces.result)
    (three_and_end (codes "numbers ") c.args.operation.now c.args.left.now c.args.right.now) c.write_pieces.ensures
