use Rattle.std.proofs.Common.{get_or, refl}
use Rattle.std.proofs.lemmas.List.{get_or_default}
use Rattle.std.proofs.lemmas.Result.{err_from_is_err_and}
use Rattle.bt_io.proofs.Pieces.{last_failed}
use Rattle.bt_print.specs.TraceText.{number_text}
use Rattle.bt_print.proofs.traces.print_words.Goals as goal

pub returns-in_err-print_number : goal.returns-in_err-print_number
returns-in_err-print_number g c =
    let p = err_from_is_err_and c.from_residual-in_err-print_number.result c.from_residual-in_err-print_number.ensures.1 in
    let x = get_or c.args.numbers.now c.loop-number.number-index 0 in
    rw p.1
    (last_failed number_text c.args.numbers.now c.args.word.now g.K.Sink.held g.K.Sink.faults c.args.sink.now c.loop-number.sink c.print_number.new.sink c.loop-number.number-index x (number_text x) _ _
    c.loop-number.invariant c.loop-number-test.true (get_or_default c.args.numbers.now c.loop-number.number-index 0 x c.loop-number-test.true) refl c.in_err-print_number.ensures)
