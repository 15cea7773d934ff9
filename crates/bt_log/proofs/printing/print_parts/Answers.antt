use Rattle.std.proofs.Common.{◌++◌}
use Rattle.std.specs.Prelude.{codes}
use Rattle.std.proofs.lemmas.Result.{err_from_is_err_and}
use Rattle.bt_io.specs.Passages.{passage}
use Rattle.bt_io.proofs.Written.{writes_both, writes_no_more}
use Rattle.bt_log.specs.LogText.{words, lit_text}
use Rattle.bt_log.proofs.printing.print_parts.Goals as goal

pub returns-in_err-print_words-2 : goal.returns-in_err-print_words-2
returns-in_err-print_words-2 g c =
    let p = err_from_is_err_and c.from_residual-in_err-print_words-2.result c.from_residual-in_err-print_words-2.ensures.1 in
    let front = c.args.head.now ++ words lit_text c.args.lits.now in
    let back = codes " 0" ++ words g.T.Spelled.text c.args.items.now in
    let both = writes_both g.K.Sink.held g.K.Sink.faults c.args.sink.now c.print_words.new.sink c.print_words-2.new.sink front back _ _ c.in_ok-print_words.ensures c.in_err-print_words-2.ensures in
    rw p.1 (writes_no_more _ _ (passage g.K.Sink.held g.K.Sink.faults c.args.sink.now c.print_words-2.new.sink) (front ++ back) c.args.end.now both)

pub returns : goal.returns
returns g c =
    let front = c.args.head.now ++ words lit_text c.args.lits.now in
    let back = codes " 0" ++ words g.T.Spelled.text c.args.items.now in
    let both = writes_both g.K.Sink.held g.K.Sink.faults c.args.sink.now c.print_words.new.sink c.print_words-2.new.sink front back _ _ c.in_ok-print_words.ensures c.in_ok-print_words-2.ensures in
    writes_both g.K.Sink.held g.K.Sink.faults c.args.sink.now c.print_words-2.new.sink c.write_all_of.new.sink (front ++ back) c.args.end.now _ c.write_all_of.result both c.write_all_of.ensures
