use Rattle.std.proofs.Common.{[], ◌∷◌, ◌++◌}
use Rattle.bt_io.proofs.Written.{writes_both}
use Rattle.bt_print.specs.TraceText.{numbers_text}
use Rattle.bt_print.proofs.traces.print_numbers.Goals as goal

pub returns : goal.returns
returns g c =
    writes_both g.K.Sink.held g.K.Sink.faults c.args.sink.now c.print_words.new.sink c.write_all_of.new.sink (c.args.word.now ++ numbers_text c.args.numbers.now) (10 ∷ []) tt
    c.write_all_of.result c.in_ok-print_words.ensures c.write_all_of.ensures
