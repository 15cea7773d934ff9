use Rattle.std.proofs.Common.{◌++◌, Ok, refl, subst}
use Rattle.std.proofs.lemmas.List.{append-nil, take_all}
use Rattle.bt_io.specs.Bytes.{WritesText}
use Rattle.bt_io.specs.Passages.{passage}
use Rattle.bt_io.specs.declared.fault.WriteFault.{WriteFault}
use Rattle.bt_flow.specs.inner.Printing.{words}
use Rattle.std.specs.Prelude.{codes}
use Rattle.std.proofs.lemmas.Result.{err_from_is_err_and}
use Rattle.bt_io.proofs.Pieces.{last_failed}
use Rattle.bt_flow.proofs.printing.print_words.Goals as goal

pub returns-in_err-print_word : goal.returns-in_err-print_word
returns-in_err-print_word g c =
    let p = err_from_is_err_and c.from_residual-in_err-print_word.result c.from_residual-in_err-print_word.ensures.1 in
    rw p.1
    (last_failed (λ item. codes " " ++ g.T.Spelled.word item) c.args.items.now c.args.head.now g.K.Sink.held g.K.Sink.faults c.args.sink.now c.loop-item.sink c.print_word.new.sink
    c.loop-item.item-index c.item-item.result (codes " " ++ g.T.Spelled.word c.item-item.result) _ _ c.loop-item.invariant c.loop-item-test.true c.item-item.is refl c.in_err-print_word.ensures)

pub loop-item-init : goal.loop-item-init
loop-item-init g c = rw (append-nil c.args.head.now) c.in_ok-write_all_of.ensures

pub returns : goal.returns
returns g c =
    subst (λ items. WritesText {T = Unit {0}} {E = WriteFault} (passage g.K.Sink.held g.K.Sink.faults c.args.sink.now c.loop-item.sink) (c.args.head.now ++ words g.T.Spelled.word items) (Ok tt))
    (take_all c.loop-item.item-index c.args.items.now c.loop-item-test.false) c.loop-item.invariant
