use Rattle.std.proofs.Common.{◌∷◌, ◌∙◌}
use Rattle.std.proofs.lemmas.Result.{err_from_is_err_and}
use Rattle.bt_io.proofs.Pieces.{last_failed}
use Rattle.bt_log.proofs.printing.print_words.Goals as goal

pub returns-in_err-write_all_of-2 : goal.returns-in_err-write_all_of-2
returns-in_err-write_all_of-2 g c =
    let p = err_from_is_err_and c.from_residual-in_err-write_all_of-2.result c.from_residual-in_err-write_all_of-2.ensures.1 in
    rw p.1
    (last_failed (λ item. 32 ∷ g.T.Spelled.text item) c.args.items.now c.args.head.now g.K.Sink.held g.K.Sink.faults c.args.sink.now c.loop-item.sink c.write_all_of-in-loop-item.new.sink
    c.loop-item.item-index c.item-item.result c.as_bytes.result.now _ _ c.loop-item.invariant c.loop-item-test.true c.item-item.is (c.as_bytes.ensures ∙ c.word.ensures) c.in_err-write_all_of-2.ensures)
