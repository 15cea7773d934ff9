use Rattle.bt_text.proofs.Pieces.{piece_apart}
use Rattle.bt_flow.proofs.reading.list.next_item.Goals as goal

pub returns-in-None-clause-none : goal.returns-in-None-clause-none
returns-in-None-clause-none g c = λ x rest h.
    c.in-None.ensures.none x h.0 (piece_apart 32 c.args.text.now c.in-Some.word.now c.in-Some.rest.now (g.T.Item.word x) rest c.in-Some.ensures.some h.1)
