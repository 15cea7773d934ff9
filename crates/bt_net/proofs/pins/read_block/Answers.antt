use Rattle.bt_net.proofs.PinSpelling.{cut_block}
use Rattle.bt_net.proofs.pins.read_block.Goals as goal

pub returns-in_err-read_coordinate-clause-none : goal.returns-in_err-read_coordinate-clause-none
returns-in_err-read_coordinate-clause-none c = rw c.from_residual-in_err-read_coordinate.ensures (λ block is.
    c.in_err-read_coordinate.ensures.none block.x is.short_x (cut_block c.args.number c.args.line.now _ _ _ block c.in_ok-after_word.ensures.some c.in_ok-x.ensures.some is).0)

pub returns-in_err-read_coordinate-2-clause-none : goal.returns-in_err-read_coordinate-2-clause-none
returns-in_err-read_coordinate-2-clause-none c = rw c.from_residual-in_err-read_coordinate-2.ensures (λ block is.
    c.in_err-read_coordinate-2.ensures.none block.y is.short_y (cut_block c.args.number c.args.line.now _ _ _ block c.in_ok-after_word.ensures.some c.in_ok-x.ensures.some is).1)
