use Rattle.bt_net.proofs.PinSpelling.{cut_cell}
use Rattle.bt_net.proofs.pins.read_cell_and_way.Goals as goal

pub returns-in_err-x-2-clause-none : goal.returns-in_err-x-2-clause-none
returns-in_err-x-2-clause-none c = rw c.from_residual-in_err-x-2.ensures (λ x y way is.
    let cut = cut_cell c.args.words.now _ _ x y way c.in_ok-x.ensures.some is in
    c.in_err-x-2.ensures.none x cut.1 cut.0)

pub returns-in_err-y-clause-none : goal.returns-in_err-y-clause-none
returns-in_err-y-clause-none c = rw c.from_residual-in_err-y.ensures (λ x y way is.
    c.in_err-y.ensures.none y way (cut_cell c.args.words.now _ _ x y way c.in_ok-x.ensures.some is).2)
