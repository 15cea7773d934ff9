use Rattle.bt_net.proofs.PinSpelling.{cut_row, uncut_row}
use Rattle.bt_net.proofs.pins.read_row_and_way.Goals as goal

pub returns-in_err-read_coordinate-clause-none : goal.returns-in_err-read_coordinate-clause-none
returns-in_err-read_coordinate-clause-none c = rw c.from_residual.ensures (λ y way is.
    c.in_err-read_coordinate.ensures.none y is.1 (uncut_row c.args.words.now y way c.in_default.ensures.none is).1)

pub returns-in_err-read_coordinate-2-clause-none : goal.returns-in_err-read_coordinate-2-clause-none
returns-in_err-read_coordinate-2-clause-none c = rw c.from_residual-in_err-read_coordinate-2.ensures (λ y way is.
    c.in_err-read_coordinate-2.ensures.none y is.1 (cut_row c.args.words.now _ _ y way c.in-Some.ensures.some is).2)

pub returns-in_err-read_dir-clause-none : goal.returns-in_err-read_dir-clause-none
returns-in_err-read_dir-clause-none c = rw c.from_residual-in_err-read_dir.ensures (λ y way is.
    let cut = cut_row c.args.words.now _ _ y way c.in-Some.ensures.some is in
    c.in_err-read_dir.ensures.none cut.0 cut.3)
