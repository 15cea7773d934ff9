use Rattle.std.proofs.Common.{List, ℕ, [], get_or, Bor, refl}
use Rattle.std.proofs.lemmas.List.{get_or_default}
use Rattle.std.proofs.lemmas.Result.{err_from_is_err_and}
use Rattle.bt_io.proofs.Pieces.{piece_written, last_failed, all_written}
use Rattle.bt_io.proofs.write.write_pieces.Goals as goal

abbrev bytes : Bor (List ℕ) → List ℕ
bytes piece = piece.now

-- what stands for a piece past the last one
abbrev none : Bor (List ℕ)
none = record { ref_ptr = (0, 0); now = [] }

pub returns-in_err-write_all_of : goal.returns-in_err-write_all_of
returns-in_err-write_all_of g c =
    let p = err_from_is_err_and c.from_residual.result c.from_residual.ensures.1 in
    let x = get_or c.args.pieces.now c.loop-piece.piece-index none in
    rw p.1
    (last_failed bytes c.args.pieces.now [] g.K.Sink.held g.K.Sink.faults c.args.sink.now c.loop-piece.sink c.write_all_of.new.sink c.loop-piece.piece-index x (bytes x) _ _
    c.loop-piece.invariant c.loop-piece-test.true (get_or_default c.args.pieces.now c.loop-piece.piece-index none x c.loop-piece-test.true) refl c.in_err-write_all_of.ensures)

pub loop-piece-preserved : goal.loop-piece-preserved
loop-piece-preserved g c =
    let x = get_or c.args.pieces.now c.loop-piece.piece-index none in
    piece_written bytes c.args.pieces.now [] g.K.Sink.held g.K.Sink.faults c.args.sink.now c.loop-piece.sink c.write_all_of.new.sink c.loop-piece.piece-index x (bytes x)
    c.loop-piece.invariant c.loop-piece-test.true (get_or_default c.args.pieces.now c.loop-piece.piece-index none x c.loop-piece-test.true) refl c.in_ok-write_all_of.ensures

pub returns : goal.returns
returns g c =
    all_written bytes c.args.pieces.now [] g.K.Sink.held g.K.Sink.faults c.args.sink.now c.loop-piece.sink c.loop-piece.piece-index c.loop-piece-test.false c.loop-piece.invariant
