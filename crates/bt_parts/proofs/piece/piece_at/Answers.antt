use Rattle.std.proofs.lemmas.Bool.{iff_false}
use Rattle.bt_parts.proofs.Places.{within_at}
use Rattle.bt_parts.proofs.Pieces.{piece_there, no_piece_there, at_if_there}
use Rattle.bt_parts.proofs.piece.piece_at.Goals as goal

pub returns-in_default : goal.returns-in_default
returns-in_default g c = λ i there. c.in_default.ensures i (at_if_there _ c.args.tier c.args.dir c.args.cell i there)

pub part-requires : goal.part-requires
part-requires g c = within_at _ c.in-Some.i c.args.cell c.in-Some.ensures

pub returns-then-is_piece_on : goal.returns-then-is_piece_on
returns-then-is_piece_on g c =
    piece_there _ c.args.tier c.args.dir c.args.cell c.in-Some.i c.part.result.now c.part.ensures
    c.in-Some.ensures (c.is_piece_on.ensures.0 c.if-is_piece_on.true)

pub returns-else-is_piece_on : goal.returns-else-is_piece_on
returns-else-is_piece_on g c =
    no_piece_there _ c.args.tier c.args.dir c.args.cell c.in-Some.i c.part.result.now c.requires.well_placed
    c.part.ensures c.in-Some.ensures (iff_false c.is_piece_on.ensures c.if-is_piece_on.false)
