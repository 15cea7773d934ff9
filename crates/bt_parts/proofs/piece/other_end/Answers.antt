use Rattle.std.proofs.lemmas.Bool.{iff_false}
use Rattle.bt_parts.proofs.Pieces.{within_first, none_if_alone, some_if_alike, none_if_unlike}
use Rattle.bt_parts.proofs.piece.other_end.Goals as goal

pub returns-in_default-first_piece : goal.returns-in_default-first_piece
returns-in_default-first_piece g c =
    none_if_alone _ c.args.i c.part-part.result.now c.in-Some.toward c.in-Some.kind c.part-part.ensures c.in-Some.ensures c.in_default-first_piece.ensures

pub part-requires : goal.part-requires
part-requires g c = within_first _ c.part-part.result.now c.in-Some.toward c.in-Some-first_piece.j c.in-Some-first_piece.ensures

pub returns-then-is_end_for : goal.returns-then-is_end_for
returns-then-is_end_for g c =
    some_if_alike _ c.args.i c.part-part.result.now c.in-Some.toward c.in-Some.kind c.in-Some-first_piece.j c.part.result.now
    c.requires.well_placed c.part-part.ensures c.in-Some.ensures c.part.ensures c.in-Some-first_piece.ensures
    (c.is_end_for.ensures.0 c.if-is_end_for.true)

pub returns-else-is_end_for : goal.returns-else-is_end_for
returns-else-is_end_for g c =
    none_if_unlike _ c.args.i c.part-part.result.now c.in-Some.toward c.in-Some.kind c.in-Some-first_piece.j c.part.result.now
    c.requires.well_placed c.part-part.ensures c.in-Some.ensures c.part.ensures c.in-Some-first_piece.ensures
    (iff_false c.is_end_for.ensures c.if-is_end_for.false)
