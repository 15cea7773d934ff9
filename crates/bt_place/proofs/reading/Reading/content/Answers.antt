use Rattle.std.proofs.Common.{sym, ap, ◌∙◌, subst, arith}
use Rattle.bt_parts.specs.Cells.{IsInside}
use Rattle.bt_place.specs.inner.Grid.{cell_numbered}
use Rattle.bt_place.proofs.Cells.{numbered_inside}
use Rattle.bt_place.proofs.Solving.{some_content, none_numbered}
use Rattle.bt_place.proofs.reading.Reading.content.Goals as goal

pub unreachable-requires : goal.unreachable-requires
unreachable-requires c =
    let t = c.args.self.now in
    let cell = c.cell_of-cell.ensures ∙ ap (λ rect. cell_numbered rect c.args.i) c.rect.ensures.rect in
    some_content t c.requires.solved c.cell_of-cell.result
    (subst (IsInside t.request.rect) (sym cell) (numbered_inside t.request.rect c.args.i c.requires.solved.is_request.grid c.requires.within))
    (λ content lt. c.loop-number.invariant content (omega arith))

pub loop-number-preserved : goal.loop-number-preserved
loop-number-preserved c =
    none_numbered c.args.self.now c.cell_of-cell.result c.loop-number.number c.content_numbered-content.result c.content_numbered-content.ensures
    (sym c.says.ensures ∙ c.if-says.false) c.loop-number.invariant
