use Rattle.std.proofs.Common.{◌+◌, ◌<◌, ◌∙◌, length, ap, sym, subst, arith, Some}
use Rattle.std.proofs.lemmas.Bool.{iff_false}
use Rattle.std.proofs.lemmas.Option.{slice_get-get_or}
use Rattle.bt_model.specs.RequestFaults.{IsInTheWay, BlockOneCell}
use Rattle.bt_model.specs.inner.Least.{IsLeastIfAny, IsLaterHere, lesser}
use Rattle.bt_model.proofs.Leasts.{good_least, later_same, later_other}
use Rattle.bt_model.proofs.refusing.line_refused_by_block.Goals as goal
use Rattle.bt_model.proofs.refusing.line_refused_by_block.Goals.{then-is_same_cell, else-is_same_cell}

pub loop-j-preserved : goal.loop-j-preserved
loop-j-preserved c =
    let within : c.loop-j.j < length c.args.blocks.now = omega arith in
    let is_other = (slice_get-get_or c.args.blocks.now c.args.k _ c.requires) in
    let is_one = (slice_get-get_or c.args.blocks.now c.loop-j.j _ within) in
    elim c.if-is_same_cell.branch [
      | then-is_same_cell w ↦ subst (λ o. IsLeastIfAny (IsLaterHere BlockOneCell (λ block. block.line) c.args.blocks.now c.args.k (c.loop-j.j + 1)) o)
          (sym (w.least-is ∙ w.earlier-least.ensures ∙ ap (λ m. lesser c.loop-j.least (Some m)) w.later.ensures))
          (later_same (IsInTheWay c.args.rect c.args.demands.now) BlockOneCell (λ block. block.line) c.args.blocks.now c.args.k c.loop-j.j _ _ is_other is_one c.loop-j.least (c.is_same_cell.ensures.0 w.if-is_same_cell.true) c.loop-j.invariant)
      | else-is_same_cell w ↦ subst (λ o. IsLeastIfAny (IsLaterHere BlockOneCell (λ block. block.line) c.args.blocks.now c.args.k (c.loop-j.j + 1)) o) (sym w.least-is)
          (later_other (IsInTheWay c.args.rect c.args.demands.now) BlockOneCell (λ block. block.line) c.args.blocks.now c.args.k c.loop-j.j _ _ is_other is_one c.loop-j.least (iff_false c.is_same_cell.ensures w.if-is_same_cell.false) c.loop-j.invariant)
    ]

pub returns : goal.returns
returns c = good_least (IsInTheWay c.args.rect c.args.demands.now) BlockOneCell (λ block. block.line) c.args.blocks.now c.args.k _ c.loop-j.least (slice_get-get_or c.args.blocks.now c.args.k _ c.requires) (iff_false c.is_in_the_way.ensures c.if-is_in_the_way.false)
    (subst (λ j. IsLeastIfAny (IsLaterHere BlockOneCell (λ block. block.line) c.args.blocks.now c.args.k j) c.loop-j.least) (omega arith) c.loop-j.invariant)
