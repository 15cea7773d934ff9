use Rattle.std.proofs.Common.{◌∙◌, ◌+◌, sym, subst, arith}
use Rattle.std.proofs.lemmas.Bool.{iff_false}
use Rattle.std.proofs.lemmas.Option.{slice_get-get_or}
use Rattle.bt_model.specs.RequestFaults.{IsInTheWay, BlockOneCell}
use Rattle.bt_model.specs.inner.Least.{IsLeastIfAny, IsRefusedBelow}
use Rattle.bt_model.proofs.Leasts.{below_step, below_skip, below_all}
use Rattle.bt_model.proofs.refusing.refused_block.Goals as goal
use Rattle.bt_model.proofs.refusing.refused_block.Goals.{then-may_precede, else-may_precede}

pub loop-k-preserved : goal.loop-k-preserved
loop-k-preserved c =
    let is_one = (slice_get-get_or c.args.blocks.now c.loop-k.k _ c.loop-k-test.true) in
    elim c.if-may_precede.branch [
      | then-may_precede w ↦ subst (λ o. IsLeastIfAny (IsRefusedBelow (IsInTheWay c.args.rect c.args.demands.now) BlockOneCell (λ block. block.line) c.args.blocks.now (c.loop-k.k + 1)) o) (sym (w.least-is ∙ w.earlier-least.ensures))
          (below_step (IsInTheWay c.args.rect c.args.demands.now) BlockOneCell (λ block. block.line) c.args.blocks.now c.loop-k.k c.loop-k.least w.line_refused_by_block.result c.loop-k.invariant w.line_refused_by_block.ensures)
      | else-may_precede w ↦ subst (λ o. IsLeastIfAny (IsRefusedBelow (IsInTheWay c.args.rect c.args.demands.now) BlockOneCell (λ block. block.line) c.args.blocks.now (c.loop-k.k + 1)) o) (sym w.least-is)
          (below_skip (IsInTheWay c.args.rect c.args.demands.now) BlockOneCell (λ block. block.line) c.args.blocks.now c.loop-k.k _ c.loop-k.least is_one (iff_false c.may_precede.ensures w.if-may_precede.false) c.loop-k.invariant)
    ]

pub returns : goal.returns
returns c = below_all (IsInTheWay c.args.rect c.args.demands.now) BlockOneCell (λ block. block.line) c.args.blocks.now c.loop-k.least
    (subst (λ k. IsLeastIfAny (IsRefusedBelow (IsInTheWay c.args.rect c.args.demands.now) BlockOneCell (λ block. block.line) c.args.blocks.now k) c.loop-k.least) (omega arith) c.loop-k.invariant)
