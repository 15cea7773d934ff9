use Rattle.std.proofs.Common.{sym, ◌∙◌}
use Rattle.std.proofs.lemmas.Bool.{false≢true}
use Rattle.bt_layout_check.specs.inner.Fitting.{IsFree}
use Rattle.bt_layout_check.proofs.Listing.{all_more}
use Rattle.bt_layout_check.proofs.fitting.are_free.Goals as goal

pub returns-then-not-is_free : goal.returns-then-not-is_free
returns-then-not-is_free c = (
  λ t. absurd (false≢true t),
  λ all. absurd (false≢true (sym c.if-not-is_free.true ∙ c.is_free.ensures.1 (all c.loop-block.block-index _ c.loop-block-test.true))),
)

pub loop-block-preserved : goal.loop-block-preserved
loop-block-preserved c =
    all_more (IsFree c.args.grid.now) c.args.blocks.now c.loop-block.block-index _ c.loop-block.invariant c.loop-block-test.true (c.is_free.ensures.0 c.if-not-is_free.false)
