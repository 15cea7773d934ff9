use Rattle.bt_layout_check.specs.inner.Fitting.{SuitsAlone}
use Rattle.bt_layout_check.proofs.Listing.{all_more}
use Rattle.bt_layout_check.proofs.fitting.all_suit.Goals as goal

pub loop-part-preserved : goal.loop-part-preserved
loop-part-preserved c =
    all_more (SuitsAlone c.args.rect c.args.tier) c.args.parts.now c.loop-part.part-index _ c.loop-part.invariant c.loop-part-test.true (c.suits_alone.ensures.0 c.if-not-suits_alone.false)
