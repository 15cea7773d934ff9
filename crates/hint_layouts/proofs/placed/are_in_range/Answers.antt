use Rattle.bt_parts.specs.declared.part.Part.{Part}
use Rattle.bt_parts.specs.Cells.{IsInRange}
use Rattle.bt_layout_check.proofs.Listing.{all_more}
use Rattle.hint_layouts.proofs.placed.are_in_range.Goals as goal

pub loop-part-preserved : goal.loop-part-preserved
loop-part-preserved c = all_more (λ (part : Part). IsInRange part.cell) c.args.parts.now c.loop-part.part-index _ c.loop-part.invariant c.loop-part-test.true (c.is_in_range.ensures.0 c.if-not-is_in_range.false)
