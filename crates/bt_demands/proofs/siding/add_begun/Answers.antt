use Rattle.std.proofs.Common.{◌++◌, append-nil, sym, ◌∙◌, ap}
use Rattle.std.specs.List.{flat_map}
use Rattle.bt_demands.specs.Pinning as pinning
use Rattle.bt_facts.specs.Spots.{others_than}
use Rattle.bt_arena.proofs.Loops.{taken_more, taken_all}
use Rattle.bt_demands.proofs.siding.add_begun.Goals as goal

pub loop-cell-init : goal.loop-cell-init
loop-cell-init c = sym (append-nil c.args.draft.now)

pub loop-cell-preserved : goal.loop-cell-preserved
loop-cell-preserved c = taken_more (λ x. flat_map (pinning.not_begun c.args.class x) c.others_than-others.result) c.args.border.now c.args.draft.now c.loop-cell.draft c.add_none_begun.new.draft c.loop-cell.cell-index _ c.loop-cell-test.true c.loop-cell.invariant (c.in_ok-add_none_begun.ensures)

pub returns : goal.returns
returns c = taken_all (λ x. flat_map (pinning.not_begun c.args.class x) c.others_than-others.result) c.args.border.now c.args.draft.now c.loop-cell.draft c.loop-cell.cell-index c.loop-cell-test.false c.loop-cell.invariant
    ∙ ap (λ os. c.args.draft.now ++ flat_map (λ x. flat_map (pinning.not_begun c.args.class x) os) c.args.border.now) (c.others_than-others.ensures ∙ ap others_than c.opposite.ensures)
