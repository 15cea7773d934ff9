use Rattle.std.proofs.Common.{append-nil, sym}
use Rattle.std.specs.List.{range_with_len}
use Rattle.bt_facts.specs.Spots.{dirs}
use Rattle.bt_rules.specs.Standing as standing
use Rattle.bt_arena.proofs.Loops.{mapped_more, mapped_all}
use Rattle.bt_rules.proofs.standing.add_owners.Goals as goal

pub loop-dir-init : goal.loop-dir-init
loop-dir-init c = sym (append-nil c.args.draft.now)

pub loop-dir-preserved : goal.loop-dir-preserved
loop-dir-preserved c = mapped_more (standing.owner_rule (range_with_len 0 c.args.splitters) c.args.cell) dirs c.args.draft.now c.loop-dir.draft c.add_owner.new.draft c.loop-dir.dir-index _ c.loop-dir-test.true c.loop-dir.invariant (c.in_ok-add_owner.ensures)

pub returns : goal.returns
returns c = mapped_all (standing.owner_rule (range_with_len 0 c.args.splitters) c.args.cell) dirs c.args.draft.now c.loop-dir.draft c.loop-dir.dir-index c.loop-dir-test.false c.loop-dir.invariant
