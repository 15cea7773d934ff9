use Rattle.std.proofs.Common.{append-nil, sym}
use Rattle.std.specs.List.{flat_map}
use Rattle.bt_facts.specs.Spots.{dirs}
use Rattle.bt_rules.specs.Standing as standing
use Rattle.bt_arena.proofs.Loops.{place_more}
use Rattle.bt_rules.proofs.standing.add_all_here.Goals as goal

pub loop-splitter-init : goal.loop-splitter-init
loop-splitter-init c = sym (append-nil c.args.draft.now)

pub loop-splitter-preserved : goal.loop-splitter-preserved
loop-splitter-preserved c = place_more (λ s. flat_map (standing.at_rules c.args.rect s c.args.cell) dirs) c.args.draft.now c.loop-splitter.draft c.add_here.new.draft c.loop-splitter.splitter c.loop-splitter.invariant (c.in_ok-add_here.ensures)
