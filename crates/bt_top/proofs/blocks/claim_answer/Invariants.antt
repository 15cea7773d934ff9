use Rattle.std.proofs.Common.{◌≡◌, ◌+◌, ◌-◌, false, length}
use Rattle.bt_io.specs.Passages.{passage}
use Rattle.bt_designs.specs.declared.held.TheConstants.{MOST_CHECKED}
use Rattle.bt_top.specs.inner.Gathering.{IsGatheredOf}
use Rattle.bt_top.proofs.blocks.claim_answer.Given as goal

-- what was gathered was taken of the source, which goes on
abbrev pub invariant-loop-fault : goal.invariant-loop-fault
invariant-loop-fault g l = record {
  so_far : IsGatheredOf (passage g.S.Source.left g.S.Source.faults l.fn.source l.source) l.gathered;
  goes : l.gathered.ended ≡ false;
}

abbrev pub decreases-loop-fault : goal.decreases-loop-fault
decreases-loop-fault g l = MOST_CHECKED + 1 - (l.gathered.skipped + length l.gathered.bytes.items)
