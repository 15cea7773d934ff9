use Rattle.std.proofs.Common.{◌≡◌, ◌++◌, length}
use Rattle.bt_facts.specs.Rules.{at_most_one}
use Rattle.bt_facts.proofs.adding.add_at_most_one.Given as goal

abbrev pub invariant-loop-fact : goal.invariant-loop-fact
invariant-loop-fact l = l.draft ++ at_most_one l.rest ≡ l.initial.draft ++ at_most_one l.facts

abbrev pub decreases-loop-fact : goal.decreases-loop-fact
decreases-loop-fact l = length l.rest
