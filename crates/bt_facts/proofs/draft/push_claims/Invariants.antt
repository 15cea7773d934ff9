use Rattle.std.proofs.Common.{◌≡◌, ◌++◌, map, take}
use Rattle.bt_facts.specs.Drafts.{claim}
use Rattle.bt_facts.proofs.draft.push_claims.Given as goal

abbrev pub invariant-loop-fact : goal.invariant-loop-fact
invariant-loop-fact l = l.claims.items ≡ l.initial.claims.items ++ map (claim l.follows) (take l.fact-index l.facts)
