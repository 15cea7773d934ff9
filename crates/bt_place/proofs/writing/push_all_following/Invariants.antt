use Rattle.std.proofs.Common.{◌≡◌, ◌++◌, take}
use Rattle.std.specs.List.{flat_map}
use Rattle.bt_place.specs.inner.Writing.{following_literal}
use Rattle.bt_place.proofs.writing.push_all_following.Given as goal

abbrev pub invariant-loop-claim : goal.invariant-loop-claim
invariant-loop-claim l = l.lits.items ≡ l.initial.lits.items ++ flat_map (following_literal l.numbers) (take l.claim-index l.claims)
