use Rattle.std.proofs.Common.{◌≡◌, ◌++◌, take}
use Rattle.std.specs.List.{flat_map}
use Rattle.bt_place.specs.inner.Writing.{given_literal}
use Rattle.bt_place.proofs.writing.push_all_given.Given as goal

abbrev pub invariant-loop-claim : goal.invariant-loop-claim
invariant-loop-claim l = l.lits.items ≡ l.initial.lits.items ++ flat_map (given_literal l.numbers) (take l.claim-index l.claims)
