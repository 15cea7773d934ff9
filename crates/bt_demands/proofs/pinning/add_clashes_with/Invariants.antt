use Rattle.std.proofs.Common.{◌≡◌, ◌++◌, ◌∷◌, [], cond, take}
use Rattle.std.specs.List.{flat_map}
use Rattle.bt_demands.specs.Pinning as pinning
use Rattle.bt_facts.specs.Rules.{some_of}
use Rattle.bt_demands.proofs.pinning.add_clashes_with.Given as goal

abbrev pub invariant-loop-other : goal.invariant-loop-other
invariant-loop-other l = l.draft ≡ l.initial.draft ++ flat_map (λ o. cond (pinning.clashes l.demand o) (some_of [] ∷ []) []) (take l.other-index l.others)
