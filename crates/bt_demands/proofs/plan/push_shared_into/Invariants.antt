use Rattle.std.proofs.Common.{◌≡◌, ◌++◌, ◌∷◌, [], cond, take}
use Rattle.std.specs.List.{flat_map}
use Rattle.bt_demands.specs.Classes as classing
use Rattle.bt_facts.specs.declared.fact.Class.TheVariants as class
use Rattle.bt_demands.proofs.plan.push_shared_into.Given as goal

abbrev pub invariant-loop-way : goal.invariant-loop-way
invariant-loop-way l = l.found.items ≡ l.initial.found.items ++ flat_map (λ w. cond (classing.occurs l.request (class.Shared l.splitter w)) (class.Shared l.splitter w ∷ []) []) (take l.way-index classing.ways)
