use Rattle.std.proofs.Common.{◌≡◌, ◌∷◌, [], cond, take}
use Rattle.std.specs.List.{flat_map}
use Rattle.bt_demands.specs.Classes as classing
use Rattle.bt_demands.proofs.plan.sources.Given as goal

abbrev pub invariant-loop-class : goal.invariant-loop-class
invariant-loop-class l = l.found.items ≡ flat_map (λ k. cond (classing.goes_to l.request k l.splitter) (k ∷ []) []) (take l.class-index l.classes)
