use Rattle.std.proofs.Common.{◌≡◌, ◌∷◌, [], cond, take, not}
use Rattle.std.specs.List.{flat_map}
use Rattle.bt_demands.specs.Classes as classing
use Rattle.bt_demands.proofs.plan.kept_of.Given as goal

abbrev pub invariant-loop-class : goal.invariant-loop-class
invariant-loop-class l = l.found.items ≡ flat_map (λ k. cond (not (classing.ends_out l.request k)) (k ∷ []) []) (take l.class-index l.classes)
