use Rattle.std.proofs.Common.{◌≡◌, map, take}
use Rattle.std.specs.List.{AllByRecursion}
use Rattle.bt_demands.specs.Plans.{IsWay}
use Rattle.bt_demands.specs.declared.plan.Way.{Way}
use Rattle.bt_demands.proofs.plan.ways_of.Given as goal

abbrev pub invariant-loop-class : goal.invariant-loop-class
invariant-loop-class l = (map (λ (w : Way). w.class) l.ways.items ≡ take l.class-index l.classes) × AllByRecursion (IsWay l.request) l.ways.items
