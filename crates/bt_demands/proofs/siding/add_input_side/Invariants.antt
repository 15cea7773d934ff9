use Rattle.std.proofs.Common.{◌≡◌, ◌++◌, take}
use Rattle.std.specs.List.{flat_map}
use Rattle.bt_demands.specs.inner.Parts as parts
use Rattle.bt_demands.proofs.siding.add_input_side.Given as goal

abbrev pub invariant-loop-class : goal.invariant-loop-class
invariant-loop-class l = l.draft ≡ l.initial.draft ++ flat_map (λ k. parts.begun_on l.dir k l.border) (take l.class-index l.classes)
