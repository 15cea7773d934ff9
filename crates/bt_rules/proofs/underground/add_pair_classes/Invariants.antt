use Rattle.std.proofs.Common.{◌≡◌, ◌++◌, take}
use Rattle.std.specs.List.{flat_map}
use Rattle.bt_rules.specs.Underground as underground
use Rattle.bt_rules.proofs.underground.add_pair_classes.Given as goal

abbrev pub invariant-loop-class : goal.invariant-loop-class
invariant-loop-class l = l.draft ≡ l.initial.draft ++ flat_map (underground.pair_class_rules l.cell l.dir l.distance) (take l.class-index l.classes)
