use Rattle.std.proofs.Common.{◌≡◌, ◌++◌, take}
use Rattle.std.specs.List.{flat_map}
use Rattle.bt_rules.specs.Carrying as carrying
use Rattle.bt_rules.proofs.carrying.add_all_kept_in.Given as goal

abbrev pub invariant-loop-class : goal.invariant-loop-class
invariant-loop-class l = l.draft ≡ l.initial.draft ++ flat_map (carrying.kept_in_rules l.cell l.dir) (take l.class-index l.classes)
