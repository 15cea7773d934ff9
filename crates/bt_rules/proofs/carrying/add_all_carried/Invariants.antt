use Rattle.std.proofs.Common.{◌≡◌, ◌++◌, take}
use Rattle.std.specs.List.{flat_map}
use Rattle.bt_rules.specs.Carrying as carrying
use Rattle.bt_rules.proofs.carrying.add_all_carried.Given as goal

abbrev pub invariant-loop-way : goal.invariant-loop-way
invariant-loop-way l = l.draft ≡ l.initial.draft ++ flat_map (λ w. carrying.carried_rules l.request l.cell l.dir w.class) (take l.way-index l.ways)
