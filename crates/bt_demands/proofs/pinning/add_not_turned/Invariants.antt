use Rattle.std.proofs.Common.{◌≡◌, ◌++◌, ◌∷◌, [], map, take}
use Rattle.bt_facts.specs.Facts as told
use Rattle.bt_facts.specs.Rules.{not_all}
use Rattle.bt_demands.proofs.pinning.add_not_turned.Given as goal

abbrev pub invariant-loop-other : goal.invariant-loop-other
invariant-loop-other l = l.draft ≡ l.initial.draft ++ map (λ other. not_all (told.holds l.cell l.shape other ∷ [])) (take l.other-index l.others)
