use Rattle.std.proofs.Common.{◌≡◌, ◌++◌, ◌∷◌, [], map, take}
use Rattle.bt_facts.specs.Rules.{rule_by}
use Rattle.bt_facts.proofs.adding.add_excluded_by.Given as goal

abbrev pub invariant-loop-other : goal.invariant-loop-other
invariant-loop-other l = l.draft ≡ l.initial.draft ++ map (λ o. rule_by l.half l.by_lesser (l.fact ∷ o ∷ []) []) (take l.other-index l.others)
