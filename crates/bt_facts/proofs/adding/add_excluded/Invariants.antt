use Rattle.std.proofs.Common.{◌≡◌, ◌++◌, ◌∷◌, [], take, map}
use Rattle.bt_facts.specs.Rules.{not_all}
use Rattle.bt_facts.proofs.adding.add_excluded.Given as goal

abbrev pub invariant-loop-other : goal.invariant-loop-other
invariant-loop-other l = l.draft ≡ l.initial.draft ++ map (λ o. not_all (l.fact ∷ o ∷ [])) (take l.other-index l.others)
