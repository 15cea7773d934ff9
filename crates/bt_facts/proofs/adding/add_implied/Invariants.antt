use Rattle.std.proofs.Common.{◌≡◌, ◌++◌, ◌∷◌, [], take, map}
use Rattle.bt_facts.specs.Rules.{rule}
use Rattle.bt_facts.proofs.adding.add_implied.Given as goal

abbrev pub invariant-loop-fact : goal.invariant-loop-fact
invariant-loop-fact l = l.draft ≡ l.initial.draft ++ map (λ f. rule l.given (f ∷ [])) (take l.fact-index l.facts)
