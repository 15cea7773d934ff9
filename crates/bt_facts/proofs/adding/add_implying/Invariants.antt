use Rattle.std.proofs.Common.{◌≡◌, ◌++◌, ◌∷◌, [], take, map}
use Rattle.bt_facts.specs.Rules.{rule}
use Rattle.bt_facts.proofs.adding.add_implying.Given as goal

abbrev pub invariant-loop-fact : goal.invariant-loop-fact
invariant-loop-fact l = l.draft ≡ l.initial.draft ++ map (λ f. rule (f ∷ []) l.one_of) (take l.fact-index l.facts)
