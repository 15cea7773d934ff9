use Rattle.std.proofs.Common.{◌≡◌, ◌++◌, ◌∷◌, [], map, take}
use Rattle.bt_facts.specs.declared.fact.Fact.TheVariants as fact
use Rattle.bt_facts.specs.Rules.{rule}
use Rattle.bt_demands.proofs.siding.add_stop_classes.Given as goal

abbrev pub invariant-loop-class : goal.invariant-loop-class
invariant-loop-class l = l.draft ≡ l.initial.draft ++ map (λ k. rule (l.stops ∷ []) (fact.Carries l.cell k ∷ [])) (take l.class-index l.classes)
