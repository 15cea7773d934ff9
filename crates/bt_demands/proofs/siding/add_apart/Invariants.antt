use Rattle.std.proofs.Common.{◌≡◌, ◌++◌, ◌∷◌, [], map, take}
use Rattle.bt_facts.specs.declared.fact.Fact.TheVariants as fact
use Rattle.bt_facts.specs.Rules.{not_all}
use Rattle.bt_demands.proofs.siding.add_apart.Given as goal

abbrev pub invariant-loop-cell : goal.invariant-loop-cell
invariant-loop-cell l = l.draft ≡ l.initial.draft ++ map (λ x. not_all (fact.Stops x l.output ∷ fact.Stops x l.other ∷ [])) (take l.cell-index l.border)
