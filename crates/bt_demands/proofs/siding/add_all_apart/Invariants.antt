use Rattle.std.proofs.Common.{◌≡◌, ◌++◌, ◌∷◌, [], map}
use Rattle.std.specs.List.{flat_map, range_with_len}
use Rattle.bt_facts.specs.declared.fact.Fact.TheVariants as fact
use Rattle.bt_facts.specs.Rules.{not_all}
use Rattle.bt_demands.proofs.siding.add_all_apart.Given as goal

abbrev pub invariant-loop-other : goal.invariant-loop-other
invariant-loop-other l = l.draft ≡ l.initial.draft ++ flat_map (λ u. map (λ x. not_all (fact.Stops x l.output ∷ fact.Stops x u ∷ [])) l.border) (range_with_len 0 l.other)
