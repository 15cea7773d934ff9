use Rattle.std.proofs.Common.{◌≡◌, ◌++◌, ◌∷◌, [], cond, take}
use Rattle.std.specs.List.{flat_map}
use Rattle.bt_demands.specs.Classes.{class_of}
use Rattle.bt_demands.specs.Pinning as pinning
use Rattle.bt_facts.specs.declared.fact.Fact.TheVariants as fact
use Rattle.bt_facts.specs.Rules.{some_of}
use Rattle.bt_demands.proofs.pinning.add_pin_classes.Given as goal

abbrev pub invariant-loop-edge : goal.invariant-loop-edge
invariant-loop-edge l = l.draft ≡ l.initial.draft ++ flat_map (λ e. cond (pinning.is_edge_of l.end e) (some_of (fact.Carries l.cell (class_of l.demands e) ∷ []) ∷ []) []) (take l.edge-index l.edges)
