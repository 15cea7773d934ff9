use Rattle.std.proofs.Common.{◌≡◌, ◌++◌, ◌∷◌, [], cond, take}
use Rattle.std.specs.List.{flat_map}
use Rattle.bt_facts.specs.declared.fact.Fact.TheVariants.{Lies}
use Rattle.bt_demands.specs.Rows.{has_place}
use Rattle.bt_demands.proofs.rowing.push_places.Given as goal

abbrev pub invariant-loop-cell : goal.invariant-loop-cell
invariant-loop-cell l = l.facts.items ≡ l.initial.facts.items ++ flat_map (λ x. cond (has_place l.rect l.count l.line x) (Lies x l.line ∷ []) []) (take l.cell-index l.cells)
