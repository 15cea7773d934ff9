use Rattle.std.proofs.Common.{◌≡◌, ◌++◌, ◌∷◌, [], map}
use Rattle.std.specs.List.{range_with_len}
use Rattle.bt_parts.specs.Cells.{steps}
use Rattle.bt_facts.specs.declared.fact.Fact.TheVariants.{Lies}
use Rattle.bt_facts.specs.Rules.{rule}
use Rattle.bt_demands.specs.Rows.{way_of, kind_facts}
use Rattle.bt_demands.proofs.rowing.add_all_placed.Given as goal

abbrev pub invariant-loop-k : goal.invariant-loop-k
invariant-loop-k l = l.draft ≡ l.initial.draft ++ map (λ j. rule (Lies l.cell l.line ∷ []) (kind_facts l.rect (steps j (way_of l.line) l.cell) l.kind)) (range_with_len 0 l.k)
