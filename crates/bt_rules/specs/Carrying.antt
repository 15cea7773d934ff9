-- Rules of classes: each goes along with what is handed, to a splitter that edges of it go into, or out of the
-- rectangle.
use Rattle.std.specs.List.{flat_map, filter}
use Rattle.std.specs.Prelude.{ℕ, not, List, [], ◌∷◌, ◌++◌, map, if◌then◌else◌}
use Rattle.bt_parts.specs.declared.part.Cell.{Cell}
use Rattle.bt_parts.specs.declared.part.Dir.{Dir}
use Rattle.bt_parts.specs.Cells.{step}
use Rattle.bt_model.specs.Requests.{LayoutRequest}
use Rattle.bt_facts.specs.declared.fact.Class.{Class}
use Rattle.bt_facts.specs.declared.fact.Class.TheVariants.{Split}
use Rattle.bt_facts.specs.declared.fact.Fact.TheVariants.{Carries, HalfOn, Goes}
use Rattle.bt_demands.specs.Classes.{classes_of, splitters_of, goals, sources, ends_out}
use Rattle.bt_facts.specs.Facts.{holds}
use Rattle.bt_rules.specs.Going.{runners}
use Rattle.bt_facts.specs.Rules.{Rule, rule, not_all}
use Rattle.bt_facts.specs.Spots.{dirs, is_inside}

-- what is handed on to a part that is no half has one class before and after; what is handed to a half comes to a
-- splitter into which edges of its class go
abbrev pub carried_rules : LayoutRequest → Cell → Dir → Class → List Rule
carried_rules r c dir k = rule (Goes c dir ∷ Carries c k ∷ []) (HalfOn (step dir c) ∷ Carries (step dir c) k ∷ [])
    ∷ rule (Goes c dir ∷ Carries (step dir c) k ∷ []) (HalfOn (step dir c) ∷ Carries c k ∷ [])
    ∷ rule (Goes c dir ∷ HalfOn (step dir c) ∷ Carries c k ∷ []) (map (λ t. Carries (step dir c) (Split t)) (goals r k)) ∷ []

-- what comes to a half of a splitter has a class of which edges go into it
abbrev pub taken_rule : LayoutRequest → Cell → Dir → ℕ → Rule
taken_rule r c dir t = rule (Goes c dir ∷ HalfOn (step dir c) ∷ Carries (step dir c) (Split t) ∷ []) (map (Carries c) (sources r t))

-- a belt or an exit that faces the outside has no class of which no edge ends at an output
abbrev pub kept_in_rules : Cell → Dir → Class → List Rule
kept_in_rules c dir k = map (λ of. not_all (Carries c k ∷ holds c of dir ∷ [])) runners

-- how classes go on from a cell in a direction
abbrev pub onward_rules : LayoutRequest → Cell → Dir → List Rule
onward_rules r c dir = if is_inside r.rect (step dir c)
    then flat_map (carried_rules r c dir) (classes_of r) ++ map (taken_rule r c dir) (splitters_of r)
    else flat_map (kept_in_rules c dir) (filter (λ k. not (ends_out r k)) (classes_of r))

-- the rules of classes, at a cell
abbrev pub carrying_rules : LayoutRequest → Cell → List Rule
carrying_rules r c = flat_map (onward_rules r c) dirs
