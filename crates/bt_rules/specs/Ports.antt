-- Rules of ports: a splitter takes and gives by its halves the classes of its edges, each as often as it has them, and
-- its other halves take and give nothing.
use Rattle.std.specs.List.{flat_map, filter}
use Rattle.std.specs.Prelude.{ℕ, List, [], ◌∷◌, ◌++◌, map, if◌then◌else◌}
use Rattle.bt_parts.specs.declared.part.Cell.{Cell}
use Rattle.bt_parts.specs.declared.part.Dir.{Dir}
use Rattle.bt_parts.specs.declared.part.Rect.{Rect}
use Rattle.bt_parts.specs.Cells.{step}
use Rattle.bt_net.specs.declared.network.Edge.{Edge}
use Rattle.bt_net.specs.Network.{leaves}
use Rattle.bt_model.specs.Requests.{LayoutRequest}
use Rattle.bt_facts.specs.declared.fact.Class.{Class}
use Rattle.bt_facts.specs.declared.fact.Class.TheVariants.{Split}
use Rattle.bt_facts.specs.declared.fact.Fact.{Fact}
use Rattle.bt_facts.specs.declared.fact.Fact.TheVariants.{Carries, Goes, At, EntersLesser, LeavesLesser}
use Rattle.bt_facts.specs.declared.fact.Half.{Half}
use Rattle.bt_facts.specs.declared.fact.Half.TheVariants.{Lesser}
use Rattle.bt_demands.specs.Classes.{same_class, classes_into, onward}
use Rattle.bt_facts.specs.Facts.{goes_into}
use Rattle.bt_facts.specs.Rules.{Rule, rule, not_all, rule_by}
use Rattle.bt_facts.specs.Spots.{dirs, halves, other_half, mate, half_at, behind, where_inside, cells_of}

-- what is behind the cell in this direction has the class, where that is inside
abbrev pub carries_into : Rect → Cell → Dir → Class → List Fact
carries_into rect c dir k = where_inside rect (behind dir c) (Carries (behind dir c) k ∷ [])

-- of the two edges into a splitter, whose lesser half stands on the cell, this half takes its class: each half one
-- class where it is the same, and else the half by which the first comes in takes the first, and the other one the
-- second
abbrev pub two_in_rules : Rect → ℕ → Fact → Cell → Dir → Half → Class → Class → List Rule
two_in_rules rect t at c dir half k l = if same_class k l
    then rule (at ∷ []) (carries_into rect (half_at half dir c) dir k) ∷ []
    else rule_by half (EntersLesser t) (at ∷ []) (carries_into rect (half_at half dir c) dir k)
    ∷ rule_by half (EntersLesser t) (at ∷ []) (carries_into rect (half_at (other_half half) dir c) dir l) ∷ []

-- what a half takes: nothing where no edge goes into the splitter; where one does, by one half its class, and nothing
-- by the other; where two do, something by each
abbrev pub in_rules : Rect → ℕ → Fact → Cell → Dir → List Class → Half → List Rule
in_rules rect t at c dir [] half = map (λ going. not_all (at ∷ going ∷ [])) (goes_into rect (half_at half dir c) dir)
in_rules rect t at c dir (k ∷ []) half = rule_by half (EntersLesser t) (at ∷ []) (goes_into rect (half_at half dir c) dir)
    ∷ rule_by half (EntersLesser t) (at ∷ []) (carries_into rect (half_at half dir c) dir k)
    ∷ map (λ going. rule_by half (EntersLesser t) (at ∷ going ∷ []) []) (goes_into rect (half_at (other_half half) dir c) dir)
in_rules rect t at c dir (k ∷ l ∷ more) half = rule (at ∷ []) (goes_into rect (half_at half dir c) dir)
    ∷ two_in_rules rect t at c dir half k l

-- in front of the half of a splitter that hands on is its class, or a splitter into which edges of it go
abbrev pub in_front : LayoutRequest → ℕ → Cell → List Fact
in_front r s c = where_inside r.rect c (map (λ t. Carries c (Split t)) (onward r s))

-- what a half gives: nothing where no edge leaves the splitter; where one does, something by one half, and nothing by
-- the other; where two do, something by each
abbrev pub out_rules : LayoutRequest → ℕ → Fact → Cell → Dir → List Edge → Half → List Rule
out_rules r s at c dir [] half = not_all (at ∷ Goes (half_at half dir c) dir ∷ []) ∷ []
out_rules r s at c dir (edge ∷ []) half = rule_by half (LeavesLesser s) (at ∷ []) (Goes (half_at half dir c) dir ∷ [])
    ∷ rule_by half (LeavesLesser s) (at ∷ []) (in_front r s (step dir (half_at half dir c)))
    ∷ rule_by half (LeavesLesser s) (at ∷ Goes (half_at (other_half half) dir c) dir ∷ []) [] ∷ []
out_rules r s at c dir (edge ∷ other ∷ more) half = rule (at ∷ []) (Goes (half_at half dir c) dir ∷ [])
    ∷ rule (at ∷ []) (in_front r s (step dir (half_at half dir c))) ∷ []

-- the rules of the ports of a splitter whose lesser half stands on the cell, so turned
abbrev pub standing_port_rules : LayoutRequest → ℕ → Cell → Dir → List Rule
standing_port_rules r s c dir = where_inside r.rect (mate Lesser dir c)
    (flat_map (in_rules r.rect s (At s c dir) c dir (classes_into r s)) halves
    ++ flat_map (out_rules r s (At s c dir) c dir (filter (leaves s) r.net.edges)) halves)

-- the rules of the ports of a splitter
abbrev pub port_rules : LayoutRequest → ℕ → List Rule
port_rules r s = flat_map (λ c. flat_map (standing_port_rules r s c) dirs) (cells_of r.rect)
