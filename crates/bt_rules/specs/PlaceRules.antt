-- The rules of a request.
use Rattle.std.specs.List.{flat_map}
use Rattle.std.specs.Prelude.{ℕ, List, [], ◌∷◌, ◌++◌, if◌then◌else◌}
use Rattle.bt_parts.specs.declared.part.Cell.{Cell}
use Rattle.bt_model.specs.Requests.{LayoutRequest}
use Rattle.bt_rules.specs.Carrying.{carrying_rules}
use Rattle.bt_demands.specs.Classes.{splitters_of}
use Rattle.bt_rules.specs.Contents.{content_rules, shape_rules, mate_rules, class_rules}
use Rattle.bt_demands.specs.Counting.{has_room, count_rules}
use Rattle.bt_demands.specs.Ends.{end_rules}
use Rattle.bt_rules.specs.Going.{handing_rules}
use Rattle.bt_rules.specs.Ports.{port_rules}
use Rattle.bt_facts.specs.Rules.{Rule, some_of}
use Rattle.bt_facts.specs.Spots.{cells_of}
use Rattle.bt_rules.specs.Standing.{standing_rules, place_rules}
use Rattle.bt_rules.specs.Underground.{underground_rules}

-- the rules at a cell
abbrev pub cell_rules : LayoutRequest → Cell → List Rule
cell_rules r c = content_rules c ++ shape_rules c ++ mate_rules r.rect c ++ class_rules r c
    ++ standing_rules r c ++ handing_rules r c ++ underground_rules r c ++ carrying_rules r c

-- the rules of a splitter
abbrev pub splitter_rules : LayoutRequest → ℕ → List Rule
splitter_rules r s = place_rules r.rect s ++ port_rules r s

-- the rules of a request whose rectangle has room
abbrev pub room_rules : LayoutRequest → List Rule
room_rules r = flat_map (cell_rules r) (cells_of r.rect) ++ flat_map (splitter_rules r) (splitters_of r) ++ end_rules r ++ count_rules r

-- all rules of a request; where there is no room, only that one of no facts holds
abbrev pub rules_of : LayoutRequest → List Rule
rules_of r = if has_room r then room_rules r else some_of [] ∷ []
