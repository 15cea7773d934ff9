-- Rules of where splitters stand: each in one place, and one on a cell.
use Rattle.std.specs.List.{range_with_len, flat_map}
use Rattle.std.specs.Prelude.{ℕ, unsigned_abs, List, [], ◌∷◌, ◌++◌, map}
use Rattle.bt_parts.specs.declared.part.Cell.{Cell}
use Rattle.bt_parts.specs.declared.part.Dir.{Dir}
use Rattle.bt_parts.specs.declared.part.Rect.{Rect}
use Rattle.bt_model.specs.Requests.{LayoutRequest}
use Rattle.bt_facts.specs.declared.fact.Class.TheVariants.{Split}
use Rattle.bt_facts.specs.declared.fact.Fact.{Fact}
use Rattle.bt_facts.specs.declared.fact.Fact.TheVariants.{Carries, HalfOn, At, Column, Row, Points}
use Rattle.bt_facts.specs.declared.fact.Half.TheVariants.{Lesser, Greater}
use Rattle.bt_facts.specs.declared.fact.Shape.TheVariants as shape
use Rattle.bt_demands.specs.Classes.{splitters_of}
use Rattle.bt_facts.specs.Facts.{holds}
use Rattle.bt_facts.specs.Rules.{Rule, rule, some_of, at_most_one}
use Rattle.bt_facts.specs.Spots.{dirs, mate, where_inside, cells_of}

-- a lesser half is that of some splitter
abbrev pub owner_rule : List ℕ → Cell → Dir → Rule
owner_rule splitters c dir = rule (holds c (shape.Half Lesser) dir ∷ []) (map (λ s. At s c dir) splitters)

-- a splitter that stands here has its lesser half here, its class on both cells, and this column, row and direction
abbrev pub at_rules : Rect → ℕ → Cell → Dir → List Rule
at_rules rect s c dir = map (λ fact. rule (At s c dir ∷ []) (fact ∷ []))
    (holds c (shape.Half Lesser) dir ∷ Carries c (Split s) ∷ Column s (unsigned_abs c.x) ∷ Row s (unsigned_abs c.y)
    ∷ Points s dir ∷ where_inside rect (mate Lesser dir c) (Carries (mate Lesser dir c) (Split s) ∷ []))

-- where the splitter stands with one of its halves on the cell, so turned
abbrev pub stands_on : Rect → ℕ → Cell → Dir → List Fact
stands_on rect s c dir = At s c dir ∷ where_inside rect (mate Greater dir c) (At s (mate Greater dir c) dir ∷ [])

-- a half with the class of a splitter is one of its halves
abbrev pub name_rule : Rect → Cell → ℕ → Rule
name_rule rect c s = rule (HalfOn c ∷ Carries c (Split s) ∷ []) (flat_map (stands_on rect s c) dirs)

-- the rules of where splitters stand, at a cell
abbrev pub standing_rules : LayoutRequest → Cell → List Rule
standing_rules r c = map (owner_rule (splitters_of r) c) dirs
    ++ flat_map (λ s. flat_map (at_rules r.rect s c) dirs) (splitters_of r)
    ++ map (name_rule r.rect c) (splitters_of r)

-- where the splitter may stand
abbrev pub stands_at : Rect → ℕ → List Fact
stands_at rect s = flat_map (λ c. map (At s c) dirs) (cells_of rect)

-- each splitter stands somewhere, in at most one column, in at most one row and in at most one direction
abbrev pub place_rules : Rect → ℕ → List Rule
place_rules rect s = some_of (stands_at rect s)
    ∷ at_most_one (map (Column s) (range_with_len 0 rect.width))
    ++ at_most_one (map (Row s) (range_with_len 0 rect.height))
    ++ at_most_one (map (Points s) dirs)
