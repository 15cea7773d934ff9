-- Rules of underground pairs: each entrance has its exit within reach, each exit its entrance, and no piece of their
-- axis stands between.
use Rattle.std.specs.List.{range_with_len, flat_map}
use Rattle.std.specs.Prelude.{ℕ, ◌+◌, ◌-◌, List, [], ◌∷◌, ◌++◌, map}
use Rattle.bt_parts.specs.declared.part.Cell.{Cell}
use Rattle.bt_parts.specs.declared.part.Dir.{Dir}
use Rattle.bt_parts.specs.declared.part.Rect.{Rect}
use Rattle.bt_parts.specs.Cells.{step, steps, opposite}
use Rattle.bt_parts.specs.Tiers.{reach_of}
use Rattle.bt_model.specs.Requests.{LayoutRequest}
use Rattle.bt_facts.specs.declared.fact.Class.{Class}
use Rattle.bt_facts.specs.declared.fact.Fact.{Fact}
use Rattle.bt_facts.specs.declared.fact.Fact.TheVariants.{Carries, Pair, Tunnel}
use Rattle.bt_facts.specs.declared.fact.Shape.TheVariants as shape
use Rattle.bt_demands.specs.Classes.{classes_of}
use Rattle.bt_facts.specs.Facts.{holds}
use Rattle.bt_facts.specs.Rules.{Rule, rule, not_all, at_most_one}
use Rattle.bt_facts.specs.Spots.{dirs, behind, where_inside, where_outside}

-- the greatest distance between the two ends of an underground pair
abbrev pub most_distance : LayoutRequest → ℕ
most_distance r = reach_of r.tier + 1

-- a tunnel of this direction comes to the cell from behind, where that is inside
abbrev pub tunnel_into : Rect → Cell → Dir → List Fact
tunnel_into rect c dir = where_inside rect (behind dir c) (Tunnel (behind dir c) dir ∷ [])

-- an entrance begins a tunnel and an exit has one behind it; a tunnel comes from an entrance or from a tunnel behind,
-- ends at an exit, doesn't leave the rectangle, and passes no entrance and no piece that points back
abbrev pub tunnel_rules : Rect → Cell → Dir → List Rule
tunnel_rules rect c dir = rule (holds c shape.Entrance dir ∷ []) (Tunnel c dir ∷ [])
    ∷ rule (holds c shape.Exit dir ∷ []) (tunnel_into rect c dir)
    ∷ rule (Tunnel c dir ∷ []) (holds c shape.Entrance dir ∷ tunnel_into rect c dir)
    ∷ not_all (Tunnel c dir ∷ holds c shape.Exit dir ∷ [])
    ∷ where_outside rect (step dir c) (not_all (Tunnel c dir ∷ []) ∷ [])
    ++ where_inside rect (step dir c) (map (λ fact. not_all (Tunnel c dir ∷ fact ∷ []))
    (holds (step dir c) shape.Entrance dir ∷ holds (step dir c) shape.Entrance (opposite dir)
    ∷ holds (step dir c) shape.Exit (opposite dir) ∷ []))

-- the pairs that an entrance on the cell may begin
abbrev pub pairs_from : Rect → ℕ → Cell → Dir → List Fact
pairs_from rect most c dir = flat_map (λ k. where_inside rect (steps k dir c) (Pair c dir k ∷ [])) (range_with_len 1 most)

-- the cell so far back
abbrev pub back : ℕ → Dir → Cell → Cell
back k dir c = steps k (opposite dir) c

-- the pairs that an exit on the cell may end
abbrev pub pairs_into : Rect → ℕ → Cell → Dir → List Fact
pairs_into rect most c dir = flat_map (λ k. where_inside rect (back k dir c) (Pair (back k dir c) dir k ∷ [])) (range_with_len 1 most)

-- an entrance begins a pair and an exit ends one, and no more than one
abbrev pub paired_rules : Rect → ℕ → Cell → Dir → List Rule
paired_rules rect most c dir = rule (holds c shape.Entrance dir ∷ []) (pairs_from rect most c dir)
    ∷ at_most_one (pairs_from rect most c dir)
    ++ rule (holds c shape.Exit dir ∷ []) (pairs_into rect most c dir)
    ∷ at_most_one (pairs_into rect most c dir)

-- a pair has its two ends, and the way between is a tunnel
abbrev pub way_rules : Cell → Dir → ℕ → List Rule
way_rules c dir k = map (λ fact. rule (Pair c dir k ∷ []) (fact ∷ []))
    (holds c shape.Entrance dir ∷ holds (steps k dir c) shape.Exit dir
    ∷ map (λ j. Tunnel (steps j dir c) dir) (range_with_len 1 (k - 1)))

-- the two ends of a pair have one class
abbrev pub pair_class_rules : Cell → Dir → ℕ → Class → List Rule
pair_class_rules c dir k class = rule (Pair c dir k ∷ Carries c class ∷ []) (Carries (steps k dir c) class ∷ [])
    ∷ rule (Pair c dir k ∷ Carries (steps k dir c) class ∷ []) (Carries c class ∷ []) ∷ []

-- the rules of a pair of this distance
abbrev pub pair_rules : LayoutRequest → Cell → Dir → ℕ → List Rule
pair_rules r c dir k = where_inside r.rect (steps k dir c)
    (way_rules c dir k ++ flat_map (pair_class_rules c dir k) (classes_of r))

-- the rules of pieces in a direction
abbrev pub piece_rules : LayoutRequest → Cell → Dir → List Rule
piece_rules r c dir = tunnel_rules r.rect c dir ++ paired_rules r.rect (most_distance r) c dir
    ++ flat_map (pair_rules r c dir) (range_with_len 1 (most_distance r))

-- the rules of underground pairs, at a cell
abbrev pub underground_rules : LayoutRequest → Cell → List Rule
underground_rules r c = flat_map (piece_rules r c) dirs
