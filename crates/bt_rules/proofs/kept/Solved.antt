-- A request with a reading of the facts that keeps its rules: the rules family by family.
use Rattle.std.proofs.Common.{◌≡◌, ◌⊎◌, ℕ, ◌<◌, Bool, true, false, cond, List, [], ◌∷◌, ◌++◌, map, subst, ⊎_elim, arith}
use Rattle.std.specs.List.{AllByRecursion, flat_map, range_with_len}
use Rattle.std.proofs.lemmas.Bool.{both_ways, cases_Bool}
use Rattle.bt_parts.specs.declared.part.Cell.{Cell}
use Rattle.bt_parts.specs.Cells.{IsInside}
use Rattle.bt_net.specs.declared.network.Block.{Block}
use Rattle.bt_net.specs.declared.network.Demand.{Demand}
use Rattle.bt_model.specs.Requests.{LayoutRequest, IsRequest}
use Rattle.bt_facts.specs.declared.fact.Fact.{Fact}
use Rattle.bt_rules.specs.Carrying.{carrying_rules}
use Rattle.bt_demands.specs.Classes.{splitters_of}
use Rattle.bt_rules.specs.Contents.{content_rules, shape_rules, mate_rules, class_rules}
use Rattle.bt_demands.specs.Counting.{has_room, count_rules}
use Rattle.bt_rules.specs.Going.{handing_rules}
use Rattle.bt_demands.specs.Pinning.{demand_rules, clash_rules, block_rule}
use Rattle.bt_rules.specs.PlaceRules.{cell_rules, splitter_rules, room_rules, rules_of}
use Rattle.bt_rules.specs.Ports.{port_rules}
use Rattle.bt_facts.specs.Rules.{Rule, some_of, Keeps, OneHolds}
use Rattle.bt_facts.specs.Spots.{cells_of, where_inside, where_outside}
use Rattle.bt_rules.specs.Standing.{standing_rules, place_rules}
use Rattle.bt_demands.specs.Starts.{input_rules}
use Rattle.bt_rules.specs.Underground.{underground_rules}
use Rattle.bt_facts.proofs.Geometry.{in_cells}
use Rattle.bt_facts.proofs.Keeping.{In, in_range}
use Rattle.bt_rules.proofs.kept.Readings.{all_left, all_right, all_mapped, all_flat}
use Rattle.bt_rules.proofs.kept.Geometry.{in_or_out, where_in, where_out, out_in, out_out}

-- the reading keeps each rule of the request
unfoldable pub KeepsAll : LayoutRequest → (Fact → Bool) → Type 0
KeepsAll r reading = AllByRecursion (Keeps reading) (rules_of r)

pub record Solved : Type 0 where
  pub r : LayoutRequest
  pub reading : Fact → Bool
  pub is_request : IsRequest r
  pub keeps : KeepsAll r reading

-- the reading says the fact, or denies it
abbrev pub Says : Solved → Fact → Type 0
Says w fact = w.reading fact ≡ true

abbrev Denies : Solved → Fact → Type 0
Denies w fact = w.reading fact ≡ false

pub said : (w : Solved) (fact : Fact) → Says w fact ⊎ Denies w fact
said w fact = cases_Bool (w.reading fact)

pub not_said : (w : Solved) (fact : Fact) → Denies w fact → Says w fact → ⊥
not_said w fact d s = both_ways (w.reading fact) d s

pub denied : (w : Solved) (fact : Fact) → (Says w fact → ⊥) → Denies w fact
denied w fact never = ⊎_elim (λ s. absurd (never s)) (λ d. d) (said w fact)

-- the rules are kept
abbrev pub Kept : Solved → List Rule → Type 0
Kept w rules = AllByRecursion (Keeps w.reading) rules

-- of facts that count only inside, and only outside, one holds
pub one_inside : (w : Solved) (c : Cell) (facts : List Fact) → OneHolds w.reading (where_inside w.r.rect c facts)
    → IsInside w.r.rect c × OneHolds w.reading facts
one_inside w c facts h =
    ⊎_elim (λ i. (i, subst (OneHolds w.reading) (where_in w.r.rect c facts i) h))
    (λ o. absurd (subst (OneHolds w.reading) (where_out w.r.rect c facts o) h))
    (in_or_out w.r.rect c)

pub one_outside : (w : Solved) (c : Cell) (facts : List Fact) → OneHolds w.reading (where_outside w.r.rect c facts)
    → (IsInside w.r.rect c → ⊥) × OneHolds w.reading facts
one_outside w c facts h =
    ⊎_elim (λ i. absurd (subst (OneHolds w.reading) (out_in w.r.rect c facts i) h))
    (λ o. (o, subst (OneHolds w.reading) (out_out w.r.rect c facts o) h))
    (in_or_out w.r.rect c)

-- ---- the parts of the list of all rules

module _ (r : LayoutRequest) where
  of_cells : List Rule
  of_cells = flat_map (cell_rules r) (cells_of r.rect)

  of_splitters : List Rule
  of_splitters = flat_map (splitter_rules r) (splitters_of r)

  of_inputs : List Rule
  of_inputs = flat_map (input_rules r) (range_with_len 0 r.net.inputs)

  of_demands : List Rule
  of_demands = flat_map (demand_rules r) r.demands

  of_clashes : List Rule
  of_clashes = clash_rules r.demands

  of_blocks : List Rule
  of_blocks = map block_rule r.blocks

module _ (w : Solved) where
  all_kept : Kept w (of_cells w.r ++ of_splitters w.r ++ (of_inputs w.r ++ of_demands w.r ++ of_clashes w.r ++ of_blocks w.r))
  unfolding KeepsAll of_cells of_splitters of_inputs of_demands of_clashes of_blocks
  all_kept = by (has_room w.r) w.keeps
    where
      by : (b : Bool) → Kept w (cond b (room_rules w.r) (some_of [] ∷ [])) → Kept w (of_cells w.r ++ of_splitters w.r ++ (of_inputs w.r ++ of_demands w.r ++ of_clashes w.r ++ of_blocks w.r))
      by true kept = all_left (Keeps w.reading) (of_cells w.r ++ of_splitters w.r ++ (of_inputs w.r ++ of_demands w.r ++ of_clashes w.r ++ of_blocks w.r)) (count_rules w.r) kept
      by false kept = absurd (kept.0 tt)

  fronts : Kept w (of_cells w.r ++ of_splitters w.r)
  fronts = all_left (Keeps w.reading) (of_cells w.r ++ of_splitters w.r) (of_inputs w.r ++ of_demands w.r ++ of_clashes w.r ++ of_blocks w.r) all_kept

  ends : Kept w (of_inputs w.r ++ of_demands w.r ++ of_clashes w.r ++ of_blocks w.r)
  ends = all_right (Keeps w.reading) (of_cells w.r ++ of_splitters w.r) (of_inputs w.r ++ of_demands w.r ++ of_clashes w.r ++ of_blocks w.r) all_kept

  pub block_kept : (block : Block) → In w.r.blocks block → Keeps w.reading (block_rule block)
  unfolding of_blocks
  block_kept block there = all_mapped (Keeps w.reading) block_rule block w.r.blocks
      (all_right (Keeps w.reading) (of_inputs w.r ++ of_demands w.r ++ of_clashes w.r) (of_blocks w.r) ends) there

  to_clashes : Kept w (of_inputs w.r ++ of_demands w.r ++ of_clashes w.r)
  to_clashes = all_left (Keeps w.reading) (of_inputs w.r ++ of_demands w.r ++ of_clashes w.r) (of_blocks w.r) ends

  pub clashes_kept : Kept w (clash_rules w.r.demands)
  unfolding of_clashes
  clashes_kept = all_right (Keeps w.reading) (of_inputs w.r ++ of_demands w.r) (of_clashes w.r) to_clashes

  to_demands : Kept w (of_inputs w.r ++ of_demands w.r)
  to_demands = all_left (Keeps w.reading) (of_inputs w.r ++ of_demands w.r) (of_clashes w.r) to_clashes

  pub demand_kept : (d : Demand) → In w.r.demands d → Kept w (demand_rules w.r d)
  unfolding of_demands
  demand_kept d there = all_flat (Keeps w.reading) (demand_rules w.r) d w.r.demands
      (all_right (Keeps w.reading) (of_inputs w.r) (of_demands w.r) to_demands) there

  pub input_kept : (i : ℕ) → i < w.r.net.inputs → Kept w (input_rules w.r i)
  unfolding of_inputs
  input_kept i lt = all_flat (Keeps w.reading) (input_rules w.r) i (range_with_len 0 w.r.net.inputs)
      (all_left (Keeps w.reading) (of_inputs w.r) (of_demands w.r) to_demands)
      (in_range 0 w.r.net.inputs i (omega arith) (omega arith))

  splitter_kept : (s : ℕ) → s < w.r.net.splitters → Kept w (splitter_rules w.r s)
  unfolding of_splitters
  splitter_kept s lt = all_flat (Keeps w.reading) (splitter_rules w.r) s (splitters_of w.r)
      (all_right (Keeps w.reading) (of_cells w.r) (of_splitters w.r) fronts)
      (in_range 0 w.r.net.splitters s (omega arith) (omega arith))

  pub place_kept : (s : ℕ) → s < w.r.net.splitters → Kept w (place_rules w.r.rect s)
  place_kept s lt = all_left (Keeps w.reading) (place_rules w.r.rect s) (port_rules w.r s) (splitter_kept s lt)

  pub port_kept : (s : ℕ) → s < w.r.net.splitters → Kept w (port_rules w.r s)
  port_kept s lt = all_right (Keeps w.reading) (place_rules w.r.rect s) (port_rules w.r s) (splitter_kept s lt)

-- ---- the rules of a cell

abbrev shapes_to : Solved → Cell → List Rule
shapes_to w c = content_rules c ++ shape_rules c

abbrev mates_to : Solved → Cell → List Rule
mates_to w c = shapes_to w c ++ mate_rules w.r.rect c

abbrev classes_to : Solved → Cell → List Rule
classes_to w c = mates_to w c ++ class_rules w.r c

abbrev standing_to : Solved → Cell → List Rule
standing_to w c = classes_to w c ++ standing_rules w.r c

abbrev handing_to : Solved → Cell → List Rule
handing_to w c = standing_to w c ++ handing_rules w.r c

abbrev undergrounds_to : Solved → Cell → List Rule
undergrounds_to w c = handing_to w c ++ underground_rules w.r c

module _ (w : Solved) (c : Cell) (h : IsInside w.r.rect c) where
  cell_kept : Kept w (undergrounds_to w c ++ carrying_rules w.r c)
  unfolding of_cells
  cell_kept = all_flat (Keeps w.reading) (cell_rules w.r) c (cells_of w.r.rect)
      (all_left (Keeps w.reading) (of_cells w.r) (of_splitters w.r) (fronts w)) (in_cells w.r.rect c h)

  pub carrying_kept : Kept w (carrying_rules w.r c)
  carrying_kept = all_right (Keeps w.reading) (undergrounds_to w c) (carrying_rules w.r c) cell_kept

  to_undergrounds : Kept w (undergrounds_to w c)
  to_undergrounds = all_left (Keeps w.reading) (undergrounds_to w c) (carrying_rules w.r c) cell_kept

  pub underground_kept : Kept w (underground_rules w.r c)
  underground_kept = all_right (Keeps w.reading) (handing_to w c) (underground_rules w.r c) to_undergrounds

  to_handing : Kept w (handing_to w c)
  to_handing = all_left (Keeps w.reading) (handing_to w c) (underground_rules w.r c) to_undergrounds

  pub handing_kept : Kept w (handing_rules w.r c)
  handing_kept = all_right (Keeps w.reading) (standing_to w c) (handing_rules w.r c) to_handing

  to_standing : Kept w (standing_to w c)
  to_standing = all_left (Keeps w.reading) (standing_to w c) (handing_rules w.r c) to_handing

  pub standing_kept : Kept w (standing_rules w.r c)
  standing_kept = all_right (Keeps w.reading) (classes_to w c) (standing_rules w.r c) to_standing

  to_classes : Kept w (classes_to w c)
  to_classes = all_left (Keeps w.reading) (classes_to w c) (standing_rules w.r c) to_standing

  pub classes_kept : Kept w (class_rules w.r c)
  classes_kept = all_right (Keeps w.reading) (mates_to w c) (class_rules w.r c) to_classes

  to_mates : Kept w (mates_to w c)
  to_mates = all_left (Keeps w.reading) (mates_to w c) (class_rules w.r c) to_classes

  pub mates_kept : Kept w (mate_rules w.r.rect c)
  mates_kept = all_right (Keeps w.reading) (shapes_to w c) (mate_rules w.r.rect c) to_mates

  to_shapes : Kept w (shapes_to w c)
  to_shapes = all_left (Keeps w.reading) (shapes_to w c) (mate_rules w.r.rect c) to_mates

  pub shapes_kept : Kept w (shape_rules c)
  shapes_kept = all_right (Keeps w.reading) (content_rules c) (shape_rules c) to_shapes

  pub contents_kept : Kept w (content_rules c)
  contents_kept = all_left (Keeps w.reading) (content_rules c) (shape_rules c) to_shapes
