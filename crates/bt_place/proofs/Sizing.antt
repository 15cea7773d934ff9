-- The numbers of the variables of a request are small, and those of its facts are among them.
use Rattle.std.proofs.Common.{◌≡◌, ℕ, ◌<◌, ◌≤◌, ◌+◌, ◌-◌, ◌*◌, ◌^◌, Bool, true, false, cond, List, [], ◌∷◌, ◌++◌, length, map, get_or, refl, sym, ◌∙◌, ap, subst, arith, length-append}
use Rattle.std.proofs.Math.Nat.{mul-le-mul_right, mul-le-mul_left}
use Rattle.std.specs.List.{range_with_len, flat_map, filter, list_any}
use Rattle.std.proofs.lemmas.List.{get_or_default}
use Rattle.std.specs.Prelude.{slice_index}
use Rattle.bt_parts.specs.declared.part.Cell.{Cell}
use Rattle.bt_parts.specs.declared.part.Tier.{Tier}
use Rattle.bt_parts.specs.declared.part.Tier.TheVariants.{Basic, Fast, Express, Turbo}
use Rattle.bt_parts.specs.Tiers.{reach_of}
use Rattle.bt_net.specs.Network.{Network}
use Rattle.bt_model.specs.Requests.{LayoutRequest, IsRequest, is_row}
use Rattle.bt_facts.specs.declared.fact.Class.{Class}
use Rattle.bt_facts.specs.declared.fact.Class.TheVariants.{Split, Input}
use Rattle.bt_facts.specs.declared.fact.Fact.{Fact}
use Rattle.bt_demands.specs.Classes.{occurs, splitters_of, shared_into, input_classes, classes_of}
use Rattle.bt_demands.specs.Stopping.{sides_outputs}
use Rattle.bt_place.specs.declared.blocks.Starts.{Starts}
use Rattle.bt_place.specs.Numbering.{Sizes, spots, spares, spot_of, along, variables, variable_of}
use Rattle.bt_place.specs.PlaceFormula.{splitter_order, ranks_of, sizes_of}
use Rattle.bt_place.specs.Within.{IsSpot, IsNumbered}
use Rattle.bt_place.specs.inner.Blocks.{AreNumbers, place_number}
use Rattle.bt_place.proofs.Counting.{group_within, length_map, length_range, length_flat}
use Rattle.bt_place.proofs.Inverse.{AreRanks, fact_at, found_cell, found_along, length_cells, length_along}
use Rattle.bt_place.proofs.Ranking.{ranked}

-- a product of numbers that are at most these
product : (a b m n : ℕ) → a ≤ m → b ≤ n → a * b ≤ m * n
product a b m n h k =
    let first : a * b ≤ m * b = mul-le-mul_right b h in
    let second : m * b ≤ m * n = mul-le-mul_left m k in
    omega (arith, first, second)

reaches : (t : Tier) → reach_of t ≤ 10
reaches Basic = omega arith
reaches Fast = omega arith
reaches Express = omega arith
reaches Turbo = omega arith

-- those that pass a test are no more than all
filter_few : {X : Type 0} (p : X → Bool) (xs : List X) → length (filter p xs) ≤ length xs
filter_few p [] = omega arith
filter_few p (x ∷ xs) = by (p x) (filter_few p xs)
  where
    by : (b : Bool) → length (filter p xs) ≤ length xs → length (cond b (x ∷ filter p xs) (filter p xs)) ≤ length (x ∷ xs)
    by true le = omega (arith, le)
    by false le = omega (arith, le)

-- a request has at most six classes for each splitter and one for each input
few_classes : (r : LayoutRequest) → length (classes_of r) ≤ r.net.splitters + (r.net.splitters * 5 + r.net.inputs)
few_classes r =
    let s = splitters_of r in
    let i = range_with_len 0 r.net.inputs in
    let all = length-append (map Split s) (input_classes r) in
    let splits : length (map Split s) ≡ r.net.splitters = length_map Split s ∙ length_range 0 r.net.splitters in
    let shared : length (flat_map shared_into s) ≡ r.net.splitters * 5 = length_flat shared_into s 5 (λ t. refl) ∙ ap (λ n. n * 5) (length_range 0 r.net.splitters) in
    let single : length (map Input i) ≡ r.net.inputs = length_map Input i ∙ length_range 0 r.net.inputs in
    let both = length-append (flat_map shared_into s) (map Input i) in
    let few = filter_few (occurs r) (flat_map shared_into s ++ map Input i) in
    omega (arith, all, splits, shared, single, both, few)

-- a request has few variables
pub few_of_request : (r : LayoutRequest) → IsRequest r → variables (sizes_of r) < 2 ^ 32
few_of_request r is =
    let z = sizes_of r in
    let wide : z.width ≤ 160 = is.grid.few_across in
    let high : z.height ≤ 160 = is.grid.few_down in
    let s : z.splitters ≤ 512 = is.few_splitters in
    let i : z.inputs ≤ 2048 = is.net.few_inputs in
    let o : z.stops ≤ 2048 = few_stops (list_any sides_outputs r.demands) in
    let k : length z.classes ≤ 5120 = (let few = few_classes r in omega (arith, few, s, i)) in
    let d : z.distances ≤ 11 = (let h = reaches r.tier in omega (arith, h)) in
    let n : spots z ≤ 160 * 160 = product z.width z.height 160 160 wide high in
    let n : spots z ≤ 25600 = omega (arith, n) in
    let carried = product (spots z) (length z.classes) 25600 5120 n k in
    let started = product (spots z) z.inputs 25600 2048 n i in
    let stopped = product (spots z) z.stops 25600 2048 n o in
    let l : z.lines ≤ 4 = few_lines (list_any is_row r.demands) in
    let lying = product (spots z) z.lines 25600 4 n l in
    let distances = product (spots z) z.distances 25600 11 n d in
    let columns = product z.splitters z.width 512 160 s wide in
    let rows = product z.splitters z.height 512 160 s high in
    let places = product z.splitters (spots z) 512 25600 s n in
    let held = product (spares z) z.halves 25601 1024 (omega (arith, n)) (omega (arith, s)) in
    omega (arith, n, s, carried, started, stopped, lying, distances, columns, rows, places, held)
  where
    few_lines : (b : Bool) → cond b 4 0 ≤ 4
    few_lines true = omega arith
    few_lines false = omega arith

    few_stops : (b : Bool) → cond b r.net.outputs 0 ≤ 2048
    few_stops true = is.net.few_outputs
    few_stops false = omega arith

-- the sizes of a request have its classes and its ranks
pub sizes_are : (r : LayoutRequest) (classes : List Class) (ranks : List ℕ) (net : Network) (z : Sizes)
    → z ≡ record (sizes_of r) { classes = classes; ranks = ranks } → classes ≡ classes_of r → ranks ≡ ranks_of net → net ≡ r.net → z ≡ sizes_of r
sizes_are r classes ranks net z is k h same = is
    ∙ ap (λ (l : List Class). record (sizes_of r) { classes = l; ranks = ranks }) k
    ∙ ap (λ (l : List ℕ). record (sizes_of r) { ranks = l }) (h ∙ ap ranks_of same)

-- ---- cells

pub spot_within : (z : Sizes) (c : Cell) → IsSpot z c → spot_of z c < spots z
spot_within z c h = let lt = (found_cell z c h).within in let long = length_cells z in omega (arith, lt, long)

pub along_within : (z : Sizes) (c : Cell) → IsSpot z c → along z c < spots z
along_within z c h = let lt = (found_along z c h).within in let long = length_along z in omega (arith, lt, long)

-- the number of a splitter's place, as it is computed
pub place_is : (z w : Sizes) → z ≡ w → (s : ℕ) (c : Cell) (n back rank : ℕ)
    → n ≡ 0 + ((z.splitters - 1 - rank) * (z.width * z.height) + back) → back ≡ spots w - 1 - along w c → rank ≡ slice_index z.ranks s
    → n ≡ place_number w s c
place_is z w same s c n back rank is back_is rank_is =
    let back_here : back ≡ spots z - 1 - along z c = back_is ∙ ap (λ v. spots v - 1 - along v c) (sym same) in
    is ∙ (let e : 0 + ((z.splitters - 1 - rank) * (z.width * z.height) + back) ≡ (z.splitters - 1 - rank) * spots z + back = omega arith in e)
    ∙ ap (λ k. (z.splitters - 1 - k) * spots z + back) rank_is
    ∙ ap (λ k. (z.splitters - 1 - slice_index z.ranks s) * spots z + k) back_here
    ∙ ap (λ v. place_number v s c) same

-- ---- the numbers of a request

module _ (z : Sizes) (starts : Starts) (are : AreNumbers z starts) where
  pub few : variables z < 2 ^ 32
  few = subst (λ w. variables w < 2 ^ 32) (sym are.of_request) (few_of_request are.request are.is_request)

  pub ranks_known : AreRanks z (splitter_order are.request.net)
  ranks_known = subst (λ w. AreRanks w (splitter_order are.request.net)) (sym are.of_request) (ranked are.request)

  pub fact_within : (x : Fact) → IsNumbered z x → variable_of z x < variables z
  fact_within x h = (fact_at z (splitter_order are.request.net) ranks_known x h).0

  pub rank_within : (s : ℕ) → s < z.splitters → slice_index z.ranks s < z.splitters
  rank_within s lt = ranks_known.within s lt

  pub ranks_long : length z.ranks ≡ z.splitters
  ranks_long = subst (λ w. length w.ranks ≡ w.splitters) (sym are.of_request)
      (length_map _ (range_with_len 0 are.request.net.splitters) ∙ length_range 0 are.request.net.splitters)

  -- the rank that is read
  pub rank_read : (s rank : ℕ) → s < z.splitters → rank ≡ get_or z.ranks s rank → rank ≡ slice_index z.ranks s
  rank_read s rank lt is = let long = ranks_long in is ∙ get_or_default z.ranks s rank 0 (omega (arith, lt, long))

  pub place_within : (s : ℕ) (c : Cell) → s < z.splitters → IsSpot z c → place_number z s c < z.splitters * spots z
  place_within s c lt h =
      let rank = rank_within s lt in
      let at = along_within z c h in
      group_within (z.splitters - 1 - slice_index z.ranks s) (spots z - 1 - along z c) z.splitters (spots z) (omega (arith, rank)) (omega (arith, at))

  pub fact_few : (w : Sizes) → z ≡ w → (x : Fact) → IsNumbered w x → variable_of w x < 2 ^ 32
  fact_few w same x h =
      subst (λ (v : Sizes). IsNumbered v x → variable_of v x < 2 ^ 32) same
      (λ (k : IsNumbered z x). let lt = fact_within x k in let all = few in omega (arith, lt, all)) h

  pub fact_below : (w : Sizes) → z ≡ w → (x : Fact) → IsNumbered w x → variable_of w x < variables w
  fact_below w same x h = subst (λ (v : Sizes). IsNumbered v x → variable_of v x < variables v) same (λ (k : IsNumbered z x). fact_within x k) h
