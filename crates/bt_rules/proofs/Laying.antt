-- Each layout that lays a request gives a reading of the facts that keeps the request's rules.
use Rattle.std.proofs.Common.{◌≡◌, inl, inr, ℕ, ◌<◌, Bool, true, false, cond, List, [], ◌∷◌, ◌++◌, map, refl, sym, subst, arith}
use Rattle.std.specs.List.{AllByRecursion, flat_map, range_with_len}
use Rattle.std.proofs.lemmas.Bool.{false≢true}
use Rattle.bt_parts.specs.declared.part.Part.{Part}
use Rattle.bt_model.specs.Laying.{Lays, KeepsDemand}
use Rattle.bt_model.specs.Requests.{LayoutRequest, IsRequest}
use Rattle.bt_facts.specs.declared.fact.Fact.{Fact}
use Rattle.bt_rules.specs.Carrying.{carrying_rules}
use Rattle.bt_demands.specs.Classes.{splitters_of}
use Rattle.bt_rules.specs.Contents.{content_rules, shape_rules, mate_rules, class_rules}
use Rattle.bt_demands.specs.Counting.{count_rules}
use Rattle.bt_rules.specs.Going.{handing_rules}
use Rattle.bt_rules.specs.Laws.{LayingKeeps}
use Rattle.bt_demands.specs.Pinning.{demand_rules, clash_rules, block_rule}
use Rattle.bt_rules.specs.PlaceRules.{cell_rules, splitter_rules, room_rules, rules_of}
use Rattle.bt_demands.specs.Ends.{end_rules}
use Rattle.bt_rules.specs.Ports.{port_rules}
use Rattle.bt_facts.specs.Rules.{Rule, some_of, AllHold, OneHolds, Keeps}
use Rattle.bt_facts.specs.Spots.{cells_of}
use Rattle.bt_rules.specs.Standing.{standing_rules, place_rules}
use Rattle.bt_demands.specs.Starts.{input_rules}
use Rattle.bt_rules.specs.Underground.{underground_rules}
use Rattle.bt_rules.proofs.CarryingStay.{classes_stay, carrying_stay}
use Rattle.bt_rules.proofs.ContentsStay.{contents_stay, shapes_stay, mates_stay}
use Rattle.bt_rules.proofs.CountStay.{room_there, counts_stay}
use Rattle.bt_facts.proofs.Decided.{Decided}
use Rattle.bt_rules.proofs.GoingStay.{handing_stay}
use Rattle.bt_facts.proofs.Keeping.{In, in_contains, from_range, all_there, each_both, each_four, each_flat, each_map, OneSaid, Stays, AllStay}
use Rattle.bt_rules.proofs.Laid.{Said}
use Rattle.bt_rules.proofs.PinningStay.{clashes_stay, block_stays}
use Rattle.bt_rules.proofs.SidesStay.{each_of, demand_stays}
use Rattle.bt_rules.proofs.PortsStay.{ports_stay}
use Rattle.bt_rules.proofs.StandingStay.{standing_stay, places_stay}
use Rattle.bt_rules.proofs.StartsStay.{inputs_stay}
use Rattle.bt_rules.proofs.Told.{said}
use Rattle.bt_rules.proofs.UndergroundStay.{underground_stay}

-- whether it is told to hold
told : {P : Type 0} → Decided P → Bool
told (inl p) = true
told (inr n) = false

told_true : {P : Type 0} (d : Decided P) → P → told d ≡ true
unfolding told
told_true (inl p) q = refl
told_true (inr n) q = absurd (n q)

true_told : {P : Type 0} (d : Decided P) → told d ≡ true → P
unfolding told
true_told (inl p) t = p
true_told (inr n) t = absurd (false≢true t)

module _ (r : LayoutRequest) (is : IsRequest r) (parts : List Part) (lays : Lays parts r) where
  abbrev S : Fact → Type 0
  S = Said r parts lays

  below : (n k : ℕ) → In (range_with_len 0 n) k → k < n
  below n k h = let b = from_range 0 n k h in let lt = b.1 in omega (arith, lt)

  cell_stays : (c : _) → AllStay S (cell_rules r c)
  cell_stays c =
      let a = content_rules c in let b = shape_rules c in let m = mate_rules r.rect c in let k = class_rules r c in
      let s = standing_rules r c in let g = handing_rules r c in let u = underground_rules r c in let l = carrying_rules r c in
      each_both (Stays S) (a ++ b ++ m ++ k ++ s ++ g ++ u) l
      (each_four (Stays S) (a ++ b ++ m ++ k) s g u
      (each_four (Stays S) a b m k (contents_stay r parts lays c) (shapes_stay r parts lays c) (mates_stay r parts lays c) (classes_stay r parts lays is c))
      (standing_stay r parts lays c) (handing_stay r parts lays is c) (underground_stay r parts lays c))
      (carrying_stay r parts lays is c)

  splitter_stays : (s : ℕ) → s < r.net.splitters → AllStay S (splitter_rules r s)
  splitter_stays s lt = each_both (Stays S) (place_rules r.rect s) (port_rules r s) (places_stay r parts lays s lt) (ports_stay r parts lays is s lt)

  kept : AllByRecursion (KeepsDemand parts r lays.naming) r.demands
  kept = each_of (KeepsDemand parts r lays.naming) r.demands lays.demands

  ends_stay : AllStay S (end_rules r)
  ends_stay = each_four (Stays S) (flat_map (input_rules r) (range_with_len 0 r.net.inputs)) (flat_map (demand_rules r) r.demands) (clash_rules r.demands) (map block_rule r.blocks)
      (each_flat (Stays S) (input_rules r) (range_with_len 0 r.net.inputs) (λ k h. inputs_stay r parts lays k (below r.net.inputs k h)))
      (each_flat (Stays S) (demand_rules r) r.demands (λ d h. demand_stays r is parts lays d h (all_there (KeepsDemand parts r lays.naming) r.demands d kept h)))
      (clashes_stay r parts lays r.demands kept is.demands_apart)
      (each_map (Stays S) block_rule r.blocks (λ block h. block_stays r parts lays block (in_contains r.blocks block h)))

  room_stays : AllStay S (room_rules r)
  room_stays = each_four (Stays S) (flat_map (cell_rules r) (cells_of r.rect)) (flat_map (splitter_rules r) (splitters_of r)) (end_rules r) (count_rules r)
      (each_flat (Stays S) (cell_rules r) (cells_of r.rect) (λ c h. cell_stays c))
      (each_flat (Stays S) (splitter_rules r) (splitters_of r) (λ s h. splitter_stays s (below r.net.splitters s h)))
      ends_stay (counts_stay r parts lays)

  rules_stay : AllStay S (rules_of r)
  rules_stay = subst (λ b. AllStay S (cond b (room_rules r) (some_of [] ∷ []))) (sym (room_there r parts lays is)) room_stays

  -- the reading that is read off
  read_off : Fact → Bool
  read_off f = told (said r parts lays f)

  all_said : (facts : List Fact) → AllHold read_off facts → AllByRecursion S facts
  unfolding read_off
  all_said [] h = tt
  all_said (f ∷ facts) h = (true_told (said r parts lays f) h.0, all_said facts h.1)

  one_holds : (facts : List Fact) → OneSaid S facts → OneHolds read_off facts
  unfolding read_off
  one_holds [] h = absurd h
  one_holds (f ∷ facts) (inl q) = inl (told_true (said r parts lays f) q)
  one_holds (f ∷ facts) (inr h) = inr (one_holds facts h)

  rules_kept : (rules : List Rule) → AllStay S rules → AllByRecursion (Keeps read_off) rules
  rules_kept [] h = tt
  rules_kept (rule ∷ rules) h = ((λ all. one_holds rule.one_of (h.0 (all_said rule.given all))), rules_kept rules h.1)

pub laying_keeps : LayingKeeps
laying_keeps r parts is lays = (read_off r is parts lays, rules_kept r is parts lays (rules_of r) (rules_stay r is parts lays))
