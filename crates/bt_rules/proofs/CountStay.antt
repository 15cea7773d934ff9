-- Layouts keep the rules that count halves and ends.
use Rattle.std.proofs.Common.{◌≡◌, ◌⊎◌, inl, inr, ℕ, zero, suc, ◌+◌, ◌-◌, ◌<◌, ◌≤◌, true, false, not, ◌&&◌, List, [], ◌∷◌, ◌++◌, length, map, get_or, eq-eqb, length-append, refl, sym, ◌∙◌, ap, subst, ⊎_elim, arith}
use Rattle.std.specs.List.{flat_map, filter, range_with_len}
use Rattle.std.proofs.lemmas.Bool.{both_ways, not-true, cases_eq}
use Rattle.std.proofs.lemmas.List.{length-map}
use Rattle.std.proofs.lemmas.List.Sums.{length-filter}
use Rattle.std.proofs.lemmas.Option.{slice_get_within, slice_get-get_or, get_or_from_slice_get}
use Rattle.bt_parts.specs.declared.part.Cell.{Cell}
use Rattle.bt_parts.specs.declared.part.Dir.TheVariants.{North}
use Rattle.bt_parts.specs.declared.part.Kind.TheVariants as kind
use Rattle.bt_parts.specs.declared.part.Part.{Part}
use Rattle.bt_parts.specs.declared.part.Tier.TheVariants.{Basic}
use Rattle.bt_parts.specs.Cells.{beside, opposite, cell_at}
use Rattle.bt_parts.specs.Layouts.{HasPart, IsAt}
use Rattle.bt_parts.proofs.Places.{one_there}
use Rattle.bt_net.specs.declared.network.Edge.{Edge}
use Rattle.bt_net.specs.declared.network.Start.TheVariants as from
use Rattle.bt_net.specs.declared.network.Target.TheVariants as to
use Rattle.bt_net.specs.Network.{is_input, is_output}
use Rattle.bt_model.specs.Chains.{IsSplitter, IsInput, IsOutput}
use Rattle.bt_model.specs.Laying.{Lays}
use Rattle.bt_model.specs.Requests.{LayoutRequest, IsRequest}
use Rattle.bt_model.proofs.ChainLemmas.{no_link}
use Rattle.bt_model.proofs.ExistLemmas.{input_link, output_link}
use Rattle.bt_model.proofs.Places.{contained_at}
use Rattle.bt_model.proofs.Sorted.{one_place}
use Rattle.bt_facts.specs.declared.fact.Fact.{Fact}
use Rattle.bt_facts.specs.declared.fact.Fact.TheVariants.{HalfOn, Held}
use Rattle.bt_demands.specs.Classes.{leads_out, is_through}
use Rattle.bt_demands.specs.Counting.{halves_of, ends_apart, has_room, count_rules}
use Rattle.bt_facts.specs.Counters.{among_less, last_cell_rule, one_fewer_rules, held_rules, counter_rules, all_held_rules}
use Rattle.bt_facts.specs.Spots.{cells_of, border_of}
use Rattle.bt_rules.proofs.Classed.{the_edge, edge_in, one_edge, input_lies, from_target, target_out, output_target}
use Rattle.bt_facts.proofs.Decided.{Decided, contains_at}
use Rattle.bt_rules.proofs.Deciding.{half_decided}
use Rattle.bt_demands.proofs.Fitting.{no_longer, distinct_pairs, distinct_made, enough_for}
use Rattle.bt_facts.proofs.Geometry.{in_border, in_cells, beside_apart}
use Rattle.bt_facts.proofs.Keeping.{In, in_both, from_map, from_filter, from_range, in_contains, any_in, place_of, each_both, each_flat, Distinct, distinct_both, distinct_filter, distinct_range, OneSaid, AllStay, Stays, said_left, said_right}
use Rattle.bt_rules.proofs.Laid.{Said, is_orderly, placed_of, inside_at}
use Rattle.bt_rules.proofs.Reading.{Bears, HalfThere, Holding, cell_numbered, no_edge}
use Rattle.bt_rules.proofs.kept.ListFacts.{counted}

module _ (r : LayoutRequest) (parts : List Part) (lays : Lays parts r) where
  abbrev S : Fact → Type 0
  S = Said r parts lays

  -- of the first so many cells at least so many hold halves
  abbrev H : ℕ → ℕ → Type 0
  H n k = Holding parts r.rect n k

  abbrev cell : ℕ → Cell
  cell n = cell_numbered r.rect n

  no_more : (n k : ℕ) → H n k → k ≤ n
  no_more n zero h = omega arith
  no_more zero (suc k) h = absurd h
  no_more (suc n) (suc k) (inl h) = let le = no_more n (suc k) h in omega (arith, le)
  no_more (suc n) (suc k) (inr h) = let le = no_more n k h.1 in omega (arith, le)

  -- as many among one cell more, and one fewer
  longer : (n k : ℕ) → H n k → H (suc n) k
  longer n zero h = tt
  longer n (suc k) h = inl h

  fewer : (n k : ℕ) → H n (suc k) → H n k
  fewer n zero h = tt
  fewer zero (suc k) h = absurd h
  fewer (suc n) (suc k) (inl h) = inl (fewer n (suc k) h)
  fewer (suc n) (suc k) (inr h) = inr (h.0, fewer n k h.1)

  so_few : (n k d : ℕ) → H n (d + k) → H n k
  so_few n k zero h = subst (H n) (let e : 0 + k ≡ k = omega arith in e) h
  so_few n k (suc d) h = so_few n k d (fewer n (d + k) (subst (H n) (let e : suc d + k ≡ suc (d + k) = omega arith in e) h))

  -- ---- the rules of the counter

  less_said : (spare half : ℕ) → H (spare + half) (suc half) → OneSaid S (among_less spare half)
  less_said zero half h = let le = no_more (0 + half) (suc half) h in absurd (omega (arith, le))
  less_said (suc spare) half h = inl (subst (λ n. H n (suc half)) (let e : suc spare + half ≡ suc (spare + half) = omega arith in e) h)

  last_cell_stays : (spare half : ℕ) → Stays S (last_cell_rule (cells_of r.rect) spare half)
  last_cell_stays spare half given = ⊎_elim
      (λ h. said_left S (among_less spare half) (HalfOn (cell (spare + half)) ∷ []) (less_said spare half h))
      (λ h. said_right S (among_less spare half) (HalfOn (cell (spare + half)) ∷ []) (inl h.0))
      given.0

  one_fewer_stays : (spare half : ℕ) → AllStay S (one_fewer_rules spare half)
  one_fewer_stays spare zero = tt
  one_fewer_stays spare (suc half) = (
    λ given. ⊎_elim
        (λ h. said_left S (among_less spare (suc half)) (Held spare half ∷ []) (less_said spare (suc half) h))
        (λ h. said_right S (among_less spare (suc half)) (Held spare half ∷ [])
        (inl (subst (λ n. H n (suc half)) (let e : spare + suc half ≡ suc (spare + half) = omega arith in e) h.1)))
        given.0,
    tt,
  )

  counter_stays : AllStay S (counter_rules (cells_of r.rect) (halves_of r))
  counter_stays = each_flat (Stays S) (λ spare. flat_map (held_rules (cells_of r.rect) spare) (range_with_len 0 (halves_of r))) (range_with_len 0 (length (cells_of r.rect) + 1 - halves_of r))
      (λ spare at. each_flat (Stays S) (held_rules (cells_of r.rect) spare) (range_with_len 0 (halves_of r))
      (λ half there. (last_cell_stays spare half, one_fewer_stays spare half)))

  all_held_stays : (m : ℕ) → m ≤ length (cells_of r.rect) → H (length (cells_of r.rect)) m → AllStay S (all_held_rules (length (cells_of r.rect)) m)
  all_held_stays zero few h = tt
  all_held_stays (suc half) few h = (
    λ given. inl (subst (λ n. H n (suc half)) (let e : length (cells_of r.rect) ≡ suc (length (cells_of r.rect) - suc half + half) = omega (arith, few) in e) h),
    tt,
  )

  -- ---- the cells of halves

  add_half : (c : Cell) → Decided (HalfThere parts c) → List Cell → List Cell
  add_half c (inl h) cells = c ∷ cells
  add_half c (inr n) cells = cells

  is_half : (c : Cell) → Decided (HalfThere parts c)
  is_half c = half_decided parts (is_orderly r parts lays) c

  -- those of the first so many cells that hold halves
  halves_among : ℕ → List Cell
  halves_among zero = []
  halves_among (suc n) = add_half (cell n) (is_half (cell n)) (halves_among n)

  among_held : (n : ℕ) → H n (length (halves_among n))
  unfolding halves_among add_half
  among_held zero = tt
  among_held (suc n) = by (is_half (cell n)) (among_held n)
    where
      by : (d : Decided (HalfThere parts (cell n))) → H n (length (halves_among n)) → H (suc n) (length (add_half (cell n) d (halves_among n)))
      by (inl h) rest = inr (h, rest)
      by (inr none) rest = longer n (length (halves_among n)) rest

  in_among : (n k : ℕ) → k < n → HalfThere parts (cell k) → In (halves_among n) (cell k)
  unfolding halves_among add_half
  in_among zero k lt h = absurd (omega arith)
  in_among (suc n) k lt h = ⊎_elim (λ e. here e (is_half (cell n))) (λ ne. later (is_half (cell n)) (in_among n k (omega (arith, lt, ne)) h)) (cases_eq k n)
    where
      here : k ≡ n → (d : Decided (HalfThere parts (cell n))) → In (add_half (cell n) d (halves_among n)) (cell k)
      here e (inl there) = inl (ap cell e)
      here e (inr none) = absurd (none (subst (λ j. HalfThere parts (cell j)) e h))

      later : (d : Decided (HalfThere parts (cell n))) → In (halves_among n) (cell k) → In (add_half (cell n) d (halves_among n)) (cell k)
      later (inl there) rest = inr rest
      later (inr none) rest = rest

  -- ---- cells of parts

  none : Part
  none = record { kind = kind.Belt; tier = Basic; dir = North; cell = cell_at 0 0 }

  part_of : ℕ → Part
  part_of i = get_or parts i none

  own : ℕ → Cell
  own i = (part_of i).cell

  other : ℕ → Cell
  other i = beside (part_of i).dir (part_of i).cell

  part_is : (i : ℕ) (part : Part) → HasPart parts i part → part_of i ≡ part
  unfolding part_of
  part_is i part has = get_or_from_slice_get parts i part none has

  -- there is a part with this index
  abbrev Is : ℕ → Type 0
  Is i = (part : Part) × HasPart parts i part

  at_own : (i : ℕ) → Is i → IsAt parts i (own i)
  unfolding own
  at_own i has = record { part = has.0; is_i = has.1; covers = inl (ap (λ p. p.cell) (part_is i has.0 has.1)) }

  at_other : (i : ℕ) → IsSplitter parts i → IsAt parts i (other i)
  unfolding other
  at_other i has = record { part = has.0; is_i = has.1; covers = inr (has.2, ap (λ p. beside p.dir p.cell) (part_is i has.0 has.1)) }

  same_index : (i j : ℕ) (c : Cell) → IsAt parts i c → IsAt parts j c → i ≡ j
  same_index i j c a b = one_there parts (placed_of r parts lays) i j c a b

  in_rect : (i : ℕ) (c : Cell) → IsAt parts i c → In (cells_of r.rect) c
  in_rect i c at = in_cells r.rect c (inside_at r parts lays i c at)

  -- ---- the parts of splitters

  abbrev splits : List ℕ
  splits = lays.naming.splitters

  split_is : (i : ℕ) → In splits i → IsSplitter parts i
  split_is i there = lays.shows.names.splitters.only i (in_contains splits i there)

  has_split : (i : ℕ) → In splits i → Is i
  has_split i there = let s = split_is i there in (s.0, s.1)

  -- the cells of all halves, and those of the parts with these indices
  cover : List ℕ → List Cell
  cover is = map other splits ++ map own (splits ++ is)

  module _ (is : List ℕ) (apart : Distinct (splits ++ is)) (each : (i : ℕ) → In is i → Is i) where
    has : (i : ℕ) → In (splits ++ is) i → Is i
    has i there = ⊎_elim (has_split i) (each i) (in_both splits is i there)

    cover_distinct : Distinct (cover is)
    unfolding cover own other
    cover_distinct = distinct_both (map other splits) (map own (splits ++ is))
        (distinct_made other splits
        (λ i j a b e. same_index i j (other i) (at_other i (split_is i a)) (subst (IsAt parts j) (sym e) (at_other j (split_is j b))))
        (distinct_pairs splits lays.shows.names.splitters.once))
        (distinct_made own (splits ++ is)
        (λ i j a b e. same_index i j (own i) (at_own i (has i a)) (subst (IsAt parts j) (sym e) (at_own j (has j b))))
        apart)
        (λ c a b.
        let i = from_map other splits c a in
        let j = from_map own (splits ++ is) c b in
        let same = same_index i.0 j.0 c (subst (IsAt parts i.0) (sym i.2) (at_other i.0 (split_is i.0 i.1))) (subst (IsAt parts j.0) (sym j.2) (at_own j.0 (has j.0 j.1))) in
        never i.0 (ap own same ∙ sym j.2 ∙ i.2))
      where
        never : (i : ℕ) → own i ≡ other i → ⊥
        never i e = beside_apart (part_of i).dir (part_of i).cell e

    cover_inside : (c : Cell) → In (cover is) c → In (cells_of r.rect) c
    unfolding cover
    cover_inside c there = ⊎_elim
        (λ a. let i = from_map other splits c a in in_rect i.0 c (subst (IsAt parts i.0) (sym i.2) (at_other i.0 (split_is i.0 i.1))))
        (λ b. let j = from_map own (splits ++ is) c b in in_rect j.0 c (subst (IsAt parts j.0) (sym j.2) (at_own j.0 (has j.0 j.1))))
        (in_both (map other splits) (map own (splits ++ is)) c there)

    cover_long : length (cover is) ≡ halves_of r + length is
    unfolding cover
    cover_long =
        let a = length-append (map other splits) (map own (splits ++ is)) in
        let b = length-map splits other in
        let d = length-map (splits ++ is) own in
        let e = length-append splits is in
        let n = lays.shows.names.splitter_count in
        omega (arith, a, b, d, e, n)

    cover_fits : halves_of r + length is ≤ length (cells_of r.rect)
    cover_fits = let le = no_longer (cover is) (cells_of r.rect) cover_distinct cover_inside in let long = cover_long in omega (arith, le, long)

  -- ---- all halves are held

  no_more_splits : Distinct (splits ++ [])
  no_more_splits = distinct_both splits [] (distinct_pairs splits lays.shows.names.splitters.once) tt (λ x a b. b)

  cover_halves : (c : Cell) → In (cover []) c → HalfThere parts c
  unfolding cover
  cover_halves c there = ⊎_elim
      (λ a. let i = from_map other splits c a in (i.0, split_is i.0 i.1, subst (IsAt parts i.0) (sym i.2) (at_other i.0 (split_is i.0 i.1))))
      (λ b.
      let j = from_map own (splits ++ []) c b in
      let at : In splits j.0 = ⊎_elim (λ k. k) (λ k. absurd k) (in_both splits [] j.0 j.1) in
      (j.0, split_is j.0 at, subst (IsAt parts j.0) (sym j.2) (at_own j.0 (has_split j.0 at))))
      (in_both (map other splits) (map own (splits ++ [])) c there)

  halves_held : H (length (cells_of r.rect)) (halves_of r)
  halves_held =
      let n = length (cells_of r.rect) in
      let found = halves_among n in
      let le = no_longer (cover []) found (cover_distinct [] no_more_splits (λ i none. absurd none))
      (λ c there.
      let place = place_of (cells_of r.rect) c (cover_inside [] no_more_splits (λ i none. absurd none) c there) in
      let same : cell place.0 ≡ c = place.2 (cell_at 0 0) in
      subst (In found) same (in_among n place.0 place.1 (subst (HalfThere parts) (sym same) (cover_halves c there)))) in
      let long = cover_long [] no_more_splits (λ i none. absurd none) in
      so_few n (halves_of r) (length found - halves_of r) (subst (H n) (let e : length found ≡ length found - halves_of r + halves_of r = omega (arith, le, long) in e) (among_held n))

  -- ---- ends

  abbrev outs : List ℕ
  outs = lays.naming.outputs

  out_is : (i : ℕ) → In outs i → IsOutput parts i
  out_is i there = lays.shows.names.outputs.only i (in_contains outs i there)

  input_of : ℕ → ℕ
  input_of k = get_or lays.naming.inputs k 0

  -- the inputs that don't lead to outputs
  abbrev alone : List ℕ
  alone = filter (λ i. not (is_through r i)) (range_with_len 0 r.net.inputs)

  alone_below : (k : ℕ) → In alone k → k < r.net.inputs
  alone_below k there = let b = from_range 0 r.net.inputs k (from_filter (λ i. not (is_through r i)) (range_with_len 0 r.net.inputs) k there).0 in let lt = b.1 in omega (arith, lt)

  input_named : (k : ℕ) → k < r.net.inputs → Bears lays.naming.inputs k (input_of k)
  unfolding input_of
  input_named k lt = let count = lays.shows.names.input_count in slice_get-get_or lays.naming.inputs k 0 (omega (arith, count, lt))

  input_is : (k : ℕ) → k < r.net.inputs → IsInput parts (input_of k)
  input_is k lt = lays.shows.names.inputs.only (input_of k) (contains_at lays.naming.inputs k (input_of k) (input_named k lt))

  ends : List ℕ
  ends = outs ++ map input_of alone

  module _ (is : IsRequest r) where
    -- a part that is an output and an input is all of an edge
    out_through : (i k : ℕ) → IsOutput parts i → In outs i → k < r.net.inputs → i ≡ input_of k → is_through r k ≡ true
    out_through i k output there lt same =
        let named = subst (Bears lays.naming.inputs k) (sym same) (input_named k lt) in
        let begun = input_lies r parts lays i (subst (IsInput parts) (sym same) (input_is k lt)) in
        let number : begun.2.0 ≡ k = one_place lays.naming.inputs lays.shows.names.inputs.once begun.2.0 k i begun.2.2 named in
        let bears = contained_at outs i (in_contains outs i there) in
        let count = lays.shows.names.output_count in
        let few = bears.1 in
        let edge = counted (is_output bears.0) r.net.edges (is.net.wired.one_out bears.0 (omega (arith, count, few))) in
        let within = slice_get_within r.net.edges edge.0 edge.1 edge.2 in
        let at : the_edge r parts lays edge.0 ≡ edge.1 = get_or_from_slice_get r.net.edges edge.0 edge.1 no_edge edge.2 in
        let target : (the_edge r parts lays edge.0).target ≡ to.Output bears.0 = ap (λ x. x.target) at ∙ output_target bears.0 edge.1 edge.3 in
        let ended = from_target r parts lays edge.0 bears.0 i within target bears.2 in
        let one : begun.0 ≡ edge.0 = one_edge r parts lays i begun.0 edge.0 begun.1 ended in
        let start : (the_edge r parts lays edge.0).start ≡ from.Input k = subst (λ e. (the_edge r parts lays e).start ≡ from.Input k) one (begun.2.1 ∙ ap from.Input number) in
        any_in (λ e. is_input k e && leads_out e) r.net.edges (the_edge r parts lays edge.0) (edge_in r parts lays edge.0 within)
        (ap (λ b. b && leads_out (the_edge r parts lays edge.0)) (starts_there (the_edge r parts lays edge.0) k start)
        ∙ target_out bears.0 (the_edge r parts lays edge.0) target)
      where
        starts_there : (e : Edge) (k : ℕ) → e.start ≡ from.Input k → is_input k e ≡ true
        starts_there e k same = ap (λ x. is_input k (record e { start = x })) same ∙ eq-eqb k k refl

    end_cases : (i : ℕ) → In ends i → IsOutput parts i ⊎ IsInput parts i
    unfolding ends
    end_cases i there = ⊎_elim (λ a. inl (out_is i a))
        (λ b. let k = from_map input_of alone i b in inr (subst (IsInput parts) (sym k.2) (input_is k.0 (alone_below k.0 k.1))))
        (in_both outs (map input_of alone) i there)

    ends_distinct : Distinct ends
    unfolding ends
    ends_distinct = distinct_both outs (map input_of alone) (distinct_pairs outs lays.shows.names.outputs.once)
        (distinct_made input_of alone
        (λ k l a b e. one_place lays.naming.inputs lays.shows.names.inputs.once k l (input_of l)
        (subst (Bears lays.naming.inputs k) e (input_named k (alone_below k a))) (input_named l (alone_below l b)))
        (distinct_filter (λ i. not (is_through r i)) (range_with_len 0 r.net.inputs) (distinct_range 0 r.net.inputs)))
        (λ i a b.
        let k = from_map input_of alone i b in
        let apart : is_through r k.0 ≡ false = not-true (is_through r k.0) (from_filter (λ j. not (is_through r j)) (range_with_len 0 r.net.inputs) k.0 k.1).1 in
        both_ways (is_through r k.0) apart (out_through i k.0 (out_is i a) a (alone_below k.0 k.1) k.2))

    splits_apart : Distinct (splits ++ ends)
    splits_apart = distinct_both splits ends (distinct_pairs splits lays.shows.names.splitters.once) ends_distinct
        (λ i a b. ⊎_elim (λ o. no_link parts i (split_is i a) (output_link parts i o)) (λ n. no_link parts i (split_is i a) (input_link parts i n)) (end_cases i b))

    end_has : (i : ℕ) → In ends i → Is i
    end_has i there = ⊎_elim (λ o. (o.part, o.is_i)) (λ n. (n.part, n.is_i)) (end_cases i there)

    ends_long : length ends ≡ ends_apart r
    unfolding ends
    ends_long =
        let a = length-append outs (map input_of alone) in
        let b = length-map alone input_of in
        let d = length-filter (λ i. not (is_through r i)) (range_with_len 0 r.net.inputs) in
        let n = lays.shows.names.output_count in
        omega (arith, a, b, d, n)

    on_border : (i : ℕ) → In ends i → In (border_of r.rect) (own i)
    unfolding own
    on_border i there = ⊎_elim
        (λ o.
        let at : own i ≡ o.part.cell = own_is i o.part o.is_i in
        subst (In (border_of r.rect)) (sym at)
        (in_border r.rect o.part.dir o.part.cell (inside_at r parts lays i o.part.cell (record { part = o.part; is_i = o.is_i; covers = inl refl }))
        (lays.fits.outputs i o.part o o.is_i)))
        (λ n.
        let at : own i ≡ n.part.cell = own_is i n.part n.is_i in
        subst (In (border_of r.rect)) (sym at)
        (in_border r.rect (opposite n.part.dir) n.part.cell (inside_at r parts lays i n.part.cell (record { part = n.part; is_i = n.is_i; covers = inl refl }))
        (lays.fits.inputs i n.part n n.is_i)))
        (end_cases i there)
      where
        own_is : (i : ℕ) (part : Part) → HasPart parts i part → own i ≡ part.cell
        own_is i part is_i = ap (λ p. p.cell) (part_is i part is_i)

    border_fits : length ends ≤ length (border_of r.rect)
    border_fits =
        let le = no_longer (map own ends) (border_of r.rect)
        (distinct_made own ends (λ i j a b e. same_index i j (own i) (at_own i (end_has i a)) (subst (IsAt parts j) (sym e) (at_own j (end_has j b)))) ends_distinct)
        (λ c at. let i = from_map own ends c at in subst (In (border_of r.rect)) (sym i.2) (on_border i.0 i.1)) in
        let long = length-map ends own in
        omega (arith, le, long)

    pub room_there : has_room r ≡ true
    room_there =
        let long = ends_long in
        let on_edge = border_fits in
        let all = cover_fits ends splits_apart end_has in
        enough_for (length (cells_of r.rect)) (length (border_of r.rect)) (halves_of r) (ends_apart r) (omega (arith, long, on_edge)) (omega (arith, long, all))

  pub counts_stay : AllStay S (count_rules r)
  counts_stay = each_both (Stays S) (counter_rules (cells_of r.rect) (halves_of r)) (all_held_rules (length (cells_of r.rect)) (halves_of r))
      counter_stays (all_held_stays (halves_of r) few halves_held)
    where
      few : halves_of r ≤ length (cells_of r.rect)
      few = let le = cover_fits [] no_more_splits (λ i none. absurd none) in omega (arith, le)
