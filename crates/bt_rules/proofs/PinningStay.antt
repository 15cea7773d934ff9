-- Layouts keep the rules of pins, sides and blocks.
use Rattle.std.proofs.Common.{◌≡◌, inl, inr, ℕ, ◌<◌, ◌==◌, true, ◌&&◌, List, [], ◌∷◌, length, map, Option, Some, None, eqb-true, refl, sym, ◌∙◌, ap, subst, ⊎_elim}
use Rattle.std.proofs.lemmas.Bool.{false≢true}
use Rattle.std.specs.List.{Contains, AllByRecursion, AllPairs, filter}
use Rattle.std.specs.Option.{IfSome}
use Rattle.bt_parts.specs.declared.part.Cell.{Cell}
use Rattle.bt_parts.specs.declared.part.Dir.{Dir}
use Rattle.bt_parts.specs.declared.part.Part.{Part}
use Rattle.bt_parts.specs.Layouts.{HasPart, IsAt}
use Rattle.bt_net.specs.declared.network.Block.{Block}
use Rattle.bt_net.specs.declared.network.Demand.{Demand}
use Rattle.bt_net.specs.declared.network.Demand.TheVariants as demand
use Rattle.bt_net.specs.declared.network.End.{End}
use Rattle.bt_net.specs.declared.network.End.TheVariants.{Input, Output}
use Rattle.bt_net.specs.declared.network.Pin.{Pin}
use Rattle.bt_model.specs.Laying.{Lays, IsNamed, KeepsPin, KeepsDemand}
use Rattle.bt_model.specs.Requests.{LayoutRequest, NameOneEnd, pinned}
use Rattle.bt_facts.specs.declared.fact.Fact.{Fact}
use Rattle.bt_facts.specs.declared.fact.Fact.TheVariants.{Carries}
use Rattle.bt_facts.specs.declared.fact.Shape.TheVariants as shape
use Rattle.bt_facts.specs.Rules.{some_of, not_all}
use Rattle.bt_facts.specs.Spots.{dirs, others_than, where_outside}
use Rattle.bt_facts.specs.Facts.{holds}
use Rattle.bt_demands.specs.Pinning.{is_edge_of, pin_class_rules, end_facts, end_shapes, turned_rules, pin_rules, same_kind, pins_clash, clashes, clash_rules, block_rule}
use Rattle.bt_demands.specs.Enders.{enders}
use Rattle.bt_facts.proofs.Geometry.{in_dirs, others_apart}
use Rattle.bt_facts.proofs.Keeping.{place_of, from_filter, both_true, all_there, each_both, each_flat, each_map, said_flat, AllStay, Stays, OneSaid}
use Rattle.bt_rules.proofs.Laid.{Said, placed_of, stands_as, one_outside}
use Rattle.bt_rules.proofs.Classed.{the_edge, Lies, from_start, from_target, input_start, output_target}
use Rattle.bt_demands.proofs.Sharing.{NameApart, head_apart}
use Rattle.bt_model.proofs.Sorted.{pairs_tail}
use Rattle.bt_rules.proofs.StartsStay.{named_input}
use Rattle.bt_facts.proofs.Decided.{contains_at}
use Rattle.bt_rules.proofs.Reading.{no_edge}
use Rattle.bt_demands.specs.Classes.{class_of}
use Rattle.bt_model.specs.Chains.{IsOutput}
use Rattle.bt_model.proofs.Sorted.{one_place}
use Rattle.bt_parts.specs.Cells.{step, IsInside, cell_at}
use Rattle.bt_parts.proofs.Places.{one_there, covers_at, own_cell}

module _ (r : LayoutRequest) (parts : List Part) (lays : Lays parts r) where
  abbrev S : Fact → Type 0
  S = Said r parts lays

  abbrev pin_at : (pin : Pin) → (kept : KeepsPin parts lays.naming pin) → IsAt parts kept.index (pinned pin)
  pin_at pin kept = record { part = kept.part; is_i = kept.is_part; covers = inl (sym kept.stands) }

  -- the part of a pinned end lies on the chain of its edge
  pin_lies : (e : ℕ) (end : End) (i : ℕ) → e < length r.net.edges → is_edge_of end (the_edge r parts lays e) ≡ true → IsNamed lays.naming end i → Lies r parts lays i e
  pin_lies e (Input k) i lt t named = from_start r parts lays e k i lt (input_start k (the_edge r parts lays e) t) named
  pin_lies e (Output o) i lt t named = from_target r parts lays e o i lt (output_target o (the_edge r parts lays e) t) named

  class_stays : (pin : Pin) → KeepsPin parts lays.naming pin → AllStay S (pin_class_rules r pin)
  class_stays pin kept = each_map (Stays S) (λ edge. some_of (Carries (pinned pin) (class_of r.demands edge) ∷ [])) (filter (is_edge_of pin.end) r.net.edges)
      (λ edge h none.
      let found = from_filter (is_edge_of pin.end) r.net.edges edge h in
      let place = place_of r.net.edges edge found.0 in
      let same = place.2 no_edge in
      let lies = pin_lies place.0 pin.end kept.index place.1 (ap (is_edge_of pin.end) same ∙ found.1) kept.named in
      inl (kept.index, pin_at pin kept, inr (place.0, lies, ap (class_of r.demands) (sym same))))

  pub output_cell : (i : ℕ) (c : Cell) (output : IsOutput parts i) → IsAt parts i c → c ≡ output.part.cell
  output_cell i c output at = own_cell output.part c (λ e. ⊎_elim (λ k. let a = k in cc) (λ k. let a = k in cc) output.kind) (covers_at parts i output.part c output.is_i at)

  pub ends_said : (i : ℕ) (c : Cell) (output : IsOutput parts i) → IsAt parts i c → OneSaid S (enders r.rect c)
  ends_said i c output at =
      let dir = output.part.dir in
      let cell = output_cell i c output at in
      said_flat S (λ d. where_outside r.rect (step d c) (holds c shape.Belt d ∷ holds c shape.Exit d ∷ [])) dirs dir (in_dirs dir)
      (one_outside S r.rect (step dir c) (holds c shape.Belt dir ∷ holds c shape.Exit dir ∷ [])
      (subst (λ x. IsInside r.rect (step dir x) → ⊥) (sym cell) (lays.fits.outputs i output.part output output.is_i))
      (⊎_elim
      (λ k. inl (record { index = i; part = output.part; is_part = output.is_i; kind = k; turned = refl; cell = cell }))
      (λ k. inr (inl (record { index = i; part = output.part; is_part = output.is_i; kind = k; turned = refl; cell = cell })))
      output.kind))

  end_said : (c : Cell) (end : End) (i : ℕ) → IsNamed lays.naming end i → IsAt parts i c → OneSaid S (end_facts r.rect c end)
  end_said c (Input k) i named at = inl (i, named_input r parts lays k i named, at)
  end_said c (Output o) i named at = ends_said i c (lays.shows.names.outputs.only i (contains_at lays.naming.outputs o i named)) at

  turned_stay : (c : Cell) (end : End) (dir : Option Dir) (i : ℕ) (part : Part) → HasPart parts i part → (at : IsAt parts i c) → at.part ≡ part → IfSome dir (λ d. part.dir ≡ d)
      → AllStay S (turned_rules c end dir)
  turned_stay c end None i part is at same points = tt
  turned_stay c end (Some dir) i part is at same points =
      each_flat (Stays S) (λ of. map (λ other. not_all (holds c of other ∷ [])) (others_than dir)) (end_shapes end)
      (λ of h. each_map (Stays S) (λ other. not_all (holds c of other ∷ [])) (others_than dir)
      (λ other k given.
      let there = stands_as r parts lays c of other given.0 i at in
      absurd (others_apart dir other k (sym given.0.turned ∙ ap (λ p. p.dir) (there.1 ∙ same) ∙ points))))

  pub pin_stays : (pin : Pin) → KeepsPin parts lays.naming pin → AllStay S (pin_rules r pin)
  pin_stays pin kept = each_both (Stays S) (pin_class_rules r pin) (some_of (end_facts r.rect (pinned pin) pin.end) ∷ turned_rules (pinned pin) pin.end pin.dir)
      (class_stays pin kept) (
        λ none. end_said (pinned pin) pin.end kept.index kept.named (pin_at pin kept),
        turned_stay (pinned pin) pin.end pin.dir kept.index kept.part kept.is_part (pin_at pin kept) refl kept.points,
      )

  -- two ends of one kind on one part are one
  one_end : (a b : End) (i : ℕ) → same_kind a b ≡ true → IsNamed lays.naming a i → IsNamed lays.naming b i → a ≡ b
  one_end (Input j) (Input k) i t p q = ap Input (one_place lays.naming.inputs lays.shows.names.inputs.once j k i p q)
  one_end (Output j) (Output k) i t p q = ap Output (one_place lays.naming.outputs lays.shows.names.outputs.once j k i p q)
  one_end (Input j) (Output k) i t p q = absurd (false≢true t)
  one_end (Output j) (Input k) i t p q = absurd (false≢true t)

  -- two pins that are kept don't clash
  kept_apart : (one other : Pin) → KeepsPin parts lays.naming one → KeepsPin parts lays.naming other → pins_clash one other ≡ true → one.end ≡ other.end
  kept_apart one other p q t =
      let tests = both_true (same_kind one.end other.end && (one.x == other.x)) (one.y == other.y) t in
      let kinds = both_true (same_kind one.end other.end) (one.x == other.x) tests.0 in
      let cells : pinned one ≡ pinned other = ap (λ x. cell_at x one.y) (eqb-true one.x other.x kinds.1) ∙ ap (cell_at other.x) (eqb-true one.y other.y tests.1) in
      let index : p.index ≡ q.index = one_there parts (placed_of r parts lays) p.index q.index (pinned other) (subst (IsAt parts p.index) cells (pin_at one p)) (pin_at other q) in
      one_end one.end other.end q.index kinds.0 (subst (IsNamed lays.naming one.end) index p.named) q.named

  -- so two lines that clash name one end
  share_end : (one other : Demand) → KeepsDemand parts r lays.naming one → KeepsDemand parts r lays.naming other → clashes one other ≡ true → NameOneEnd one other
  share_end (demand.Pin one) (demand.Pin other) p q t = (refl, (one.end, refl, kept_apart one other p q t))
  share_end (demand.Pin one) (demand.Side other) p q t = absurd (false≢true t)
  share_end (demand.Side one) (demand.Pin other) p q t = absurd (false≢true t)
  share_end (demand.Side one) (demand.Side other) p q t = absurd (false≢true t)
  share_end (demand.Pin one) (demand.Row other) p q t = absurd (false≢true t)
  share_end (demand.Side one) (demand.Row other) p q t = absurd (false≢true t)
  share_end (demand.Row one) other p q t = absurd (false≢true t)

  pub clashes_stay : (demands : List Demand) → AllByRecursion (KeepsDemand parts r lays.naming) demands → AllPairs NameApart demands
      → AllStay S (clash_rules demands)
  clashes_stay [] kept apart = tt
  clashes_stay (d ∷ demands) kept apart = each_both (Stays S) (map (λ other. some_of []) (filter (clashes d) demands)) (clash_rules demands)
      (each_map (Stays S) (λ other. some_of []) (filter (clashes d) demands)
      (λ other h none.
      let found = from_filter (clashes d) demands other h in
      absurd (head_apart d demands apart other found.0 (share_end d other kept.0 (all_there (KeepsDemand parts r lays.naming) demands other kept.1 found.0) found.1))))
      (clashes_stay demands kept.1 (pairs_tail NameApart d demands apart))

  pub block_stays : (block : Block) → Contains r.blocks block → Stays S (block_rule block)
  block_stays block there none = inl (λ i at. lays.fits.unblocked i block there at)
