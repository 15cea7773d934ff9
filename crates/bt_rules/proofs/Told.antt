-- It can be told of each fact whether a layout that lays a request says so.
use Rattle.std.proofs.Common.{◌≡◌, ◌⊎◌, inl, inr, ℕ, zero, suc, ◌+◌, ◌<◌, List, [], ◌∷◌, length, subst, ⊎_elim, arith}
use Rattle.std.specs.Prelude.{unsigned_abs}
use Rattle.std.proofs.lemmas.Bool.{cases_eq, cases_lt}
use Rattle.std.proofs.lemmas.Option.{slice_get_within}
use Rattle.bt_parts.specs.declared.part.Cell.{Cell}
use Rattle.bt_parts.specs.declared.part.Dir.{Dir}
use Rattle.bt_parts.specs.declared.part.Dir.TheVariants.{North, East, South, West}
use Rattle.bt_parts.specs.declared.part.Part.{Part}
use Rattle.bt_parts.specs.Layouts.{IsAt}
use Rattle.bt_net.specs.declared.network.Edge.{Edge}
use Rattle.bt_net.specs.declared.network.EndKind.{EndKind}
use Rattle.bt_net.specs.declared.network.EndKind.TheVariants.{Inputs, Outputs}
use Rattle.bt_parts.specs.Cells.{steps}
use Rattle.bt_model.specs.Chains as chains
use Rattle.bt_model.specs.Laying.{Lays, HasEndPart}
use Rattle.bt_model.specs.Requests.{LayoutRequest}
use Rattle.bt_model.proofs.ExistLemmas.{at_cases}
use Rattle.bt_facts.specs.declared.fact.Class.{Class}
use Rattle.bt_facts.specs.declared.fact.Content.TheVariants.{Empty, Turned}
use Rattle.bt_facts.specs.declared.fact.Fact.{Fact}
use Rattle.bt_facts.specs.declared.fact.Fact.TheVariants as fact
use Rattle.bt_facts.specs.declared.fact.Half.{Half}
use Rattle.bt_facts.specs.declared.fact.Half.TheVariants.{Lesser}
use Rattle.bt_facts.specs.declared.fact.Shape.TheVariants as shape
use Rattle.bt_facts.specs.Spots.{half_at, behind}
use Rattle.bt_rules.proofs.CarryingStay.{there_has}
use Rattle.bt_rules.proofs.Classed.{m, class_cases, class_there, one_class}
use Rattle.bt_facts.proofs.Decided.{Decided, both, contains_at, same_cell, same_dir, some_below, lt_decided}
use Rattle.bt_demands.specs.Rows.{way_of}
use Rattle.bt_rules.proofs.kept.ListFacts.{contains_in}
use Rattle.bt_rules.proofs.kept.PinFacts.{in_place}
use Rattle.bt_rules.proofs.Deciding.{same_source, same_sink, stands_decided, goes_decided, half_decided, begins_decided, named_decided, comes_decided, reaches_decided, runs_decided, of_split}
use Rattle.bt_rules.proofs.Laid.{Said, is_orderly}
use Rattle.bt_rules.proofs.PortsStay.{Leaving, Entering}
use Rattle.bt_rules.proofs.Reading.{ComesFromCell, FirstHas, NamedAt, edges_into, edges_from, cell_numbered, line_kind, named_count, Holding}
use Rattle.bt_rules.proofs.StandingStay.{HasSaid}

-- some direction has P, or none has
some_dir : (P : Dir → Type 0) → ((dir : Dir) → Decided (P dir)) → Decided ((dir : Dir) × P dir)
some_dir P test = by (test North) (test East) (test South) (test West)
  where
    none : (P North → ⊥) → (P East → ⊥) → (P South → ⊥) → (P West → ⊥) → (dir : Dir) → P dir → ⊥
    none n e s w North p = n p
    none n e s w East p = e p
    none n e s w South p = s p
    none n e s w West p = w p

    by : Decided (P North) → Decided (P East) → Decided (P South) → Decided (P West) → Decided ((dir : Dir) × P dir)
    by (inl p) e s w = inl (North, p)
    by (inr n) (inl p) s w = inl (East, p)
    by (inr n) (inr e) (inl p) w = inl (South, p)
    by (inr n) (inr e) (inr s) (inl p) = inl (West, p)
    by (inr n) (inr e) (inr s) (inr w) = inr (λ h. none n e s w h.0 h.1)

-- the first of numbered edges has P, or it hasn't, or there is none
first_has : (P : ℕ → Type 0) → ((e : ℕ) → Decided (P e)) → (edges : List (ℕ × Edge)) → Decided (FirstHas edges P)
first_has P test [] = inr (λ h. h)
first_has P test (first ∷ rest) = test first.0

-- one of two that are decided
either : {P Q : Type 0} → Decided P → Decided Q → Decided (P ⊎ Q)
either (inl p) q = inl (inl p)
either (inr n) (inl q) = inl (inr q)
either (inr n) (inr m) = inr (λ h. ⊎_elim n m h)

-- each number below one has P, or one has not
all_below : (P : ℕ → Type 0) → ((k : ℕ) → Decided (P k)) → (n : ℕ) → Decided ((k : ℕ) → k < n → P k)
all_below P test zero = inl (λ k lt. absurd (omega (arith, lt)))
all_below P test (suc n) = by (all_below P test n) (test n)
  where
    by : Decided ((k : ℕ) → k < n → P k) → Decided (P n) → Decided ((k : ℕ) → k < suc n → P k)
    by (inl all) (inl p) = inl (λ k lt. ⊎_elim (λ below. all k below) (λ past. let same : n ≡ k = omega (arith, lt, past) in subst P same p) (cases_lt k n))
    by (inl all) (inr none) = inr (λ h. none (h n (omega arith)))
    by (inr none) q = inr (λ h. none (λ k lt. h k (omega (arith, lt))))

module _ (r : LayoutRequest) (parts : List Part) (lays : Lays parts r) where
  carries_decided : (c : Cell) (k : Class) → Decided (Said r parts lays (fact.Carries c k))
  carries_decided c k = by (at_cases parts c)
    where
      by : ((i : ℕ) × IsAt parts i c) ⊎ ((i : ℕ) → IsAt parts i c → ⊥) → Decided (Said r parts lays (fact.Carries c k))
      by (inr none) = inr (λ h. none h.0 h.1)
      by (inl found) =
          let there = class_there r parts lays found.0 c found.1 in
          ⊎_elim
          (λ same. inl (found.0, found.1, subst (HasSaid r parts lays found.0) same.1 there.1))
          (λ apart. inr (λ h. apart.1 (one_class r parts lays found.0 there.0 k there.1 (there_has r parts lays c found.0 k found.1 h))))
          (class_cases there.0 k)

  leaving_decided : (s e : ℕ) (half : Half) → Decided (Leaving r parts lays s e half)
  leaving_decided s e half = both (lt_decided e (length r.net.edges))
      (of_split parts (is_orderly r parts lays) lays.naming lays.shows.names.splitters s (λ i part. ((m r parts lays).chain_of e).source ≡ chains.leaves i (half_at half part.dir part.cell))
      (λ i part. same_source i (half_at half part.dir part.cell) ((m r parts lays).chain_of e).source))

  entering_decided : (s e : ℕ) (half : Half) → Decided (Entering r parts lays s e half)
  entering_decided s e half =
      let chain = (m r parts lays).chain_of e in
      both (lt_decided e (length r.net.edges))
      (of_split parts (is_orderly r parts lays) lays.naming lays.shows.names.splitters s
      (λ i part. (chain.sink ≡ chains.enters i) × ComesFromCell parts chain.source chain.links (behind part.dir (half_at half part.dir part.cell)))
      (λ i part. both (same_sink i chain.sink) (comes_decided parts (is_orderly r parts lays) chain.source chain.links (behind part.dir (half_at half part.dir part.cell)))))

  -- whether an output ends on the cell
  output_decided : (c : Cell) → Decided (HasEndPart parts Outputs c)
  output_decided c = ⊎_elim
      (λ found. let at = found.2 in inl (at.index, lays.shows.names.outputs.only at.index (contains_at lays.naming.outputs found.0 at.index at.named), at.at))
      (λ none. inr (λ h.
      let place = in_place lays.naming.outputs h.0 (contains_in lays.naming.outputs h.0 (lays.shows.names.outputs.all h.0 h.1)) in
      none place.0 (slice_get_within lays.naming.outputs place.0 h.0 place.1) (record { index = h.0; named = place.1; at = h.2 })))
      (some_below (λ o. NamedAt parts lays.naming.outputs o c) (λ o. named_decided parts (is_orderly r parts lays) lays.naming.outputs o c) (length lays.naming.outputs))

  end_decided : (kind : EndKind) (c : Cell) → Decided (HasEndPart parts kind c)
  end_decided Inputs c = begins_decided parts (is_orderly r parts lays) c
  end_decided Outputs c = output_decided c

  holding_decided : (n k : ℕ) → Decided (Holding parts r.rect n k)
  holding_decided n zero = inl tt
  holding_decided zero (suc k) = inr (λ h. h)
  holding_decided (suc n) (suc k) =
      either (holding_decided n (suc k)) (both (half_decided parts (is_orderly r parts lays) (cell_numbered r.rect n)) (holding_decided n k))

  pub said : (f : Fact) → Decided (Said r parts lays f)
  said (fact.Kind c Empty) = ⊎_elim (λ found. inr (λ none. none found.0 found.1)) (λ none. inl none) (at_cases parts c)
  said (fact.Kind c (Turned of dir)) = stands_decided parts (is_orderly r parts lays) c of dir
  said (fact.Carries c k) = carries_decided c k
  said (fact.HalfOn c) = half_decided parts (is_orderly r parts lays) c
  said (fact.BeltOn c) = some_dir _ (stands_decided parts (is_orderly r parts lays) c shape.Belt)
  said (fact.Begins c) = begins_decided parts (is_orderly r parts lays) c
  said (fact.Starts c i) = named_decided parts (is_orderly r parts lays) lays.naming.inputs i c
  said (fact.Stops c o) = named_decided parts (is_orderly r parts lays) lays.naming.outputs o c
  said (fact.Lies c l) = all_below _ (λ k. end_decided (line_kind l) (steps k (way_of l) c)) (named_count lays.naming (line_kind l))
  said (fact.Pair c dir k) = both (stands_decided parts (is_orderly r parts lays) c shape.Entrance dir) (reaches_decided parts (is_orderly r parts lays) c k)
  said (fact.Tunnel c dir) = runs_decided parts (is_orderly r parts lays) c dir
  said (fact.Goes c dir) = goes_decided parts (is_orderly r parts lays) c dir
  said (fact.At s c dir) = of_split parts (is_orderly r parts lays) lays.naming lays.shows.names.splitters s (λ i part. (c ≡ part.cell) × (part.dir ≡ dir)) (λ i part. both (same_cell c part.cell) (same_dir part.dir dir))
  said (fact.Column s x) = of_split parts (is_orderly r parts lays) lays.naming lays.shows.names.splitters s (λ i part. unsigned_abs part.cell.x ≡ x) (λ i part. cases_eq (unsigned_abs part.cell.x) x)
  said (fact.Row s y) = of_split parts (is_orderly r parts lays) lays.naming lays.shows.names.splitters s (λ i part. unsigned_abs part.cell.y ≡ y) (λ i part. cases_eq (unsigned_abs part.cell.y) y)
  said (fact.Points s dir) = of_split parts (is_orderly r parts lays) lays.naming lays.shows.names.splitters s (λ i part. part.dir ≡ dir) (λ i part. same_dir part.dir dir)
  said (fact.EntersLesser s) = first_has _ (λ e. entering_decided s e Lesser) (edges_into r.net.edges s)
  said (fact.LeavesLesser s) = first_has _ (λ e. leaving_decided s e Lesser) (edges_from r.net.edges s)
  said (fact.Held spare half) = holding_decided (suc (spare + half)) (suc half)
