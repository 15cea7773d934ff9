-- The chain that comes to a cell of a splitter.
use Rattle.std.proofs.Common.{◌≡◌, ℕ, List, [], refl, inl, inr, ⊎_elim}
use Rattle.bt_parts.specs.declared.part.Cell.{Cell}
use Rattle.bt_parts.specs.declared.part.Part.{Part}
use Rattle.bt_model.specs.Chains.{IsSplitter, IsLink, Source, begins, leaves, enters, Chain, StartsAs, EndsAs, IsLongest, IsEmptyChain, IsChain}
use Rattle.bt_model.specs.Clean.{IsOnRing}
use Rattle.bt_model.specs.Handing.{FeedsFrom}
use Rattle.bt_model.specs.Orderly.{Never, IsOrderly}
use Rattle.bt_model.proofs.ExistLemmas.{HasFront, front_of, giver_cases, giver_part, part_cases, unhanded_input, splitter_feeds, none_past}
use Rattle.bt_model.proofs.PathLemmas.{path_start}
use Rattle.bt_model.proofs.SameChain.{Hop}

-- a chain that comes to the splitter from the cell
pub record Comes (parts : List Part) (s : ℕ) (c : Cell) : Type 0 where
  pub chain : Chain
  pub is_chain : IsChain parts chain
  pub sink : chain.sink ≡ enters s
  pub hop : Hop parts chain s
  pub from_there : hop.half ≡ c

module _ (parts : List Part) (orderly : IsOrderly parts) (no_ring : Never (IsOnRing parts)) (s : ℕ) (c : Cell) (splitter : IsSplitter parts s) where
  from_splitter : (p : ℕ) → IsSplitter parts p → FeedsFrom parts p c s → Comes parts s c
  from_splitter p giver feeds =
      let chain : Chain = record { source = leaves p c; links = []; sink = enters s } in
      let empty : IsEmptyChain parts chain = record {
        from = p;
        half = c;
        to = s;
        is_from = giver;
        is_to = splitter;
        feeds = feeds;
        source = refl;
        no_link = refl;
        sink = refl;
      } in
      record {
        chain = chain;
        is_chain = inr empty;
        sink = refl;
        hop = record { from_part = p; half = c; feeds = feeds; via = inr (empty, refl, refl) };
        from_there = refl;
      }

  from_link : (p : ℕ) → IsLink parts p → FeedsFrom parts p c s → (front : HasFront parts p) → (source : Source) → StartsAs parts source front.0 → Comes parts s c
  from_link p link feeds front source starts =
      let chain : Chain = record { source = source; links = front.1; sink = enters s } in
      let ends : EndsAs parts (enters s) p = (splitter, inr (c, feeds)) in
      let first_link : IsLink parts front.0 = path_start parts front.0 p front.1 front.2 in
      let longest : IsLongest parts chain = record {
        first = front.0;
        last = p;
        path = front.2;
        starts = starts;
        ends = ends;
        none_before = λ i on hands. front.3 i (on, first_link, hands);
        none_after = none_past parts orderly.well_placed (enters s) p link ends;
      } in
      record {
        chain = chain;
        is_chain = inl longest;
        sink = refl;
        hop = record { from_part = p; half = c; feeds = feeds; via = inl (longest, refl) };
        from_there = refl;
      }

  pub comes : (p : ℕ) → FeedsFrom parts p c s → Comes parts s c
  comes p feeds =
      ⊎_elim (λ giver. from_splitter p giver feeds)
      (λ link.
      let front = front_of parts orderly no_ring p link in
      let first_link : IsLink parts front.0 = path_start parts front.0 p front.1 front.2 in
      ⊎_elim
      (λ giver.
      let there = giver_part parts giver.0 front.0 giver.1 in
      ⊎_elim
      (λ on. let gives = splitter_feeds parts giver.0 front.0 on giver.1 in from_link p link feeds front (leaves giver.0 gives.0) (on, gives.1))
      (λ on. absurd (front.3 giver.0 (on, first_link, giver.1)))
      (part_cases parts giver.0 there.0 there.1))
      (λ none.
      let input = unhanded_input parts orderly front.0 first_link none in
      from_link p link feeds front (begins front.0 input.part.cell) (refl, input, record { part = input.part; is_i = input.is_i; covers = inl refl }))
      (giver_cases parts orderly front.0 first_link))
      (part_cases parts p feeds.look.giver.part feeds.look.giver.is_i)
