-- A network with pins, sides and blocks at the front of longer bytes.
use Rattle.std.proofs.Common.{◌≡◌, ◌⊎◌, ℕ, ◌+◌, ◌<◌, ◌≤◌, List, [], ◌∷◌, ◌++◌, length, drop, Result, Ok, Err, ◌∙◌, ap, inl, inr, arith}
use Rattle.std.specs.Prelude.{codes}
use Rattle.bt_net.specs.declared.network.Admitted.TheVariants.{All}
use Rattle.bt_net.specs.Readings.{IsNetRead}
use Rattle.bt_net.specs.Longer.{with_line_feed}
use Rattle.bt_net.proofs.Longer.{reading_stays, stays_refused}
use Rattle.bt_designs.specs.declared.fault.DesignFault.{DesignFault}
use Rattle.bt_designs.specs.declared.refusal.Refusal.TheVariants as refusal
use Rattle.bt_designs.specs.Designs.{IsTieredPreferring}
use Rattle.bt_designs.specs.Longer.{IsSettled}
use Rattle.bt_designs.specs.Refusals.{net_told}
use Rattle.bt_designs.specs.Requested.{PinnedNet, pinned_laid, pinned_net, IsPinnedText, IsPinned}
use Rattle.bt_designs.specs.Steps.{stopped, went_on}
use Rattle.bt_designs.proofs.InTurns.{same_value, not_both}
use Rattle.bt_designs.proofs.LongerDesigns.{json_text_stays, other_text_stays, net_first, not_json, read_refused, told_refused, told_stays, told_within}

place_of : (n m : PinnedNet) (used end : ℕ) → ◌≡◌ {A = Result (PinnedNet × ℕ) DesignFault} (Ok (n, used)) (Ok (m, end)) → used ≡ end
place_of n m used end e = ap (λ (x : PinnedNet × ℕ). x.1) (same_value (n, used) (m, end) e)

module _ (bytes : List ℕ) (n : PinnedNet) (used : ℕ) where
  abbrev pub PinnedStays : Type 0
  PinnedStays = ((more : List ℕ) → IsPinned (bytes ++ more) (Ok (n, used))) ⊎ ((used ≡ length bytes) × ((more : List ℕ) → IsPinned (bytes ++ 10 ∷ more) (Ok (n, used + 1))))

  pinned_text_stays : IsPinnedText All bytes (Ok (n, used)) → PinnedStays
  pinned_text_stays (stopped fault h e) = absurd (not_both (n, used) (net_told fault) e)
  pinned_text_stays (went_on read h e) = by (reading_stays All bytes read h)
    where
      by : ((more : List ℕ) → IsNetRead All (bytes ++ more) (Ok read)) ⊎ ((read.used ≡ length bytes) × ((more : List ℕ) → IsNetRead All (bytes ++ 10 ∷ more) (Ok (with_line_feed read)))) → PinnedStays
      by (inl stays) =
          let other = net_first bytes (drop read.used bytes) read.net (h.begins.edge_lines ++ (h.begins.priority_lines ++ (h.begins.demand_lines ++ (h.begins.block_lines ++ codes "end" ∷ [])))) h.begins.begins in
          inl (λ more. inr (other_text_stays bytes more other, went_on read (stays more) e))
      by (inr (all, fed)) =
          let other = net_first bytes (drop read.used bytes) read.net (h.begins.edge_lines ++ (h.begins.priority_lines ++ (h.begins.demand_lines ++ (h.begins.block_lines ++ codes "end" ∷ [])))) h.begins.begins in
          let same = same_value (n, used) (pinned_net read.net read.demands read.blocks, read.used) e in
          inr (
            place_of n (pinned_net read.net read.demands read.blocks) used read.used e ∙ all,
            λ more. inr (other_text_stays bytes (10 ∷ more) other, went_on (with_line_feed read) (fed more) (ap (λ (x : PinnedNet × ℕ). Ok (x.0, x.1 + 1)) same)),
          )

  -- it stands at the front of longer ones
  pub pinned_stays : IsPinned bytes (Ok (n, used)) → PinnedStays
  pinned_stays (inl (is, h)) = inl (λ more. inl (json_text_stays bytes more is, told_stays IsTieredPreferring pinned_laid bytes more n used is h))
  pinned_stays (inr (none, h)) = pinned_text_stays h

  pinned_text_within : IsPinnedText All bytes (Ok (n, used)) → used ≤ length bytes
  pinned_text_within (stopped fault h e) = absurd (not_both (n, used) (net_told fault) e)
  pinned_text_within (went_on read h e) =
      let same = place_of n (pinned_net read.net read.demands read.blocks) used read.used e in omega (arith, same, h.used)

  -- it ends within the bytes
  pub pinned_within : IsPinned bytes (Ok (n, used)) → used ≤ length bytes
  pinned_within (inl h) = told_within IsTieredPreferring pinned_laid bytes n used h.1
  pinned_within (inr h) = pinned_text_within h.1

-- a network with pins, sides and blocks that ends before the bytes do is that of the bytes and whatever follows
pub pinned_goes_on : (bytes more : List ℕ) (found : PinnedNet × ℕ) → IsPinned bytes (Ok found) → found.1 < length bytes → IsPinned (bytes ++ more) (Ok found)
pinned_goes_on bytes more found h few = by (pinned_stays bytes found.0 found.1 h)
  where
    by : PinnedStays bytes found.0 found.1 → IsPinned (bytes ++ more) (Ok found)
    by (inl stays) = stays more
    by (inr (all, fed)) = absurd (omega (arith, all, few))

-- a settled refusal is that of all longer bytes
module _ (bytes more : List ℕ) (fault : DesignFault) where
  pub pinned_refusal_stays : IsSettled bytes fault → IsPinned bytes (Err fault) → IsPinned (bytes ++ more) (Err fault)
  pinned_refusal_stays (inl (is, other)) (inl (json, h)) = inl (json_text_stays bytes more is, told_refused IsTieredPreferring pinned_laid bytes more fault is other h)
  pinned_refusal_stays (inl (is, other)) (inr (none, h)) = absurd (none is)
  pinned_refusal_stays (inr (text, (lines, e), other)) (inl (is, h)) = absurd (not_json bytes text is)
  pinned_refusal_stays (inr (text, (lines, e), other)) (inr (none, h)) =
      inr (other_text_stays bytes more text, read_refused (IsNetRead All) (stays_refused All) (λ read. (pinned_net read.net read.demands read.blocks, read.used)) bytes more lines fault e other h)
