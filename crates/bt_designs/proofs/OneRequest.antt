-- Bytes have one request at their front, or one refusal.
use Rattle.std.proofs.Common.{◌≡◌, ℕ, List, Option, Result, Ok, Err, inl, inr, refl, ap, sym, subst, ◌∙◌}
use Rattle.bt_text.specs.Answers.{HasOneAnswer, seen}
use Rattle.bt_parts.specs.declared.part.Part.{Part}
use Rattle.bt_parts.specs.declared.part.Rect.{Rect}
use Rattle.bt_parts.specs.declared.part.Tier.{Tier}
use Rattle.bt_net.specs.declared.network.Admitted.{Admitted}
use Rattle.bt_net.specs.declared.network.Admitted.TheVariants.{Sides, All}
use Rattle.bt_net.specs.Readings.{IsNetRead}
use Rattle.bt_net.proofs.OneReading.{one_read}
use Rattle.bt_model.specs.Requests.{LayoutRequest, IsRequest}
use Rattle.bt_model.specs.RequestFaults.{IsMade}
use Rattle.bt_model.proofs.Requested.{one_made}
use Rattle.bt_recover.specs.Sides.{AreEndSides}
use Rattle.bt_recover.proofs.SideLemmas.{one_end_sides}
use Rattle.bt_designs.specs.declared.design.Laid.{Laid}
use Rattle.bt_designs.specs.declared.fault.DesignFault.{DesignFault}
use Rattle.bt_designs.specs.Alone.{IsAlone}
use Rattle.bt_designs.specs.Designs.{IsJsonPreferring}
use Rattle.bt_designs.specs.Refusals.{layout_told}
use Rattle.bt_designs.specs.Kept.{IsKeptFor, IsKeptRequest}
use Rattle.bt_designs.proofs.OneDrawing.{one_drawing}
use Rattle.bt_designs.specs.Requested.{PinnedNet, asked_for, pinned_laid, IsPinnedText, IsPinned, IsRequestFor, IsLoneRequest, IsFrontRequest, IsSidedRequest}
use Rattle.bt_designs.specs.Steps.{stopped, went_on}
use Rattle.bt_designs.proofs.InTurns.{one_in_turn, same_value, not_both}
use Rattle.bt_designs.proofs.OneDesign.{one_json_preferring, one_told_of_preferring, seen_ok}
use Rattle.bt_designs.proofs.StandingAlone.{one_alone}

one_pinned_text : (may : Admitted) (bytes : List ℕ) → HasOneAnswer (IsPinnedText may bytes)
one_pinned_text may bytes = one_in_turn (IsNetRead may bytes) _ _ (one_read may bytes) (λ read a b h k. h ∙ sym k)

-- two right answers to the bytes of a design with pins, sides, rows and blocks are equal
one_pinned : (bytes : List ℕ) → HasOneAnswer (IsPinned bytes)
one_pinned bytes a b (inl h) (inl k) = one_told_of_preferring pinned_laid bytes a b h.1 k.1
one_pinned bytes a b (inl h) (inr k) = absurd (k.0 h.0)
one_pinned bytes a b (inr h) (inl k) = absurd (h.0 k.0)
one_pinned bytes a b (inr h) (inr k) = one_pinned_text All bytes a b h.1 k.1

one_request_for : (rect : Rect) (tier : Option Tier) (n : PinnedNet) → HasOneAnswer (IsRequestFor rect tier n)
one_request_for rect tier n = one_in_turn (IsMade (asked_for rect tier n)) _ _ (one_made (asked_for rect tier n)) (λ r a b h k. h ∙ sym k)

-- two right answers to the bytes of a request are equal
pub one_front_request : (rect : Rect) (tier : Option Tier) (bytes : List ℕ) → HasOneAnswer (IsFrontRequest rect tier bytes)
one_front_request rect tier bytes = one_in_turn (IsPinned bytes) Err _ (one_pinned bytes)
    (λ found a b h k. h.2 ∙ ap (seen (λ r. (r, found.1))) (one_request_for rect tier found.0 h.0 k.0 h.1 k.1) ∙ sym k.2)

-- and of a request alone
pub one_lone_request : (rect : Rect) (tier : Option Tier) (bytes : List ℕ) → HasOneAnswer (IsLoneRequest rect tier bytes)
one_lone_request rect tier bytes = one_in_turn (IsAlone IsPinned bytes) Err (IsRequestFor rect tier) (one_alone IsPinned bytes (one_pinned bytes)) (one_request_for rect tier)

-- and of a request for a network text alone
pub one_sided_request : (most : Rect) (tier : Option Tier) (bytes : List ℕ) → HasOneAnswer (IsSidedRequest most tier bytes)
one_sided_request most tier bytes =
    one_in_turn (IsAlone (IsPinnedText Sides) bytes) Err (IsRequestFor most tier) (one_alone (IsPinnedText Sides) bytes (one_pinned_text Sides bytes)) (one_request_for most tier)

-- and of a blueprint whose ends are to stand at their own sides
one_kept_for : (rect : Rect) (tier : Option Tier) (parts : List Part) (laid : Laid) → HasOneAnswer (IsKeptFor rect tier parts laid)
one_kept_for rect tier parts laid = one_in_turn (AreEndSides parts) (λ fault. Err (layout_told fault)) _ (one_end_sides parts) (λ stays. one_request_for rect tier (record (pinned_laid laid) { demands = stays }))

pub one_kept_request : (rect : Rect) (tier : Option Tier) (bytes : List ℕ) → HasOneAnswer (IsKeptRequest rect tier bytes)
one_kept_request rect tier bytes = one_in_turn (IsAlone IsJsonPreferring bytes) Err _ (one_alone IsJsonPreferring bytes (one_json_preferring bytes))
    (λ laid a b h k. one_kept_for rect tier h.0 laid a b h.2 (subst (λ parts. IsKeptFor rect tier parts laid b) (sym (one_drawing bytes h.0 k.0 h.1 k.1)) k.2))

-- ---- what is found is a request

request_made : (rect : Rect) (tier : Option Tier) (n : PinnedNet) (answer : Result LayoutRequest DesignFault) (r : LayoutRequest) → answer ≡ Ok r
    → IsRequestFor rect tier n answer → IsRequest r
request_made rect tier n answer r is (stopped fault h e) = absurd (not_both r _ (sym is ∙ e))
request_made rect tier n answer r is (went_on made h e) = subst IsRequest (same_value made r (sym e ∙ is)) h.1

front_made : (rect : Rect) (tier : Option Tier) (bytes : List ℕ) (answer : Result (LayoutRequest × ℕ) DesignFault) (found : LayoutRequest × ℕ) → answer ≡ Ok found
    → IsFrontRequest rect tier bytes answer → IsRequest found.0
front_made rect tier bytes answer found is (stopped fault h e) = absurd (not_both found fault (sym is ∙ e))
front_made rect tier bytes answer found is (went_on pinned h k) =
    let made = seen_ok (λ r. (r, pinned.1)) k.0 found (sym is ∙ k.2) in
    subst IsRequest (ap (λ (pair : LayoutRequest × ℕ). pair.0) (sym made.2)) (request_made rect tier pinned.0 k.0 made.0 made.1 k.1)

-- what is found at the front is a request
pub front_request : (rect : Rect) (tier : Option Tier) (bytes : List ℕ) (found : LayoutRequest × ℕ) → IsFrontRequest rect tier bytes (Ok found) → IsRequest found.0
front_request rect tier bytes found h = front_made rect tier bytes (Ok found) found refl h
