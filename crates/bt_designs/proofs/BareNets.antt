-- What a bare design is found to be: a network; and the same of two designs.
use Rattle.std.proofs.Common.{◌≡◌, ℕ, ◌+◌, ◌-◌, List, length, Option, Some, None, Result, Ok, refl, ap, sym, subst, ◌∙◌, inl, inr}
use Rattle.bt_json.specs.Json.{Json}
use Rattle.bt_net.specs.Network.{Network, IsNetwork}
use Rattle.bt_parts.specs.declared.part.Part.{Part}
use Rattle.bt_parts.specs.declared.part.Tier.{Tier}
use Rattle.bt_parts.specs.Tiers.{speed_of}
use Rattle.bt_designs.specs.declared.design.Laid.{Laid}
use Rattle.bt_designs.specs.declared.fault.DesignFault.{DesignFault}
use Rattle.bt_designs.specs.Designs.{IsPlacedNet, IsLayoutNet, IsTieredLayout, IsTieredBlueprint, IsJsonLayout, IsToldOfLayout, IsBareText, IsBareDesign, in_basic_belts, sped}
use Rattle.bt_designs.specs.Refusals.{json_told, entity_told, grid_told, layout_told, net_told}
use Rattle.bt_designs.specs.Steps.{stopped, went_on}
use Rattle.bt_designs.specs.TwoDesigns.{HaveSameEnds, IsPaired, IsFrontNets}
use Rattle.bt_designs.proofs.CappedNets.{capped_is_network, speed_is_cap}
use Rattle.bt_designs.proofs.InTurns.{same_value, not_both}
use Rattle.bt_designs.proofs.OneDesign.{seen_ok}

placed_network : (parts : List Part) (answer : Result Network DesignFault) (n : Network) → answer ≡ Ok n → IsPlacedNet parts answer → IsNetwork n
placed_network parts answer n is (stopped fault h e) = absurd (not_both n (layout_told fault) (sym is ∙ e))
placed_network parts answer n is (went_on found h e) = subst IsNetwork (same_value found.0 n (sym e ∙ is)) h.1

layout_network : (parts : List Part) (answer : Result Network DesignFault) (n : Network) → answer ≡ Ok n → IsLayoutNet parts answer → IsNetwork n
layout_network parts answer n is (stopped fault h e) = absurd (not_both n (grid_told fault) (sym is ∙ e))
layout_network parts answer n is (went_on placed h k) = placed_network placed answer n is k

tiered_network : (parts : List Part) (answer : Result Laid DesignFault) (laid : Laid) → answer ≡ Ok laid → IsTieredLayout parts answer → IsNetwork laid.net
tiered_network parts answer laid is (stopped fault h e) = absurd (not_both laid fault (sym is ∙ e))
tiered_network parts answer laid is (went_on net h (tier, of, e)) =
    subst IsNetwork (ap (λ (l : Laid). l.net) (same_value (record { net = net; tier = tier }) laid (sym e ∙ is))) (layout_network parts (Ok net) net refl h)

blueprint_network : (value : Json) (answer : Result Laid DesignFault) (laid : Laid) → answer ≡ Ok laid → IsTieredBlueprint value answer → IsNetwork laid.net
blueprint_network value answer laid is (stopped fault h e) = absurd (not_both laid (entity_told fault) (sym is ∙ e))
blueprint_network value answer laid is (went_on parts h k) = tiered_network parts answer laid is k

layout_is_network : (bytes : List ℕ) (answer : Result (Laid × ℕ) DesignFault) (found : Laid × ℕ) → answer ≡ Ok found → IsJsonLayout bytes answer → IsNetwork found.0.net
layout_is_network bytes answer found is (stopped fault h e) = absurd (not_both found (json_told fault) (sym is ∙ e))
layout_is_network bytes answer found is (went_on read h k) =
    let laid = seen_ok (λ (l : Laid). (l, read.1)) k.0 found (sym is ∙ k.2) in
    subst IsNetwork (ap (λ (pair : Laid × ℕ). pair.0.net) (sym laid.2)) (blueprint_network read.0 k.0 laid.0 laid.1 k.1)

in_belts_network : (laid : Laid) → IsNetwork laid.net → IsNetwork (in_basic_belts laid)
in_belts_network laid is = by laid.tier
  where
    by : (tier : Option Tier) → IsNetwork (sped laid.net tier)
    by None = is
    by (Some tier) = capped_is_network (speed_of tier) laid.net (speed_is_cap tier) is

json_network : (bytes : List ℕ) (found : Network × ℕ) → IsToldOfLayout in_basic_belts bytes (Ok found) → IsNetwork found.0
json_network bytes found (stopped fault h e) = absurd (not_both found fault e)
json_network bytes found (went_on laid h e) =
    subst IsNetwork (ap (λ (pair : Network × ℕ). pair.0) (sym (same_value found (in_basic_belts laid.0, laid.1) e))) (in_belts_network laid.0 (layout_is_network bytes (Ok laid) laid refl h))

text_network : (bytes : List ℕ) (found : Network × ℕ) → IsBareText bytes (Ok found) → IsNetwork found.0
text_network bytes found (stopped fault h e) = absurd (not_both found (net_told fault) e)
text_network bytes found (went_on read h e) =
    subst IsNetwork (ap (λ (pair : Network × ℕ). pair.0) (sym (same_value found (read.net, read.used) e))) h.network

-- a bare design has a network
pub bare_network : (bytes : List ℕ) (found : Network × ℕ) → IsBareDesign bytes (Ok found) → IsNetwork found.0
bare_network bytes found (inl h) = json_network bytes found h.1
bare_network bytes found (inr h) = text_network bytes found h.1

-- two networks that are paired have the same ends, and are these
pub paired : (a b : Network) (nets : Network × Network) → IsPaired a b (Ok nets) → HaveSameEnds a b × (nets ≡ (a, b))
paired a b nets (inl (ends, e)) = (ends, same_value nets (a, b) e)
paired a b nets (inr (none, e)) = absurd (not_both nets _ e)

front_are : (bytes : List ℕ) (answer : Result ((Network × Network) × ℕ) DesignFault) (found : (Network × Network) × ℕ) → answer ≡ Ok found → IsFrontNets bytes answer
    → IsNetwork found.0.0 × IsNetwork found.0.1
front_are bytes answer found is (stopped fault h e) = absurd (not_both found fault (sym is ∙ e))
front_are bytes answer found is (went_on first h (text, skips, stopped fault k e)) = absurd (not_both found fault (sym is ∙ e))
front_are bytes answer found is (went_on first h (text, skips, went_on second k (nets, pair, e))) =
    let seen = seen_ok (λ (n : Network × Network). (n, (length bytes - length text) + second.1)) nets found (sym is ∙ e) in
    let both = paired first.0 second.0 seen.0 (subst (IsPaired first.0 second.0) seen.1 pair) in
    let same : found.0 ≡ (first.0, second.0) = ap (λ (x : (Network × Network) × ℕ). x.0) seen.2 ∙ both.1 in
    subst (λ (x : Network × Network). IsNetwork x.0 × IsNetwork x.1) (sym same) (bare_network bytes first h, bare_network text second k)

-- two designs at the front have networks
pub front_networks : (bytes : List ℕ) (found : (Network × Network) × ℕ) → IsFrontNets bytes (Ok found) → IsNetwork found.0.0 × IsNetwork found.0.1
front_networks bytes found h = front_are bytes (Ok found) found refl h
