-- Bytes have one design at their front, or one refusal.
use Rattle.std.proofs.Common.{◌≡◌, ℕ, List, [], ◌∷◌, Option, Some, None, Result, Ok, Err, inl, inr, refl, ap, sym, subst, ◌∙◌, arith}
use Rattle.bt_text.specs.Answers.{HasOneAnswer, seen}
use Rattle.bt_json.specs.Json.{Json}
use Rattle.bt_json.specs.Answers.{IsRead}
use Rattle.bt_json.proofs.OneRead.{one_read}
use Rattle.bt_entities.specs.Answers.{IsPartsOf, IsPrioritisedOf}
use Rattle.bt_entities.proofs.OneAnswer.{one_parts, one_reading}
use Rattle.bt_net.specs.Network.{Network, IsNetwork}
use Rattle.bt_net.specs.declared.network.Admitted.TheVariants.{Nothing, Priorities}
use Rattle.bt_net.specs.Readings.{IsNetRead, IsPlainRead}
use Rattle.bt_net.proofs.OneReading.{one_read as one_net_read}
use Rattle.bt_parts.specs.declared.hand.Priority.{Priority}
use Rattle.bt_parts.specs.declared.part.Part.{Part}
use Rattle.bt_parts.specs.declared.part.Tier.{Tier}
use Rattle.bt_recover.specs.Placing.{IsPlaced}
use Rattle.bt_recover.proofs.OneAnswer.{one_placed}
use Rattle.bt_recover.specs.Recovered.{IsRecovered}
use Rattle.bt_recover.specs.Preferred.{IsRecoveredWith}
use Rattle.bt_recover.proofs.OneRecovery.{one_recovery}
use Rattle.bt_recover.proofs.PreferLemmas.{one_recovery_with}
use Rattle.bt_designs.specs.Designs.{HaveTier, IsTierOf, IsPlacedNet, IsLayoutNet, IsTieredLayout, IsTieredBlueprint, IsPlacedWith, IsLayoutWith, IsPreferringNet, IsTieredWith, IsTieredPreferring, IsJsonOf, IsJsonDesign, IsJsonPreferring, IsToldOf, IsToldOfLayout, IsTextDesign, IsDesign, IsBareText, IsBareDesign, in_basic_belts}
use Rattle.bt_designs.specs.declared.design.Laid.{Laid}
use Rattle.bt_designs.specs.declared.fault.DesignFault.{DesignFault}
use Rattle.bt_designs.specs.Refusals.{json_told, entity_told, grid_told, layout_told, net_told}
use Rattle.bt_designs.specs.Steps.{stopped, went_on}
use Rattle.bt_designs.proofs.InTurns.{one_in_turn, same_value, not_both}

one_placed_net : (parts : List Part) → HasOneAnswer (IsPlacedNet parts)
one_placed_net parts = one_in_turn (IsRecovered parts) _ _ (one_recovery parts) (λ found a b h k. h ∙ sym k)

one_layout_net : (parts : List Part) → HasOneAnswer (IsLayoutNet parts)
one_layout_net parts = one_in_turn (IsPlaced parts) _ _ (one_placed parts) one_placed_net

-- parts have one tier at most
same_tier : (parts : List Part) (one other : Tier) → HaveTier parts one → HaveTier parts other → one ≡ other
same_tier [] one other is also = absurd (omega (arith, is.some))
same_tier (p ∷ ps) one other is also = sym (is.all 0 p is.some) ∙ also.all 0 p also.some

one_tier : (parts : List Part) (one other : Option Tier) → IsTierOf parts one → IsTierOf parts other → one ≡ other
one_tier parts None None is also = refl
one_tier parts None (Some other) is also = absurd (is other also)
one_tier parts (Some one) None is also = absurd (also one is)
one_tier parts (Some one) (Some other) is also = ap (λ t. Some t) (same_tier parts one other is also)

one_tiered_layout : (parts : List Part) → HasOneAnswer (IsTieredLayout parts)
one_tiered_layout parts = one_in_turn (IsLayoutNet parts) Err _ (one_layout_net parts)
    (λ net a b h k. h.2 ∙ ap (λ tier. Ok (record { net = net; tier = tier })) (one_tier parts h.0 k.0 h.1 k.1) ∙ sym k.2)

one_blueprint : (value : Json) → HasOneAnswer (IsTieredBlueprint value)
one_blueprint value = one_in_turn (IsPartsOf value) _ _ (one_parts value) one_tiered_layout

one_placed_with : (priorities : List Priority) (parts : List Part) → HasOneAnswer (IsPlacedWith priorities parts)
one_placed_with priorities parts = one_in_turn (IsRecoveredWith parts priorities) _ _ (one_recovery_with parts priorities) (λ found a b h k. h ∙ sym k)

one_layout_with : (read : List Part × List Priority) → HasOneAnswer (IsLayoutWith read)
one_layout_with read = one_in_turn (IsPlaced read.0) _ _ (one_placed read.0) (one_placed_with read.1)

one_preferring_net : (value : Json) → HasOneAnswer (IsPreferringNet value)
one_preferring_net value = one_in_turn (IsPrioritisedOf value) _ _ (one_reading value) one_layout_with

one_tiered_with : (read : List Part × List Priority) → HasOneAnswer (IsTieredWith read)
one_tiered_with read = one_in_turn (IsLayoutWith read) Err _ (one_layout_with read)
    (λ net a b h k. h.2 ∙ ap (λ tier. Ok (record { net = net; tier = tier })) (one_tier read.0 h.0 k.0 h.1 k.1) ∙ sym k.2)

one_preferring_layout : (value : Json) → HasOneAnswer (IsTieredPreferring value)
one_preferring_layout value = one_in_turn (IsPrioritisedOf value) _ _ (one_reading value) one_tiered_with

-- two right answers to JSON text are equal
one_json_of : {X : Type 0} (IsOf : Json → Result X DesignFault → Type 0) → ((value : Json) → HasOneAnswer (IsOf value)) → (bytes : List ℕ) → HasOneAnswer (IsJsonOf IsOf bytes)
one_json_of {X} IsOf one bytes = one_in_turn (IsRead bytes) _ _ (one_read bytes)
    (λ read a b h k. h.2 ∙ ap (seen (λ (n : X). (n, read.1))) (one read.0 h.0 k.0 h.1 k.1) ∙ sym k.2)

one_json_design : (bytes : List ℕ) → HasOneAnswer (IsJsonDesign bytes)
one_json_design bytes = one_json_of IsPreferringNet one_preferring_net bytes

one_told_of : {Y : Type 0} (IsOf : Json → Result Laid DesignFault → Type 0) → ((value : Json) → HasOneAnswer (IsOf value)) → (told : Laid → Y) (bytes : List ℕ) → HasOneAnswer (IsToldOf IsOf told bytes)
one_told_of IsOf one told bytes = one_in_turn (IsJsonOf IsOf bytes) Err _ (one_json_of IsOf one bytes) (λ found a b h k. h ∙ sym k)

one_told_of_layout : {Y : Type 0} (told : Laid → Y) (bytes : List ℕ) → HasOneAnswer (IsToldOfLayout told bytes)
one_told_of_layout told bytes = one_told_of IsTieredBlueprint one_blueprint told bytes

-- and to that of a blueprint
pub one_json_preferring : (bytes : List ℕ) → HasOneAnswer (IsJsonPreferring bytes)
one_json_preferring bytes = one_json_of IsTieredPreferring one_preferring_layout bytes

pub one_told_of_preferring : {Y : Type 0} (told : Laid → Y) (bytes : List ℕ) → HasOneAnswer (IsToldOf IsTieredPreferring told bytes)
one_told_of_preferring told bytes = one_told_of IsTieredPreferring one_preferring_layout told bytes

-- two right answers to network text are equal
one_text_design : (bytes : List ℕ) → HasOneAnswer (IsTextDesign bytes)
one_text_design bytes = one_in_turn (IsPlainRead bytes) _ _ (one_net_read Priorities bytes) (λ read a b h k. h ∙ sym k)

-- two right answers to the bytes of a design are equal
pub one_design : (bytes : List ℕ) → HasOneAnswer (IsDesign bytes)
one_design bytes a b (inl h) (inl k) = one_json_design bytes a b h.1 k.1
one_design bytes a b (inl h) (inr k) = absurd (k.0 h.0)
one_design bytes a b (inr h) (inl k) = absurd (h.0 k.0)
one_design bytes a b (inr h) (inr k) = one_text_design bytes a b h.1 k.1

-- two right answers to the text of a bare design are equal
one_bare_text : (bytes : List ℕ) → HasOneAnswer (IsBareText bytes)
one_bare_text bytes = one_in_turn (IsNetRead Nothing bytes) _ _ (one_net_read Nothing bytes) (λ read a b h k. h ∙ sym k)

-- and to the bytes of one
pub one_bare_design : (bytes : List ℕ) → HasOneAnswer (IsBareDesign bytes)
one_bare_design bytes a b (inl h) (inl k) = one_told_of_layout in_basic_belts bytes a b h.1 k.1
one_bare_design bytes a b (inl h) (inr k) = absurd (k.0 h.0)
one_bare_design bytes a b (inr h) (inl k) = absurd (h.0 k.0)
one_bare_design bytes a b (inr h) (inr k) = one_bare_text bytes a b h.1 k.1

-- ---- what is found is a network

placed_network : (priorities : List Priority) (parts : List Part) (answer : Result Network DesignFault) (n : Network) → answer ≡ Ok n → IsPlacedWith priorities parts answer → IsNetwork n
placed_network priorities parts answer n is (stopped fault h e) = absurd (not_both n (layout_told fault) (sym is ∙ e))
placed_network priorities parts answer n is (went_on found h e) = subst IsNetwork (same_value found.0 n (sym e ∙ is)) h.1

layout_network : (read : List Part × List Priority) (answer : Result Network DesignFault) (n : Network) → answer ≡ Ok n → IsLayoutWith read answer → IsNetwork n
layout_network read answer n is (stopped fault h e) = absurd (not_both n (grid_told fault) (sym is ∙ e))
layout_network read answer n is (went_on placed h k) = placed_network read.1 placed answer n is k

blueprint_network : (value : Json) (answer : Result Network DesignFault) (n : Network) → answer ≡ Ok n → IsPreferringNet value answer → IsNetwork n
blueprint_network value answer n is (stopped fault h e) = absurd (not_both n (entity_told fault) (sym is ∙ e))
blueprint_network value answer n is (went_on read h k) = layout_network read answer n is k

-- what is seen of a result is a value's where the result is one
pub seen_ok : {A B E : Type 0} (f : A → B) (r : Result A E) (b : B) → Ok b ≡ seen f r → (a : A) × (r ≡ Ok a) × (b ≡ f a)
seen_ok f (Ok a) b e = (a, refl, same_value b (f a) e)
seen_ok f (Err fault) b e = absurd (not_both b fault e)

json_network : (bytes : List ℕ) (answer : Result (Network × ℕ) DesignFault) (found : Network × ℕ) → answer ≡ Ok found
    → IsJsonDesign bytes answer → IsNetwork found.0
json_network bytes answer found is (stopped fault h e) = absurd (not_both found (json_told fault) (sym is ∙ e))
json_network bytes answer found is (went_on read h k) =
    let net = seen_ok (λ n. (n, read.1)) k.0 found (sym is ∙ k.2) in
    subst IsNetwork (ap (λ (pair : Network × ℕ). pair.0) (sym net.2)) (blueprint_network read.0 k.0 net.0 net.1 k.1)

text_network : (bytes : List ℕ) (answer : Result (Network × ℕ) DesignFault) (found : Network × ℕ) → answer ≡ Ok found
    → IsTextDesign bytes answer → IsNetwork found.0
text_network bytes answer found is (stopped fault h e) = absurd (not_both found (net_told fault) (sym is ∙ e))
text_network bytes answer found is (went_on read h e) =
    subst IsNetwork (ap (λ (pair : Network × ℕ). pair.0) (same_value (read.net, read.used) found (sym e ∙ is))) h.network

-- what a design is found to be is a network
pub design_network : (bytes : List ℕ) (found : Network × ℕ) → IsDesign bytes (Ok found) → IsNetwork found.0
design_network bytes found (inl h) = json_network bytes (Ok found) found refl h.1
design_network bytes found (inr h) = text_network bytes (Ok found) found refl h.1
