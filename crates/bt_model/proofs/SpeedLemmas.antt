-- The least speed of parts, and that a chain has one cap.
use Rattle.std.proofs.Common.{◌≡◌, ◌⊎◌, ℕ, zero, suc, ◌≤◌, min, List, [], ◌∷◌, refl, sym, ◌∙◌, ap, subst, inl, inr, ⊎_elim, arith}
use Rattle.std.specs.List.{All, Contains}
use Rattle.std.proofs.lemmas.Bool.{cases_lt}
use Rattle.bt_parts.specs.declared.part.Part.{Part}
use Rattle.bt_parts.specs.declared.part.Tier.{Tier}
use Rattle.bt_parts.specs.declared.part.Tier.TheVariants.{Basic, Fast, Express, Turbo}
use Rattle.bt_parts.specs.Tiers.{speed_of}
use Rattle.bt_parts.proofs.Places.{same_part}
use Rattle.bt_net.specs.Network.{IsCap}
use Rattle.bt_model.specs.Chains.{Path, one, more, Source, begins, leaves, Sink, ends, enters, Chain, StartsAs, EndsAs, IsChain}
use Rattle.bt_model.specs.Speeds.{HasSpeed, IsLeastSpeed, StartsAtSplitter, IsOnWay, IsOnChain, IsSpeedOf, HasOneTier, IsCapOf}
use Rattle.bt_model.proofs.Sorted.{contains_cases, contains_head, contains_more, contains_none}

-- ---- the least speed

-- a part has one speed
same_speed : (parts : List Part) (i a b : ℕ) → HasSpeed parts i a → HasSpeed parts i b → a ≡ b
same_speed parts i a b h k = h.2 ∙ ap (λ p. speed_of p.tier) (same_part parts i h.0 k.0 h.1 k.1) ∙ sym k.2

-- that of one part
least_one : (parts : List Part) (i speed : ℕ) → HasSpeed parts i speed → IsLeastSpeed parts (λ j. j ≡ i) speed
least_one parts i speed has = record {
  slowest = i;
  is_one = refl;
  has_it = has;
  none_slower = λ j other e k.
      let same : other ≡ speed = same_speed parts i other speed (subst (λ x. HasSpeed parts x other) e k) has in omega arith;
}

-- of the same parts
least_same : (parts : List Part) (P Q : ℕ → Type 0) (speed : ℕ) → ((i : ℕ) → P i → Q i) → ((i : ℕ) → Q i → P i)
    → IsLeastSpeed parts P speed → IsLeastSpeed parts Q speed
least_same parts P Q speed widen narrow h = record {
  slowest = h.slowest;
  is_one = widen h.slowest h.is_one;
  has_it = h.has_it;
  none_slower = λ i other is has. h.none_slower i other (narrow i is) has;
}

-- of two kinds of parts
least_both : (parts : List Part) (P Q : ℕ → Type 0) (a b : ℕ) → IsLeastSpeed parts P a → IsLeastSpeed parts Q b
    → IsLeastSpeed parts (λ i. P i ⊎ Q i) (min a b)
least_both parts P Q a b h k =
    ⊎_elim
    (λ lt. let least : min a b ≡ a = omega arith in record {
      slowest = h.slowest;
      is_one = inl h.is_one;
      has_it = subst (λ s. HasSpeed parts h.slowest s) (sym least) h.has_it;
      none_slower = none_slower;
    })
    (λ le. let least : min a b ≡ b = omega arith in record {
      slowest = k.slowest;
      is_one = inr k.is_one;
      has_it = subst (λ s. HasSpeed parts k.slowest s) (sym least) k.has_it;
      none_slower = none_slower;
    })
    (cases_lt a b)
  where
    none_slower : (i other : ℕ) → P i ⊎ Q i → HasSpeed parts i other → min a b ≤ other
    none_slower i other (inl is) has = let le = h.none_slower i other is has in omega arith
    none_slower i other (inr is) has = let le = k.none_slower i other is has in omega arith

-- with one part more
pub least_more : (parts : List Part) (P Q : ℕ → Type 0) (i a b : ℕ) → IsLeastSpeed parts P a → HasSpeed parts i b
    → ((j : ℕ) → P j ⊎ (j ≡ i) → Q j) → ((j : ℕ) → Q j → P j ⊎ (j ≡ i)) → IsLeastSpeed parts Q (min a b)
least_more parts P Q i a b least has widen narrow =
    least_same parts (λ j. P j ⊎ (j ≡ i)) Q (min a b) widen narrow (least_both parts P (λ j. j ≡ i) a b least (least_one parts i b has))

one_least : (parts : List Part) (P : ℕ → Type 0) (a b : ℕ) → IsLeastSpeed parts P a → IsLeastSpeed parts P b → a ≡ b
one_least parts P a b h k =
    let le : a ≤ b = h.none_slower k.slowest b k.is_one k.has_it in
    let ge : b ≤ a = k.none_slower h.slowest a h.is_one h.has_it in
    omega arith

-- of a list of one part
pub least_alone : (parts : List Part) (i speed : ℕ) → HasSpeed parts i speed → IsLeastSpeed parts (Contains (i ∷ [])) speed
least_alone parts i speed has =
    least_same parts (λ j. j ≡ i) (Contains (i ∷ [])) speed
    (λ j e. subst (λ x. Contains (i ∷ []) x) (sym e) (contains_head i []))
    (λ j there. ⊎_elim (λ e. e) (λ later. absurd (contains_none j later)) (contains_cases i [] j there))
    (least_one parts i speed has)

-- ---- the speed of a chain

-- of a chain that begins with an input
pub speed_from_input : (parts : List Part) (chain : Chain) (speed : ℕ) → ((i : ℕ) → StartsAtSplitter chain.source i → ⊥)
    → IsLeastSpeed parts (IsOnWay chain.links chain.sink) speed → IsSpeedOf parts chain speed
speed_from_input parts chain speed none least =
    least_same parts (IsOnWay chain.links chain.sink) (IsOnChain chain) speed
    (λ i on. inr on) (λ i. ⊎_elim (λ starts. absurd (none i starts)) (λ on. on)) least

-- of a chain that starts at a splitter
pub speed_from_splitter : (parts : List Part) (chain : Chain) (s a b : ℕ) → ((i : ℕ) → StartsAtSplitter chain.source i → i ≡ s)
    → StartsAtSplitter chain.source s → IsLeastSpeed parts (IsOnWay chain.links chain.sink) a → HasSpeed parts s b
    → IsSpeedOf parts chain (min a b)
speed_from_splitter parts chain s a b only starts least has =
    least_more parts (IsOnWay chain.links chain.sink) (IsOnChain chain) s a b least has
    (λ i. ⊎_elim (λ on. inr on) (λ e. inl (subst (λ x. StartsAtSplitter chain.source x) (sym e) starts)))
    (λ i. ⊎_elim (λ at. inr (only i at)) (λ on. inl on))

-- of no parts, and the splitter at which they end
pub least_at_splitter : (parts : List Part) (t speed : ℕ) → HasSpeed parts t speed → IsLeastSpeed parts (IsOnWay [] (enters t)) speed
least_at_splitter parts t speed has =
    least_same parts (λ i. i ≡ t) (IsOnWay [] (enters t)) speed
    (λ i e. inr e) (λ i. ⊎_elim (λ there. absurd (contains_none i there)) (λ e. e)) (least_one parts t speed has)

-- of parts that end with an output
pub least_to_output : (parts : List Part) (links : List ℕ) (last speed : ℕ) → IsLeastSpeed parts (Contains links) speed
    → IsLeastSpeed parts (IsOnWay links (ends last)) speed
least_to_output parts links last speed least =
    least_same parts (Contains links) (IsOnWay links (ends last)) speed
    (λ i there. inl there) (λ i. ⊎_elim (λ there. there) (λ none. absurd none)) least

-- of parts that end at a splitter
pub least_to_splitter : (parts : List Part) (links : List ℕ) (t a b : ℕ) → IsLeastSpeed parts (Contains links) a → HasSpeed parts t b
    → IsLeastSpeed parts (IsOnWay links (enters t)) (min a b)
least_to_splitter parts links t a b least has =
    least_more parts (Contains links) (IsOnWay links (enters t)) t a b least has (λ i on. on) (λ i on. on)

path_speed : (parts : List Part) (i last : ℕ) (links : List ℕ) → Path parts i last links
    → (speed : ℕ) × IsLeastSpeed parts (Contains links) speed
path_speed parts i last links (one j link) =
    (speed_of link.0.tier, least_alone parts j (speed_of link.0.tier) (link.0, link.1, refl))
path_speed parts i last links (more j m e rest link hands path) =
    let later = path_speed parts m last rest path in (
      min later.0 (speed_of link.0.tier),
      least_more parts (Contains rest) (Contains (j ∷ rest)) j later.0 (speed_of link.0.tier) later.1 (link.0, link.1, refl)
          (λ k. ⊎_elim (λ there. contains_more j rest k there) (λ same. subst (λ x. Contains (j ∷ rest) x) (sym same) (contains_head j rest)))
          (λ k there. ⊎_elim (λ same. inr same) (λ after. inl after) (contains_cases j rest k there)),
    )

way_speed : (parts : List Part) (links : List ℕ) (sink : Sink) (last a : ℕ) → EndsAs parts sink last → IsLeastSpeed parts (Contains links) a
    → (speed : ℕ) × IsLeastSpeed parts (IsOnWay links sink) speed
way_speed parts links (ends i) last a h least = (a, least_to_output parts links i a least)
way_speed parts links (enters t) last a h least =
    (min a (speed_of h.0.0.tier), least_to_splitter parts links t a (speed_of h.0.0.tier) least (h.0.0, h.0.1, refl))

longest_speed : (parts : List Part) (source : Source) (links : List ℕ) (sink : Sink) (first a : ℕ) → StartsAs parts source first
    → IsLeastSpeed parts (IsOnWay links sink) a → (speed : ℕ) × IsSpeedOf parts (record { source = source; links = links; sink = sink }) speed
longest_speed parts (begins i cell) links sink first a h least =
    (a, speed_from_input parts (record { source = begins i cell; links = links; sink = sink }) a (λ j none. none) least)
longest_speed parts (leaves s half) links sink first a h least = (
  min a (speed_of h.0.0.tier),
  speed_from_splitter parts (record { source = leaves s half; links = links; sink = sink }) s a (speed_of h.0.0.tier)
      (λ j e. e) refl least (h.0.0, h.0.1, refl),
)

-- each chain has a speed
speed_exists : (parts : List Part) (chain : Chain) → IsChain parts chain → (speed : ℕ) × IsSpeedOf parts chain speed
speed_exists parts chain (inl h) =
    let path = path_speed parts h.first h.last chain.links h.path in
    let way = way_speed parts chain.links chain.sink h.last path.0 h.ends path.1 in
    longest_speed parts chain.source chain.links chain.sink h.first way.0 h.starts way.1
speed_exists parts chain (inr h) =
    let from = h.is_from in
    let to = h.is_to in
    let way : IsLeastSpeed parts (IsOnWay chain.links chain.sink) (speed_of to.0.tier) =
    subst (λ x. IsLeastSpeed parts (IsOnWay x chain.sink) (speed_of to.0.tier)) (sym h.no_link)
    (subst (λ x. IsLeastSpeed parts (IsOnWay [] x) (speed_of to.0.tier)) (sym h.sink)
    (least_at_splitter parts h.to (speed_of to.0.tier) (to.0, to.1, refl))) in (
      min (speed_of to.0.tier) (speed_of from.0.tier),
      speed_from_splitter parts chain h.from (speed_of to.0.tier) (speed_of from.0.tier)
          (λ i at. subst (λ x. StartsAtSplitter x i) h.source at) (subst (λ x. StartsAtSplitter x h.from) (sym h.source) refl)
          way (from.0, from.1, refl),
    )

-- ---- whether there is one tier

tier_cases : (this other : Tier) → (other ≡ this) ⊎ (other ≡ this → ⊥)
tier_cases Basic Basic = inl refl
tier_cases Fast Fast = inl refl
tier_cases Express Express = inl refl
tier_cases Turbo Turbo = inl refl
tier_cases this other = inr (λ e. cc)

all_more : (tier : Tier) (p : Part) (parts : List Part) → p.tier ≡ tier → All (λ part. part.tier ≡ tier) parts
    → All (λ part. part.tier ≡ tier) (p ∷ parts)
all_more tier p parts e all zero d lt = e
all_more tier p parts e all (suc k) d lt = all k d (omega arith)

all_cases : (tier : Tier) (parts : List Part)
    → All (λ part. part.tier ≡ tier) parts ⊎ (All (λ part. part.tier ≡ tier) parts → ⊥)
all_cases tier [] = inl (λ k d lt. absurd (omega arith))
all_cases tier (p ∷ parts) =
    ⊎_elim
    (λ e. ⊎_elim (λ all. inl (all_more tier p parts e all)) (λ not. inr (λ all. not (λ k d lt. all (suc k) d (omega arith)))) (all_cases tier parts))
    (λ not. inr (λ all. not (all 0 p (omega arith))))
    (tier_cases tier p.tier)

one_tier_cases : (parts : List Part) → HasOneTier parts ⊎ (HasOneTier parts → ⊥)
one_tier_cases [] = inl (Basic, λ k d lt. absurd (omega arith))
one_tier_cases (p ∷ parts) =
    ⊎_elim (λ all. inl (p.tier, all))
    (λ not. inr (λ same. not (λ k d lt. same.1 k d lt ∙ sym (same.1 0 d (omega arith)))))
    (all_cases p.tier (p ∷ parts))

-- ---- the cap of a chain

-- each chain has a cap
pub cap_exists : (parts : List Part) (chain : Chain) → IsChain parts chain → (cap : ℕ) × IsCapOf parts chain cap
cap_exists parts chain is =
    ⊎_elim (λ same. (1, inl (same, refl))) (λ mixed. let speed = speed_exists parts chain is in (speed.0, inr (mixed, speed.1)))
    (one_tier_cases parts)

-- and no other
pub same_cap : (parts : List Part) (chain : Chain) (a b : ℕ) → IsCapOf parts chain a → IsCapOf parts chain b → a ≡ b
same_cap parts chain a b (inl h) (inl k) = h.1 ∙ sym k.1
same_cap parts chain a b (inl h) (inr k) = absurd (k.0 h.0)
same_cap parts chain a b (inr h) (inl k) = absurd (h.0 k.0)
same_cap parts chain a b (inr h) (inr k) = one_least parts (IsOnChain chain) a b h.1 k.1

speed_range : (tier : Tier) → IsCap (speed_of tier)
speed_range Basic = (omega arith, omega arith)
speed_range Fast = (omega arith, omega arith)
speed_range Express = (omega arith, omega arith)
speed_range Turbo = (omega arith, omega arith)

-- which an edge may have
pub cap_range : (parts : List Part) (chain : Chain) (cap : ℕ) → IsCapOf parts chain cap → IsCap cap
cap_range parts chain cap (inl h) = let e = h.1 in (omega arith, omega arith)
cap_range parts chain cap (inr h) =
    let e = h.1.has_it.2 in
    let range = speed_range h.1.has_it.0.tier in
    (omega arith, omega arith)
