-- How fast a chain carries, and the cap of its edge.
use Rattle.std.specs.Prelude.{◌≡◌, ℕ, ◌≤◌, List, All, Contains, ◌⊎◌}
use Rattle.bt_parts.specs.declared.part.Part.{Part}
use Rattle.bt_parts.specs.declared.part.Tier.{Tier}
use Rattle.bt_parts.specs.Layouts.{HasPart}
use Rattle.bt_parts.specs.Tiers.{speed_of}
use Rattle.bt_model.specs.Chains.{Source, begins, leaves, Sink, ends, enters, Chain}

-- the part with this index has this speed
abbrev pub HasSpeed : List Part → ℕ → ℕ → Type 0
HasSpeed parts i speed = (part : Part) × HasPart parts i part × (speed ≡ speed_of part.tier)

-- the least speed of the parts of this kind: one of them has it, and none is slower
pub record IsLeastSpeed (parts : List Part) (P : ℕ → Type 0) (speed : ℕ) : Type 0 where
  pub slowest : ℕ
  pub is_one : P slowest
  pub has_it : HasSpeed parts slowest speed
  pub none_slower : (i other : ℕ) → P i → HasSpeed parts i other → speed ≤ other

-- a chain that starts so starts at this splitter
abbrev pub StartsAtSplitter : Source → ℕ → Type 0
StartsAtSplitter (begins i cell) s = ⊥
StartsAtSplitter (leaves t half) s = s ≡ t

-- a chain that ends so ends at this splitter
abbrev pub EndsAtSplitter : Sink → ℕ → Type 0
EndsAtSplitter (ends i) s = ⊥
EndsAtSplitter (enters t) s = s ≡ t

-- the part with this index is one of these, or the splitter at which they end
abbrev pub IsOnWay : List ℕ → Sink → ℕ → Type 0
IsOnWay links sink i = Contains links i ⊎ EndsAtSplitter sink i

-- the part with this index is one of the chain's, or the splitter at which it starts or ends
abbrev pub IsOnChain : Chain → ℕ → Type 0
IsOnChain chain i = StartsAtSplitter chain.source i ⊎ IsOnWay chain.links chain.sink i

-- the speed of a chain is the least of its parts and of the splitters at its ends
abbrev pub IsSpeedOf : List Part → Chain → ℕ → Type 0
IsSpeedOf parts chain speed = IsLeastSpeed parts (IsOnChain chain) speed

-- all parts have one tier
abbrev pub HasOneTier : List Part → Type 0
HasOneTier parts = (tier : Tier) × All (λ part. part.tier ≡ tier) parts

-- the cap of the chain's edge: 1 where all parts of the layout have one tier, and else the chain's speed
abbrev pub IsCapOf : List Part → Chain → ℕ → Type 0
IsCapOf parts chain cap = (HasOneTier parts × (cap ≡ 1)) ⊎ ((HasOneTier parts → ⊥) × IsSpeedOf parts chain cap)
