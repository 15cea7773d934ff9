-- What a design is: network text, or blueprint JSON of a layout. And of what isn't one, the first refusal.
use Rattle.std.specs.Prelude.{◌≡◌, ◌<◌, ℕ, All, List, ◌∷◌, ◌⊎◌, MatchOption, Option, Some, None, Result, Ok, Err, length, map}
use Rattle.bt_text.specs.Answers.{seen}
use Rattle.bt_text.specs.Blanks.{SkipsBlanks}
use Rattle.bt_json.specs.Json.{Json}
use Rattle.bt_json.specs.Answers.{IsRead}
use Rattle.bt_entities.specs.Answers.{IsPartsOf, IsPrioritisedOf}
use Rattle.bt_parts.specs.declared.hand.Priority.{Priority}
use Rattle.bt_parts.specs.declared.part.Part.{Part}
use Rattle.bt_parts.specs.declared.part.Tier.{Tier}
use Rattle.bt_parts.specs.Tiers.{speed_of}
use Rattle.bt_recover.specs.Placing.{IsPlaced}
use Rattle.bt_recover.specs.Recovered.{IsRecovered}
use Rattle.bt_recover.specs.Preferred.{IsRecoveredWith}
use Rattle.bt_net.specs.Network.{Network, network_of}
use Rattle.bt_net.specs.declared.network.Edge.{Edge}
use Rattle.bt_net.specs.declared.network.Admitted.TheVariants.{Nothing}
use Rattle.bt_net.specs.Readings.{IsNetRead, IsPlainRead}
use Rattle.bt_designs.specs.declared.design.Laid.{Laid}
use Rattle.bt_designs.specs.declared.fault.DesignFault.{DesignFault}
use Rattle.bt_designs.specs.Refusals.{json_told, entity_told, grid_told, layout_told, net_told}
use Rattle.bt_designs.specs.Steps.{InTurn}

-- the first byte that isn't blank is `{`
abbrev pub IsJsonText : List ℕ → Type 0
IsJsonText bytes = (rest : List ℕ) × SkipsBlanks bytes (123 ∷ rest)

-- what comes of parts that are placed: the network of their layout with its own numbering, or the first refusal of the
-- layout
abbrev pub IsPlacedNet : List Part → Result Network DesignFault → Type 0
IsPlacedNet parts = InTurn (IsRecovered parts) (λ fault. Err (layout_told fault)) (λ found answer. answer ≡ Ok found.0)

-- what comes of parts: the network of their layout, or the first refusal, of two that share a cell or of the layout
abbrev pub IsLayoutNet : List Part → Result Network DesignFault → Type 0
IsLayoutNet parts = InTurn (IsPlaced parts) (λ fault. Err (grid_told fault)) IsPlacedNet

-- all parts have this tier, and there are some
pub record HaveTier (parts : List Part) (tier : Tier) : Type 0 where
  pub some : 0 < length parts
  pub all : All (λ part. part.tier ≡ tier) parts

-- the tier of all parts, where they have one
abbrev pub IsTierOf : List Part → Option Tier → Type 0
IsTierOf parts told = MatchOption told ((tier : Tier) → HaveTier parts tier → ⊥) (HaveTier parts)

-- what comes of parts: the network of their layout and their tier, where they have one; or the first refusal
abbrev pub IsTieredLayout : List Part → Result Laid DesignFault → Type 0
IsTieredLayout parts = InTurn (IsLayoutNet parts) Err (λ net answer. (tier : Option Tier) × IsTierOf parts tier × (answer ≡ Ok (record { net = net; tier = tier })))

-- what comes of a JSON value that is to be a layout: that of the parts of which it is a blueprint, or the first refusal
abbrev pub IsTieredBlueprint : Json → Result Laid DesignFault → Type 0
IsTieredBlueprint value = InTurn (IsPartsOf value) (λ fault. Err (entity_told fault)) IsTieredLayout

-- what comes of parts that are placed and their priorities: the network of their layout with its own numbering and the
-- edges that its splitters prefer, or the first refusal of the layout
abbrev pub IsPlacedWith : List Priority → List Part → Result Network DesignFault → Type 0
IsPlacedWith priorities parts = InTurn (IsRecoveredWith parts priorities) (λ fault. Err (layout_told fault)) (λ found answer. answer ≡ Ok found.0)

-- what comes of parts and their priorities: the network of their layout, or the first refusal, of two that share a cell
-- or of the layout
abbrev pub IsLayoutWith : List Part × List Priority → Result Network DesignFault → Type 0
IsLayoutWith read = InTurn (IsPlaced read.0) (λ fault. Err (grid_told fault)) (IsPlacedWith read.1)

-- what comes of a JSON value that is to be a design: the network of the parts of which it is a blueprint, with their
-- priorities, or the first refusal
abbrev pub IsPreferringNet : Json → Result Network DesignFault → Type 0
IsPreferringNet value = InTurn (IsPrioritisedOf value) (λ fault. Err (entity_told fault)) IsLayoutWith

-- what comes of parts and their priorities: the network of their layout and their tier, where they have one; or the
-- first refusal
abbrev pub IsTieredWith : List Part × List Priority → Result Laid DesignFault → Type 0
IsTieredWith read = InTurn (IsLayoutWith read) Err (λ net answer. (tier : Option Tier) × IsTierOf read.0 tier × (answer ≡ Ok (record { net = net; tier = tier })))

-- what comes of a JSON value that is to be a request: the layout of the parts of which it is a blueprint, with their
-- priorities, or the first refusal
abbrev pub IsTieredPreferring : Json → Result Laid DesignFault → Type 0
IsTieredPreferring value = InTurn (IsPrioritisedOf value) (λ fault. Err (entity_told fault)) IsTieredWith

-- what comes of JSON text: what comes of the value at its front and the place after it, or the first refusal
abbrev pub IsJsonOf : {X : Type 0} → (Json → Result X DesignFault → Type 0) → List ℕ → Result (X × ℕ) DesignFault → Type 0
IsJsonOf {X} IsOf bytes = InTurn (IsRead bytes) (λ fault. Err (json_told fault)) (λ read answer.
    (found : Result X DesignFault) × IsOf read.0 found × (answer ≡ seen (λ (x : X). (x, read.1)) found))

-- what comes of the JSON text of a design
abbrev pub IsJsonDesign : List ℕ → Result (Network × ℕ) DesignFault → Type 0
IsJsonDesign bytes = IsJsonOf IsPreferringNet bytes

-- what comes of the JSON text of a request: a layout, in which splitters may prefer sides
abbrev pub IsJsonPreferring : List ℕ → Result (Laid × ℕ) DesignFault → Type 0
IsJsonPreferring bytes = IsJsonOf IsTieredPreferring bytes

-- what comes of the JSON text of a layout, in which no splitter prefers a side
abbrev pub IsJsonLayout : List ℕ → Result (Laid × ℕ) DesignFault → Type 0
IsJsonLayout bytes = IsJsonOf IsTieredBlueprint bytes

-- what is told of the layout that comes of JSON text, and the place after it; or the first refusal
abbrev pub IsToldOf : {Y : Type 0} → (Json → Result Laid DesignFault → Type 0) → (Laid → Y) → List ℕ → Result (Y × ℕ) DesignFault → Type 0
IsToldOf {Y} IsOf told bytes = InTurn (IsJsonOf IsOf bytes) Err (λ found answer. answer ≡ Ok (told found.0, found.1))

-- the same of a layout in which no splitter prefers a side
abbrev pub IsToldOfLayout : {Y : Type 0} → (Laid → Y) → List ℕ → Result (Y × ℕ) DesignFault → Type 0
IsToldOfLayout {Y} told bytes = IsToldOf IsTieredBlueprint told bytes

-- what comes of network text: the network at its front and the place after it, or the first refusal
abbrev pub IsTextDesign : List ℕ → Result (Network × ℕ) DesignFault → Type 0
IsTextDesign bytes = InTurn (IsPlainRead bytes) (λ fault. Err (net_told fault)) (λ read answer. answer ≡ Ok (read.net, read.used))

-- what comes of bytes: the network of the design at their front and the place after it, or the first refusal; they are
-- read as JSON text, or else as network text
abbrev pub IsDesign : List ℕ → Result (Network × ℕ) DesignFault → Type 0
IsDesign bytes answer = (IsJsonText bytes × IsJsonDesign bytes answer) ⊎ ((IsJsonText bytes → ⊥) × IsTextDesign bytes answer)

-- the same edge with this cap
abbrev pub with_cap : ℕ → Edge → Edge
with_cap cap edge = record edge { cap = cap }

-- the same edges with this cap
abbrev pub with_caps : ℕ → Network → Network
with_caps cap net = network_of net.inputs net.outputs net.splitters (map (with_cap cap) net.edges)

-- the network of parts of one tier, which has caps of 1, with caps of the speed of this tier; that of several has
-- speeds for caps
abbrev pub sped : Network → Option Tier → Network
sped net None = net
sped net (Some tier) = with_caps (speed_of tier) net

-- a layout's network in the unit of a basic belt: the cap of each chain is its speed
abbrev pub in_basic_belts : Laid → Network
in_basic_belts laid = sped laid.net laid.tier

-- what comes of network text in which nothing may stand behind the edges: the network at its front and the place after
-- it, or the first refusal
abbrev pub IsBareText : List ℕ → Result (Network × ℕ) DesignFault → Type 0
IsBareText bytes = InTurn (IsNetRead Nothing bytes) (λ fault. Err (net_told fault)) (λ read answer. answer ≡ Ok (read.net, read.used))

-- what comes of bytes at whose front a design without priorities is to stand, behind the edges of whose text nothing
-- stands: its network, that of JSON text in basic belts
abbrev pub IsBareDesign : List ℕ → Result (Network × ℕ) DesignFault → Type 0
IsBareDesign bytes answer = (IsJsonText bytes × IsToldOfLayout in_basic_belts bytes answer) ⊎ ((IsJsonText bytes → ⊥) × IsBareText bytes answer)
