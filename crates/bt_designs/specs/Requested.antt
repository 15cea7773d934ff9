-- What a request is: a design, whose network text may also name pins, sides, rows and blocks, with a rectangle and a
-- tier, which is the design's own where none is named.
use Rattle.std.specs.Prelude.{◌≡◌, ℕ, List, [], ◌⊎◌, Option, None, Result, Ok, Err, unwrap_or}
use Rattle.bt_text.specs.Answers.{seen}
use Rattle.bt_parts.specs.declared.part.Rect.{Rect}
use Rattle.bt_parts.specs.declared.part.Tier.{Tier}
use Rattle.bt_parts.specs.declared.part.Tier.TheVariants.{Basic}
use Rattle.bt_net.specs.declared.network.Admitted.{Admitted}
use Rattle.bt_net.specs.declared.network.Admitted.TheVariants.{All, Sides}
use Rattle.bt_net.specs.declared.network.Block.{Block}
use Rattle.bt_net.specs.declared.network.Demand.{Demand}
use Rattle.bt_net.specs.Network.{Network}
use Rattle.bt_net.specs.Readings.{IsNetRead}
use Rattle.bt_model.specs.Requests.{LayoutRequest, request_of}
use Rattle.bt_model.specs.RequestFaults.{IsMade}
use Rattle.bt_designs.specs.declared.design.Laid.{Laid}
use Rattle.bt_designs.specs.declared.fault.DesignFault.{DesignFault}
use Rattle.bt_designs.specs.Alone.{IsAlone}
use Rattle.bt_designs.specs.Designs.{IsJsonText, IsTieredPreferring, IsToldOf}
use Rattle.bt_designs.specs.Refusals.{net_told, request_told}
use Rattle.bt_designs.specs.Steps.{InTurn}

-- a network, where its ends are to stand, the cells on which no part is to stand, and the tier of its own parts, where
-- it has one
pub record PinnedNet : Type 0 where
  pub net : Network
  pub demands : List Demand
  pub blocks : List Block
  pub tier : Option Tier

-- the network of a text with these pins, sides and rows, and these blocks
abbrev pub pinned_net : Network → List Demand → List Block → PinnedNet
pinned_net net demands blocks = record { net = net; demands = demands; blocks = blocks; tier = None }

-- the network of a layout, with neither pins, sides, rows nor blocks, and its tier
abbrev pub pinned_laid : Laid → PinnedNet
pinned_laid laid = record { net = laid.net; demands = []; blocks = []; tier = laid.tier }

-- what comes of network text, behind whose edges these lines may stand: the network at its front with its pins, sides,
-- rows and blocks, and the place after it, or the first refusal
abbrev pub IsPinnedText : Admitted → List ℕ → Result (PinnedNet × ℕ) DesignFault → Type 0
IsPinnedText may bytes = InTurn (IsNetRead may bytes) (λ fault. Err (net_told fault)) (λ read answer. answer ≡ Ok (pinned_net read.net read.demands read.blocks, read.used))

-- what comes of JSON text: the network of the design at its front, with neither pins, sides, rows nor blocks, and the
-- place after it, or the first refusal
abbrev pub IsPinnedJson : List ℕ → Result (PinnedNet × ℕ) DesignFault → Type 0
IsPinnedJson bytes = IsToldOf IsTieredPreferring pinned_laid bytes

-- what comes of bytes: the network of the design at their front with its pins, sides, rows and blocks, and the place
-- after it, or the first refusal; they are read as JSON text, or else as network text
abbrev pub IsPinned : List ℕ → Result (PinnedNet × ℕ) DesignFault → Type 0
IsPinned bytes answer = (IsJsonText bytes × IsPinnedJson bytes answer) ⊎ ((IsJsonText bytes → ⊥) × IsPinnedText All bytes answer)

-- the tier of a request: the one that is asked for, or the design's own, or else the basic one
abbrev pub tier_for : Option Tier → Option Tier → Tier
tier_for asked own = unwrap_or asked (unwrap_or own Basic)

-- what is asked for a network with pins, sides, rows and blocks: parts that lay it in the rectangle, of the tier
abbrev pub asked_for : Rect → Option Tier → PinnedNet → LayoutRequest
asked_for rect tier n = request_of n.net rect (tier_for tier n.tier) n.demands n.blocks

-- what comes of a network with pins, sides, rows and blocks: the request for it in the rectangle, of parts of the tier,
-- or why there is none
abbrev pub IsRequestFor : Rect → Option Tier → PinnedNet → Result LayoutRequest DesignFault → Type 0
IsRequestFor rect tier n = InTurn (IsMade (asked_for rect tier n)) (λ fault. Err (request_told fault)) (λ request answer. answer ≡ Ok request)

-- what comes of bytes that are to be a request alone: the first refusal, of the design at their front, then of what
-- follows it, then of the request; or the request
abbrev pub IsLoneRequest : Rect → Option Tier → List ℕ → Result LayoutRequest DesignFault → Type 0
IsLoneRequest rect tier bytes = InTurn (IsAlone IsPinned bytes) Err (IsRequestFor rect tier)

-- what comes of bytes with a request at their front: the request and the place after it, or the first refusal, of the
-- design, then of the request
abbrev pub IsFrontRequest : Rect → Option Tier → List ℕ → Result (LayoutRequest × ℕ) DesignFault → Type 0
IsFrontRequest rect tier bytes = InTurn (IsPinned bytes) Err (λ found answer.
    (request : Result LayoutRequest DesignFault) × IsRequestFor rect tier found.0 request × (answer ≡ seen (λ r. (r, found.1)) request))

-- what comes of bytes that are to be a network text alone, behind whose edges priorities, sides and rows alone may
-- stand: the first refusal, of the text at their front, then of what follows it, then of the request; or the request
abbrev pub IsSidedRequest : Rect → Option Tier → List ℕ → Result LayoutRequest DesignFault → Type 0
IsSidedRequest rect tier bytes = InTurn (IsAlone (IsPinnedText Sides) bytes) Err (IsRequestFor rect tier)
