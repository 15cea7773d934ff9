-- The edges that splitters prefer, where the parts of a layout have priorities.
use Rattle.std.specs.Prelude.{◌≡◌, ℕ, List, [], length, slice_get, Option, Some, None, MatchOption, Contains, ◌⊎◌}
use Rattle.std.specs.List.{AllZip}
use Rattle.bt_parts.specs.declared.hand.Hand.{Hand}
use Rattle.bt_parts.specs.declared.hand.Priority.{Priority}
use Rattle.bt_parts.specs.Hands.{IsPreferred}
pub use Rattle.bt_parts.specs.Hands.{no_priority, priority_of}
use Rattle.bt_parts.specs.declared.part.Cell.{Cell}
use Rattle.bt_parts.specs.declared.part.Part.{Part}
use Rattle.bt_parts.specs.Cells.{step}
use Rattle.bt_parts.specs.Layouts.{HasPart}
use Rattle.bt_net.specs.Network.{Network, preferred_in}
use Rattle.bt_model.specs.Handing.{FeedsFrom}
use Rattle.bt_model.specs.Chains.{Path, leaves, enters, Chain, IsChain}
use Rattle.bt_model.specs.Clean.{IsClean}
use Rattle.bt_model.specs.Shown.{Naming, ListsEach, IsNaming, IsEdgeOf}

-- the chain hands on from this cell of this part: of its last part, or, where it has no part, of the splitter at which
-- it starts
abbrev pub HandsOnFrom : List Part → Chain → ℕ → Cell → Type 0
HandsOnFrom parts chain giver cell = ((first : ℕ) × Path parts first giver chain.links)
    ⊎ ((chain.links ≡ []) × (chain.source ≡ leaves giver cell))

-- the chain ends at this half of this splitter: the cell from which it hands on looks at the half
pub record EndsAtHalf (parts : List Part) (chain : Chain) (s : ℕ) (half : Cell) : Type 0 where
  pub sink : chain.sink ≡ enters s
  pub giver : ℕ
  pub cell : Cell
  pub hands_on : HandsOnFrom parts chain giver cell
  pub feeds : FeedsFrom parts giver cell s
  pub faces : half ≡ step feeds.look.giver.part.dir cell

-- the half of the part with this index is the one on this hand
abbrev pub IsHalfOn : List Part → ℕ → Option Hand → Cell → Type 0
IsHalfOn parts s hand half = (part : Part) × HasPart parts s part × IsPreferred hand part half

-- the chain starts at the half that this splitter prefers to give to
abbrev pub IsGivenFirst : List Part → List Priority → Chain → ℕ → Type 0
IsGivenFirst parts priorities chain s = (half : Cell) × (chain.source ≡ leaves s half) × IsHalfOn parts s (priority_of priorities s).give half

-- the chain ends at the half that this splitter prefers to take from
abbrev pub IsTakenFirst : List Part → List Priority → Chain → ℕ → Type 0
IsTakenFirst parts priorities chain s = (half : Cell) × EndsAtHalf parts chain s half × IsHalfOn parts s (priority_of priorities s).take half

-- for each splitter the edges have the place of the chain that it prefers so, or none where it prefers no chain
pub record ArePreferred (Prefers : Chain → ℕ → Type 0) (splitters : List ℕ) (chains : List Chain) (edges : List (Option ℕ)) : Type 0 where
  pub count : length edges ≡ length splitters
  pub each : (k s : ℕ) → slice_get splitters k ≡ Some s → MatchOption (preferred_in edges k)
      ((chain : Chain) → Contains chains chain → Prefers chain s → ⊥)
      (λ a. (chain : Chain) × (slice_get chains a ≡ Some chain) × Prefers chain s)

-- the clean layout shows the network under this naming with what its splitters prefer: of its chains, put in the order
-- of the edges, each stands for its edge, and each splitter prefers the edges of the chains at the halves that it
-- prefers, and no others
pub record ShowsPreferring (parts : List Part) (priorities : List Priority) (net : Network) (naming : Naming) : Type 0 where
  pub clean : IsClean parts
  pub names : IsNaming parts net naming
  pub chains : List Chain
  pub each_once : ListsEach (IsChain parts) chains
  pub named : AllZip (IsEdgeOf parts naming) chains net.edges
  pub gives : ArePreferred (IsGivenFirst parts priorities) naming.splitters chains net.gives
  pub takes : ArePreferred (IsTakenFirst parts priorities) naming.splitters chains net.takes
