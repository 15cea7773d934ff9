-- Why there is no request: the first cause in the order of `RequestFault`.
use Rattle.std.specs.Prelude.{◌≡◌, ◌≢◌, ℕ, ◌<◌, ◌≤◌, ◌⊎◌, max, List, length, slice_get, Some, Result, Ok, Err}
use Rattle.bt_net.specs.declared.network.Block.{Block}
use Rattle.bt_net.specs.declared.network.Edge.{Edge}
use Rattle.bt_net.specs.declared.network.Demand.{Demand}
use Rattle.bt_net.specs.Network.{Network}
use Rattle.bt_parts.specs.declared.part.Rect.{Rect}
use Rattle.bt_parts.specs.Cells.{IsInside}
use Rattle.bt_model.specs.declared.fault.RequestFault.{RequestFault}
use Rattle.bt_model.specs.declared.fault.RequestFault.TheVariants as fault
use Rattle.bt_model.specs.declared.request.TheConstants.{MOST_EDGES, MOST_SPLITTERS}
pub use Rattle.bt_model.specs.Requests.{NameOneEnd}
use Rattle.bt_model.specs.Requests.{LayoutRequest, IsRequest, HasEnds, ends_of, line_of, IsPinnedTo, IsPinnedInside, blocked}

-- no number has P
abbrev pub HasNone : (ℕ → Type 0) → Type 0
HasNone P = (n : ℕ) → P n → ⊥

-- the least number that has P
abbrev pub IsLeast : (ℕ → Type 0) → ℕ → Type 0
IsLeast P n = P n × ((m : ℕ) → P m → n ≤ m)

-- the network has more than `MOST_EDGES` edges or more than `MOST_SPLITTERS` splitters
abbrev pub IsTooLarge : Network → Type 0
IsTooLarge net = (MOST_EDGES < length net.edges) ⊎ (MOST_SPLITTERS < net.splitters)

-- the edge with this number has another cap than 1
abbrev pub HasOtherCap : Network → ℕ → Type 0
HasOtherCap net k = (edge : Edge) × (slice_get net.edges k ≡ Some edge) × (edge.cap ≢ 1)

-- the line of one of these that is bad
pub record IsLineOfBad {X : Type 0} (IsBad : X → Type 0) (line_of : X → ℕ) (xs : List X) (line : ℕ) : Type 0 where
  pub place : ℕ
  pub one : X
  pub is_one : slice_get xs place ≡ Some one
  pub bad : IsBad one
  pub line_is : line ≡ line_of one

-- the later line of two of these that clash
pub record IsLaterOfTwo {X : Type 0} (Clash : X → X → Type 0) (line_of : X → ℕ) (xs : List X) (line : ℕ) : Type 0 where
  pub first_place : ℕ
  pub second_place : ℕ
  pub apart : first_place < second_place
  pub one : X
  pub is_one : slice_get xs first_place ≡ Some one
  pub other : X
  pub is_other : slice_get xs second_place ≡ Some other
  pub clash : Clash one other
  pub line_is : line ≡ max (line_of one) (line_of other)

-- it names an end that the network doesn't have, or a cell outside the rectangle
abbrev pub IsOutOfPlace : Network → Rect → Demand → Type 0
IsOutOfPlace net rect d = (HasEnds net (ends_of d) → ⊥) ⊎ (IsPinnedInside rect d → ⊥)

-- the line of a pin, a side or a row that no request has: one that is out of place, or the later one of two that name
-- some end
abbrev pub IsPinRefused : Network → Rect → List Demand → ℕ → Type 0
IsPinRefused net rect demands line = IsLineOfBad (IsOutOfPlace net rect) line_of demands line ⊎ IsLaterOfTwo NameOneEnd line_of demands line

-- one of the pins names the cell that the block names
pub record IsPinned (demands : List Demand) (block : Block) : Type 0 where
  pub place : ℕ
  pub demand : Demand
  pub is_demand : slice_get demands place ≡ Some demand
  pub same : IsPinnedTo (blocked block) demand

-- the block names a cell outside the rectangle, or that of a pin
abbrev pub IsInTheWay : Rect → List Demand → Block → Type 0
IsInTheWay rect demands block = (IsInside rect (blocked block) → ⊥) ⊎ IsPinned demands block

-- both name one cell
abbrev pub BlockOneCell : Block → Block → Type 0
BlockOneCell one other = blocked one ≡ blocked other

-- the line of a block that no request has: one that is in the way, or the later one of two blocks of one cell
abbrev pub IsBlockRefused : Rect → List Demand → List Block → ℕ → Type 0
IsBlockRefused rect demands blocks line = IsLineOfBad (IsInTheWay rect demands) (λ block. block.line) blocks line
    ⊎ IsLaterOfTwo BlockOneCell (λ block. block.line) blocks line

-- what comes of making a request for these: that request, or why there is none; the faults in their order
abbrev pub IsMade : LayoutRequest → Result LayoutRequest RequestFault → Type 0
IsMade request (Ok made) = (made ≡ request) × IsRequest made
IsMade request (Err fault.TooLarge) = IsTooLarge request.net
IsMade request (Err (fault.Cap edge)) = (IsTooLarge request.net → ⊥) × IsLeast (HasOtherCap request.net) edge
IsMade request (Err (fault.Pin line)) = (IsTooLarge request.net → ⊥) × HasNone (HasOtherCap request.net)
    × IsLeast (IsPinRefused request.net request.rect request.demands) line
IsMade request (Err (fault.Block line)) = (IsTooLarge request.net → ⊥) × HasNone (HasOtherCap request.net)
    × HasNone (IsPinRefused request.net request.rect request.demands) × IsLeast (IsBlockRefused request.rect request.demands request.blocks) line
