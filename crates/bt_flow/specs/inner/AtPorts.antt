-- What is asked of a state at single edges, and at the edges of a port.
use Rattle.std.specs.Prelude.{◌≡◌, ◌⊎◌, ◌↔◌, ◌<◌, ◌≤ℤ◌, ℕ, ℤ, pos, Bool, IsTrue, Option, Some, None, Result, Ok, Err, List}
use Rattle.std.specs.List.{AllByRecursion}
use Rattle.bt_frac.specs.Ratio.{Ratio, IsOver}
use Rattle.bt_net.specs.declared.network.Edge.{Edge}
use Rattle.bt_net.specs.Network.{Network}
use Rattle.bt_flow.specs.declared.ports.Port.{Port}
use Rattle.bt_flow.specs.declared.ports.Role.{Role}
use Rattle.bt_flow.specs.declared.sums.Wide.{Wide}
use Rattle.bt_flow.specs.States.{Flows, Fractions, StandsFor, flow_at, backed_at, cap_in}
use Rattle.bt_flow.specs.Steady.{HasEdge, IsFull, IsEmpty}
use Rattle.bt_flow.specs.Sums.{AllFit, IsFirstWide}
use Rattle.bt_flow.specs.Ports.{numbers_of, plays}

-- this is whether the claim is true of the whole numbers for which the fractions stand
abbrev pub Tells : Network → Fractions → (Flows → Type 0) → Bool → Type 0
Tells n t Claim result = (s : Flows) → StandsFor n t s → IsTrue result ↔ Claim s

-- the same, where every addition of these sums fits; or the two numbers at which one first doesn't
abbrev pub TellsBySums : Network → Fractions → (Flows → Type 0) → List (List Ratio) → Result Bool Wide → Type 0
TellsBySums n t Claim sums (Ok b) = Tells n t Claim b × AllFit sums
TellsBySums n t Claim sums (Err w) = IsFirstWide w.left w.right sums

-- this is whether the claim is true of a number over the denominator of whatever whole numbers
abbrev pub TellsOfNumber : Ratio → (Flows → ℤ → Type 0) → Bool → Type 0
TellsOfNumber number Claim result = (s : Flows) (x : ℤ) → 0 < s.denominator → IsOver number x s.denominator → IsTrue result ↔ Claim s x

-- this is whether the claim is true of the whole numbers, of whatever network, and of a number over their denominator
abbrev pub TellsWith : Fractions → Ratio → (Flows → ℤ → Type 0) → Bool → Type 0
TellsWith t number Claim result = (n : Network) (s : Flows) (x : ℤ) → StandsFor n t s → IsOver number x s.denominator → IsTrue result ↔ Claim s x

-- this is true of each edge of the port
abbrev pub AtEach : Port → (ℕ → Type 0) → Type 0
AtEach port Claim = AllByRecursion Claim (numbers_of port)

-- a number is from 0 to the cap of an edge, and where `full` at it
abbrev pub Admits : Flows → ℤ → Bool → Edge → Type 0
Admits s x full e = (pos 0 ≤ℤ x) × (x ≤ℤ cap_in s e) × (IsTrue full → x ≡ cap_in s e)

-- the edge with this number admits a number
abbrev pub AdmitsAt : Network → Flows → ℤ → Bool → ℕ → Type 0
AdmitsAt n s x full a = (e : Edge) → HasEdge n a e → Admits s x full e

-- the flow of an edge is at most a limit, and equals it where the edge has the mark
abbrev pub MeetsAt : Flows → ℤ → Bool → ℕ → Type 0
MeetsAt s limit mark a = (flow_at s a ≤ℤ limit) × (backed_at s a ≡ mark → flow_at s a ≡ limit)

-- the flow of the second edge is at most that of the first
abbrev pub FlowsAtMost : Flows → ℕ → ℕ → Type 0
FlowsAtMost s a b = flow_at s b ≤ℤ flow_at s a

-- an edge has this mark, or is full
abbrev pub Rests : Flows → Bool → ℕ → Edge → Type 0
Rests s mark a e = (backed_at s a ≡ mark) ⊎ IsFull s a e

-- the edge with this number has this mark, or is full
abbrev pub RestsAt : Network → Flows → Bool → ℕ → Type 0
RestsAt n s mark a = (e : Edge) → HasEdge n a e → Rests s mark a e

-- where no edge of the port is preferred, the edge has this mark or is full, or no edge of the port has a greater flow
abbrev pub SharesAt : Network → Flows → Port → Option ℕ → Bool → ℕ → Type 0
SharesAt n s port preferred mark a = preferred ≡ None → RestsAt n s mark a ⊎ AtEach port (FlowsAtMost s a)

-- the second edge is the first, or is empty
abbrev pub IsEmptyBeside : Flows → ℕ → ℕ → Type 0
IsEmptyBeside s a b = (b ≡ a) ⊎ IsEmpty s b

-- where the edge is the preferred one of the port, it has this mark or is full, or each other edge of the port is empty
abbrev pub ComesFirstAt : Network → Flows → Port → Option ℕ → Bool → ℕ → Type 0
ComesFirstAt n s port preferred mark a = preferred ≡ Some a → RestsAt n s mark a ⊎ AtEach port (IsEmptyBeside s a)

-- the flows of all edges with a role are equal
abbrev pub Agree : Network → Role → Flows → Type 0
Agree n r s = (i j a b : ℕ) (e f : Edge) → HasEdge n a e → HasEdge n b f → IsTrue (plays r i e) → IsTrue (plays r j f) → flow_at s a ≡ flow_at s b
