-- Steady states of a splitter network, by seven laws (after Couëtoux, Gastaldi and Naves, The
-- Steady-States of Splitter Networks) and two of splitters that prefer an edge.
use Rattle.std.specs.Prelude.{◌≡◌, ◌≢◌, ℕ, ◌<◌, Bool, true, false, IsTrue, List, [], ◌∷◌, length, slice_get, Some, None, ℤ, pos, ◌+ℤ◌, ◌≤ℤ◌, if◌then◌else◌, ◌⊎◌}
use Rattle.bt_net.specs.declared.network.Edge.{Edge}
use Rattle.bt_net.specs.Network.{Network, TakesEvenly, give_of, take_of, leaves, enters, is_input, is_output}
use Rattle.bt_flow.specs.States.{Flows, flow_at, backed_at, load_at, room_at, cap_in}

-- this is the edge of the network with this number
abbrev pub HasEdge : Network → ℕ → Edge → Type 0
HasEdge n a e = slice_get n.edges a ≡ Some e

-- the sum of the flows of the edges that pass a test
abbrev pub sum_where : (Edge → Bool) → List Edge → List ℤ → ℤ
sum_where p [] flows = pos 0
sum_where p (e ∷ edges) [] = pos 0
sum_where p (e ∷ edges) (f ∷ flows) = (if p e then f else pos 0) +ℤ sum_where p edges flows

-- the edge with this number is full: its flow is its cap
abbrev pub IsFull : Flows → ℕ → Edge → Type 0
IsFull s a e = flow_at s a ≡ cap_in s e

-- the edge with this number is empty: its flow is 0
abbrev pub IsEmpty : Flows → ℕ → Type 0
IsEmpty s a = flow_at s a ≡ pos 0

-- range: the flow of an edge is from 0 to its cap
abbrev pub KeepsRange : Network → Flows → ℕ → Type 0
KeepsRange n s a = (e : Edge) → HasEdge n a e → (pos 0 ≤ℤ flow_at s a) × (flow_at s a ≤ℤ cap_in s e)

-- conserve: at a splitter the sum of the in flows equals the sum of the out flows
abbrev pub Conserves : Network → Flows → ℕ → Type 0
Conserves n s k = sum_where (enters k) n.edges s.flows ≡ sum_where (leaves k) n.edges s.flows

-- even-out: a free out edge of a splitter that prefers no out edge has a flow at least that of the splitter's other out
-- edge, or is full
abbrev pub EvensOut : Network → Flows → ℕ → Type 0
EvensOut n s a = (k b : ℕ) (e f : Edge) → HasEdge n a e → HasEdge n b f → b ≢ a → IsTrue (leaves k e) → IsTrue (leaves k f)
    → give_of n k ≡ None → backed_at s a ≡ false → (flow_at s b ≤ℤ flow_at s a) ⊎ IsFull s a e

-- even-in: a backed in edge of a splitter that takes evenly has a flow at least that of the splitter's other in edge, or
-- is full
abbrev pub EvensIn : Network → Flows → ℕ → Type 0
EvensIn n s a = (k b : ℕ) (e f : Edge) → HasEdge n a e → HasEdge n b f → b ≢ a → IsTrue (enters k e) → IsTrue (enters k f)
    → TakesEvenly n k → backed_at s a ≡ true → (flow_at s b ≤ℤ flow_at s a) ⊎ IsFull s a e

-- prior-out: where the out edge that a splitter prefers is free, it is full, or the splitter's other out edge is empty
abbrev pub GivesFirst : Network → Flows → ℕ → Type 0
GivesFirst n s a = (k b : ℕ) (e f : Edge) → HasEdge n a e → HasEdge n b f → b ≢ a → IsTrue (leaves k e) → IsTrue (leaves k f)
    → give_of n k ≡ Some a → backed_at s a ≡ false → IsEmpty s b ⊎ IsFull s a e

-- prior-in: where the in edge that a splitter prefers is backed, it is full, or the splitter's other in edge is empty
abbrev pub TakesFirst : Network → Flows → ℕ → Type 0
TakesFirst n s a = (k b : ℕ) (e f : Edge) → HasEdge n a e → HasEdge n b f → b ≢ a → IsTrue (enters k e) → IsTrue (enters k f)
    → take_of n k ≡ Some a → backed_at s a ≡ true → IsEmpty s b ⊎ IsFull s a e

-- backing: where an in edge of a splitter is backed, each out edge of that splitter is backed or full
abbrev pub Backs : Network → Flows → ℕ → Type 0
Backs n s a = (k b : ℕ) (e f : Edge) → HasEdge n a e → HasEdge n b f → IsTrue (enters k e) → IsTrue (leaves k f)
    → backed_at s a ≡ true → (backed_at s b ≡ true) ⊎ IsFull s b f

-- input: the flow of an input is at most its load, and equals it where the edge is free
abbrev pub FeedsInput : Network → Flows → ℕ → Type 0
FeedsInput n s i = (a : ℕ) (e : Edge) → HasEdge n a e → IsTrue (is_input i e)
    → (flow_at s a ≤ℤ load_at s i) × (backed_at s a ≡ false → flow_at s a ≡ load_at s i)

-- output: the flow of an output is at most its room, and equals it where the edge is backed
abbrev pub FillsOutput : Network → Flows → ℕ → Type 0
FillsOutput n s o = (a : ℕ) (e : Edge) → HasEdge n a e → IsTrue (is_output o e)
    → (flow_at s a ≤ℤ room_at s o) × (backed_at s a ≡ true → flow_at s a ≡ room_at s o)

-- the state is steady: the nine laws hold everywhere
pub record IsSteady (n : Network) (s : Flows) : Type 0 where
  pub range : (a : ℕ) → a < length n.edges → KeepsRange n s a
  pub conserve : (k : ℕ) → k < n.splitters → Conserves n s k
  pub even_out : (a : ℕ) → a < length n.edges → EvensOut n s a
  pub even_in : (a : ℕ) → a < length n.edges → EvensIn n s a
  pub prior_out : (a : ℕ) → a < length n.edges → GivesFirst n s a
  pub prior_in : (a : ℕ) → a < length n.edges → TakesFirst n s a
  pub backing : (a : ℕ) → a < length n.edges → Backs n s a
  pub input : (i : ℕ) → i < n.inputs → FeedsInput n s i
  pub output : (o : ℕ) → o < n.outputs → FillsOutput n s o
