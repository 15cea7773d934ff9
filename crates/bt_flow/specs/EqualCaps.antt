-- The laws of a steady state where no cap differs from another.
use Rattle.std.specs.Prelude.{◌≡◌, ◌≢◌, ◌↔◌, ℕ, ◌<◌, true, false, None, IsTrue, length, All, ◌≤ℤ◌}
use Rattle.bt_net.specs.declared.network.Edge.{Edge}
use Rattle.bt_net.specs.Network.{Network, TakesEvenly, give_of, leaves, enters}
use Rattle.bt_flow.specs.States.{Flows, flow_at, backed_at}
use Rattle.bt_flow.specs.Steady.{HasEdge, KeepsRange, Conserves, GivesFirst, TakesFirst, Backs, FeedsInput, FillsOutput, IsSteady}

-- all edges of the network have one cap
abbrev pub HasEqualCaps : Network → Type 0
HasEqualCaps n = (cap : ℕ) × All (λ e. e.cap ≡ cap) n.edges

-- a free out edge of a splitter that prefers no out edge has a flow at least that of the splitter's other out edge,
-- full or not
abbrev pub EvensOutAlways : Network → Flows → ℕ → Type 0
EvensOutAlways n s a = (k b : ℕ) (e f : Edge) → HasEdge n a e → HasEdge n b f → b ≢ a → IsTrue (leaves k e) → IsTrue (leaves k f)
    → give_of n k ≡ None → backed_at s a ≡ false → flow_at s b ≤ℤ flow_at s a

-- a backed in edge of a splitter that takes evenly has a flow at least that of the splitter's other in edge, full or not
abbrev pub EvensInAlways : Network → Flows → ℕ → Type 0
EvensInAlways n s a = (k b : ℕ) (e f : Edge) → HasEdge n a e → HasEdge n b f → b ≢ a → IsTrue (enters k e) → IsTrue (enters k f)
    → TakesEvenly n k → backed_at s a ≡ true → flow_at s b ≤ℤ flow_at s a

-- the state is steady by laws that let no splitter be uneven: the nine, but these two of even flows
pub record IsEvenlySteady (n : Network) (s : Flows) : Type 0 where
  pub range : (a : ℕ) → a < length n.edges → KeepsRange n s a
  pub conserve : (k : ℕ) → k < n.splitters → Conserves n s k
  pub even_out : (a : ℕ) → a < length n.edges → EvensOutAlways n s a
  pub even_in : (a : ℕ) → a < length n.edges → EvensInAlways n s a
  pub prior_out : (a : ℕ) → a < length n.edges → GivesFirst n s a
  pub prior_in : (a : ℕ) → a < length n.edges → TakesFirst n s a
  pub backing : (a : ℕ) → a < length n.edges → Backs n s a
  pub input : (i : ℕ) → i < n.inputs → FeedsInput n s i
  pub output : (o : ℕ) → o < n.outputs → FillsOutput n s o

-- where all caps are equal, a state is steady exactly where it is so by the laws that let no splitter be uneven
abbrev pub EqualCapsEven : Type 0
EqualCapsEven = (n : Network) → HasEqualCaps n → (s : Flows) → IsSteady n s ↔ IsEvenlySteady n s
