-- The laws of a steady state where no splitter prefers an edge: those of Couëtoux, Gastaldi and Naves, for edges of any
-- caps.
use Rattle.std.specs.Prelude.{◌≡◌, ◌≢◌, ◌↔◌, ℕ, ◌<◌, true, false, IsTrue, length, ◌≤ℤ◌, ◌⊎◌}
use Rattle.bt_net.specs.declared.network.Edge.{Edge}
use Rattle.bt_net.specs.Network.{Network, HasNoPriorities, leaves, enters}
use Rattle.bt_flow.specs.States.{Flows, flow_at, backed_at}
use Rattle.bt_flow.specs.Steady.{HasEdge, IsFull, KeepsRange, Conserves, Backs, FeedsInput, FillsOutput, IsSteady}

-- a free out edge of a splitter has a flow at least that of the splitter's other out edge, or is full
abbrev pub SharesOut : Network → Flows → ℕ → Type 0
SharesOut n s a = (k b : ℕ) (e f : Edge) → HasEdge n a e → HasEdge n b f → b ≢ a → IsTrue (leaves k e) → IsTrue (leaves k f)
    → backed_at s a ≡ false → (flow_at s b ≤ℤ flow_at s a) ⊎ IsFull s a e

-- a backed in edge of a splitter has a flow at least that of the splitter's other in edge, or is full
abbrev pub SharesIn : Network → Flows → ℕ → Type 0
SharesIn n s a = (k b : ℕ) (e f : Edge) → HasEdge n a e → HasEdge n b f → b ≢ a → IsTrue (enters k e) → IsTrue (enters k f)
    → backed_at s a ≡ true → (flow_at s b ≤ℤ flow_at s a) ⊎ IsFull s a e

-- the state keeps the seven laws, none of which speaks of preferred edges
pub record KeepsSevenLaws (n : Network) (s : Flows) : Type 0 where
  pub range : (a : ℕ) → a < length n.edges → KeepsRange n s a
  pub conserve : (k : ℕ) → k < n.splitters → Conserves n s k
  pub even_out : (a : ℕ) → a < length n.edges → SharesOut n s a
  pub even_in : (a : ℕ) → a < length n.edges → SharesIn n s a
  pub backing : (a : ℕ) → a < length n.edges → Backs n s a
  pub input : (i : ℕ) → i < n.inputs → FeedsInput n s i
  pub output : (o : ℕ) → o < n.outputs → FillsOutput n s o

-- where no splitter prefers an edge, a state is steady exactly where it keeps the seven laws
abbrev pub SevenLawsAreAll : Type 0
SevenLawsAreAll = (n : Network) → HasNoPriorities n → (s : Flows) → IsSteady n s ↔ KeepsSevenLaws n s
