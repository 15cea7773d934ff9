-- Ways along edges: splitters that an input feeds in the end, and splitters that lead to an output.
use Rattle.std.specs.Prelude.{◌≡◌, ℕ, ◌<◌, ◌⊎◌, IsTrue}
use Rattle.bt_net.specs.declared.network.Edge.{Edge}
use Rattle.bt_net.specs.declared.network.Start.TheVariants as from
use Rattle.bt_net.specs.declared.network.Target.TheVariants as to
use Rattle.bt_net.specs.Network.{Network, is_input, is_output}
use Rattle.bt_flow.specs.Steady.{HasEdge}

-- the splitter has a way from an input: along an edge from one, or on from a splitter that has such a way
pub data IsReached (n : Network) : ℕ → Type 0 where
  fed : (s a i : ℕ) (e : Edge) → HasEdge n a e → e.start ≡ from.Input i → e.target ≡ to.Split s → IsReached n s
  passed : (s a r : ℕ) (e : Edge) → IsReached n r → HasEdge n a e → e.start ≡ from.Split r → e.target ≡ to.Split s → IsReached n s

-- the splitter has a way to an output: along an edge to one, or on to a splitter that has such a way
pub data LeadsOut (n : Network) : ℕ → Type 0 where
  feeds : (s a o : ℕ) (e : Edge) → HasEdge n a e → e.start ≡ from.Split s → e.target ≡ to.Output o → LeadsOut n s
  passes : (s a t : ℕ) (e : Edge) → LeadsOut n t → HasEdge n a e → e.start ≡ from.Split s → e.target ≡ to.Split t → LeadsOut n s

-- the edge has a way to an output: it ends at one, or at a splitter that has such a way
abbrev pub GoesOut : Network → Edge → Type 0
GoesOut n e = ((o : ℕ) × (e.target ≡ to.Output o)) ⊎ ((s : ℕ) × (e.target ≡ to.Split s) × LeadsOut n s)

-- the edge has a way from an input: it starts at one, or at a splitter that has such a way
abbrev pub ComesIn : Network → Edge → Type 0
ComesIn n e = ((i : ℕ) × (e.start ≡ from.Input i)) ⊎ ((s : ℕ) × (e.start ≡ from.Split s) × IsReached n s)

-- the network is served: each input has a way to an output, and each output a way from an input
pub record IsServed (n : Network) : Type 0 where
  pub inputs : (i a : ℕ) (e : Edge) → i < n.inputs → HasEdge n a e → IsTrue (is_input i e) → GoesOut n e
  pub outputs : (o a : ℕ) (e : Edge) → o < n.outputs → HasEdge n a e → IsTrue (is_output o e) → ComesIn n e
