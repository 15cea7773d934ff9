-- When loads, rooms and flows of two states in fractions are equal.
use Rattle.std.specs.Prelude.{◌≡◌, ℕ, ◌<◌, slice_index_or}
use Rattle.bt_frac.specs.Values.{nothing}
use Rattle.bt_net.specs.Network.{Network}
use Rattle.bt_flow.specs.States.{Fractions}
use Rattle.bt_flow.specs.EndEdges.{output_edge}

-- the flow of an output is equal in both
abbrev pub IsAlikeAt : Network → Network → Fractions → Fractions → ℕ → Type 0
IsAlikeAt a b x y o = slice_index_or x.flows (output_edge a o) nothing ≡ slice_index_or y.flows (output_edge b o) nothing

-- the flow of each output is equal in both
abbrev pub OutputsAlike : Network → Network → Fractions → Fractions → Type 0
OutputsAlike a b x y = (o : ℕ) → o < a.outputs → IsAlikeAt a b x y o
