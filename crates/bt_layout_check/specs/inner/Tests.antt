-- What each part of the test tells.
use Rattle.std.specs.Prelude.{◌≡◌, length, IsPermutation}
use Rattle.bt_net.specs.Network.{Network}
use Rattle.bt_model.specs.Shown.{Naming}
use Rattle.bt_layout_check.specs.inner.Joins.{joins_of}

-- the one naming has the parts of the other in some order, and as many of each kind as the network
pub record AreNamedAs (one other : Naming) (net : Network) : Type 0 where
  pub splitters : IsPermutation one.splitters other.splitters
  pub inputs : IsPermutation one.inputs other.inputs
  pub outputs : IsPermutation one.outputs other.outputs
  pub splitter_count : net.splitters ≡ length other.splitters
  pub input_count : net.inputs ≡ length other.inputs
  pub output_count : net.outputs ≡ length other.outputs

-- the edges of the two networks join the same parts, as often
abbrev pub AreJoinedAs : Naming → Network → Naming → Network → Type 0
AreJoinedAs one own other net = IsPermutation (joins_of one own.edges) (joins_of other net.edges)
