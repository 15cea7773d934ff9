-- Networks whose splitters prefer nothing.
use Rattle.std.specs.Prelude.{◌≡◌, ℕ, ◌<◌, None}
use Rattle.bt_net.specs.Network.{Network, give_of, take_of}

-- no splitter prefers an edge
abbrev pub PrefersNothing : Network → Type 0
PrefersNothing net = (k : ℕ) → k < net.splitters → (give_of net k ≡ None) × (take_of net k ≡ None)
