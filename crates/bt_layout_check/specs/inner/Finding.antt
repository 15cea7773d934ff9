-- Names that are tried one after another.
use Rattle.std.specs.Prelude.{◌≡◌, ℕ, ◌+◌, ◌<◌, ◌++◌, List, length, take, drop, All}
use Rattle.bt_parts.specs.declared.part.Part.{Part}
use Rattle.bt_net.specs.Network.{Network}
use Rattle.bt_model.specs.Requests.{LayoutRequest}
use Rattle.bt_model.specs.Shown.{Naming}
use Rattle.bt_layout_check.specs.Laid.{LaysBy}

-- how many splitters, inputs and outputs a network has
abbrev pub count_in : Network → ℕ
count_in net = net.splitters + net.inputs + net.outputs

-- the naming by which the first of these parts bear the numbers of the network's splitters, the next those of its
-- inputs, and the others those of its outputs
abbrev pub naming_in : Network → List ℕ → Naming
naming_in net bearers = record {
  splitters = take net.splitters bearers;
  inputs = take net.inputs (drop net.splitters bearers);
  outputs = drop net.inputs (drop net.splitters bearers);
}

-- by no naming that begins with these parts and goes on with so many do the parts lay the request
abbrev pub NoneGoesOn : List Part → LayoutRequest → List ℕ → ℕ → Type 0
NoneGoesOn parts request bearers left = (rest : List ℕ) → length rest ≡ left → All (λ i. i < length parts) rest
    → LaysBy parts (naming_in request.net (bearers ++ rest)) request → ⊥
