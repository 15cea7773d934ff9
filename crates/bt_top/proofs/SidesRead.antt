-- A text behind whose edges sides alone may stand names no cells.
use Rattle.std.proofs.Common.{◌≡◌, ℕ, List, [], ◌∷◌, ◌+◌, length, Ok, refl}
use Rattle.std.specs.List.{All as EachOf}
use Rattle.std.proofs.lemmas.List.Elements.{All-nil, All-cons}
use Rattle.bt_net.specs.declared.network.Admitted.TheVariants.{Sides}
use Rattle.bt_net.specs.declared.network.Block.{Block}
use Rattle.bt_net.specs.declared.network.Demand.{Demand}
use Rattle.bt_net.specs.declared.network.Demand.TheVariants as demand
use Rattle.bt_net.specs.Network.{Network, network_of}
use Rattle.bt_net.specs.PinText.{AreLinesFrom, Admits, IsDemandHere, IsBlockHere}
use Rattle.bt_net.specs.Readings.{Reading, IsNetRead}
use Rattle.bt_grids.specs.Asked.{NamesNoCell}

-- where sides alone may stand, no cells are named
no_cell : (d : Demand) → Admits Sides d → NamesNoCell d
no_cell (demand.Pin pin) h = absurd h
no_cell (demand.Side side) h = tt
no_cell (demand.Row row) h = tt

no_cells : (n : Network) (number : ℕ) (lines : List (List ℕ)) (ds : List Demand) → AreLinesFrom (IsDemandHere Sides n) number lines ds → EachOf NamesNoCell ds
no_cells n number lines [] are = All-nil NamesNoCell
no_cells n number [] (d ∷ ds) are = absurd are
no_cells n number (l ∷ ls) (d ∷ ds) are = All-cons NamesNoCell d ds (no_cell d are.0.0) (no_cells n (number + 1) ls ds are.1)

none_blocked : (number : ℕ) (lines : List (List ℕ)) (bs : List Block) → AreLinesFrom (IsBlockHere Sides) number lines bs → bs ≡ []
none_blocked number lines [] are = refl
none_blocked number [] (b ∷ bs) are = absurd are
none_blocked number (l ∷ ls) (b ∷ bs) are = absurd (let e = are.0.0 in cc)

pub sides_read : (bytes : List ℕ) (read : Reading) → IsNetRead Sides bytes (Ok read) → EachOf NamesNoCell read.demands × (read.blocks ≡ [])
sides_read bytes read h = (
  no_cells (network_of read.net.inputs read.net.outputs read.net.splitters read.net.edges) (length read.net.edges + length h.begins.priorities + 2) h.begins.demand_lines read.demands h.begins.are_demands,
  none_blocked (length read.net.edges + length h.begins.priorities + length read.demands + 2) h.begins.block_lines read.blocks h.begins.are_blocks,
)
