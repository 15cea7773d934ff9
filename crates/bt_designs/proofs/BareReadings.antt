-- Texts in which sides alone may stand behind the edges and the priorities, as they are read where pins, sides, rows
-- and blocks may stand.
use Rattle.std.proofs.Common.{◌≡◌, ℕ, List, [], ◌∷◌, ◌+◌, length, Ok, refl}
use Rattle.bt_net.specs.declared.network.Admitted.{Admitted}
use Rattle.bt_net.specs.declared.network.Admitted.TheVariants.{Sides, All}
use Rattle.bt_net.specs.declared.network.Block.{Block}
use Rattle.bt_net.specs.declared.network.Demand.{Demand}
use Rattle.bt_net.specs.declared.network.Priority.{Priority}
use Rattle.bt_net.specs.declared.network.Priority.TheVariants.{Give, Take, Any}
use Rattle.bt_net.specs.Network.{Network}
use Rattle.bt_net.specs.NetText.{alone}
use Rattle.bt_net.specs.PinText.{AreLinesFrom, IsDemandHere, IsBlockHere}
use Rattle.bt_net.specs.Priorities.{AdmitsPriority, IsPriorityHere}
use Rattle.bt_net.specs.Readings.{Reading, IsNetRead}

-- what is read where sides and rows may stand is read where pins and blocks may, too
wider_admitted : (p : Priority) → AdmitsPriority Sides p → AdmitsPriority All p
wider_admitted (Give k a) may = tt
wider_admitted (Take k a) may = tt
wider_admitted (Any k) may = may

wider_priorities : (n : Network) (number : ℕ) (lines : List (List ℕ)) (ps : List Priority) → AreLinesFrom (IsPriorityHere Sides n) number lines ps → AreLinesFrom (IsPriorityHere All n) number lines ps
wider_priorities n number [] [] are = tt
wider_priorities n number [] (p ∷ ps) are = absurd are
wider_priorities n number (l ∷ ls) [] are = absurd are
wider_priorities n number (l ∷ ls) (p ∷ ps) are = ((wider_admitted p are.0.0, are.0.1), wider_priorities n (number + 1) ls ps are.1)

wider_demands : (may : Admitted) (n : Network) (number : ℕ) (lines : List (List ℕ)) (ds : List Demand) → AreLinesFrom (IsDemandHere may n) number lines ds → AreLinesFrom (IsDemandHere All n) number lines ds
wider_demands may n number [] [] are = tt
wider_demands may n number [] (d ∷ ds) are = absurd are
wider_demands may n number (l ∷ ls) [] are = absurd are
wider_demands may n number (l ∷ ls) (d ∷ ds) are = ((tt, are.0.1), wider_demands may n (number + 1) ls ds are.1)

wider_blocks : (may : Admitted) (number : ℕ) (lines : List (List ℕ)) (bs : List Block) → AreLinesFrom (IsBlockHere may) number lines bs → AreLinesFrom (IsBlockHere All) number lines bs
wider_blocks may number [] [] are = tt
wider_blocks may number [] (b ∷ bs) are = absurd are
wider_blocks may number (l ∷ ls) [] are = absurd are
wider_blocks may number (l ∷ ls) (b ∷ bs) are = ((refl, are.0.1), wider_blocks may (number + 1) ls bs are.1)

pub wider_is_read : (bytes : List ℕ) (read : Reading) → IsNetRead Sides bytes (Ok read) → IsNetRead All bytes (Ok read)
wider_is_read bytes read h =
    let b = h.begins in
    let behind = length read.net.edges + length b.priorities in
    record {
      network = h.network;
      begins = record {
        edge_lines = b.edge_lines;
        are_edges = b.are_edges;
        priorities = b.priorities;
        priority_lines = b.priority_lines;
        are_priorities = wider_priorities (alone read.net) (length read.net.edges + 2) b.priority_lines b.priorities b.are_priorities;
        becomes = b.becomes;
        demand_lines = b.demand_lines;
        are_demands = wider_demands Sides (alone read.net) (behind + 2) b.demand_lines read.demands b.are_demands;
        block_lines = b.block_lines;
        are_blocks = wider_blocks Sides (behind + length read.demands + 2) b.block_lines read.blocks b.are_blocks;
        begins = b.begins;
      };
      used = h.used;
      lines = h.lines;
    }
