-- What stands between the lines of edges and the line `end`, as it is read.
use Rattle.std.specs.Prelude.{◌≡◌, ℕ, ◌+◌, List, length}
use Rattle.bt_net.specs.declared.network.Admitted.{Admitted}
use Rattle.bt_net.specs.declared.network.Block.{Block}
use Rattle.bt_net.specs.declared.network.Demand.{Demand}
use Rattle.bt_net.specs.declared.priority.Preferred.{Preferred}
use Rattle.bt_net.specs.Network.{Network}
use Rattle.bt_net.specs.PinText.{IsDemandHere, IsBlockHere}
use Rattle.bt_net.specs.inner.Lines.{ItemsEnd}
use Rattle.bt_net.specs.inner.Preferred.{PrioritiesEnd}

-- the text is lines of priorities, by which a network without any prefers these edges, then of these pins, sides and
-- rows, then of these blocks, and then this, whose first line has this number
pub record ItemsStand (may : Admitted) (n : Network) (text : List ℕ) (preferred : Preferred) (demands : List Demand) (blocks : List Block) (number : ℕ) (rest : List ℕ) : Type 0 where
  pub count : ℕ
  pub after_priorities : List ℕ
  pub priorities_end : PrioritiesEnd may n text preferred count after_priorities
  pub after_demands : List ℕ
  pub demands_end : ItemsEnd (IsDemandHere may n) (length n.edges + count + 2) after_priorities demands after_demands
  pub blocks_end : ItemsEnd (IsBlockHere may) (length n.edges + count + length demands + 2) after_demands blocks rest
  pub number_is : number ≡ length n.edges + count + length demands + length blocks + 2
