-- The network of a layout whose parts have priorities.
use Rattle.std.specs.Prelude.{◌≡◌, List, false, replicate, Result, Ok, Err}
use Rattle.bt_parts.specs.declared.hand.Priority.{Priority}
use Rattle.bt_parts.specs.declared.part.Part.{Part}
use Rattle.bt_net.specs.Network.{Network, IsNetwork}
pub use Rattle.bt_model.specs.Preferring.{HandsOnFrom, EndsAtHalf, no_priority, priority_of, IsHalfOn, IsGivenFirst, IsTakenFirst, ArePreferred}
use Rattle.bt_model.specs.Shown.{Naming, IsNumbered}
use Rattle.bt_recover.specs.declared.fault.RecoverFault.{RecoverFault}
use Rattle.bt_recover.specs.Recovered.{IsRecovered}

-- the clean layout has the network with its own numbering, and each splitter prefers the edges of the chains at the
-- halves that it prefers, and else is even
pub record IsPreferring (parts : List Part) (priorities : List Priority) (net : Network) (naming : Naming) : Type 0 where
  pub numbered : IsNumbered parts net naming
  pub gives : ArePreferred (IsGivenFirst parts priorities) naming.splitters numbered.chains net.gives
  pub takes : ArePreferred (IsTakenFirst parts priorities) naming.splitters numbered.chains net.takes
  pub merges : net.merges ≡ replicate net.splitters false

-- the right answer to a layout with priorities in which no two parts share a cell: its network with its own numbering
-- and the edges that its splitters prefer, and which parts bear the numbers; or the first fault of the layout
abbrev pub IsRecoveredWith : List Part → List Priority → Result (Network × Naming) RecoverFault → Type 0
IsRecoveredWith parts priorities (Ok found) = IsPreferring parts priorities found.0 found.1 × IsNetwork found.0
IsRecoveredWith parts priorities (Err fault) = IsRecovered parts (Err fault)
