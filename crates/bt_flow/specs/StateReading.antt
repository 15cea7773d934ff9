-- What reading a state answers.
use Rattle.std.specs.Prelude.{ℕ, List, Result, Ok, Err}
use Rattle.bt_net.specs.Network.{Network}
use Rattle.bt_flow.specs.declared.property.Property.{Property}
use Rattle.bt_flow.specs.declared.fault.StateFault.{StateFault}
use Rattle.bt_flow.specs.declared.fault.StateFault.TheVariants.{CertLine, Memory}
use Rattle.bt_flow.specs.States.{Fractions, AreLowest, Fits}
use Rattle.bt_flow.specs.StateText.{printed_state, IsStateText}
use Rattle.bt_flow.specs.StateLines.{IsWrongLine}

-- the right answer to bytes: the state of the network that they write for the property, or the first line
-- that isn't the one that belongs there
abbrev pub IsStateRead : Network → Property → List ℕ → Result Fractions StateFault → Type 0
IsStateRead n p bytes (Ok t) = Fits n t × IsStateText p t bytes
IsStateRead n p bytes (Err (CertLine line)) = IsWrongLine n p bytes line
IsStateRead n p bytes (Err Memory) = ⊥

-- what is written of a state in lowest terms that fits the network is read as that state
abbrev pub PrintedStateIsRead : Type 0
PrintedStateIsRead = (n : Network) (p : Property) (t : Fractions) → AreLowest t → Fits n t → IsStateRead n p (printed_state p t) (Ok t)
