-- What is found of a layout before it is known which edges its splitters prefer.
use Rattle.std.specs.Prelude.{◌≡◌, ℕ, List, map, slice_get, Option, Some, MatchOption, Result, Ok, Err}
use Rattle.bt_parts.specs.declared.part.Part.{Part}
use Rattle.bt_net.specs.Network.{IsNetwork}
use Rattle.bt_model.specs.Chains.{Chain}
use Rattle.bt_model.specs.Clean.{IsClean}
use Rattle.bt_recover.specs.declared.fault.RecoverFault.{RecoverFault}
use Rattle.bt_recover.specs.declared.recovery.Found.{Found}
use Rattle.bt_recover.specs.Recovered.{IsRecovered}
use Rattle.bt_recover.specs.inner.Edges.{naming_of, AreNames, IsJoint, HasEdges, AllDone, net_with}

-- the layout is clean, its numbers are named by these parts, these edges stand for its chains and join these halves,
-- and this is its network
pub record HasJoints (parts : List Part) (found : Found) : Type 0 where
  pub clean : IsClean parts
  pub names : AreNames parts (naming_of found.names)
  pub joints : HasEdges parts (IsJoint parts (naming_of found.names)) AllDone found.joints.items
  pub net_is : found.net ≡ net_with (naming_of found.names) (map (λ joint. joint.edge) found.joints.items)
  pub network : IsNetwork found.net

-- what is found of a layout, or its first fault
abbrev pub IsFound : List Part → Result Found RecoverFault → Type 0
IsFound parts (Ok found) = HasJoints parts found
IsFound parts (Err fault) = IsRecovered parts (Err fault)

-- the number of the splitter that prefers the chain so, or none does
abbrev pub TellsPreferred : (Chain → ℕ → Type 0) → List ℕ → Chain → Option ℕ → Type 0
TellsPreferred Prefers splitters chain told = MatchOption told
    ((s : ℕ) → Prefers chain s → ⊥)
    (λ k. (s : ℕ) × (slice_get splitters k ≡ Some s) × Prefers chain s)
