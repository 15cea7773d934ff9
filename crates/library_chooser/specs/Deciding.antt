-- What is right to say of a property of a design.
use Rattle.std.specs.Prelude.{ℕ, ◌<◌, ◌⊎◌, List, length, Ok, Err}
use Rattle.bt_net.specs.Network.{Network}
use Rattle.bt_flow.specs.declared.property.Property.{Property}
use Rattle.bt_flow.specs.States.{Flows}
use Rattle.bt_flow.specs.Properties.{Breaks}
use Rattle.bt_flow.specs.Properties as property
use Rattle.bt_designs.specs.Alone.{IsLoneNet}
use Rattle.bt_designs.specs.declared.fault.DesignFault.TheVariants as fault
use Rattle.bt_designs.specs.declared.refusal.Refusal.{Refusal}
use Rattle.library_chooser.specs.declared.deciding.TheConstants.{MOST}
use Rattle.library_chooser.specs.declared.deciding.Answer.{Answer}
use Rattle.library_chooser.specs.declared.deciding.Answer.TheVariants.{Holds, Fails, Open, NoDesign}

-- of a network: every steady state has the property, or some state breaks it, or nothing
abbrev pub IsDecidedOf : Network → Property → Answer → Type 0
IsDecidedOf n p Holds = property.Holds n p
IsDecidedOf n p Fails = (s : Flows) × Breaks n p s
IsDecidedOf n p Open = Unit {0}
IsDecidedOf n p NoDesign = ⊥

-- the bytes are a design alone, and this is right of its network
abbrev pub IsDecidedAlone : List ℕ → Property → Answer → Type 0
IsDecidedAlone bytes p answer = (n : Network) × IsLoneNet bytes (Ok n) × IsDecidedOf n p answer

-- the bytes are more than a design may have, or are refused as one
abbrev pub IsNoDesign : List ℕ → Type 0
IsNoDesign bytes = (MOST < length bytes) ⊎ ((refusal : Refusal) × IsLoneNet bytes (Err (fault.Refused refusal)))

-- of bytes: what is right of the network of the design that they are alone, or that they are none
abbrev pub IsDecided : List ℕ → Property → Answer → Type 0
IsDecided bytes p Holds = IsDecidedAlone bytes p Holds
IsDecided bytes p Fails = IsDecidedAlone bytes p Fails
IsDecided bytes p Open = IsDecidedAlone bytes p Open
IsDecided bytes p NoDesign = IsNoDesign bytes
