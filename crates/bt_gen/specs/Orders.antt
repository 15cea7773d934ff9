-- Orders, and what there is to answer to one.
use Rattle.std.specs.Prelude.{◌≡◌, ℕ, ◌≤◌, Result, Ok, Err}
use Rattle.bt_net.specs.Network.{Network}
use Rattle.bt_gen.specs.declared.fault.GenFault.{GenFault}
use Rattle.bt_gen.specs.declared.fault.GenFault.TheVariants.{Order, Memory}

-- an order is from 1 to the most that there is
abbrev pub IsOrder : ℕ → ℕ → Type 0
IsOrder most order = (1 ≤ order) × (order ≤ most)

-- the right answer to an order: the network of that order, or that it is no order
abbrev pub IsGenerated : ℕ → (ℕ → Network) → ℕ → Result Network GenFault → Type 0
IsGenerated most made order (Ok n) = IsOrder most order × (n ≡ made order)
IsGenerated most made order (Err (Order k)) = (IsOrder most order → ⊥) × (k ≡ order)
IsGenerated most made order (Err Memory) = ⊥
