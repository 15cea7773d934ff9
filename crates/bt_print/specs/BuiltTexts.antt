-- How the request that is written for a network that is built is read again.
use Rattle.std.specs.Prelude.{◌≡◌, ℕ, ◌+◌, false, List, [], ◌∷◌, length, Ok}
use Rattle.bt_parts.specs.declared.part.Dir.TheVariants.{North, South}
use Rattle.bt_net.specs.declared.network.Demand.{Demand}
use Rattle.bt_net.specs.declared.network.Demand.TheVariants as demand
use Rattle.bt_net.specs.declared.network.EndKind.TheVariants as kind
use Rattle.bt_net.specs.declared.network.Ends.TheVariants as ends
use Rattle.bt_net.specs.Network.{Network, IsNetwork, merges_any}
use Rattle.bt_net.specs.Priorities.{priorities_of}
use Rattle.bt_words.specs.declared.command.BuiltText.TheVariants as built
use Rattle.bt_designs.specs.Alone.{IsAlone}
use Rattle.bt_designs.specs.Requested.{IsPinned, pinned_net}
use Rattle.bt_print.specs.Answers.{built_text}

-- that all inputs stand side by side at the south, and all outputs at the north, as four lines say it of which the first
-- has this number
abbrev pub facing_rows : ℕ → List Demand
facing_rows number =
    demand.Side (record { ends = ends.Inputs; dir = South; line = number })
    ∷ demand.Side (record { ends = ends.Outputs; dir = North; line = number + 1 })
    ∷ demand.Row (record { kind = kind.Inputs; line = number + 2 })
    ∷ demand.Row (record { kind = kind.Outputs; line = number + 3 })
    ∷ []

-- the request that is written for a network of which each splitter that prefers no in edge takes evenly is read as a
-- request alone: for this network, with its inputs and its outputs
-- so, by the lines behind those of its edges and priorities, and no blocks
abbrev pub BuiltIsRead : Type 0
BuiltIsRead = (n : Network) → IsNetwork n → ((k : ℕ) → merges_any n k ≡ false)
    → IsAlone IsPinned (built_text built.Request n) (Ok (pinned_net n (facing_rows (length n.edges + length (priorities_of n) + 2)) []))
