-- The edges that splitters prefer, as they are kept and read.
use Rattle.std.specs.Global.{Vec}
use Rattle.std.specs.Prelude.{◌≡◌, ℕ, ◌<◌, ◌+◌, ◌^◌, Bool, List, length, Option, Some, None}
use Rattle.bt_text.specs.Lines.{IsFirstLine}
use Rattle.bt_net.specs.declared.network.Admitted.{Admitted}
use Rattle.bt_net.specs.declared.network.Priority.{Priority}
use Rattle.bt_net.specs.declared.network.Priority.TheVariants.{Give, Take, Any}
use Rattle.bt_net.specs.declared.priority.Preferred.{Preferred}
use Rattle.bt_net.specs.declared.priority.PreferredEdges.{PreferredEdges}
use Rattle.bt_net.specs.Network.{Network}
use Rattle.bt_net.specs.Priorities.{preferring, merging, IsPriorityLine, IsPriorityHere, IsFreeFor, Becomes}
use Rattle.bt_net.specs.PinRefusals.{BeginsWithItems}

-- a network with the preferred edges that are kept for it, where any are
abbrev pub with_preferred : Option PreferredEdges → Network → Network
with_preferred None n = n
with_preferred (Some preferred) n = preferring n preferred.gives.items preferred.takes.items

-- a network with what is kept of splitters that may prefer any in edge, where that is
abbrev pub with_merges : Option (Vec Bool) → Network → Network
with_merges None n = n
with_merges (Some merges) n = merging n merges.items

-- a network with the preferences that were read for it
abbrev pub told : Network → Preferred → Network
told n preferred = record n { gives = preferred.gives.items; takes = preferred.takes.items; merges = preferred.merges.items }

-- the numbers of a priority have at most 32 bits
abbrev pub PriorityFits : Priority → Type 0
PriorityFits (Give k a) = (k < 2 ^ 32) × (a < 2 ^ 32)
PriorityFits (Take k a) = (k < 2 ^ 32) × (a < 2 ^ 32)
PriorityFits (Any k) = k < 2 ^ 32

-- there is a place for the priority's splitter
abbrev pub HasPlace : Preferred → Priority → Type 0
HasPlace preferred (Give k a) = k < length preferred.gives.items
HasPlace preferred (Take k a) = k < length preferred.takes.items
HasPlace preferred (Any k) = k < length preferred.merges.items

-- the text is so many lines of priorities, by which a network without any prefers these edges, and then this, whose
-- first line is that of no other
pub record PrioritiesEnd (may : Admitted) (n : Network) (text : List ℕ) (preferred : Preferred) (count : ℕ) (rest : List ℕ) : Type 0 where
  pub priorities : List Priority
  pub starts : BeginsWithItems (IsPriorityHere may n) (length n.edges + 2) text priorities rest
  pub becomes : Becomes n priorities (told n preferred)
  pub count_is : count ≡ length priorities
  pub bytes : List ℕ
  pub after : List ℕ
  pub next : IsFirstLine rest bytes after
  pub no_more : (p : Priority) → IsPriorityHere may n 0 bytes p → IsFreeFor (told n preferred) p → ⊥

-- what a line says after the priorities so far: the one that comes next, wherever such lines may stand
abbrev pub IsNextOwned : Network → Preferred → List ℕ → Option Priority → Type 0
IsNextOwned n preferred bytes (Some p) = IsPriorityLine n 0 bytes p × IsFreeFor (told n preferred) p
IsNextOwned n preferred bytes None = (p : Priority) → IsPriorityLine n 0 bytes p → IsFreeFor (told n preferred) p → ⊥

-- what a line says after the priorities so far: the one that comes next, or that it is the line of none that may
abbrev pub IsNextPriority : Admitted → Network → Preferred → List ℕ → Option Priority → Type 0
IsNextPriority may n preferred bytes (Some p) = IsPriorityHere may n 0 bytes p × IsFreeFor (told n preferred) p
IsNextPriority may n preferred bytes None = (p : Priority) → IsPriorityHere may n 0 bytes p → IsFreeFor (told n preferred) p → ⊥
