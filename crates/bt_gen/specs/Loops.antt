-- Outputs of a network that lead back to inputs.
use Rattle.std.specs.Prelude.{◌≡◌, ℕ, zero, suc, ◌≤◌, List, [], ◌∷◌, ◌++◌, length, map, All}
use Rattle.bt_net.specs.declared.network.Edge.{Edge}
use Rattle.bt_net.specs.declared.network.Start.{Start}
use Rattle.bt_net.specs.declared.network.Start.TheVariants as from
use Rattle.bt_net.specs.declared.network.Target.{Target}
use Rattle.bt_net.specs.declared.network.Target.TheVariants as to
use Rattle.bt_net.specs.Network.{Network, IsNetwork, HasNoPriorities}
use Rattle.bt_flow.specs.declared.property.Property.TheVariants.{Balanced, DrawnEvenly, Unlimited}
use Rattle.bt_flow.specs.Properties.{Holds}

-- a list into which an item is put at a place
abbrev pub put_in : {X : Type 0} → ℕ → X → List X → List X
put_in zero x xs = x ∷ xs
put_in (suc place) x [] = x ∷ []
put_in (suc place) x (y ∷ ys) = y ∷ put_in place x ys

-- the number that an item has where another is put in at a place: from there on it is one more
abbrev pub moved : ℕ → ℕ → ℕ
moved zero k = suc k
moved (suc place) zero = zero
moved (suc place) (suc k) = suc (moved place k)

-- a start where an input with this number is put in
abbrev pub start_moved : ℕ → Start → Start
start_moved input (from.Input k) = from.Input (moved input k)
start_moved input (from.Split s) = from.Split s

-- a target where an output with this number is put in
abbrev pub target_moved : ℕ → Target → Target
target_moved output (to.Split s) = to.Split s
target_moved output (to.Output k) = to.Output (moved output k)

-- an edge where an input and an output with these numbers are put in
abbrev pub edge_moved : ℕ → ℕ → Edge → Edge
edge_moved input output e = record { start = start_moved input e.start; target = target_moved output e.target; cap = e.cap }

-- the edge from that input where an edge is cut in two
abbrev pub entry : ℕ → ℕ → Edge → Edge
entry input output e = record { start = from.Input input; target = target_moved output e.target; cap = e.cap }

-- the edge to that output
abbrev pub exit : ℕ → ℕ → Edge → Edge
exit input output e = record { start = start_moved input e.start; target = to.Output output; cap = e.cap }

-- an output of a network leads back to an input in another one, in which the edges of both are one, at the place of the
-- input's edge; that edge starts at a splitter, and no splitter prefers an edge
pub record LeadsBack (x y : Network) : Type 0 where
  pub network : IsNetwork y
  pub plain : HasNoPriorities y
  pub input : ℕ
  pub output : ℕ
  pub splitter : ℕ
  pub before : List Edge
  pub joined : Edge
  pub behind : List Edge
  pub place : ℕ
  pub splitters : x.splitters ≡ y.splitters
  pub inputs : x.inputs ≡ suc y.inputs
  pub outputs : x.outputs ≡ suc y.outputs
  pub input_within : input ≤ y.inputs
  pub output_within : output ≤ y.outputs
  pub place_within : place ≤ length y.edges
  pub starts : joined.start ≡ from.Split splitter
  pub own : y.edges ≡ before ++ joined ∷ behind
  pub cut : x.edges ≡ put_in place (exit input output joined)
      (map (edge_moved input output) before ++ entry input output joined ∷ map (edge_moved input output) behind)

-- so many outputs of a network lead back to inputs in another one, one after another
abbrev pub IsLedBack : ℕ → Network → Network → Type 0
IsLedBack zero x y = x ≡ y
IsLedBack (suc count) x y = (z : Network) × LeadsBack x z × IsLedBack count z y

-- a network of belts with the cap 1 whose splitters prefer no edge
pub record IsPlain (n : Network) : Type 0 where
  pub caps : All (λ e. e.cap ≡ 1) n.edges
  pub plain : HasNoPriorities n

-- what an unlimited network becomes when outputs lead back is unlimited
abbrev pub UnlimitedIsKept : Type 0
UnlimitedIsKept = (count : ℕ) (x y : Network) → IsPlain x → IsLedBack count x y → Holds x Unlimited → Holds y Unlimited

-- of an unlimited and balanced one it is balanced
abbrev pub BalancedIsKept : Type 0
BalancedIsKept = (count : ℕ) (x y : Network) → IsPlain x → IsLedBack count x y → Holds x Unlimited → Holds x Balanced → Holds y Balanced

-- of an unlimited one that draws evenly it draws evenly
abbrev pub DrawnEvenlyIsKept : Type 0
DrawnEvenlyIsKept = (count : ℕ) (x y : Network) → IsPlain x → IsLedBack count x y → Holds x Unlimited → Holds x DrawnEvenly → Holds y DrawnEvenly
