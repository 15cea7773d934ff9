-- The edges of a network by the parts at their ends, with what splitters prefer of them.
use Rattle.std.specs.Prelude.{◌≡◌, ◌↔◌, ℕ, ◌<◌, IsTrue, List, length, get_or, slice_get, Some, IsPermutation, false}
use Rattle.bt_net.specs.declared.network.Edge.{Edge}
use Rattle.bt_net.specs.declared.network.Start.{Start}
use Rattle.bt_net.specs.declared.network.Start.TheVariants as from
use Rattle.bt_net.specs.declared.network.Target.{Target}
use Rattle.bt_net.specs.declared.network.Target.TheVariants as to
use Rattle.bt_net.specs.Network.{Network, give_of, take_of}
use Rattle.bt_model.specs.Shown.{Naming}
use Rattle.bt_layout_check.specs.declared.preferring.Marked.{Marked}
use Rattle.bt_layout_check.specs.inner.Joins.{start_part, target_part}

-- the edge at this place starts so, at a splitter that prefers to give to it
abbrev pub IsGivenAt : Network → ℕ → Start → Type 0
IsGivenAt net place (from.Split s) = give_of net s ≡ Some place
IsGivenAt net place (from.Input i) = ⊥

-- the edge at this place ends so, at a splitter that prefers to take from it
abbrev pub IsTakenAt : Network → ℕ → Target → Type 0
IsTakenAt net place (to.Split s) = take_of net s ≡ Some place
IsTakenAt net place (to.Output o) = ⊥

-- the mark of the edge at this place: the parts that bear the numbers of its ends, its cap, and what is preferred of it
pub record IsMarkOf (naming : Naming) (net : Network) (place : ℕ) (mark : Marked) : Type 0 where
  pub edge : Edge
  pub at : slice_get net.edges place ≡ Some edge
  pub start : mark.start ≡ start_part naming edge.start
  pub target : mark.target ≡ target_part naming edge.target
  pub cap : mark.cap ≡ edge.cap
  pub given : IsTrue mark.given ↔ IsGivenAt net place edge.start
  pub taken : IsTrue mark.taken ↔ IsTakenAt net place edge.target

-- the marks of all edges, in their order
pub record AreMarks (naming : Naming) (net : Network) (marks : List Marked) : Type 0 where
  pub count : length marks ≡ length net.edges
  pub each : (k : ℕ) (d : Marked) → k < length marks → IsMarkOf naming net k (get_or marks k d)

-- the edges of the two networks have the same marks, as often
pub record AreMarkedAs (one : Naming) (own : Network) (other : Naming) (net : Network) : Type 0 where
  pub first : List Marked
  pub second : List Marked
  pub are_first : AreMarks one own first
  pub are_second : AreMarks other net second
  pub same : IsPermutation first second

-- whatever marks the edges of the two networks have, they are the same, as often
abbrev pub HaveSameMarks : Naming → Network → Naming → Network → Type 0
HaveSameMarks one own other net = (first second : List Marked) → AreMarks one own first → AreMarks other net second → IsPermutation first second

-- what stands where there is no mark
abbrev pub no_mark : Marked
no_mark = record { start = 0; target = 0; cap = 0; given = false; taken = false }
