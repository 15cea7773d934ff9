-- What the lines of a network's text say while they are read.
use Rattle.std.specs.Prelude.{◌≡◌, ℕ, ◌+◌, ◌<◌, ◌≤◌, ◌^◌, ◌⊎◌, List, [], ◌++◌, codes, length, Option, Some, None, Result, Ok, Err}
use Rattle.bt_frac.specs.Numbers.{IsLimited}
use Rattle.bt_text.specs.Lines.{IsFirstLine}
use Rattle.bt_net.specs.declared.fault.NetFault.{NetFault}
use Rattle.bt_net.specs.declared.fault.NetFault.TheVariants.{NetLine, TooLarge, NoEnds, Memory}
use Rattle.bt_net.specs.declared.network.Edge.{Edge}
use Rattle.bt_net.specs.declared.network.End.{End}
use Rattle.bt_net.specs.declared.network.End.TheVariants as end
use Rattle.bt_net.specs.declared.network.Ends.{Ends}
use Rattle.bt_net.specs.declared.network.Ends.TheVariants.{One, Inputs, Outputs}
use Rattle.bt_net.specs.declared.network.Start.{Start}
use Rattle.bt_net.specs.declared.network.Start.TheVariants as from
use Rattle.bt_net.specs.declared.network.Target.{Target}
use Rattle.bt_net.specs.declared.network.Target.TheVariants as to
use Rattle.bt_net.specs.declared.network.TheConstants.{MOST_OF_EACH}
use Rattle.bt_net.specs.Network.{Network, IsWired, IsCap}
use Rattle.bt_net.specs.NetText.{header, target_text, cap_text, IsEdgeLine}
use Rattle.bt_net.specs.PinRefusals.{BeginsWithItems}
use Rattle.bt_net.specs.Refusals.{IsHeader, HeaderRefused, BeginsWithEdges, EdgesRefused}
use Rattle.bt_net.specs.Wiring.{IsPartlyWired, with_edge, HasSmallSizes}

-- a network without edges yet, of which this is the first line
pub record IsStarted (n : Network) (bytes : List ℕ) : Type 0 where
  pub line_is : bytes ≡ header n
  pub no_edges : n.edges ≡ []
  pub small : HasSmallSizes n

-- the same numbers of inputs, outputs and splitters, and the same preferred edges
pub record SameSizes (m n : Network) : Type 0 where
  pub inputs : m.inputs ≡ n.inputs
  pub outputs : m.outputs ≡ n.outputs
  pub splitters : m.splitters ≡ n.splitters
  pub gives : m.gives ≡ n.gives
  pub takes : m.takes ≡ n.takes
  pub merges : m.merges ≡ n.merges

-- the number of a start has at most 32 bits
abbrev pub StartFits : Start → Type 0
StartFits (from.Input i) = i < 2 ^ 32
StartFits (from.Split s) = s < 2 ^ 32

-- the number of a target has at most 32 bits
abbrev pub TargetFits : Target → Type 0
TargetFits (to.Split s) = s < 2 ^ 32
TargetFits (to.Output o) = o < 2 ^ 32

-- the number of an end has at most 32 bits
abbrev pub EndFits : End → Type 0
EndFits (end.Input i) = i < 2 ^ 32
EndFits (end.Output o) = o < 2 ^ 32

-- the number of an end that is named has at most 32 bits
abbrev pub EndsFit : Ends → Type 0
EndsFit (One end) = EndFits end
EndsFit Inputs = Unit {0}
EndsFit Outputs = Unit {0}

-- the numbers of an edge's two ends have at most 32 bits, and its cap is one that an edge may have
abbrev pub EdgeFits : Edge → Type 0
EdgeFits e = StartFits e.start × TargetFits e.target × IsCap e.cap

-- behind the start of an edge: its target and its cap, which need not be written where it is 1
abbrev pub IsTargetAndCap : List ℕ → Target → ℕ → Type 0
IsTargetAndCap words t cap = (words ≡ target_text t ++ cap_text cap) ⊎ ((words ≡ target_text t) × (cap ≡ 1))

-- the numbers of a header as they are read
abbrev pub AreSizes : List ℕ → ℕ → ℕ → ℕ → Type 0
AreSizes bytes inputs outputs splitters = (i o s : ℕ) × IsHeader bytes i o s × IsLimited i inputs × IsLimited o outputs × IsLimited s splitters

-- what a first line says: the sizes of a network without edges yet, or why it is refused
abbrev pub IsHeaderRead : List ℕ → Result Network NetFault → Type 0
IsHeaderRead bytes (Ok n) = IsStarted n bytes
IsHeaderRead bytes (Err fault) = HeaderRefused bytes fault

-- what a line says after the edges of the network so far: the edge that comes next, or that it is the line of none that
-- may
abbrev pub IsNextEdge : Network → List ℕ → Option Edge → Type 0
IsNextEdge n bytes (Some e) = IsEdgeLine bytes e × IsPartlyWired (with_edge n e)
IsNextEdge n bytes None = (e : Edge) → IsEdgeLine bytes e → IsPartlyWired (with_edge n e) → ⊥

-- the text is lines of the network's edges, which may stand, and then this, whose first line is that of no edge that
-- may come next
pub record EdgesEnd (n : Network) (text rest : List ℕ) : Type 0 where
  pub wired : IsPartlyWired n
  pub few : length n.edges ≤ MOST_OF_EACH
  pub edges : BeginsWithEdges text n.edges rest
  pub bytes : List ℕ
  pub after : List ℕ
  pub next : IsFirstLine rest bytes after
  pub no_edge : IsNextEdge n bytes None

-- what the lines behind a header say: the network's edges and what follows them, or that there is one edge too many
abbrev pub AreEdgesRead : Network → List ℕ → Result (List ℕ) NetFault → Type 0
AreEdgesRead n text (Ok rest) = EdgesEnd n text rest
AreEdgesRead n text (Err (NetLine k)) = ⊥
AreEdgesRead n text (Err TooLarge) = EdgesRefused n text TooLarge
AreEdgesRead n text (Err NoEnds) = ⊥
AreEdgesRead n text (Err Memory) = ⊥

-- the text is lines of these, of which the first has this number, and then this, whose first line is that of no other
pub record ItemsEnd {X : Type 0} (IsLine : ℕ → List ℕ → X → Type 0) (number : ℕ) (text : List ℕ) (items : List X) (rest : List ℕ) : Type 0 where
  pub starts : BeginsWithItems IsLine number text items rest
  pub bytes : List ℕ
  pub after : List ℕ
  pub next : IsFirstLine rest bytes after
  pub no_more : (x : X) → IsLine (number + length items) bytes x → ⊥

-- what the line says that follows the edges, pins, sides and blocks of a network: that it ends there, behind which this
-- follows, or that the line, with this number, may not stand
abbrev pub IsEndRead : Network → ℕ → List ℕ → Result (List ℕ) NetFault → Type 0
IsEndRead n number text (Ok rest) = IsFirstLine text (codes "end") rest × IsWired n
IsEndRead n number text (Err (NetLine k)) = (bytes after : List ℕ) × IsFirstLine text bytes after × (bytes ≡ codes "end" → IsWired n → ⊥) × (k ≡ number)
IsEndRead n number text (Err TooLarge) = ⊥
IsEndRead n number text (Err NoEnds) = ⊥
IsEndRead n number text (Err Memory) = ⊥
