-- Where a text stops to be the text of a network.
use Rattle.std.specs.Prelude.{◌≡◌, ℕ, ◌+◌, ◌<◌, ◌≤◌, ◌⊎◌, List, ◌++◌, length, codes}
use Rattle.std.specs.List.{AllZip}
use Rattle.bt_text.specs.Lines.{IsFirstLine, BeginsWithLines}
use Rattle.bt_frac.specs.Numbers.{Spells}
use Rattle.bt_net.specs.declared.fault.NetFault.{NetFault}
use Rattle.bt_net.specs.declared.fault.NetFault.TheVariants.{NetLine, TooLarge, NoEnds, Memory}
use Rattle.bt_net.specs.declared.network.Edge.{Edge}
use Rattle.bt_net.specs.declared.network.TheConstants.{MOST_OF_EACH}
use Rattle.bt_net.specs.Network.{Network, IsWired}
use Rattle.bt_net.specs.NetText.{IsEdgeLine}
use Rattle.bt_net.specs.Wiring.{IsPartlyWired, with_edge}

-- the line is `net` and three whole numbers, however large
pub record IsHeader (bytes : List ℕ) (inputs outputs splitters : ℕ) : Type 0 where
  pub inputs_word : List ℕ
  pub outputs_word : List ℕ
  pub splitters_word : List ℕ
  pub inputs_spelled : Spells inputs_word inputs
  pub outputs_spelled : Spells outputs_word outputs
  pub splitters_spelled : Spells splitters_word splitters
  pub bytes_are : bytes ≡ codes "net " ++ inputs_word ++ codes " " ++ outputs_word ++ codes " " ++ splitters_word

-- why the first line is refused: it is no header, or one of its numbers is more than `MOST_OF_EACH`
abbrev pub HeaderRefused : List ℕ → NetFault → Type 0
HeaderRefused bytes (NetLine k) = (k ≡ 1) × ((i o s : ℕ) → IsHeader bytes i o s → ⊥)
HeaderRefused bytes TooLarge = (i o s : ℕ) × IsHeader bytes i o s × ((MOST_OF_EACH < i) ⊎ (MOST_OF_EACH < o) ⊎ (MOST_OF_EACH < s))
HeaderRefused bytes NoEnds = ⊥
HeaderRefused bytes Memory = ⊥

-- this line may not stand after the edges of the network so far: it is not `end`, or an input or an output has no edge
-- yet; and it is the line of no edge that may stand there
pub record MayNotStand (n : Network) (bytes : List ℕ) : Type 0 where
  pub no_end : bytes ≡ codes "end" → IsWired n → ⊥
  pub no_edge : (e : Edge) → IsEdgeLine bytes e → IsPartlyWired (with_edge n e) → ⊥

-- why this line is refused after the edges of the network so far: it may not stand there, or it is one edge more than
-- `MOST_OF_EACH`, or it ends a network without inputs or without outputs
abbrev pub LineRefused : Network → List ℕ → NetFault → Type 0
LineRefused n bytes (NetLine k) = MayNotStand n bytes × (k ≡ length n.edges + 2)
LineRefused n bytes TooLarge = (e : Edge) × IsEdgeLine bytes e × IsPartlyWired (with_edge n e) × (length n.edges ≡ MOST_OF_EACH)
LineRefused n bytes NoEnds = (bytes ≡ codes "end") × IsWired n × ((n.inputs ≡ 0) ⊎ (n.outputs ≡ 0))
LineRefused n bytes Memory = ⊥

-- the text begins with lines of these edges, in their order, and this is what follows
pub record BeginsWithEdges (text : List ℕ) (edges : List Edge) (rest : List ℕ) : Type 0 where
  pub lines : List (List ℕ)
  pub are_edges : AllZip IsEdgeLine lines edges
  pub begins : BeginsWithLines text lines rest

-- the text goes on with lines of the network's edges so far, which may stand, and then with this line
pub record GoesOn (n : Network) (text bytes after : List ℕ) : Type 0 where
  pub wired : IsPartlyWired n
  pub few : length n.edges ≤ MOST_OF_EACH
  pub rest : List ℕ
  pub edges : BeginsWithEdges text n.edges rest
  pub next : IsFirstLine rest bytes after

-- behind a header, why the line after the edges so far is refused
abbrev pub EdgesRefused : Network → List ℕ → NetFault → Type 0
EdgesRefused n text fault = (bytes after : List ℕ) × GoesOn n text bytes after × LineRefused n bytes fault
