-- A network of splitters: its edges join inputs, splitters and outputs.
use Rattle.std.specs.Prelude.{◌≡◌, ℕ, zero, suc, ◌<◌, ◌≤◌, ◌==◌, ◌⊎◌, Bool, false, IsTrue, List, [], ◌∷◌, length, count_by, All, Option, Some, None, replicate, slice_get, slice_index_or, Result, Ok, Err}
use Rattle.bt_net.specs.declared.fault.NetFault.{NetFault}
use Rattle.bt_net.specs.declared.fault.NetFault.TheVariants.{NetLine, TooLarge, NoEnds, Memory}
use Rattle.bt_net.specs.declared.network.Edge.{Edge}
use Rattle.bt_net.specs.declared.network.End.{End}
use Rattle.bt_net.specs.declared.network.End.TheVariants as end
use Rattle.bt_net.specs.declared.network.Start.{Start}
use Rattle.bt_net.specs.declared.network.Start.TheVariants as from
use Rattle.bt_net.specs.declared.network.Target.{Target}
use Rattle.bt_net.specs.declared.network.Target.TheVariants as to
use Rattle.bt_net.specs.declared.network.TheConstants.{MOST_OF_EACH, MOST_CAP}

-- numbers of inputs, outputs and splitters, the edges in their order, and for each splitter the out edge and the in
-- edge that it prefers, where it prefers one, and whether it may prefer any in edge or none
pub record Network : Type 0 where
  pub inputs : ℕ
  pub outputs : ℕ
  pub splitters : ℕ
  pub edges : List Edge
  pub gives : List (Option ℕ)
  pub takes : List (Option ℕ)
  pub merges : List Bool

-- for each of so many splitters no edge
abbrev pub none_each : ℕ → List (Option ℕ)
none_each zero = []
none_each (suc k) = None ∷ none_each k

-- the network of these numbers and edges, of which no splitter prefers an edge, and each is even
abbrev pub network_of : ℕ → ℕ → ℕ → List Edge → Network
network_of inputs outputs splitters edges =
    record { inputs = inputs; outputs = outputs; splitters = splitters; edges = edges; gives = none_each splitters; takes = none_each splitters; merges = replicate splitters false }

-- no splitter prefers an edge, and each is even
pub record HasNoPriorities (n : Network) : Type 0 where
  pub gives : n.gives ≡ none_each n.splitters
  pub takes : n.takes ≡ none_each n.splitters
  pub merges : n.merges ≡ replicate n.splitters false

-- the edge that such a list has for a splitter, where it has one
abbrev pub preferred_in : List (Option ℕ) → ℕ → Option ℕ
preferred_in edges k = slice_index_or edges k None

-- the out edge that a splitter prefers, where it prefers one
abbrev pub give_of : Network → ℕ → Option ℕ
give_of n k = preferred_in n.gives k

-- the in edge that a splitter prefers, where it prefers one
abbrev pub take_of : Network → ℕ → Option ℕ
take_of n k = preferred_in n.takes k

-- whether a splitter may prefer any of its in edges, or none: no law says how it takes from them
abbrev pub merges_any : Network → ℕ → Bool
merges_any n k = slice_index_or n.merges k false

-- a splitter prefers no in edge, and may prefer none: it takes evenly
abbrev pub TakesEvenly : Network → ℕ → Type 0
TakesEvenly n k = (take_of n k ≡ None) × (merges_any n k ≡ false)

-- the edge leaves this splitter
abbrev pub leaves : ℕ → Edge → Bool
leaves s e = at_start e.start
  where
    at_start : Start → Bool
    at_start (from.Split k) = k == s
    at_start (from.Input i) = false

-- the edge goes to this splitter
abbrev pub enters : ℕ → Edge → Bool
enters s e = at_target e.target
  where
    at_target : Target → Bool
    at_target (to.Split k) = k == s
    at_target (to.Output o) = false

-- the edge starts at this input
abbrev pub is_input : ℕ → Edge → Bool
is_input i e = at_start e.start
  where
    at_start : Start → Bool
    at_start (from.Input k) = k == i
    at_start (from.Split s) = false

-- the edge ends at this output
abbrev pub is_output : ℕ → Edge → Bool
is_output o e = at_target e.target
  where
    at_target : Target → Bool
    at_target (to.Output k) = k == o
    at_target (to.Split s) = false

-- the network has this start
abbrev pub StartsIn : Network → Start → Type 0
StartsIn n (from.Input i) = i < n.inputs
StartsIn n (from.Split s) = s < n.splitters

-- the network has this target
abbrev pub EndsIn : Network → Target → Type 0
EndsIn n (to.Split s) = s < n.splitters
EndsIn n (to.Output o) = o < n.outputs

-- the network has this end
abbrev pub HasEnd : Network → End → Type 0
HasEnd n (end.Input i) = i < n.inputs
HasEnd n (end.Output o) = o < n.outputs

-- an edge may have this cap: one from 1 to `MOST_CAP`
abbrev pub IsCap : ℕ → Type 0
IsCap cap = (1 ≤ cap) × (cap ≤ MOST_CAP)

-- the edges join what the network has and have caps from 1 to `MOST_CAP`, each input and each output has one edge, and
-- each splitter has at most two in edges and two out edges
pub record IsWired (n : Network) : Type 0 where
  pub starts : All (λ e. StartsIn n e.start) n.edges
  pub targets : All (λ e. EndsIn n e.target) n.edges
  pub caps : All (λ e. IsCap e.cap) n.edges
  pub one_in : (i : ℕ) → i < n.inputs → count_by (is_input i) n.edges ≡ 1
  pub one_out : (o : ℕ) → o < n.outputs → count_by (is_output o) n.edges ≡ 1
  pub few_in : (s : ℕ) → s < n.splitters → count_by (enters s) n.edges ≤ 2
  pub few_out : (s : ℕ) → s < n.splitters → count_by (leaves s) n.edges ≤ 2

-- for each splitter there is one of its out edges or none, and one of its in edges or none; and where it may prefer any
-- in edge, none is named
pub record IsPrioritised (n : Network) : Type 0 where
  pub gives_each : length n.gives ≡ n.splitters
  pub takes_each : length n.takes ≡ n.splitters
  pub merges_each : length n.merges ≡ n.splitters
  pub gives : (k a : ℕ) → give_of n k ≡ Some a → (e : Edge) × (slice_get n.edges a ≡ Some e) × IsTrue (leaves k e)
  pub takes : (k a : ℕ) → take_of n k ≡ Some a → (e : Edge) × (slice_get n.edges a ≡ Some e) × IsTrue (enters k e)
  pub one_of_both : (k : ℕ) → IsTrue (merges_any n k) → take_of n k ≡ None

-- a count or the number of edges is more than `MOST_OF_EACH`
abbrev pub IsLarge : Network → Type 0
IsLarge n = (MOST_OF_EACH < n.inputs) ⊎ (MOST_OF_EACH < n.outputs) ⊎ (MOST_OF_EACH < n.splitters) ⊎ (MOST_OF_EACH < length n.edges)

-- it is not too large, and has no input or no output
abbrev pub LacksEnds : Network → Type 0
LacksEnds n = (IsLarge n → ⊥) × ((n.inputs ≡ 0) ⊎ (n.outputs ≡ 0))

-- a network: wired, of at most `MOST_OF_EACH` of each kind, with an input and an output, and each splitter prefers
-- edges of its own
pub record IsNetwork (n : Network) : Type 0 where
  pub wired : IsWired n
  pub prioritised : IsPrioritised n
  pub few_inputs : n.inputs ≤ MOST_OF_EACH
  pub few_outputs : n.outputs ≤ MOST_OF_EACH
  pub few_splitters : n.splitters ≤ MOST_OF_EACH
  pub few_edges : length n.edges ≤ MOST_OF_EACH
  pub some_input : 1 ≤ n.inputs
  pub some_output : 1 ≤ n.outputs

-- what comes of making a network of numbers and edges that are wired: that network, or that it is too large, or that it
-- lacks an input or an output
abbrev pub IsNetOf : Network → Result Network NetFault → Type 0
IsNetOf n (Ok net) = (net ≡ n) × IsNetwork net
IsNetOf n (Err TooLarge) = IsLarge n
IsNetOf n (Err NoEnds) = LacksEnds n
IsNetOf n (Err (NetLine k)) = ⊥
IsNetOf n (Err Memory) = ⊥
