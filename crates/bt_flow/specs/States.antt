-- States of a network, as whole numbers over one denominator and as fractions.
use Rattle.std.specs.Prelude.{◌≡◌, ℕ, ◌<◌, ◌*◌, Bool, false, List, length, ℤ, pos, slice_index_or}
use Rattle.std.specs.List.{All}
use Rattle.bt_frac.specs.Ratio.{Ratio, IsLowest, AreOver}
use Rattle.bt_net.specs.Network.{Network}
use Rattle.bt_net.specs.declared.network.Edge.{Edge}

-- a state in fractions: a flow and a mark for each edge, a load for each input, a room for each output
pub record Fractions : Type 0 where
  pub flows : List Ratio
  pub backed : List Bool
  pub loads : List Ratio
  pub rooms : List Ratio

-- each of the fractions is in lowest terms
pub record AreLowest (t : Fractions) : Type 0 where
  pub flows : All IsLowest t.flows
  pub loads : All IsLowest t.loads
  pub rooms : All IsLowest t.rooms

-- a state in whole numbers over one denominator: a flow and a mark for each edge, a load for each input,
-- a room for each output
pub record Flows : Type 0 where
  pub denominator : ℕ
  pub flows : List ℤ
  pub backed : List Bool
  pub loads : List ℤ
  pub rooms : List ℤ

-- the whole numbers are a state of the network: their denominator is positive, and there are as many as
-- edges, inputs and outputs
pub record IsStateOf (n : Network) (s : Flows) : Type 0 where
  pub positive : 0 < s.denominator
  pub flows : length s.flows ≡ length n.edges
  pub backed : length s.backed ≡ length n.edges
  pub loads : length s.loads ≡ n.inputs
  pub rooms : length s.rooms ≡ n.outputs

-- the fractions stand for the whole numbers, which are a state of the network: each fraction is the whole
-- number at its place over the denominator, and the marks are the same
pub record StandsFor (n : Network) (t : Fractions) (s : Flows) : Type 0 where
  pub is_state : IsStateOf n s
  pub flows : AreOver t.flows s.flows s.denominator
  pub backed : t.backed ≡ s.backed
  pub loads : AreOver t.loads s.loads s.denominator
  pub rooms : AreOver t.rooms s.rooms s.denominator

-- the fractions stand for some whole numbers, and the claim is true of all for which they stand
pub record IsTrueOf (n : Network) (t : Fractions) (Claim : Flows → Type 0) : Type 0 where
  pub some : (s : Flows) × StandsFor n t s
  pub each : (s : Flows) → StandsFor n t s → Claim s

-- there are a flow and a mark for each edge of the network, a load for each input and a room for each
-- output
pub record Fits (n : Network) (t : Fractions) : Type 0 where
  pub flows : length t.flows ≡ length n.edges
  pub backed : length t.backed ≡ length n.edges
  pub loads : length t.loads ≡ n.inputs
  pub rooms : length t.rooms ≡ n.outputs

-- the flow of the edge with this number, over the state's denominator
abbrev pub flow_at : Flows → ℕ → ℤ
flow_at s a = slice_index_or s.flows a (pos 0)

-- whether the edge with this number is marked as backed
abbrev pub backed_at : Flows → ℕ → Bool
backed_at s a = slice_index_or s.backed a false

-- the load of the input with this number
abbrev pub load_at : Flows → ℕ → ℤ
load_at s i = slice_index_or s.loads i (pos 0)

-- the room of the output with this number
abbrev pub room_at : Flows → ℕ → ℤ
room_at s o = slice_index_or s.rooms o (pos 0)

-- the cap of an edge, over the state's denominator
abbrev pub cap_in : Flows → Edge → ℤ
cap_in s e = pos (e.cap * s.denominator)
