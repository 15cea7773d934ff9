-- Where no splitter prefers an edge, no clause of the flow formula speaks of one.
use Rattle.std.proofs.Common.{◌≡◌, ℕ, ◌+◌, List, [], ◌∷◌, ◌++◌, length, map, ap, refl}
use Rattle.std.specs.List.{flat_map, range_with_len}
use Rattle.bt_net.specs.Network.{Network, HasNoPriorities}
use Rattle.bt_net.proofs.Preference.{plain_gives, plain_takes, plain_merges}
use Rattle.bt_flow_formula.specs.declared.state_literal.Side.TheVariants.{Out, In}
use Rattle.bt_flow_formula.specs.declared.state_literal.Pair.{Pair}
use Rattle.bt_flow_formula.specs.declared.state_literal.Pair.TheVariants.{Even, Empty, Full, Loaded, Filled}
use Rattle.bt_flow_formula.specs.declared.state_literal.StateLiteral.{StateLiteral}
use Rattle.bt_flow_formula.specs.declared.clause_family.ClauseFamily.{ClauseFamily}
use Rattle.bt_flow_formula.specs.declared.clause_family.ClauseFamily.TheVariants as of
use Rattle.bt_flow_formula.specs.Columns.{out_edges, in_edges, unless_any}
use Rattle.bt_flow_formula.specs.Pairs.{pair_clause, side_pairs}
use Rattle.bt_flow_formula.specs.Families.{clauses_at, side_clauses, places, bounds, families}
use Rattle.bt_flow_formula.specs.Properties.{property_clauses}
use Rattle.bt_flow_formula.specs.Numbering.{rows_in, formula_of}
use Rattle.bt_flow_formula.specs.FlowFormula.{lower_first, clauses_before, leveled}
use Rattle.bt_flow_formula.specs.EvenFormula.{even_clauses_at, even_before, FlowFormulaIsEven}

module _ (n : Network) (plain : HasNoPriorities n) where
  at_place : (f : ClauseFamily) (k : ℕ) → clauses_at n f k ≡ even_clauses_at n f k
  at_place of.Flows k = refl
  at_place of.Loads k = refl
  at_place of.Rooms k = refl
  at_place of.Conserve k = refl
  at_place of.OutPairs k = ap (λ o. map pair_clause (side_pairs o Out k (out_edges n k))) (plain_gives n plain k)
  at_place of.InPairs k = λ i. map pair_clause (side_pairs (plain_takes n plain k i) In k (unless_any (plain_merges n plain k i) (in_edges n k)))
  at_place of.FullPairs k = refl
  at_place of.LoadPairs k = refl
  at_place of.RoomPairs k = refl
  at_place of.EvenOut k = ap (λ o. side_clauses o n Out k (out_edges n k)) (plain_gives n plain k)
  at_place of.EvenIn k = λ i. side_clauses (plain_takes n plain k i) n In k (unless_any (plain_merges n plain k i) (in_edges n k))
  at_place of.Backing k = refl
  at_place of.Inputs k = refl
  at_place of.Outputs k = refl

  at_all : clauses_at n ≡ even_clauses_at n
  at_all = λ i f k. at_place f k i

  -- the clauses of families, and those before a place, by what stands at each place
  abbrev by_places : (ClauseFamily → ℕ → List (List StateLiteral)) → ClauseFamily → List (List StateLiteral)
  by_places at f = flat_map (at f) (range_with_len 0 (places n f))

  abbrev till : (ClauseFamily → ℕ → List (List StateLiteral)) → List ClauseFamily → ClauseFamily → ℕ → List (List StateLiteral)
  till at before f place = flat_map (by_places at) before ++ flat_map (at f) (range_with_len 0 place)

  before_pair : (pair : Pair) → clauses_before n pair ≡ even_before n pair
  before_pair (Even Out k a b) = ap (λ at. till at bounds of.OutPairs k ++ lower_first (Even Out k b a) a b) at_all
  before_pair (Even In k a b) = ap (λ at. till at (bounds ++ of.OutPairs ∷ []) of.InPairs k ++ lower_first (Even In k b a) a b) at_all
  before_pair (Empty side k a) = refl
  before_pair (Full a cap) = ap (λ at. till at (bounds ++ of.OutPairs ∷ of.InPairs ∷ []) of.FullPairs a) at_all
  before_pair (Loaded i a column) = ap (λ at. till at (bounds ++ of.OutPairs ∷ of.InPairs ∷ of.FullPairs ∷ []) of.LoadPairs i) at_all
  before_pair (Filled o a column) = ap (λ at. till at (bounds ++ of.OutPairs ∷ of.InPairs ∷ of.FullPairs ∷ of.LoadPairs ∷ []) of.RoomPairs o) at_all

pub flow_formula_is_even : FlowFormulaIsEven
flow_formula_is_even n p plain = λ i.
    leveled n p
    (formula_of (λ pair. length n.edges + length (rows_in (before_pair n plain pair i))) (length n.edges) (flat_map (by_places n plain (at_all n plain i)) families ++ property_clauses n p))
