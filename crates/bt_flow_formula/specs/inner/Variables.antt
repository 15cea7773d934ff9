-- The variables of the first rows of pairs, as they are kept.
use Rattle.std.specs.List.{range_with_len}
use Rattle.std.specs.Prelude.{◌≡◌, ℕ, ◌+◌, ◌*◌, ◌-◌, ◌<◌, ◌^◌, nat_lt, List, [], ◌∷◌, ◌++◌, length, map, flat_map, slice_index_or, if◌then◌else◌}
use Rattle.bt_net.specs.Network.{Network}
use Rattle.bt_flow_formula.specs.declared.state_literal.Side.{Side}
use Rattle.bt_flow_formula.specs.declared.state_literal.Side.TheVariants.{Out, In}
use Rattle.bt_flow_formula.specs.declared.state_literal.Pair.{Pair}
use Rattle.bt_flow_formula.specs.declared.state_literal.Pair.TheVariants.{Even, Empty, Full, Loaded, Filled}
use Rattle.bt_flow_formula.specs.declared.clause_family.ClauseFamily.{ClauseFamily}
use Rattle.bt_flow_formula.specs.declared.clause_family.ClauseFamily.TheVariants as of
use Rattle.bt_flow_formula.specs.declared.variables.PairVars.{PairVars}
use Rattle.bt_flow_formula.specs.Pairs.{pair_clause, pairs_at}
use Rattle.bt_flow_formula.specs.Families.{bounds}
use Rattle.bt_flow_formula.specs.FlowFormula.{clauses_till}
use Rattle.bt_flow_formula.specs.Numbering.{rows_in}

-- the variable that is kept for a pair: at a splitter the pair of the higher edge comes two variables later
abbrev pub at_in : PairVars → Pair → ℕ
at_in v (Even Out k a b) = slice_index_or v.out.items k 0 + (if nat_lt a b then 0 else 2)
at_in v (Even In k a b) = slice_index_or v.into.items k 0 + (if nat_lt a b then 0 else 2)
at_in v (Empty Out k a) = slice_index_or v.out.items k 0
at_in v (Empty In k a) = slice_index_or v.into.items k 0
at_in v (Full a cap) = v.full + 2 * a
at_in v (Loaded i a column) = v.loaded + 2 * i
at_in v (Filled o a column) = v.filled + 2 * o

-- the number of the rows of the pairs at one side of the splitters before one
abbrev pub side_rows : Network → Side → ℕ → ℕ
side_rows n side k = length (rows_in (flat_map (λ j. map pair_clause (pairs_at n side j)) (range_with_len 0 k)))

-- for each splitter the variable of the first pair at one side, where the first of all has this one, and then the
-- variable after the last
abbrev pub side_starts : Network → Side → ℕ → List ℕ
side_starts n side first = map (λ k. first + side_rows n side k) (range_with_len 0 (n.splitters + 1))

-- the number of variables before the places of a family, which has these families before it
abbrev pub vars_till : Network → List ClauseFamily → ClauseFamily → ℕ
vars_till n before f = length n.edges + length (rows_in (clauses_till n before f 0))

-- the variables are those of the network's pairs
pub record AreVariables (n : Network) (v : PairVars) : Type 0 where
  pub out : v.out.items ≡ side_starts n Out (vars_till n bounds of.OutPairs)
  pub into : v.into.items ≡ side_starts n In (vars_till n (bounds ++ of.OutPairs ∷ []) of.InPairs)
  pub full : v.full ≡ vars_till n (bounds ++ of.OutPairs ∷ of.InPairs ∷ []) of.FullPairs
  pub loaded : v.loaded ≡ vars_till n (bounds ++ of.OutPairs ∷ of.InPairs ∷ of.FullPairs ∷ []) of.LoadPairs
  pub filled : v.filled ≡ vars_till n (bounds ++ of.OutPairs ∷ of.InPairs ∷ of.FullPairs ∷ of.LoadPairs ∷ []) of.RoomPairs

-- the columns of a pair may stand in a row
abbrev pub HasColumns : Pair → Type 0
HasColumns (Even side k a b) = (a < 2 ^ 64 - 1) × (b < 2 ^ 64 - 1)
HasColumns (Empty side k a) = a < 2 ^ 64 - 1
HasColumns (Full a cap) = a < 2 ^ 64 - 1
HasColumns (Loaded i a column) = (a < 2 ^ 64 - 1) × (column < 2 ^ 64 - 1)
HasColumns (Filled o a column) = (a < 2 ^ 64 - 1) × (column < 2 ^ 64 - 1)
