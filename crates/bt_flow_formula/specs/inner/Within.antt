-- Claims whose marks and named pairs are variables below a number.
use Rattle.std.specs.Prelude.{ℕ, ◌<◌, List}
use Rattle.std.specs.List.{AllByRecursion}
use Rattle.bt_flow_formula.specs.declared.state_literal.Pair.{Pair}
use Rattle.bt_flow_formula.specs.declared.state_literal.StateLiteral.{StateLiteral}
use Rattle.bt_flow_formula.specs.declared.state_literal.StateLiteral.TheVariants.{Mark, Says, First}

-- a claim's mark is of an edge below this number, and the variable of the pair that it names is below it
abbrev pub IsWithin : (Pair → ℕ) → ℕ → StateLiteral → Type 0
IsWithin at vars (Mark a backed) = a < vars
IsWithin at vars (Says row) = Unit {0}
IsWithin at vars (First pair) = at pair < vars

-- so are those of all claims of all clauses
abbrev pub AreWithin : (Pair → ℕ) → ℕ → List (List StateLiteral) → Type 0
AreWithin at vars clauses = AllByRecursion (AllByRecursion (IsWithin at vars)) clauses
