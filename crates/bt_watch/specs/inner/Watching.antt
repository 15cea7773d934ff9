-- The rule that watching keeps, from which no clause is false or a unit where propagation has come to its end.
use Rattle.std.specs.Prelude.{◌≢◌, List, Contains}
use Rattle.bt_cnf.specs.declared.literal.Lit.{Lit}
use Rattle.bt_cnf.specs.Units.{opposite}

-- a literal of the clause is true
pub record HasTrue (falses clause : List Lit) : Type 0 where
  pub lit : Lit
  pub among : Contains clause lit
  pub holds : Contains falses (opposite lit)

-- two different literals of the clause are watched, and where one of them is false a literal of the clause is true
pub record IsWatched (falses clause : List Lit) : Type 0 where
  pub first : Lit
  pub second : Lit
  pub first_in : Contains clause first
  pub second_in : Contains clause second
  pub differ : first ≢ second
  pub if_first : Contains falses first → HasTrue falses clause
  pub if_second : Contains falses second → HasTrue falses clause
