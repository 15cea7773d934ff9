-- A visit of one of the watched clauses.
use Rattle.std.specs.Prelude.{◌≡◌, ℕ, Bool, List, Option, slice_set}
use Rattle.bt_cnf.specs.declared.literal.Lit.{Lit}
use Rattle.bt_watch.specs.declared.watched.Visit.{Visit}
use Rattle.bt_watch.specs.inner.VisitingClause.{VisitsClause}
use Rattle.bt_watch.specs.Keeping.{kept_at}

-- the clause with this number is visited, and every other one stays
pub record VisitsById (values : List (Option Bool)) (false_lit : Lit) (id : ℕ) (old new : List (List Lit)) (visit : Visit) : Type 0 where
  pub clause : List Lit
  pub one : new ≡ slice_set old id clause
  pub visits : VisitsClause values false_lit (kept_at old id) clause visit
