-- Choosing what to set next.
use Rattle.std.specs.Prelude.{◌≡◌, ◌<◌, ◌≤◌, ℕ, Bool, true, false, Option, Some, None, length}
use Rattle.bt_cnf.specs.Truths.{unset, IsUnset}
use Rattle.bt_choosers.specs.Orders.{HasUnset}
use Rattle.bt_sat.specs.declared.progress.Progress.{Progress}
use Rattle.bt_sat.specs.inner.Progressing.{IsRunning}

-- what is known and the limit stay
pub record KeepsLog (old new : Progress) : Type 0 where
  pub known : new.known ≡ old.known
  pub limit : new.limit ≡ old.limit

-- all variables have a value, and all that is true was propagated
pub record IsComplete (p : Progress) : Type 0 where
  pub running : IsRunning p
  pub none : p.conflict ≡ None
  pub propagated : p.propagated ≡ length p.search.assignment.trail.items
  pub set : (v : ℕ) → v < length p.search.assignment.values → IsUnset p.search.assignment.values v → ⊥

-- the order of the search still has all variables that have no value
abbrev pub ListsUnset : Progress → Type 0
ListsUnset p = HasUnset p.search.assignment.values p.order

-- where no clause is known to be false, all that is true was propagated, and the variables that have no value are listed
pub record IsAtChoice (p : Progress) : Type 0 where
  pub propagated : p.conflict ≡ None → p.propagated ≡ length p.search.assignment.trail.items
  pub listed : p.conflict ≡ None → ListsUnset p

-- what is true was propagated, and the search may decide where no clause is known to be false
pub record HasPropagated (old new : Progress) : Type 0 where
  pub keeps : KeepsLog old new
  pub running : IsRunning new
  pub choice : IsAtChoice new
  pub fewer : unset new.search.assignment.values ≤ unset old.search.assignment.values

-- one more variable was set, or all are
abbrev pub Decides : Progress → Progress → Bool → Type 0
Decides old new true =
    KeepsLog old new × IsRunning new × (new.conflict ≡ None) × (unset new.search.assignment.values < unset old.search.assignment.values)
    × ListsUnset new
Decides old new false = KeepsLog old new × IsComplete new

-- a clause was found whose literals are all false, or all variables have a value
abbrev pub DecidesUntilConflict : Progress → Progress → Option ℕ → Type 0
DecidesUntilConflict old new (Some conflict) = KeepsLog old new × IsRunning new × (new.conflict ≡ Some conflict)
DecidesUntilConflict old new None = KeepsLog old new × IsComplete new
