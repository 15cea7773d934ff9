-- Making a literal true.
use Rattle.std.specs.Prelude.{◌≡◌, ℕ, Option, Some, [], ◌∷◌, ◌++◌, length, slice_set}
use Rattle.bt_cnf.specs.declared.literal.Lit.{Lit}
use Rattle.bt_watch.specs.declared.assignment.Assignment.{Assignment}

-- the variable has the value that makes the literal true, the literal stands at the end of the trail with its reason,
-- and its place is known
pub record Assigns (old new : Assignment) (l : Lit) (reason : Option ℕ) : Type 0 where
  pub values : new.values ≡ slice_set old.values l.var (Some l.positive)
  pub trail : new.trail.items ≡ old.trail.items ++ l ∷ []
  pub reasons : new.reasons.items ≡ old.reasons.items ++ reason ∷ []
  pub places : new.places.items ≡ slice_set old.places.items l.var (length old.trail.items)
