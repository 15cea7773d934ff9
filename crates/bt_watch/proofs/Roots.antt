-- What was true before the first choice.
use Rattle.std.proofs.Common.{◌<◌, ℕ, List, [], ◌∷◌, get_or}
use Rattle.bt_watch.specs.inner.Roots.{bound_of}

-- of a trail of any length, a place below the bound is before the first level begins, or there is no level
pub before_root : (starts : List ℕ) (size place : ℕ) → place < bound_of starts → place < size → place < get_or starts 0 size
before_root [] size place below inside = inside
before_root (start ∷ starts) size place below inside = below
