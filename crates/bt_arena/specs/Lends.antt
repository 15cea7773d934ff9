-- What an arena ends as, where a `&mut` to an item of it is returned.
use Rattle.std.specs.Prelude.{ℕ, List, slice_set}
use Rattle.std.specs.Borrow.{Lends, Fml, RattleType, MutBor}
use Rattle.bt_arena.specs.contracts.arena.Arena.{the_row}

-- once the borrow r ends, this place has the last value written through r, and every other place is as before
abbrev pub lends_item : (T K : RattleType) → MutBor (List T.Denot) → ℕ → MutBor T.Denot → Fml
lends_item T K a place r = Lends (the_row T K) T a r (slice_set a.now place)
