-- What a pool ends as, where a `&mut` to a list of it is returned.
use Rattle.std.specs.Prelude.{ℕ, List}
use Rattle.std.specs.Borrow.{Lends, Fml, RattleType, MutBor, Array}
use Rattle.bt_arena.specs.Pieces.{with_list}
use Rattle.bt_arena.specs.contracts.pool.Pool.{the_row}

-- once the borrow r ends, the list at this place is what r shows last, which has its length, and every other list is as
-- before
abbrev pub lends_list : (T K : RattleType) → MutBor (List (List T.Denot)) → ℕ → MutBor (List T.Denot) → Fml
lends_list T K p place r = Lends (the_row T K) (Array T 0) p r (with_list p.now place)
