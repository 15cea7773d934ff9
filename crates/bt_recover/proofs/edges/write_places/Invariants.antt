use Rattle.std.proofs.Common.{◌≡◌, ℕ, ◌<◌, Some, get_or, length}
use Rattle.std.specs.List.{slice_get}
use Rattle.bt_recover.proofs.edges.write_places.Given as goal

abbrev pub invariant-loop-k : goal.invariant-loop-k
invariant-loop-k l = record {
  count : length l.numbers.items ≡ length l.initial.numbers.items;
  numbered : (j a : ℕ) → j < l.k → slice_get l.list j ≡ Some a → get_or l.numbers.items a 0 ≡ j;
  others : (a : ℕ) → ((j : ℕ) → j < l.k → slice_get l.list j ≡ Some a → ⊥) → get_or l.numbers.items a 0 ≡ get_or l.initial.numbers.items a 0;
}
