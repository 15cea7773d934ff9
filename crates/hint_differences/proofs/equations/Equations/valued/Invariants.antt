use Rattle.std.proofs.Common.{◌≡◌, length}
use Rattle.hint_differences.proofs.equations.Equations.valued.Given as goal

abbrev pub invariant-loop-solved : goal.invariant-loop-solved
invariant-loop-solved l = length l.values.items ≡ length l.fn.numbers.items
