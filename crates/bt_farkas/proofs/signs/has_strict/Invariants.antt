use Rattle.std.proofs.Common.{take}
use Rattle.std.specs.List.{Any}
use Rattle.bt_farkas.specs.FalseSums.{IsStrict}
use Rattle.bt_farkas.specs.WeightedRows.{weighted}
use Rattle.bt_farkas.proofs.signs.has_strict.Given as goal

abbrev pub invariant-loop-i : goal.invariant-loop-i
invariant-loop-i l = Any IsStrict (take l.i (weighted l.rows l.picks l.weights)) → ⊥
