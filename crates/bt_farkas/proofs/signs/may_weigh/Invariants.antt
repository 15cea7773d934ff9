use Rattle.std.proofs.Common.{take}
use Rattle.std.specs.List.{All}
use Rattle.bt_farkas.specs.FalseSums.{MayWeigh}
use Rattle.bt_farkas.specs.WeightedRows.{weighted}
use Rattle.bt_farkas.proofs.signs.may_weigh.Given as goal

abbrev pub invariant-loop-i : goal.invariant-loop-i
invariant-loop-i l = All MayWeigh (take l.i (weighted l.rows l.picks l.weights))
