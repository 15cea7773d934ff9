use Rattle.std.proofs.Common.{◌≡◌, take}
use Rattle.std.specs.List.{All}
use Rattle.bt_farkas.specs.declared.gathering.Entry.{Entry}
use Rattle.bt_farkas.proofs.runs.run_length.Given as goal

abbrev pub invariant-loop-i : goal.invariant-loop-i
invariant-loop-i l = All (λ (e : Entry). e.column ≡ l.column) (take l.i l.entries)
