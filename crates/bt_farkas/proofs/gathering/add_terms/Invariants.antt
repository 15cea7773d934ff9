use Rattle.std.proofs.Common.{◌≡◌, ◌++◌, take}
use Rattle.bt_farkas.specs.inner.Gathering.{entries_of}
use Rattle.bt_farkas.proofs.gathering.add_terms.Given as goal

abbrev pub invariant-loop-column : goal.invariant-loop-column
invariant-loop-column l = l.entries.items ≡ l.initial.entries.items ++ entries_of l.row (take l.column-index l.terms)
