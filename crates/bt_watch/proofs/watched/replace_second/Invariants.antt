use Rattle.std.proofs.Common.{◌≡◌, ◌⊎◌}
use Rattle.std.specs.List.{AllWithin}
use Rattle.bt_cnf.specs.Truths.{IsFalseIn}
use Rattle.bt_watch.proofs.watched.replace_second.Given as goal

abbrev pub invariant-loop-place : goal.invariant-loop-place
invariant-loop-place l = record { same : l.lits ≡ l.fn.lits; falses : AllWithin (λ m. (m ≡ l.first) ⊎ IsFalseIn l.values m) l.fn.lits 2 l.place }
