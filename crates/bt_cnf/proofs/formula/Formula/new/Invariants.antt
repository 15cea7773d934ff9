use Rattle.std.proofs.Common.{◌≡◌, length, None}
use Rattle.std.specs.List.{All}
use Rattle.bt_cnf.proofs.formula.Formula.new.Given as goal

abbrev pub invariant-loop : goal.invariant-loop
invariant-loop l = record {
  size : length l.places ≡ l.counter;
  none : All (λ o. o ≡ None) l.places;
}
