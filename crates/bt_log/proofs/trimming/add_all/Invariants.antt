use Rattle.std.proofs.Common.{◌≡◌, take}
use Rattle.std.specs.List.{AllZip}
use Rattle.bt_log.specs.Trimming.{IsLeft}
use Rattle.bt_log.proofs.trimming.add_all.Given as goal

abbrev pub invariant-loop-number : goal.invariant-loop-number
invariant-loop-number l = record {
  first : l.left.first ≡ l.log.first;
  left : AllZip (IsLeft l.log l.kept.places.items) (take l.number l.kept.places.items) l.left.steps;
}
