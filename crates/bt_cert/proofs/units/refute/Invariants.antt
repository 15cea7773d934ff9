use Rattle.std.proofs.Common.{◌≡◌, ◌↔◌, length, drop, ◌-◌}
use Rattle.bt_cnf.specs.Units.{clause_at}
use Rattle.bt_cert.specs.inner.Assuming.{Propagates}
use Rattle.bt_cert.specs.inner.Refuting.{hinted}
use Rattle.bt_cert.proofs.units.refute.Given as goal

abbrev pub invariant-loop-hint : goal.invariant-loop-hint
invariant-loop-hint l = record {
  size : length l.assumed ≡ length l.initial.assumed;
  left : Propagates l.initial.assumed (hinted l.known l.units) (clause_at l.known.clauses (l.last - 1))
      ↔ Propagates l.assumed (hinted l.known (drop l.hint-index l.units)) (clause_at l.known.clauses (l.last - 1));
}
