use Rattle.std.proofs.Common.{◌⊎◌, ◌↔◌, ℕ}
use Rattle.std.specs.Prelude.{Contains}
use Rattle.bt_sat.specs.inner.Analysing.{IsSeen}
use Rattle.bt_sat.specs.inner.KnownLits.{lits_in}
use Rattle.bt_sat.proofs.analysis.mark_seen.Given as goal

abbrev pub invariant-loop-n : goal.invariant-loop-n
invariant-loop-n l = (k : ℕ) → Contains l.agenda k ↔ (Contains l.fn.agenda k ⊎ IsSeen l.places (lits_in l.clause) l.but l.n k)
