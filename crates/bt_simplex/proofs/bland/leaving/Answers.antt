use Rattle.std.proofs.Common.{subst, ◌<◌, ◌≤◌, arith, length, below_more}
use Rattle.std.proofs.lemmas.Bool.{iff_false}
use Rattle.bt_pivot.specs.Points.{Fails}
use Rattle.bt_pivot.specs.Tableaus.{with_slots}
use Rattle.bt_pivot.proofs.Failing.{no_column, no_slot}
use Rattle.bt_simplex.proofs.Enters.{least_here}
use Rattle.bt_simplex.proofs.bland.leaving.Goals as goal
use Rattle.bt_simplex.proofs.bland.leaving.Goals.{in-Some-false, in-None+in-Ok-false}

pub returns-in-Some-true-clause-least : goal.returns-in-Some-true-clause-least
returns-in-Some-true-clause-least c =
    least_here (λ p. Fails (with_slots c.args.tableau.now c.args.basis.now) p) c.loop-position.position c.loop-position.invariant.none (c.in-Some-true.ensures.told.0 c.in-Some-true.field-0-test)

pub returns-in-Ok-true-clause-least : goal.returns-in-Ok-true-clause-least
returns-in-Ok-true-clause-least c =
    least_here (λ p. Fails (with_slots c.args.tableau.now c.args.basis.now) p) c.loop-position.position c.loop-position.invariant.none (c.in-Ok-true.ensures.told.0 c.in-Ok-true.field-0-test)

pub loop-position-init : goal.loop-position-init
loop-position-init c =
    record {
      none = λ p before fails. no_column (with_slots c.args.tableau.now c.args.basis.now) p (subst (λ n. p < n) c.columns-position.ensures before) fails;
      kept = c.requires;
    }

pub loop-position-preserved : goal.loop-position-preserved
loop-position-preserved c =
    let holds : Fails (with_slots c.args.tableau.now c.args.basis.now) c.loop-position.position → ⊥ =
    elim c.match-fails_whole.branch [
      | in-Some-false w ↦ iff_false w.in-Some-false.ensures.told w.in-Some-false.field-0-test
      | in-None+in-Ok-false w ↦ iff_false w.in-Ok-false.ensures.told w.in-Ok-false.field-0-test
    ] in
    record {
      none = below_more (λ p. Fails (with_slots c.args.tableau.now c.args.basis.now) p → ⊥) c.loop-position.position c.loop-position.invariant.none holds;
      kept = c.fails_whole.ensures.kept;
    }

pub returns-clause-least : goal.returns-clause-least
returns-clause-least c p fails =
    let within : length c.args.basis.now ≤ p → ⊥ = λ past. no_slot (with_slots c.args.tableau.now c.args.basis.now) p past fails in
    c.loop-position.invariant.none p (omega arith) fails
