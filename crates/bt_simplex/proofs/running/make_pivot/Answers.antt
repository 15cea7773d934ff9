use Rattle.bt_pivot.specs.Tableaus.{with_slots}
use Rattle.bt_simplex.proofs.TableauPivots.{enters_outside, leaves_apart}
use Rattle.bt_pivot.proofs.KeptSums.{pivot_kept}
use Rattle.bt_simplex.proofs.Runs.{bland_can, can_part, leaves_within, pivot_made}
use Rattle.bt_simplex.proofs.running.make_pivot.Goals as goal

pub pivot-requires-clause-leaves : goal.pivot-requires-clause-leaves
pivot-requires-clause-leaves c = leaves_within c.args.basis.now c.args.made (bland_can (with_slots c.args.tableau.now c.args.basis.now) c.args.made c.requires.bland)

pub pivot-requires-clause-enters : goal.pivot-requires-clause-enters
pivot-requires-clause-enters c =
    (enters_outside c.args.tableau.now.rows c.args.tableau.now.columns c.args.basis.now c.args.made c.requires.tableau.solved
    (bland_can (with_slots c.args.tableau.now c.args.basis.now) c.args.made c.requires.bland)).within

pub pivot-requires-clause-apart : goal.pivot-requires-clause-apart
pivot-requires-clause-apart c =
    leaves_apart c.args.tableau.now.rows c.args.tableau.now.columns c.args.basis.now c.args.made c.requires.tableau.solved
    (bland_can (with_slots c.args.tableau.now c.args.basis.now) c.args.made c.requires.bland)

pub pivot-requires-clause-can : goal.pivot-requires-clause-can
pivot-requires-clause-can c =
    can_part c.args.tableau.now.rows c.args.tableau.now.columns c.args.basis.now c.args.made c.requires.tableau.solved
    (bland_can (with_slots c.args.tableau.now c.args.basis.now) c.args.made c.requires.bland)

pub pivot-requires-clause-outside : goal.pivot-requires-clause-outside
pivot-requires-clause-outside c =
    (enters_outside c.args.tableau.now.rows c.args.tableau.now.columns c.args.basis.now c.args.made c.requires.tableau.solved
    (bland_can (with_slots c.args.tableau.now c.args.basis.now) c.args.made c.requires.bland)).outside

pub pivot-requires-clause-lines : goal.pivot-requires-clause-lines
pivot-requires-clause-lines c position terms e = (c.requires.tableau.solved.lines position terms e).0

pub returns-clause-done : goal.returns-clause-done
returns-clause-done c = pivot_made c.args.tableau.now c.args.basis.now c.args.made c.pivot.new.basis c.requires.tableau c.requires.bland c.pivot.result c.pivot.ensures.done

pub returns-clause-kept : goal.returns-clause-kept
returns-clause-kept c = pivot_kept c.args.tableau.now c.args.basis.now c.pivot.new.basis c.args.kept.now.sums.items c.pivot.new.kept.sums.items c.requires.kept c.pivot.result c.pivot.ensures.kept
