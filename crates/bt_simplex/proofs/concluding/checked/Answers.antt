use Rattle.std.proofs.Common.{subst, sym}
use Rattle.bt_pivot.specs.SolvedForms.{Slots}
use Rattle.bt_pivot.specs.Tableaus.{IsTableau, with_slots}
use Rattle.bt_simplex.specs.inner.Runs.{IsRun}
use Rattle.bt_simplex.proofs.concluding.checked.Goals as goal

pub pivoted_from-requires-clause-tableau : goal.pivoted_from-requires-clause-tableau
pivoted_from-requires-clause-tableau c = subst (λ (s : Slots). IsTableau (with_slots c.args.table.now s)) (sym c.requires) c.all_known.ensures

pub answer-requires-clause-run : goal.answer-requires-clause-run
answer-requires-clause-run c = (c.args.pivots, subst (λ (s : Slots). IsRun c.args.pivots (with_slots c.args.table.now s) c.pivoted_from.new.steps.items c.pivoted_from.new.work.basis c.in_ok-end.end) c.requires c.in_ok-end.ensures)

pub returns : goal.returns
returns c = c.answer.ensures c.args.pivots (subst (λ (s : Slots). IsRun c.args.pivots (with_slots c.args.table.now s) c.pivoted_from.new.steps.items c.pivoted_from.new.work.basis c.in_ok-end.end) c.requires c.in_ok-end.ensures)
