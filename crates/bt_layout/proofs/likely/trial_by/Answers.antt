use Rattle.std.proofs.Common.{◌≤◌, ◌∙◌, ap, length, subst, sym}
use Rattle.bt_log.specs.Logs.{LogParts}
use Rattle.bt_layout.proofs.Narrow.{answer_few, answer_solves}
use Rattle.bt_layout.proofs.likely.trial_by.Goals as goal

pub trial_of-requires : goal.trial_of-requires
trial_of-requires c =
    let search = c.requires.1 in
    answer_solves c.args.request.now c.requires.0 search.formula c.args.solver.now.kernel c.next_model.new.self.kernel _ _ _
    search.narrowed search.begins c.in_ok-answer.ensures.given

pub returns : goal.returns
returns c = λ most search. (
  c.in_ok-trial.ensures,
  subst (λ n. n ≤ most) (ap (λ (log : LogParts). length log.steps) (sym c.log.ensures) ∙ sym c.len-steps.ensures)
      (answer_few most search.formula c.args.solver.now.kernel c.next_model.new.self.kernel _ _ _ search.begins c.in_ok-answer.ensures.given),
)
