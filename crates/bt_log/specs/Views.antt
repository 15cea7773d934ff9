-- Steps as callers see them.
use Rattle.bt_log.specs.Logs as step
use Rattle.bt_log.specs.Logs.{Step}
use Rattle.bt_log.specs.declared.step.StepView.{StepView}
use Rattle.bt_log.specs.declared.step.StepView.TheVariants.{Lemma, Learnt}

-- the step whose lists are lent
abbrev pub step_of : StepView → Step
step_of (Lemma lits weights) = step.Lemma lits.now weights.now
step_of (Learnt lits hints) = step.Learnt lits.now hints.now
