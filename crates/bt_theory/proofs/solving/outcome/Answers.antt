use Rattle.std.proofs.Common.{sym, subst}
use Rattle.std.proofs.lemmas.Result.{IfOk-weaker}
use Rattle.bt_theory.specs.inner.Rounds.{IsTrimmedTo, Tells}
use Rattle.bt_theory.proofs.Trimmed.{told_refuted}
use Rattle.bt_theory.proofs.solving.outcome.Goals as goal

pub returns-in-Refuted : goal.returns-in-Refuted
returns-in-Refuted c =
    IfOk-weaker c.refuted.result (IsTrimmedTo c.args.log) (Tells c.args.end c.args.log)
    (λ o told. subst (λ e. Tells e c.args.log o) (sym c.in-Refuted.is) (told_refuted c.args.log o told)) c.refuted.ensures
