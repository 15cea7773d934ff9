use Rattle.std.proofs.Common.{sym, subst}
use Rattle.std.specs.Prelude.{IfOk}
use Rattle.bt_model.specs.Laying.{Lays, LaysPreferring}
use Rattle.bt_layout.proofs.preferring.priorities_on.Goals as goal

pub priorities_of-requires : goal.priorities_of-requires
priorities_of-requires c = subst (Lays c.args.parts.now) (sym c.in_ok-again.ensures) c.requires.lays

pub returns-clause-lays : goal.returns-clause-lays
returns-clause-lays c =
    subst (λ r. IfOk c.priorities_of.result (λ priorities. LaysPreferring c.args.parts.now priorities.items r)) c.in_ok-again.ensures c.priorities_of.ensures.lays
