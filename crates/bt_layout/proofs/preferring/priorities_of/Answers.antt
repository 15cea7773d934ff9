use Rattle.std.proofs.Common.{ap, sym, subst}
use Rattle.std.proofs.lemmas.Result.{IfOk-weaker}
use Rattle.bt_parts.specs.Hands.{priority_of}
use Rattle.bt_model.specs.Laying.{LaysPreferring}
use Rattle.bt_layout_check.specs.Laid.{LaysPreferringBy, naming_of}
use Rattle.bt_layout.specs.inner.Bare.{PrefersNothing}
use Rattle.bt_layout.proofs.Bare.{bare_preferring}
use Rattle.bt_layout.proofs.preferring.priorities_of.Goals as goal

pub returns-then-not-prefers_any-clause-lays : goal.returns-then-not-prefers_any-clause-lays
returns-then-not-prefers_any-clause-lays c =
    subst (λ items. LaysPreferring c.args.parts.now items c.args.request.now) (sym c.new.ensures.items)
    (bare_preferring c.args.request.now c.args.parts.now c.net.ensures.request.net
    (subst PrefersNothing c.net.ensures.net (c.prefers_any.ensures c.if-not-prefers_any.true)) c.requires)

pub returns-then-not-prefers_any-clause-splitters : goal.returns-then-not-prefers_any-clause-splitters
returns-then-not-prefers_any-clause-splitters c = λ i part is_i apart. ap (λ items. priority_of items i) c.new.ensures.items

pub returns-clause-lays : goal.returns-clause-lays
returns-clause-lays c =
    IfOk-weaker c.priorities_by.result (λ priorities. LaysPreferringBy c.args.parts.now priorities.items (naming_of c.in_ok-names.names) c.args.request.now)
    (λ priorities. LaysPreferring c.args.parts.now priorities.items c.args.request.now)
    (λ priorities by. record { fits = by.fits; naming = naming_of c.in_ok-names.names; shows = by.shows; demands = by.demands }) c.priorities_by.ensures.lays
