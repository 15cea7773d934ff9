use Rattle.std.proofs.Common.{◌↔◌, IsTrue, sym, subst}
use Rattle.std.proofs.lemmas.Result.{IfOk-weaker}
use Rattle.bt_model.specs.Preferring.{ShowsPreferring}
use Rattle.bt_layout_check.specs.Laid.{LaysBy, LaysPreferringBy, naming_of}
use Rattle.bt_layout_check.proofs.Within.{suits_in_range, suits_of}
use Rattle.bt_layout_check.proofs.preferring.lays_preferring.Goals as goal

pub shows_preferred-requires-clause-in_range : goal.shows_preferred-requires-clause-in_range
shows_preferred-requires-clause-in_range c =
    let lays : LaysBy c.args.parts.now (naming_of c.args.names.now) c.args.request.now = c.in_ok-lays.ensures.0 c.if-not-branch.false in
    suits_in_range c.args.request.now.rect c.args.request.now.tier c.args.parts.now c.net.ensures.request.grid (suits_of c.args.request.now c.args.parts.now lays.fits)

pub returns : goal.returns
returns c =
    let lays : LaysBy c.args.parts.now (naming_of c.args.names.now) c.args.request.now = c.in_ok-lays.ensures.0 c.if-not-branch.false in
    IfOk-weaker c.shows_preferred.result (λ shows. IsTrue shows ↔ ShowsPreferring c.args.parts.now c.args.priorities.now c.net.result.now (naming_of c.args.names.now))
    (λ holds. IsTrue holds ↔ LaysPreferringBy c.args.parts.now c.args.priorities.now (naming_of c.args.names.now) c.args.request.now)
    (λ holds tells. (
      λ t. record {
        fits = lays.fits;
        shows = subst (λ n. ShowsPreferring c.args.parts.now c.args.priorities.now n (naming_of c.args.names.now)) c.net.ensures.net (tells.0 t);
        demands = lays.demands;
      },
      λ by. tells.1 (subst (λ n. ShowsPreferring c.args.parts.now c.args.priorities.now n (naming_of c.args.names.now)) (sym c.net.ensures.net) by.shows),
    )) c.shows_preferred.ensures
