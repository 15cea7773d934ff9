use Rattle.std.proofs.Common.{◌≡◌, ◌≢◌, ◌↔◌, false, IsTrue, sym, ◌∙◌, ⊎_elim}
use Rattle.std.proofs.lemmas.Bool.{false≢true}
use Rattle.std.proofs.lemmas.Result.{IfOk-weaker}
use Rattle.bt_model.specs.Preferring.{ShowsPreferring}
use Rattle.bt_recover.specs.declared.fault.RecoverFault.TheVariants.{Memory}
use Rattle.bt_recover.specs.Recovered.{network_and_naming}
use Rattle.bt_layout_check.specs.Laid.{naming_of}
use Rattle.bt_layout_check.specs.inner.Marks.{AreMarkedAs, HaveSameMarks}
use Rattle.bt_layout_check.proofs.Halves.{ok_both, own_preferring}
use Rattle.bt_layout_check.proofs.Marks.{marked_as, shown_bare, shown_own, shown_preferring}
use Rattle.bt_layout_check.proofs.Within.{refused_shows_not}
use Rattle.bt_layout_check.proofs.preferring.shows_on.Goals as goal

pub returns-in-Ok : goal.returns-in-Ok
returns-in-Ok c =
    let found = network_and_naming c.in-Ok.traced in
    let one = naming_of c.own_of.result.names in
    let net = c.own_of.result.net in
    let other = naming_of c.args.names.now in
    let own = own_preferring c.args.grid.now c.args.priorities.now found.0 net found.1 one c.in-Ok.ensures.right c.own_of.ensures.net c.own_of.ensures.names in
    let shown = shown_own c.args.grid.now c.args.priorities.now net one own.0 in
    IfOk-weaker c.prefer_same.result (λ same. (IsTrue same → AreMarkedAs one net other c.args.net.now) × (HaveSameMarks one net other c.args.net.now → IsTrue same))
    (λ shows. IsTrue shows ↔ ShowsPreferring c.args.grid.now c.args.priorities.now c.args.net.now other)
    (λ same tells. (
      λ t. shown_preferring c.args.grid.now c.args.priorities.now net c.args.net.now one other shown own.1 c.requires.network c.requires.names (tells.0 t),
      λ shows. tells.1 (marked_as c.args.grid.now c.args.priorities.now net c.args.net.now one other shown own.1 c.requires.network shows),
    )) (ok_both c.prefer_same.result (λ same. IsTrue same → AreMarkedAs one net other c.args.net.now) (λ same. HaveSameMarks one net other c.args.net.now → IsTrue same)
    c.prefer_same.ensures.marked c.prefer_same.ensures.same)

pub returns-in-Err : goal.returns-in-Err
returns-in-Err c =
    IfOk-weaker c.refused.result (λ holds. (holds ≡ false) × (c.in-Err.fault ≢ Memory))
    (λ shows. IsTrue shows ↔ ShowsPreferring c.args.grid.now c.args.priorities.now c.args.net.now (naming_of c.args.names.now))
    (λ holds is. (
      λ t. absurd (false≢true (sym is.0 ∙ t)),
      λ shows. absurd (⊎_elim
          (λ right. refused_shows_not c.args.grid.now (naming_of c.args.names.now) c.args.net.now c.in-Err.fault c.requires.network right
          (shown_bare c.args.grid.now c.args.priorities.now c.args.net.now (naming_of c.args.names.now) shows))
          (λ memory. is.1 memory) c.in-Err.ensures.right),
    )) c.refused.ensures
