use Rattle.std.proofs.Common.{◌≡◌, ◌≢◌, ◌↔◌, false, IsTrue, sym, ◌∙◌, subst, ⊎_elim}
use Rattle.std.proofs.lemmas.Bool.{false≢true}
use Rattle.std.proofs.lemmas.Result.{IfOk-weaker}
use Rattle.bt_text.specs.Answers.{UnlessMemory, seen}
use Rattle.bt_recover.specs.declared.fault.RecoverFault.TheVariants.{Memory}
use Rattle.bt_recover.specs.Recovered.{IsRecovered, network_and_naming}
use Rattle.bt_layout_check.specs.Laid.{LaysBy, naming_of}
use Rattle.bt_layout_check.proofs.Within.{refused_lays_not}
use Rattle.bt_layout_check.proofs.testing.lays_placed.Goals as goal

pub returns-in-Err : goal.returns-in-Err
returns-in-Err c =
    let told = subst (λ r. UnlessMemory Memory (IsRecovered c.args.grid.now) (seen network_and_naming r)) c.in-Err.is c.recover.ensures.right in
    IfOk-weaker c.refused.result (λ holds. (holds ≡ false) × (c.in-Err.fault ≢ Memory)) (λ holds. IsTrue holds ↔ LaysBy c.args.grid.now (naming_of c.args.names.now) c.args.request.now)
    (λ holds is. (
      λ t. absurd (false≢true (sym is.0 ∙ t)),
      λ lays. absurd (⊎_elim (λ right. refused_lays_not c.args.grid.now (naming_of c.args.names.now) c.args.request.now c.in-Err.fault c.requires.request.net right lays) (λ memory. is.1 memory) told),
    )) c.refused.ensures
