use Rattle.std.proofs.Common.{Err, inl, inr, subst}
use Rattle.std.proofs.lemmas.Result.{IfOk-weaker}
use Rattle.bt_designs.specs.Alone.{IsLoneNet}
use Rattle.library_chooser.specs.Deciding.{IsDecided, IsDecidedOf}
use Rattle.library_chooser.proofs.Alone.{decided_alone}
use Rattle.library_chooser.proofs.deciding.answer_to.Goals as goal

pub returns-in-Ok : goal.returns-in-Ok
returns-in-Ok c =
    IfOk-weaker c.answer_of.result (IsDecidedOf c.in-Ok.net c.args.property)
    (IsDecided c.args.text.now c.args.property)
    (decided_alone c.args.text.now c.args.property c.in-Ok.net c.in-Ok.ensures) c.answer_of.ensures

pub returns-in-Err-Refused : goal.returns-in-Err-Refused
returns-in-Err-Refused c =
    let is = c.in-Err-Refused.field-0-is in
    elim c.in-Err-Refused.ensures [
      | inl lone ↦ inr (c.in-Err-Refused.field-0-0, subst (λ fault. IsLoneNet c.args.text.now (Err fault)) is lone)
      | inr e ↦ cc
    ]
