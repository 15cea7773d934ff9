use borrow.Enum.Total.{values_d}
use Rattle.std.proofs.Common.{Err, inl, inr, subst, sym}
use Rattle.std.proofs.lemmas.Result.{IfOk-weaker}
use Rattle.bt_designs.specs.declared.fault.DesignFault.{DesignFault}
use Rattle.bt_designs.specs.declared.fault.DesignFault.TheVariants as fault
use Rattle.bt_designs.specs.declared.refusal.Refusal.{Refusal}
use Rattle.bt_designs.specs.declared.refusal.Refusal.TheVariants.{Json}
use Rattle.bt_designs.specs.contracts.fault.DesignFault.{enum}
use Rattle.bt_designs.specs.Alone.{IsLoneNet}
use Rattle.library_verdict.specs.Judging.{IsJudged, IsJudgedOf}
use Rattle.library_verdict.proofs.Alone.{judged_alone}
use Rattle.library_verdict.proofs.judging.judge.Goals as goal

pub returns-in-Ok : goal.returns-in-Ok
returns-in-Ok c =
    IfOk-weaker c.judged_network.result (IsJudgedOf c.in-Ok.net c.args.property)
    (IsJudged c.args.bytes.now c.args.property)
    (judged_alone c.args.bytes.now c.args.property c.in-Ok.net c.in-Ok.ensures) c.judged_network.ensures

pub returns-in-Err-Refused : goal.returns-in-Err-Refused
returns-in-Err-Refused c =
    let is = c.in-Err-Refused.field-0-is in
    let refusal_of : DesignFault → Refusal = λ f. (values_d enum 0 (Json 0, tt {0}) f).0 in
    let IsLone : DesignFault → Type 0 = λ f. IsLoneNet c.args.bytes.now (Err (fault.Refused (refusal_of f))) in
    elim c.in-Err-Refused.ensures [
      | inl lone ↦ subst IsLone (sym is) (subst (λ f. IsLoneNet c.args.bytes.now (Err f)) is lone)
      | inr e ↦ cc
    ]
