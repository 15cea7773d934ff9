use Rattle.std.proofs.Common.{refl, subst, sym, ◌∙◌}
use Rattle.std.proofs.lemmas.Bool.{false≢true}
use Rattle.bt_extend.specs.Texts.{IsDefinitionRead}
use Rattle.bt_cert.proofs.Defined.{defines_nothing}
use Rattle.bt_cert.proofs.defining.define.Goals as goal

pub returns-then-not-may_stand : goal.returns-then-not-may_stand
returns-then-not-may_stand c =
    let read = subst (IsDefinitionRead c.args.line.now) c.in-Some.is c.in_ok-definition.ensures in
    (defines_nothing c.args.formula.now c.args.line.now c.in-Some.definition read (λ so. false≢true (sym c.if-not-may_stand.true ∙ c.may_stand.ensures.1 so)), refl)
