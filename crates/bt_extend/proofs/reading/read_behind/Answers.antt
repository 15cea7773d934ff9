use Rattle.std.proofs.Common.{None, Some, subst}
use Rattle.bt_extend.specs.inner.Told.{TellForm}
use Rattle.bt_extend.proofs.FormTexts.{form_read, no_form_told, no_zero_behind}
use Rattle.bt_extend.proofs.reading.read_behind.Goals as goal

pub returns-in_default : goal.returns-in_default
returns-in_default c whole leads =
    no_zero_behind whole c.args.text.now c.in_ok-rest.rest.now c.args.number c.read_items.new.items.items leads c.in_ok-rest.ensures.stand c.in_ok-rest.ensures.rest
    c.in_default.ensures.none

pub returns-in-Ok-Some : goal.returns-in-Ok-Some
returns-in-Ok-Some c whole leads =
    let told = subst (λ o. TellForm c.args.number c.deref.result.now o) c.in-Ok-Some.field-0-is c.in-Ok-Some.ensures in
    form_read whole c.args.text.now c.in_ok-rest.rest.now c.in-Some.after.now c.args.number c.read_items.new.items.items c.in-Ok-Some.form leads c.in_ok-rest.ensures.rest
    c.in-Some.ensures.some.0 c.in-Some.ensures.some.1 (subst (λ ws. TellForm c.args.number ws (Some c.in-Ok-Some.form)) c.deref.ensures.value told)

pub returns-in-Ok-None : goal.returns-in-Ok-None
returns-in-Ok-None c whole leads =
    let told = subst (λ o. TellForm c.args.number c.deref.result.now o) c.in-Ok-None.field-0-is c.in-Ok-None.ensures in
    no_form_told whole c.args.text.now c.in_ok-rest.rest.now c.args.number c.read_items.new.items.items leads c.in_ok-rest.ensures.stand c.in_ok-rest.ensures.rest
    (subst (λ ws. TellForm c.args.number ws None) c.deref.ensures.value told)
