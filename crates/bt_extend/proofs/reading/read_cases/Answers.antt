use Rattle.std.proofs.Common.{MatchOption, subst}
use Rattle.bt_extend.specs.inner.Told.{AreForms, AreNoForms}
use Rattle.bt_extend.proofs.DefinitionTexts.{no_forms, no_variable}
use Rattle.bt_extend.proofs.reading.read_cases.Goals as goal

pub returns-in_default : goal.returns-in_default
returns-in_default c = no_variable c.args.text.now c.in_default.ensures.none

pub returns-in-Ok-None : goal.returns-in-Ok-None
returns-in-Ok-None c =
    let forms = c.in-Some.forms.now in
    let none = subst (λ o. MatchOption o (AreNoForms forms) (λ read. AreForms forms read.0 read.1)) c.in-Ok-None.field-0-is c.in-Ok-None.ensures in
    no_forms c.args.text.now forms c.in-Some.number c.in-Some.ensures.some none
