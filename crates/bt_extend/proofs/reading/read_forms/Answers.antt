use Rattle.std.proofs.Common.{MatchOption, subst}
use Rattle.bt_extend.specs.inner.Told.{BeginsWithForm, BeginsWithNoForm}
use Rattle.bt_extend.proofs.DefinitionTexts.{second_told}
use Rattle.bt_extend.proofs.reading.read_forms.Goals as goal

pub returns-in-Ok-Some : goal.returns-in-Ok-Some
returns-in-Ok-Some c =
    let begins = subst (λ o. MatchOption o (BeginsWithNoForm c.args.text.now) (λ read. BeginsWithForm c.args.text.now read.0 read.1.now)) c.in-Ok-Some.field-0-is c.in-Ok-Some.ensures in
    second_told c.args.text.now c.in-Ok-Some.rest.now c.in-Ok-Some.first begins c.read_second.result c.read_second.ensures
