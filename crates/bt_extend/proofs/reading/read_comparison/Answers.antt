use Rattle.std.proofs.Common.{MatchOption, subst}
use Rattle.bt_extend.specs.inner.Told.{BeginsWithForm, BeginsWithNoForm}
use Rattle.bt_extend.proofs.DefinitionTexts.{more_whole, no_comparison, none_whole, some_left}
use Rattle.bt_extend.proofs.reading.read_comparison.Goals as goal

pub returns-else-is_empty : goal.returns-else-is_empty
returns-else-is_empty c =
    let begins = subst (λ o. MatchOption o (BeginsWithNoForm c.args.text.now) (λ read. BeginsWithForm c.args.text.now read.0 read.1.now)) c.in-Ok-Some.field-0-is c.in-Ok-Some.ensures in
    no_comparison c.args.text.now (more_whole c.args.text.now c.in-Ok-Some.rest.now c.in-Ok-Some.form begins
    (some_left c.in-Ok-Some.rest.now c.is_empty.result c.is_empty.ensures c.if-is_empty.false))

pub returns-in-Ok-None : goal.returns-in-Ok-None
returns-in-Ok-None c =
    let none = subst (λ o. MatchOption o (BeginsWithNoForm c.args.text.now) (λ read. BeginsWithForm c.args.text.now read.0 read.1.now)) c.in-Ok-None.field-0-is c.in-Ok-None.ensures in
    no_comparison c.args.text.now (none_whole c.args.text.now none)
