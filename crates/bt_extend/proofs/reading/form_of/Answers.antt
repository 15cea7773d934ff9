use Rattle.std.proofs.Common.{◌≡◌, MatchOption, subst}
use Rattle.bt_extend.specs.inner.Told.{TellNoTerms, words_of}
use Rattle.bt_extend.proofs.FormTexts.{form_told}
use Rattle.bt_extend.proofs.TermWords.{columns_placed}
use Rattle.bt_extend.proofs.reading.form_of.Goals as goal

pub returns-in-Some : goal.returns-in-Some
returns-in-Some c =
    let told = subst (λ o. MatchOption o (TellNoTerms c.args.words.now) (λ terms. c.args.words.now ≡ words_of terms.items)) c.in-Some.is c.in_ok-terms.ensures in
    form_told c.args.number c.args.words.now c.in-Some.terms.items c.new.result told c.new.ensures

pub returns-in-None : goal.returns-in-None
returns-in-None c form ok same e =
    let none = subst (λ o. MatchOption o (TellNoTerms c.args.words.now) (λ terms. c.args.words.now ≡ words_of terms.items)) c.in-None.is c.in_ok-terms.ensures in
    none form.terms (columns_placed form ok) e
