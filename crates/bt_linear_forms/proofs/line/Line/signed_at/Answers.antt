use Rattle.std.proofs.Common.{true, sym, subst}
use Rattle.bt_linear_forms.specs.Lines.{signed_terms}
use Rattle.bt_linear_forms.specs.TermSigns.{IsSignedTerm}
use Rattle.bt_linear_forms.proofs.TermSigns.{negated_term}
use Rattle.bt_linear_forms.proofs.line.Line.signed_at.Goals as goal

pub returns-then-negated : goal.returns-then-negated
returns-then-negated c =
    let told = c.sign_at-position.result in
    subst (λ n. IsSignedTerm (signed_terms n c.args.self.now) c.args.index (told.0, c.reverse.result)) (sym c.if-negated.true)
    (subst (λ o. IsSignedTerm (signed_terms true c.args.self.now) c.args.index (told.0, o)) (sym c.reverse.ensures)
    (negated_term c.args.self.now c.args.index told.0 told.1 c.requires c.sign_at-position.ensures))

pub returns-else-negated : goal.returns-else-negated
returns-else-negated c = subst (λ n. IsSignedTerm (signed_terms n c.args.self.now) c.args.index c.sign_at-position.result) (sym c.if-negated.false) c.sign_at-position.ensures
