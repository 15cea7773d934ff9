use Rattle.std.proofs.Common.{ap, sym, ◌∙◌, subst}
use Rattle.bt_linear_forms.specs.Shorts.{terms_over, IsShort}
use Rattle.bt_linear_forms.proofs.Shorts.{signed_over, signed_short}
use Rattle.bt_linear_forms.proofs.short.Short.with_sign.Goals as goal

pub invariant_of-result : goal.invariant_of-result
invariant_of-result c =
    subst (λ l. IsShort c.self.inside.under l) (sym c.signed_numbers.ensures) (signed_short c.args.negated c.self.inside.under c.self.inside.terms.items c.self.invariant)

pub returns : goal.returns
returns c =
    ap (λ l. terms_over c.self.inside.under l) c.signed_numbers.ensures
    ∙ signed_over c.args.negated c.self.inside.under c.self.inside.terms.items c.args.self c.self.invariant c.self.view_is
