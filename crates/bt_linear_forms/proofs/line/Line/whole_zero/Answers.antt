use Rattle.std.proofs.Common.{IfSome, ap, sym, ◌∙◌, subst}
use Rattle.bt_farkas.specs.WeightedRows.{coefficient_at}
use Rattle.bt_linear_forms.specs.Substituting.{IsZeroLine}
use Rattle.bt_linear_forms.proofs.line.Line.whole_zero.Goals as goal

pub returns-in-Some-2-clause-zero : goal.returns-in-Some-2-clause-zero
returns-in-Some-2-clause-zero c number named =
    let told = c.in_ok-zero.ensures number (ap (λ l. coefficient_at c.args.enters l) c.in-Some.ensures ∙ named) in
    let found = subst (λ o. IfSome o (IsZeroLine c.args.position c.in-Some.line.now number)) c.in-Some-2.is told in
    let here = subst (λ l. IsZeroLine c.args.position l number c.in-Some-2.zero) c.in-Some.ensures found in
    subst (λ l. IsZeroLine c.args.position c.args.self.now number l) (sym c.whole.ensures) here
