use Rattle.std.proofs.Common.{◌≡◌, ◌∙◌, ap, sym, subst}
use Rattle.bt_linear_forms.specs.Lines.{IsLineFrom}
use Rattle.bt_pivot.specs.inner.Starts.{kept}
use Rattle.bt_pivot.proofs.FirstLines.{kept_line}
use Rattle.bt_pivot.proofs.starting.row_line.Goals as goal

pub returns-clause-line : goal.returns-clause-line
returns-clause-line c =
    let known = c.terms.ensures.known in
    let is : c.in_ok-terms.terms.items ≡ kept c.args.row.now.terms = c.in_ok-terms.ensures ∙ ap kept c.terms.ensures.value in
    subst (λ l. IsLineFrom 0 l) (sym is) (kept_line 0 c.args.row.now.terms known.columns known.coefficients)
