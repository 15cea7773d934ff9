use Rattle.std.proofs.Common.{sym, subst}
use Rattle.bt_linear_forms.specs.Lines.{IsLineFrom}
use Rattle.bt_linear_forms.proofs.SignedLines.{negated_line}
use Rattle.bt_linear_forms.proofs.line.signed_line.Goals as goal

pub of-requires : goal.of-requires
of-requires c = subst (λ l. IsLineFrom 0 l) (sym c.in_ok-others.ensures) (negated_line 0 c.args.terms.now c.requires)
