use Rattle.std.proofs.Common.{ap, sym, ◌∙◌}
use Rattle.bt_farkas.specs.WeightedRows.{coefficient_at}
use Rattle.bt_linear_forms.specs.inner.Forms.{form_terms}
use Rattle.bt_linear_forms.proofs.Indicators.{number_has}
use Rattle.bt_linear_forms.proofs.line.Line.number_at.Goals as goal

pub returns-in-Fractions-clause-known : goal.returns-in-Fractions-clause-known
returns-in-Fractions-clause-known c =
    number_has c.args.position c.args.self.now c.found.result c.known.ensures.numbers
    (c.found.ensures ∙ ap (λ l. coefficient_at c.args.position l) (c.deref.ensures.value ∙ ap form_terms (sym c.in-Fractions.is) ∙ c.self.view_is))
