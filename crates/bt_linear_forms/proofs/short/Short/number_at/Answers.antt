use Rattle.std.specs.Int.{w64}
use Rattle.std.proofs.lemmas.Int.{to_z-of_z}
use Rattle.std.proofs.Common.{FitsSigned, rules, Some, None, ap, sym, ◌∙◌, subst}
use Rattle.bt_linear_forms.specs.Lines.{IsLine}
use Rattle.bt_linear_forms.specs.Shorts.{Ascend, whole_at}
use Rattle.bt_linear_forms.proofs.ShortWalks.{short_ascends}
use Rattle.bt_linear_forms.proofs.Indicators.{number_has}
use Rattle.bt_linear_forms.proofs.Shorts.{number_is}
use Rattle.bt_linear_forms.proofs.short.Short.number_at.Goals as goal

pub whole_at-requires : goal.whole_at-requires
whole_at-requires c = subst (λ l. Ascend l) (sym c.deref.ensures.value) (short_ascends c.self.inside.under c.self.inside.terms.items c.self.invariant)

pub returns-in-Some-clause-number : goal.returns-in-Some-clause-number
returns-in-Some-clause-number c =
    let over_fits : FitsSigned w64 c.in-Some.over = search rules in
    let number = simp to_z-of_z at c.number.ensures in
    ap (λ r. Some r) number
    ∙ number_is c.args.position c.self.inside.under c.self.inside.terms.items c.args.self.now (Some c.in-Some.over) c.self.view_is
    (sym c.in-Some.is ∙ c.whole_at.ensures ∙ ap (λ l. whole_at c.args.position l) c.deref.ensures.value)

pub returns-in-Some-clause-known : goal.returns-in-Some-clause-known
returns-in-Some-clause-known c =
    let over_fits : FitsSigned w64 c.in-Some.over = search rules in
    let number = simp to_z-of_z at c.number.ensures in
    let line = subst (λ l. IsLine l) c.self.view_is c.self.invariant.line in
    number_has c.args.position c.args.self.now (Some c.number.result) line.numbers
    (ap (λ r. Some r) number
    ∙ number_is c.args.position c.self.inside.under c.self.inside.terms.items c.args.self.now (Some c.in-Some.over) c.self.view_is
    (sym c.in-Some.is ∙ c.whole_at.ensures ∙ ap (λ l. whole_at c.args.position l) c.deref.ensures.value))

pub returns-in-None-clause-number : goal.returns-in-None-clause-number
returns-in-None-clause-number c =
    number_is c.args.position c.self.inside.under c.self.inside.terms.items c.args.self.now None c.self.view_is
    (sym c.in-None.is ∙ c.whole_at.ensures ∙ ap (λ l. whole_at c.args.position l) c.deref.ensures.value)
