use Rattle.std.proofs.Common.{◌≡◌, Some, None, ap, sym, ◌∙◌, subst}
use Rattle.bt_farkas.specs.WeightedRows.{coefficient_at}
use Rattle.bt_linear_forms.specs.Shorts.{Ascend, reduced, whole_at}
use Rattle.bt_linear_forms.proofs.ShortWalks.{short_ascends}
use Rattle.bt_linear_forms.proofs.Shorts.{number_is}
use Rattle.bt_linear_forms.proofs.short.Short.names.Goals as goal

pub whole_at-requires : goal.whole_at-requires
whole_at-requires c = subst (λ l. Ascend l) (sym c.deref.ensures.value) (short_ascends c.self.inside.under c.self.inside.terms.items c.self.invariant)

pub returns-in-Some-clause-named : goal.returns-in-Some-clause-named
returns-in-Some-clause-named c told none =
    let is : Some (reduced c.in-Some.field-0 c.self.inside.under) ≡ coefficient_at c.args.position c.args.self.now =
    number_is c.args.position c.self.inside.under c.self.inside.terms.items c.args.self.now (Some c.in-Some.field-0) c.self.view_is
    (sym c.in-Some.is ∙ c.whole_at.ensures ∙ ap (λ l. whole_at c.args.position l) c.deref.ensures.value) in
    cc

pub returns-in-None-clause-lacks : goal.returns-in-None-clause-lacks
returns-in-None-clause-lacks c told =
    sym (number_is c.args.position c.self.inside.under c.self.inside.terms.items c.args.self.now None c.self.view_is
    (sym c.in-None.is ∙ c.whole_at.ensures ∙ ap (λ l. whole_at c.args.position l) c.deref.ensures.value))
