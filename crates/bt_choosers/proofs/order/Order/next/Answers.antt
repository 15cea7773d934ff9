use Rattle.std.proofs.Common.{List, ℕ, drop, sym, subst}
use Rattle.bt_choosers.specs.inner.Orders.{FindsUnset, IsLitAt}
use Rattle.bt_choosers.specs.Orders.{HasUnset}
use Rattle.bt_choosers.proofs.Listing.{next_at}
use Rattle.bt_choosers.proofs.order.Order.next.Goals as goal

pub returns-then-is_arranged-clause-next : goal.returns-then-is_arranged-clause-next
returns-then-is_arranged-clause-next g c =
    let values = c.args.values.now in
    let vars : List ℕ = c.self.inside.vars.items in
    let place = c.pass-self-inside.result in
    let has : HasUnset values (drop c.self.inside.at vars) = subst (HasUnset values) (sym c.self.view_is) (λ v lacks. c.is_arranged.ensures v (c.requires v lacks)) in
    next_at values vars c.self.inside.at place c.literal_at.result
    (subst (λ (vs : List ℕ). FindsUnset values vs c.self.inside.at place) c.deref.ensures.value c.pass-self-inside.ensures) has
    (subst (λ (vs : List ℕ). IsLitAt vs place c.literal_at.result) c.deref-then-is_arranged.ensures.value c.literal_at.ensures)

pub returns-then-is_arranged-clause-left : goal.returns-then-is_arranged-clause-left
returns-then-is_arranged-clause-left g c =
    let values = c.args.values.now in
    let vars : List ℕ = c.self.inside.vars.items in
    let place = c.pass-self-inside.result in
    let has : HasUnset values (drop c.self.inside.at vars) = subst (HasUnset values) (sym c.self.view_is) (λ v lacks. c.is_arranged.ensures v (c.requires v lacks)) in
    let finds = subst (λ (vs : List ℕ). FindsUnset values vs c.self.inside.at place) c.deref.ensures.value c.pass-self-inside.ensures in
    λ v lacks. finds.left v lacks (has v lacks)

pub returns-in_err-list_unset-clause-left : goal.returns-in_err-list_unset-clause-left
returns-in_err-list_unset-clause-left g c = subst (HasUnset c.args.values.now) (sym c.self.view_is) (λ v lacks. c.is_arranged.ensures v (c.requires v lacks))

pub returns-clause-left : goal.returns-clause-left
returns-clause-left g c = subst (HasUnset c.args.values.now) (sym c.self.view_is) (λ v lacks. c.is_arranged.ensures v (c.requires v lacks))
