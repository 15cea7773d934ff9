use Rattle.std.proofs.Common.{List, ℕ, ◌∙◌, drop, length, sym, subst}
use Rattle.std.specs.Prelude.{Contains}
use Rattle.std.specs.List.Sorted.{IsPermutation}
use Rattle.std.proofs.lemmas.List.{with_items_is}
use Rattle.bt_choosers.specs.Orders.{HasFirst}
use Rattle.bt_choosers.proofs.Listing.{first_permuted}
use Rattle.bt_choosers.proofs.order.Order.is_arranged.Goals as goal

pub invariant_of-self : goal.invariant_of-self
invariant_of-self g c =
    let vars = c.self.inside.vars in
    let new : List ℕ = c.source_of-self-inside.new.vars in
    let is = with_items_is vars new (c.source_of-self-inside.auto.vars ∙ c.deref_mut.ensures.len) in
    let same : IsPermutation vars.items new = subst (λ (xs : List ℕ). IsPermutation xs new) c.deref_mut.ensures.value c.source_of-self-inside.ensures.same in
    subst (λ (xs : List ℕ). HasFirst (length xs) xs) (sym is) (first_permuted vars.items new same c.self.invariant)

pub returns : goal.returns
returns g c =
    let vars = c.self.inside.vars in
    let new : List ℕ = c.source_of-self-inside.new.vars in
    let at = c.self.inside.at in
    let left = c.source_of-self-inside.new.at in
    let is = with_items_is vars new (c.source_of-self-inside.auto.vars ∙ c.deref_mut.ensures.len) in
    λ v among.
    let there : Contains (drop at vars.items) v = subst (λ (xs : List ℕ). Contains xs v) (sym c.self.view_is) among in
    let before = subst (λ (xs : List ℕ). Contains (drop at xs) v) (sym c.deref_mut.ensures.value) there in
    subst (λ (xs : List ℕ). Contains (drop left xs) v) (sym is) (c.source_of-self-inside.ensures.left v before)
