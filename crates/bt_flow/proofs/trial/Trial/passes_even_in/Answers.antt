use Rattle.std.proofs.Common.{◌<◌, true, false, length, get_or, sym, subst, refl, ◌∙◌}
use Rattle.bt_flow.specs.declared.judgement.Test.TheVariants as test
use Rattle.bt_flow.specs.declared.ports.Port.TheVariants.{Unused}
use Rattle.bt_flow.specs.declared.ports.Role.TheVariants.{Into}
use Rattle.bt_flow.specs.inner.Trials.{Decides}
use Rattle.bt_flow.proofs.Adding.{no_edge}
use Rattle.bt_flow.proofs.Each.{port_within}
use Rattle.bt_flow.proofs.Numbers.{number_fits}
use Rattle.bt_flow.proofs.Sharing.{evens_none, evens_at, evens_any, enters-split, enters-output}
use Rattle.bt_flow.proofs.trial.Trial.passes_even_in.Goals as goal

pub shares_at-requires-clause-port : goal.shares_at-requires-clause-port
shares_at-requires-clause-port c =
    let n = c.self.inside.net.now in
    let a = c.args.edge in
    let e = get_or c.edges.result.now a no_edge in
    let k = c.in-Split.splitter in
    let l : a < length n.edges = subst (λ x. a < length x.network.edges) (sym c.self.view_is) c.requires in
    let m : a < length c.edges.result.now = subst (λ x. a < length x) (sym c.edges.ensures.edges) l in
    let few = number_fits n Into c.edges.ensures.network c.edges.result.now a k no_edge c.edges.ensures.edges m (λ m. enters-split e k m c.in-Split.is) in
    port_within n Into k (get_or c.self.inside.ports.into k Unused) (c.self.invariant.ports.into.at k few Unused)

pub returns-then-merges_any : goal.returns-then-merges_any
returns-then-merges_any c =
    let n = c.self.inside.net.now in
    let a = c.args.edge in
    let e = get_or c.edges.result.now a no_edge in
    let k = c.in-Split.splitter in
    let l : a < length n.edges = subst (λ x. a < length x.network.edges) (sym c.self.view_is) c.requires in
    let m : a < length c.edges.result.now = subst (λ x. a < length x) (sym c.edges.ensures.edges) l in
    let few = number_fits n Into c.edges.ensures.network c.edges.result.now a k no_edge c.edges.ensures.edges m (λ m. enters-split e k m c.in-Split.is) in
    let port = get_or c.self.inside.ports.into k Unused in
    subst (λ v. Decides c.args.self.now test.EvenIn a v) (sym c.if-merges_any.true)
    (subst (λ x. Decides x test.EvenIn a true) c.self.view_is
    (λ s h.
    evens_any n s c.edges.result.now a no_edge c.edges.ensures.edges l Into false k port (λ m. enters-split e k m c.in-Split.is) (c.self.invariant.ports.into.at k few Unused)
    refl (sym c.merges_any.ensures ∙ c.if-merges_any.true)))

pub returns-else-merges_any : goal.returns-else-merges_any
returns-else-merges_any c =
    let n = c.self.inside.net.now in
    let a = c.args.edge in
    let e = get_or c.edges.result.now a no_edge in
    let k = c.in-Split.splitter in
    let l : a < length n.edges = subst (λ x. a < length x.network.edges) (sym c.self.view_is) c.requires in
    let m : a < length c.edges.result.now = subst (λ x. a < length x) (sym c.edges.ensures.edges) l in
    let few = number_fits n Into c.edges.ensures.network c.edges.result.now a k no_edge c.edges.ensures.edges m (λ m. enters-split e k m c.in-Split.is) in
    let port = get_or c.self.inside.ports.into k Unused in
    subst (λ x. Decides x test.EvenIn a c.shares_at.result) c.self.view_is
    (λ s h.
    evens_at n s c.edges.result.now a no_edge c.edges.ensures.edges l Into false k port (λ m. enters-split e k m c.in-Split.is) (c.self.invariant.ports.into.at k few Unused)
    (λ none. (none, sym c.merges_any.ensures ∙ c.if-merges_any.false)) c.shares_at.result (rw (← c.take.ensures) (c.shares_at.ensures s h)))

pub returns-in-Output : goal.returns-in-Output
returns-in-Output c =
    let n = c.self.inside.net.now in
    let a = c.args.edge in
    let e = get_or c.edges.result.now a no_edge in
    let l : a < length n.edges = subst (λ x. a < length x.network.edges) (sym c.self.view_is) c.requires in
    subst (λ x. Decides x test.EvenIn a true) c.self.view_is
    (λ s h. evens_none n s c.edges.result.now a no_edge c.edges.ensures.edges l Into false (λ k. enters-output e c.in-Output.field-0 k c.in-Output.is))
