use Rattle.std.proofs.Common.{◌<◌, true, length, get_or, sym, subst}
use Rattle.bt_flow.specs.declared.judgement.Test.TheVariants as test
use Rattle.bt_flow.specs.declared.ports.Port.TheVariants.{Unused}
use Rattle.bt_flow.specs.declared.ports.Role.TheVariants.{OutOf}
use Rattle.bt_flow.specs.inner.Trials.{Decides}
use Rattle.bt_flow.proofs.Adding.{no_edge}
use Rattle.bt_flow.proofs.Each.{port_within}
use Rattle.bt_flow.proofs.Numbers.{number_fits}
use Rattle.bt_flow.proofs.Sharing.{evens_none, evens_at, leaves-split, leaves-input}
use Rattle.bt_flow.proofs.trial.Trial.passes_even_out.Goals as goal

pub shares_at-requires-clause-port : goal.shares_at-requires-clause-port
shares_at-requires-clause-port c =
    let n = c.self.inside.net.now in
    let a = c.args.edge in
    let e = get_or c.edges.result.now a no_edge in
    let k = c.in-Split.splitter in
    let l : a < length n.edges = subst (λ x. a < length x.network.edges) (sym c.self.view_is) c.requires in
    let m : a < length c.edges.result.now = subst (λ x. a < length x) (sym c.edges.ensures.edges) l in
    let few = number_fits n OutOf c.edges.ensures.network c.edges.result.now a k no_edge c.edges.ensures.edges m (λ m. leaves-split e k m c.in-Split.is) in
    port_within n OutOf k (get_or c.self.inside.ports.out_of k Unused) (c.self.invariant.ports.out_of.at k few Unused)

pub returns-in-Split : goal.returns-in-Split
returns-in-Split c =
    let n = c.self.inside.net.now in
    let a = c.args.edge in
    let e = get_or c.edges.result.now a no_edge in
    let k = c.in-Split.splitter in
    let l : a < length n.edges = subst (λ x. a < length x.network.edges) (sym c.self.view_is) c.requires in
    let m : a < length c.edges.result.now = subst (λ x. a < length x) (sym c.edges.ensures.edges) l in
    let few = number_fits n OutOf c.edges.ensures.network c.edges.result.now a k no_edge c.edges.ensures.edges m (λ m. leaves-split e k m c.in-Split.is) in
    let port = get_or c.self.inside.ports.out_of k Unused in
    subst (λ x. Decides x test.EvenOut a c.shares_at.result) c.self.view_is
    (λ s h.
    evens_at n s c.edges.result.now a no_edge c.edges.ensures.edges l OutOf true k port (λ m. leaves-split e k m c.in-Split.is) (c.self.invariant.ports.out_of.at k few Unused)
    (λ none. none) c.shares_at.result (rw (← c.give.ensures) (c.shares_at.ensures s h)))

pub returns-in-Input : goal.returns-in-Input
returns-in-Input c =
    let n = c.self.inside.net.now in
    let a = c.args.edge in
    let e = get_or c.edges.result.now a no_edge in
    let l : a < length n.edges = subst (λ x. a < length x.network.edges) (sym c.self.view_is) c.requires in
    subst (λ x. Decides x test.EvenOut a true) c.self.view_is
    (λ s h. evens_none n s c.edges.result.now a no_edge c.edges.ensures.edges l OutOf true (λ k. leaves-input e c.in-Input.field-0 k c.in-Input.is))
