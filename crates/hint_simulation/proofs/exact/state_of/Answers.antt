use Rattle.std.proofs.Common.{◌≡◌, ◌∙◌, ap, subst, length, Option, Vec, Global, IfSome}
use Rattle.std.proofs.lemmas.Slice.Zip.{AllZip-long}
use Rattle.bt_frac.specs.Ratio.{Ratio}
use Rattle.hint_simulation.specs.Simulations.{IsWithinCap}
use Rattle.hint_simulation.proofs.exact.state_of.Goals as goal

pub with_flows-requires-clause-flows : goal.with_flows-requires-clause-flows
with_flows-requires-clause-flows c =
    let flows = c.args.found.now.simulated.flows.items in
    let solved = subst (λ (o : Option (Vec Ratio Global)). IfSome o (λ v. length v.items ≡ length c.in_ok-simulated.simulated.items)) c.in-Some.is c.in_ok-flows.ensures in
    solved ∙ c.in_ok-simulated.ensures ∙ ap length c.deref.ensures.value ∙ AllZip-long IsWithinCap c.args.net.now.edges flows c.requires.simulated.flows
