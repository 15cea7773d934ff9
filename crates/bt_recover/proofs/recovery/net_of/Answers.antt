use Rattle.std.proofs.Common.{subst, sym, arith}
use Rattle.std.specs.Prelude.{Ok, Err}
use Rattle.bt_net.specs.Network.{IsNetOf, IsWired}
use Rattle.bt_recover.specs.inner.Edges.{naming_of, net_with}
use Rattle.bt_recover.specs.inner.Refused.{IsNetTold}
use Rattle.bt_recover.proofs.NetworkLemmas.{net_same, size_told}
use Rattle.bt_recover.proofs.recovery.net_of.Goals as goal

pub new-requires : goal.new-requires
new-requires c =
    let n = c.args.names.now in
    subst (λ net. IsWired net)
    (sym (net_same (naming_of n) c.args.edges.items c.len-inputs.result c.len-outputs.result c.len-splitters.result (omega (arith, n.inputs.ok.0)) (omega (arith, n.outputs.ok.0)) (omega (arith, n.splitters.ok.0))))
    c.requires.wired

pub returns-in-Ok : goal.returns-in-Ok
returns-in-Ok c =
    let n = c.args.names.now in
    subst (λ net. IsNetOf net (Ok c.in-Ok.net))
    (net_same (naming_of n) c.args.edges.items c.len-inputs.result c.len-outputs.result c.len-splitters.result (omega (arith, n.inputs.ok.0)) (omega (arith, n.outputs.ok.0)) (omega (arith, n.splitters.ok.0)))
    c.in-Ok.ensures.right

pub returns-in-Err : goal.returns-in-Err
returns-in-Err c =
    let n = c.args.names.now in
    subst (λ fault. IsNetTold (net_with (naming_of n) c.args.edges.items) (Err fault)) (sym c.size_fault.ensures)
    (size_told (net_with (naming_of n) c.args.edges.items) c.in-Err.fault
    (subst (λ net. IsNetOf net (Err c.in-Err.fault))
    (net_same (naming_of n) c.args.edges.items c.len-inputs.result c.len-outputs.result c.len-splitters.result (omega (arith, n.inputs.ok.0)) (omega (arith, n.outputs.ok.0)) (omega (arith, n.splitters.ok.0)))
    c.in-Err.ensures.right))
