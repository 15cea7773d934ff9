use Rattle.std.proofs.Common.{◌≡◌, ◌+◌, ◌*◌, length, ap, arith}
use Rattle.bt_flow_formula.specs.declared.state_literal.Side.TheVariants.{Out, In}
use Rattle.bt_flow_formula.specs.declared.variables.PairVars.{PairVars}
use Rattle.bt_flow_formula.specs.inner.Variables.{side_rows}
use Rattle.bt_flow_formula.proofs.Kept.{last_start, side_few, kept_all}
use Rattle.bt_flow_formula.proofs.variables.PairVars.of.Goals as goal

pub starts-requires-2-clause-small : goal.starts-requires-2-clause-small
starts-requires-2-clause-small c =
    let n = c.args.net.now in
    let first = 3 * length c.edges-edges.result.now + 2 * c.inputs-inputs.result + 2 * c.outputs.result + c.splitters-splitters.result in
    let into : c.start_at.result ≡ first + side_rows n Out n.splitters =
    last_start n Out first c.start_at.result c.splitters-splitters.result c.deref.result.now c.in_ok-out.out.items c.start_at.ensures c.deref.ensures.value c.in_ok-out.ensures c.splitters-splitters.ensures in
    let few = side_few n Out n.splitters in
    let edges = ap length c.edges-edges.ensures.edges in
    let a = c.requires.network.few_edges in
    let b = c.requires.network.few_inputs in
    let d = c.requires.network.few_outputs in
    let e = c.requires.network.few_splitters in
    omega (arith, into, few, edges, a, b, d, e)

pub overflow_add-loaded : goal.overflow_add-loaded
overflow_add-loaded c =
    let n = c.args.net.now in
    let first = 3 * length c.edges-edges.result.now + 2 * c.inputs-inputs.result + 2 * c.outputs.result + c.splitters-splitters.result in
    let into = last_start n Out first c.start_at.result c.splitters-splitters.result c.deref.result.now c.in_ok-out.out.items c.start_at.ensures c.deref.ensures.value c.in_ok-out.ensures c.splitters-splitters.ensures in
    let full = last_start n In c.start_at.result c.start_at-full.result c.splitters-splitters.result c.deref-2.result.now c.in_ok-into.into.items c.start_at-full.ensures c.deref-2.ensures.value c.in_ok-into.ensures c.splitters-splitters.ensures in
    let few = side_few n Out n.splitters in
    let more = side_few n In n.splitters in
    let edges = ap length c.edges-edges.ensures.edges in
    let a = c.requires.network.few_edges in
    let b = c.requires.network.few_inputs in
    let d = c.requires.network.few_outputs in
    let e = c.requires.network.few_splitters in
    omega (arith, into, full, few, more, edges, a, b, d, e)

pub overflow_add-filled : goal.overflow_add-filled
overflow_add-filled c =
    let n = c.args.net.now in
    let first = 3 * length c.edges-edges.result.now + 2 * c.inputs-inputs.result + 2 * c.outputs.result + c.splitters-splitters.result in
    let into = last_start n Out first c.start_at.result c.splitters-splitters.result c.deref.result.now c.in_ok-out.out.items c.start_at.ensures c.deref.ensures.value c.in_ok-out.ensures c.splitters-splitters.ensures in
    let full = last_start n In c.start_at.result c.start_at-full.result c.splitters-splitters.result c.deref-2.result.now c.in_ok-into.into.items c.start_at-full.ensures c.deref-2.ensures.value c.in_ok-into.ensures c.splitters-splitters.ensures in
    let few = side_few n Out n.splitters in
    let more = side_few n In n.splitters in
    let edges = ap length c.edges-edges.ensures.edges in
    let a = c.requires.network.few_edges in
    let b = c.requires.network.few_inputs in
    let d = c.requires.network.few_outputs in
    let e = c.requires.network.few_splitters in
    omega (arith, into, full, few, more, edges, a, b, d, e)

pub returns : goal.returns
returns c =
    let n = c.args.net.now in
    let first = 3 * length c.edges-edges.result.now + 2 * c.inputs-inputs.result + 2 * c.outputs.result + c.splitters-splitters.result in
    let into = last_start n Out first c.start_at.result c.splitters-splitters.result c.deref.result.now c.in_ok-out.out.items c.start_at.ensures c.deref.ensures.value c.in_ok-out.ensures c.splitters-splitters.ensures in
    let full = last_start n In c.start_at.result c.start_at-full.result c.splitters-splitters.result c.deref-2.result.now c.in_ok-into.into.items c.start_at-full.ensures c.deref-2.ensures.value c.in_ok-into.ensures c.splitters-splitters.ensures in
    let edges = ap length c.edges-edges.ensures.edges in
    let loaded = c.start_at-full.result + 2 * length c.edges-edges.result.now in
    let v : PairVars = record { out = c.in_ok-out.out; into = c.in_ok-into.into; full = c.start_at-full.result; loaded = loaded; filled = loaded + 2 * c.inputs-inputs.result } in
    kept_all n v first c.start_at.result (omega (arith, edges)) c.in_ok-out.ensures into c.in_ok-into.ensures full (omega (arith, edges)) (omega arith)
