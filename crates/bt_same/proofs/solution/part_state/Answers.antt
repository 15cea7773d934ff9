use Rattle.std.proofs.Common.{◌≡◌, ℕ, ◌+◌, List, Bool, length, map, ap, ◌∙◌, arith}
use Rattle.std.specs.List.{range_with_len}
use Rattle.bt_frac.specs.Ratio.{Ratio}
use Rattle.bt_frac.specs.Values.{value_in}
use Rattle.bt_net.specs.declared.network.Edge.{Edge}
use Rattle.bt_cnf.specs.Assignments.{truth_in}
use Rattle.bt_same.specs.SameFormula.{shifted}
use Rattle.bt_same.proofs.Solved.{part_is}
use Rattle.bt_same.proofs.solution.part_state.Goals as goal

pub returns-clause-state : goal.returns-clause-state
returns-clause-state c =
    let n = c.args.net.now in
    let mark : ℕ → Bool = λ k. truth_in c.args.assignment.now (shifted c.args.shift k) in
    let v : ℕ → Ratio = λ k. value_in c.args.values.now (shifted c.args.shift k) in
    let e = ap length c.edges-edges.ensures.edges in
    let i = c.inputs.ensures in
    let o = c.outputs.ensures in
    let count : length c.edges-edges.result.now + c.inputs.result + c.outputs.result ≡ length n.edges + n.inputs + n.outputs = omega (arith, e, i, o) in
    c.in_ok-state.ensures.state
    ∙ part_is n mark v c.deref-2.result.now c.deref.result.now
    (c.deref-2.ensures.value ∙ c.in_ok-marks.ensures ∙ ap {A = List Edge} {B = List Bool} (λ l. map mark (range_with_len 0 (length l))) c.edges-edges.ensures.edges)
    (c.deref.ensures.value ∙ c.in_ok-values.ensures ∙ ap {A = ℕ} {B = List Ratio} (λ k. map v (range_with_len 0 k)) count)
