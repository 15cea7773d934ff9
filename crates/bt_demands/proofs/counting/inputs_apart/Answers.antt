use Rattle.std.proofs.Common.{◌+◌, not, ◌∙◌, ap, sym, arith}
use Rattle.bt_demands.specs.Classes.{is_through}
use Rattle.bt_facts.proofs.Drawn.{counted_yes, counted_no}
use Rattle.bt_demands.proofs.counting.inputs_apart.Goals as goal
use Rattle.bt_demands.proofs.counting.inputs_apart.Goals.{then-is_apart, else-is_apart}

pub loop-input-preserved : goal.loop-input-preserved
loop-input-preserved c =
    let r = c.args.request.now in
    let n = c.loop-input.input in
    let le = c.loop-input.invariant.0 in
    let is = c.loop-input.invariant.1 in
    elim c.if-is_apart.branch [
      | then-is_apart w ↦ (
        (let more = w.count-is in omega (arith, le, more)),
        w.count-is ∙ ap (λ k. k + 1) is ∙ sym (counted_yes (λ i. not (is_through r i)) n (sym c.is_apart.ensures ∙ w.if-is_apart.true)),
      )
      | else-is_apart w ↦ (
        (let same = w.count-is in omega (arith, le, same)),
        w.count-is ∙ is ∙ (let more = counted_no (λ i. not (is_through r i)) n (sym c.is_apart.ensures ∙ w.if-is_apart.false) in omega (arith, more)),
      )
    ]
