use Rattle.std.proofs.Common.{inl, inr, refl, alloc_error}
use Rattle.bt_print.specs.Replies.{UnlessLarge}
use Rattle.bt_top.specs.Searching.{IsSearched}
use Rattle.bt_designs.proofs.InTurns.{weaker}
use Rattle.bt_top.proofs.AskedOfAny.{has_formula_then, has_none_else}
use Rattle.bt_top.proofs.smallest.smallest_unless_large.Goals as goal

pub returns-then-has : goal.returns-then-has
returns-then-has c =
    let r = c.args.request.now in
    weaker alloc_error (IsSearched c.args.first c.args.learnt r) (UnlessLarge (IsSearched c.args.first c.args.learnt) r) _
    (λ reply h. inl (has_formula_then r c.in_ok-has.has c.in_ok-has.ensures c.if-has.true, h)) c.smallest_of.ensures

pub returns-else-has : goal.returns-else-has
returns-else-has c = rw c.refused.ensures (inr (has_none_else c.args.request.now c.in_ok-has.has c.in_ok-has.ensures c.if-has.false, refl))
