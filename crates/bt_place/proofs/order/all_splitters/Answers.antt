use Rattle.std.proofs.Common.{◌≡◌, ◌+◌, ◌++◌, ◌∷◌, [], sym, ◌∙◌, ap, arith}
use Rattle.std.specs.List.{range_with_len}
use Rattle.bt_arena.proofs.Loops.{range_more}
use Rattle.bt_place.proofs.order.all_splitters.Goals as goal

pub loop-splitter-preserved : goal.loop-splitter-preserved
loop-splitter-preserved c =
    let n = c.loop-splitter.splitter in
    c.in_ok-push.ensures.items ∙ ap (λ l. l ++ n ∷ []) c.loop-splitter.invariant
    ∙ ap (λ m. range_with_len 0 n ++ m ∷ []) (let e : n ≡ 0 + n = omega arith in e) ∙ sym (range_more 0 n)
