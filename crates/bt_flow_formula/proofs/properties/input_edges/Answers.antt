use Rattle.std.proofs.Common.{◌<◌, ◌-◌, ◌^◌, ◌∷◌, [], ◌++◌, ◌∙◌, ap, sym, subst, arith}
use Rattle.std.specs.List.{All}
use Rattle.std.proofs.lemmas.List.Elements.{All-append}
use Rattle.bt_flow.specs.EndEdges.{input_edge}
use Rattle.bt_arena.proofs.Loops.{item_more}
use Rattle.bt_flow_formula.proofs.Numbers.{all_from}
use Rattle.bt_flow_formula.proofs.properties.input_edges.Goals as goal

pub loop-input-preserved : goal.loop-input-preserved
loop-input-preserved c =
    let n = c.args.net.now in
    let k = c.loop-input.input in
    let added = c.in_ok-push.ensures.items in
    let small : c.input_edge.result < 2 ^ 64 - 1 = let s = c.input_edge.ensures.small in omega (arith, s) in (
      item_more (input_edge n) [] c.loop-input.edges.items c.push.new.self.items k c.loop-input.invariant.0
          (added ∙ ap (λ a. c.loop-input.edges.items ++ a ∷ []) c.input_edge.ensures.edge),
      subst (All (λ a. a < 2 ^ 64 - 1)) (sym added)
          (All-append (λ a. a < 2 ^ 64 - 1) c.loop-input.edges.items (c.input_edge.result ∷ []) c.loop-input.invariant.1 (all_from (λ a. a < 2 ^ 64 - 1) (c.input_edge.result ∷ []) (small, tt))),
    )
