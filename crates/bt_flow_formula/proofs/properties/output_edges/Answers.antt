use Rattle.std.proofs.Common.{◌<◌, ◌-◌, ◌^◌, ◌∷◌, [], ◌++◌, ◌∙◌, ap, sym, subst, arith}
use Rattle.std.specs.List.{All}
use Rattle.std.proofs.lemmas.List.Elements.{All-append}
use Rattle.bt_flow.specs.EndEdges.{output_edge}
use Rattle.bt_arena.proofs.Loops.{item_more}
use Rattle.bt_flow_formula.proofs.Numbers.{all_from}
use Rattle.bt_flow_formula.proofs.properties.output_edges.Goals as goal

pub loop-output-preserved : goal.loop-output-preserved
loop-output-preserved c =
    let n = c.args.net.now in
    let k = c.loop-output.output in
    let added = c.in_ok-push.ensures.items in
    let small : c.output_edge.result < 2 ^ 64 - 1 = let s = c.output_edge.ensures.small in omega (arith, s) in (
      item_more (output_edge n) [] c.loop-output.edges.items c.push.new.self.items k c.loop-output.invariant.0
          (added ∙ ap (λ a. c.loop-output.edges.items ++ a ∷ []) c.output_edge.ensures.edge),
      subst (All (λ a. a < 2 ^ 64 - 1)) (sym added)
          (All-append (λ a. a < 2 ^ 64 - 1) c.loop-output.edges.items (c.output_edge.result ∷ []) c.loop-output.invariant.1 (all_from (λ a. a < 2 ^ 64 - 1) (c.output_edge.result ∷ []) (small, tt))),
    )
