use Rattle.std.proofs.Common.{◌≡◌, ◌+◌, ◌∷◌, [], ◌++◌, ℕ, length, map, ap, ◌∙◌, arith}
use Rattle.std.specs.List.{range_with_len}
use Rattle.bt_flow_formula.specs.Numbering.{rows_in}
use Rattle.bt_flow_formula.specs.Pairs.{pair_clause, side_pairs}
use Rattle.bt_flow_formula.specs.Columns.{edges_at}
use Rattle.bt_flow_formula.specs.inner.Variables.{side_rows}
use Rattle.bt_arena.proofs.Loops.{item_more}
use Rattle.bt_flow_formula.proofs.Kept.{side_more, side_few}
use Rattle.bt_flow_formula.proofs.variables.starts.Goals as goal

pub overflow_add-next : goal.overflow_add-next
overflow_add-next c =
    let at = c.loop-splitter.invariant.0 in
    let few = side_few c.args.net.now c.args.side c.loop-splitter.splitter in
    let more = c.rows_at-next.ensures.few in
    let splitters = c.requires.ports.network.few_splitters in
    omega (arith, at, few, more, splitters)

pub loop-splitter-preserved : goal.loop-splitter-preserved
loop-splitter-preserved c =
    let n = c.args.net.now in
    let side = c.args.side in
    let k = c.loop-splitter.splitter in
    let at = c.loop-splitter.invariant.0 in
    let rows = c.rows_at-next.ensures.rows side k in
    let same = ap (λ l. length (rows_in (map pair_clause (side_pairs c.preferred_at-preferred.result side k l)))) c.port_at.ensures
    ∙ ap (λ o. length (rows_in (map pair_clause (side_pairs o side k (edges_at n side k))))) c.preferred_at-preferred.ensures in
    let more = side_more n side k in (
      omega (arith, at, rows, same, more),
      item_more (λ j. c.args.first + side_rows n side j) [] c.loop-splitter.starts.items c.push.new.self.items k c.loop-splitter.invariant.1
          (c.in_ok-push.ensures.items ∙ ap (λ a. c.loop-splitter.starts.items ++ a ∷ []) at),
    )

pub returns : goal.returns
returns c =
    let n = c.args.net.now in
    let k = c.loop-splitter.splitter in
    let f : ℕ → ℕ = λ j. c.args.first + side_rows n c.args.side j in
    let all = item_more f [] c.loop-splitter.starts.items c.push-2.new.self.items k c.loop-splitter.invariant.1
    (c.in_ok-push-2.ensures.items ∙ ap (λ a. c.loop-splitter.starts.items ++ a ∷ []) c.loop-splitter.invariant.0) in
    let last : k ≡ n.splitters = omega arith in
    all ∙ ap (λ m. map f (range_with_len 0 (m + 1))) last
