use Rattle.std.proofs.Common.{Fits, w64, ap, rules, arith}
use Rattle.bt_flow_formula.proofs.Leveled.{level_count}
use Rattle.bt_flow_formula.proofs.level.add_level_of.Goals as goal

pub add_some-requires : goal.add_some-requires
add_some-requires c =
    let vars = ap (λ f. f.vars) c.in_ok-add_level_rows.ensures in
    let rows = level_count c.args.net.now c.args.end in
    let first = c.vars-first.ensures.value in
    let count = c.end_count-count.ensures.count in
    omega (arith, vars, rows, first, count)

pub add_implied-requires : goal.add_implied-requires
add_implied-requires c =
    let vars = ap (λ f. f.vars) c.in_ok-add_some.ensures in
    let before = ap (λ f. f.vars) c.in_ok-add_level_rows.ensures in
    let rows = level_count c.args.net.now c.args.end in
    let first = c.vars-first.ensures.value in
    let count = c.end_count-count.ensures.count in
    omega (arith, vars, before, rows, first, count)

pub overflow_add-first : goal.overflow_add-first
overflow_add-first c =
    let fits : Fits w64 c.vars-vars.result = search rules in
    let all = c.vars-vars.ensures.value in
    let vars = ap (λ f. f.vars) c.in_ok-add_level_rows.ensures in
    let rows = level_count c.args.net.now c.args.end in
    let first = c.vars-first.ensures.value in
    let count = c.end_count-count.ensures.count in
    omega (arith, fits, all, vars, rows, first, count)

pub add_some-requires-2 : goal.add_some-requires-2
add_some-requires-2 c =
    let vars = ap (λ f. f.vars) c.in_ok-add_implied.ensures in
    let some = ap (λ f. f.vars) c.in_ok-add_some.ensures in
    let before = ap (λ f. f.vars) c.in_ok-add_level_rows.ensures in
    let rows = level_count c.args.net.now c.args.end in
    let first = c.vars-first.ensures.value in
    let count = c.end_count-count.ensures.count in
    omega (arith, vars, some, before, rows, first, count)
