use Rattle.std.proofs.Common.{◌≡◌, ℕ, List, ◌<◌, ◌+◌, true, ◌∷◌, [], ◌++◌, ◌∙◌, ap, sym, subst, arith}
use Rattle.std.specs.List.{All}
use Rattle.bt_cnf.specs.declared.literal.Lit.{Lit}
use Rattle.bt_flow_formula.specs.Levels.{some_of}
use Rattle.bt_arena.proofs.Loops.{item_more}
use Rattle.bt_flow_formula.proofs.Adding.{some_below}
use Rattle.bt_flow_formula.proofs.level.add_some.Goals as goal

pub loop-place-preserved : goal.loop-place-preserved
loop-place-preserved c =
    let f : ℕ → Lit = λ k. record { var = c.args.first + k; positive = true } in
    item_more f [] c.loop-place.lits.items c.push.new.self.items c.loop-place.place c.loop-place.invariant
    (c.in_ok-push.ensures.items ∙ ap {A = ℕ} {B = List Lit} (λ v. c.loop-place.lits.items ++ record { var = v; positive = true } ∷ []) c.var_at.ensures)

pub add_clause-requires : goal.add_clause-requires
add_clause-requires c =
    let past = c.loop-place-test.false in
    let ends = c.loop-place.auto.place-end in
    let count : c.loop-place.place ≡ c.args.count = omega (arith, past, ends) in
    subst (All (λ l. l.var < c.args.formula.now.vars)) (sym (c.deref.ensures.value ∙ c.loop-place.invariant ∙ ap (some_of c.args.first) count))
    (some_below c.args.formula.now.vars c.args.first c.args.count c.requires)
