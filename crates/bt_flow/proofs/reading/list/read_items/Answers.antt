use Rattle.std.proofs.Common.{◌≡◌, ℕ, ◌≤◌, List, [], ◌∷◌, length, refl, sym, ◌∙◌, subst, arith}
use Rattle.std.proofs.lemmas.Bool.{eqb-true}
use Rattle.std.proofs.lemmas.List.Elements.{All-nil}
use Rattle.std.proofs.lemmas.Result.{err_from_is_err_and}
use Rattle.bt_flow.specs.StateLines.{SpellsItems}
use Rattle.bt_flow.proofs.Words.{walk_more, walk_misses, walk_ends}
use Rattle.bt_flow.proofs.reading.list.read_items.Goals as goal

pub returns-in_default-clause-err : goal.returns-in_default-clause-err
returns-in_default-clause-err g c =
    (refl, walk_misses g.T.Item.can_stand g.T.Item.word c.requires _ _ _ _ _ c.loop.invariant c.loop-test.true c.in_default.ensures.none)

pub loop-preserved : goal.loop-preserved
loop-preserved g c =
    rw c.in_ok-push.ensures.items
    (walk_more g.T.Item.can_stand g.T.Item.word c.requires _ _ _ _ _ _ _ c.loop.invariant c.loop-test.true c.in-Some.ensures.some)

nothing_left : (rest : List ℕ) → length rest ≡ 0 → rest ≡ []
nothing_left [] e = refl
nothing_left (b ∷ rest) e = absurd (omega arith)

pub returns-then-is_empty-clause-ok : goal.returns-then-is_empty-clause-ok
returns-then-is_empty-clause-ok g c =
    let high : c.loop.counter ≤ c.args.count = let l = c.loop.auto.counter-end in omega (arith, l) in
    let low : c.args.count ≤ c.loop.counter = let l = c.loop-test.false in omega (arith, l) in
    walk_ends g.T.Item.can_stand g.T.Item.word _ _ _ _ _ c.loop.invariant (omega arith)
    (nothing_left c.loop.rest.now (eqb-true (length c.loop.rest.now) 0 (sym c.is_empty.ensures ∙ c.if-is_empty.true)))

pub loop-init : goal.loop-init
loop-init g c = rw c.new-items.ensures.items (record {
  counted = refl;
  meets = All-nil g.T.Item.can_stand;
  front = refl;
  later = λ all spells. (all, subst (λ left. SpellsItems g.T.Item.can_stand g.T.Item.word left c.args.text.now all) (omega arith) spells);
})

pub returns-in_err-push-clause-err : goal.returns-in_err-push-clause-err
returns-in_err-push-clause-err g c =
    let p = err_from_is_err_and c.from_residual.result c.from_residual.ensures.1 in
    rw (p.1, p.2) tt
