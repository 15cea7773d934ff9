use Rattle.std.proofs.Common.{◌≡◌, ◌+◌, arith, length, ap, ◌∙◌, refl, None, ◌∷◌, ◌++◌, [], length-append}
use Rattle.std.proofs.lemmas.List.Elements.{All-push, All-same}
use Rattle.bt_cnf.proofs.Atoms.{new_stored, new_parts}
use Rattle.bt_cnf.proofs.formula.Formula.new.Goals as goal

pub loop-preserved : goal.loop-preserved
loop-preserved c =
    let before = c.loop.places in
    let added : c.add.new.self ≡ before ++ None ∷ [] = c.in_ok-add.ensures.added.right.0 ∙ ap (λ o. before ++ o ∷ []) c.none.ensures in
    record {
      size = ap length added ∙ length-append before (None ∷ []) ∙ ap (λ n. n + 1) c.loop.invariant.size;
      none = All-same (λ o. o ≡ None) c.add.new.self (before ++ None ∷ []) added (All-push (λ o. o ≡ None) before None c.loop.invariant.none refl);
    }

pub invariant_of-result : goal.invariant_of-result
invariant_of-result c = new_stored c.loop.places _ _ _ c.places-2.view_is c.in_ok-new.ensures c.new-3.ensures.items c.loop.invariant.none

pub returns : goal.returns
returns c =
    let all : c.loop.counter ≡ c.args.vars = omega arith in
    new_parts c.loop.places _ _ _ c.args.vars c.places-2.view_is c.in_ok-new.ensures c.new-3.ensures.items c.loop.invariant.none (c.loop.invariant.size ∙ all)
