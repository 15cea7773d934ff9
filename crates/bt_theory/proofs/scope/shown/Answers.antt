use Rattle.std.proofs.Common.{◌<◌, ◌∙◌, Ok, length, map, sym, subst, true}
use Rattle.std.specs.List.{All}
use Rattle.std.proofs.lemmas.List.Elements.{All-map}
use Rattle.bt_farkas.specs.Farkas.{IsFarkas}
use Rattle.bt_farkas.specs.WeightedRows.{weighted}
use Rattle.bt_theory.proofs.scope.shown.Goals as goal

pub farkas-requires-clause-picks : goal.farkas-requires-clause-picks
farkas-requires-clause-picks c =
    let weighed = c.args.weighed.now in
    subst (All (λ pick. pick < length c.args.rows.now)) (sym (c.deref.ensures.value ∙ c.in_ok-picks.ensures))
    (All-map (λ pick. pick < length c.args.rows.now) (λ w. w.0) weighed (subst (λ n. All (λ w. w.0 < n) weighed) c.requires.paired c.requires.below))

pub returns-in-Ok-true : goal.returns-in-Ok-true
returns-in-Ok-true c =
    let rows = c.args.rows.now in
    let picks = map (λ w. w.0) c.args.weighed.now in
    record {
      of = c.in_ok-conflict.ensures;
      accepted = subst (λ weights. IsFarkas (weighted rows picks weights) (Ok true)) (c.deref-2.ensures.value ∙ c.in_ok-conflict.ensures.1)
          (subst (λ places. IsFarkas (weighted rows places c.deref-2.result.now) (Ok true)) (c.deref.ensures.value ∙ c.in_ok-picks.ensures)
          (subst (λ b. IsFarkas (weighted rows c.deref.result.now c.deref-2.result.now) (Ok b)) c.in-Ok-true.field-0-test c.in-Ok-true.ensures.right));
    }
