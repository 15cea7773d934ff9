use Rattle.std.proofs.Common.{sym, subst, ◌∙◌}
use Rattle.std.specs.List.{All}
use Rattle.bt_farkas.specs.FalseSums.{MayWeigh}
use Rattle.bt_farkas.specs.WeightedRows.{weighted}
use Rattle.bt_cert.specs.inner.Weighing.{rows_of}
use Rattle.bt_cert.proofs.AtomRows.{length-picked}
use Rattle.bt_cert.proofs.lemma.may_weigh_picked.Goals as goal

pub returns-then-weights-picks : goal.returns-then-weights-picks
returns-then-weights-picks c =
    let rows = rows_of c.args.formula.now in
    let picks = c.args.picks.now in
    let weights = c.args.weights.now in (
      λ may. record {
        counted = c.if-weights-picks.true ∙ sym (length-picked rows picks);
        weights_fit = subst (λ xs. All MayWeigh (weighted xs picks weights)) c.rows.ensures.value (c.may_weigh.ensures.0 may);
      },
      λ may. c.may_weigh.ensures.1 (subst (λ xs. All MayWeigh (weighted xs picks weights)) (sym c.rows.ensures.value) may.weights_fit),
    )
