use Rattle.std.proofs.Common.{subst, sym, ap, ◌∙◌, inr, ⊎_elim}
use Rattle.std.proofs.lemmas.Bool.{iff_false}
use Rattle.bt_parts.specs.Cells.{opposite}
use Rattle.bt_model.specs.inner.Sight.{IsSeen}
use Rattle.bt_recover.proofs.sight.is_seen_aside.Goals as goal

pub returns-else-is_seen : goal.returns-else-is_seen
returns-else-is_seen c =
    let right = c.opposite.ensures ∙ ap (λ d. opposite d) c.left-else-is_seen.ensures in (
      λ t. inr (subst (λ d. IsSeen c.args.grid.now c.args.cell d) right (c.is_seen-else-is_seen.ensures.0 t)),
      λ seen. ⊎_elim
          (λ l. absurd (iff_false c.is_seen.ensures c.if-is_seen.false (subst (λ d. IsSeen c.args.grid.now c.args.cell d) (sym c.left.ensures) l)))
          (λ r. c.is_seen-else-is_seen.ensures.1 (subst (λ d. IsSeen c.args.grid.now c.args.cell d) (sym right) r))
          seen,
    )
