use Rattle.std.proofs.Common.{◌<◌, ap, sym, ◌∙◌, subst}
use Rattle.bt_parts.specs.Cells.{steps}
use Rattle.bt_place.specs.inner.Grid.{spots_in, cell_numbered}
use Rattle.bt_place.proofs.Cells.{spot_within, spot_numbered}
use Rattle.bt_place.proofs.grid.ahead.Goals as goal

pub returns-then-inside : goal.returns-then-inside
returns-then-inside c =
    let inside = c.inside.ensures.0 c.if-inside.true in (
      subst (λ x. x < spots_in c.args.rect) (sym c.spot.ensures) (spot_within c.args.rect c.ahead-there.result inside),
      ap (cell_numbered c.args.rect) c.spot.ensures
          ∙ spot_numbered c.args.rect c.ahead-there.result inside
          ∙ c.ahead-there.ensures ∙ ap (steps c.args.distance c.args.dir) c.cell_of.ensures,
    )
