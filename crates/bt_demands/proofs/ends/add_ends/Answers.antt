use Rattle.std.proofs.Common.{◌≡◌, sym, ◌∙◌, ap, subst}
use Rattle.std.specs.List.{AllByRecursion, filter}
use Rattle.bt_facts.specs.Spots.{is_border, border_of}
use Rattle.bt_demands.specs.inner.Near.{IsDemandedNear, IsBlockedNear}
use Rattle.bt_demands.proofs.DrawnCells.{cells_near, border_near, demands_near, blocks_near}
use Rattle.bt_demands.proofs.ends.add_ends.Goals as goal

pub border_of-requires : goal.border_of-requires
border_of-requires c = cells_near c.args.request.now c.rect.ensures.request c.args.cells.now c.requires

pub add_demands-requires : goal.add_demands-requires
add_demands-requires c =
    let border : c.deref-2.result.now ≡ border_of c.args.request.now.rect = c.deref-2.ensures.value ∙ c.in_ok-border.ensures
    ∙ ap (λ rect. filter (is_border rect) c.args.cells.now) c.rect.ensures.rect ∙ ap (filter (is_border c.args.request.now.rect)) c.requires in
    let near : AllByRecursion IsDemandedNear c.args.request.now.demands = demands_near c.args.request.now c.rect.ensures.request in
    record {
      border = border;
      near = near;
      near_border = border_near c.args.request.now c.rect.ensures.request c.deref-2.result.now border;
      cells = c.requires;
      demands = subst (λ l. AllByRecursion IsDemandedNear l) (sym c.demands-demands.ensures) near;
    }

pub add_blocks-requires : goal.add_blocks-requires
add_blocks-requires c = subst (λ l. AllByRecursion IsBlockedNear l) (sym c.blocks-2.ensures) (blocks_near c.args.request.now c.rect.ensures.request)
