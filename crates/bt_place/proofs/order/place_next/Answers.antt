use Rattle.std.proofs.Common.{◌≡◌, map, ap, ◌∙◌, arith}
use Rattle.bt_place.specs.Numbering.{joining, first_most}
use Rattle.bt_place.specs.inner.Order.{next_place}
use Rattle.bt_place.proofs.Ordering.{next_within}
use Rattle.bt_place.proofs.order.place_next.Goals as goal

pub remove-requires : goal.remove-requires
remove-requires c =
    let edges = c.args.edges.now in
    let placed = c.args.placed.now.items in
    let left = c.args.left.now.items in
    let same : c.first_most-place.result ≡ next_place edges placed left = c.first_most-place.ensures
    ∙ ap (λ p. first_most (map (joining edges p) c.deref-2.result.now)) c.deref.ensures.value
    ∙ ap (λ l. first_most (map (joining edges placed) l)) c.deref-2.ensures.value in
    let within = next_within edges placed left c.requires in
    omega (arith, same, within)
