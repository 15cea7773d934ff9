use Rattle.std.proofs.Common.{◌≡◌, ◌<◌, length, refl, sym, ◌∙◌, ap, arith, []}
use Rattle.std.specs.List.{range_with_len}
use Rattle.std.proofs.lemmas.List.Edits.{length-remove}
use Rattle.bt_place.specs.Numbering.{ordered}
use Rattle.bt_place.specs.inner.Order.{next_place}
use Rattle.bt_place.proofs.Counting.{length_range}
use Rattle.bt_place.proofs.Ordering.{ordered_next, next_within, some_left}
use Rattle.bt_place.proofs.order.splitter_order.Goals as goal

pub loop-edges-init : goal.loop-edges-init
loop-edges-init c =
    let net = c.args.net.now in
    let left : c.in_ok-left.left.items ≡ range_with_len 0 net.splitters = c.in_ok-left.ensures ∙ ap (range_with_len 0) c.splitters.ensures in
    ap (λ p. ordered (length c.in_ok-left.left.items) net.edges p c.in_ok-left.left.items) c.new-placed.ensures.items
    ∙ ap (λ l. ordered (length l) net.edges [] l) left
    ∙ ap (λ n. ordered n net.edges [] (range_with_len 0 net.splitters)) (length_range 0 net.splitters)

pub place_next-requires : goal.place_next-requires
place_next-requires c = some_left c.loop-edges.left.len (length c.loop-edges.left.items) c.is_empty.result c.is_empty.ensures c.loop-edges-test.true (omega arith)

pub loop-edges-preserved : goal.loop-edges-preserved
loop-edges-preserved c =
    let edges = c.edges-edges.result.now in
    let same : edges ≡ c.args.net.now.edges = c.edges-edges.ensures.edges in
    let placed = c.loop-edges.placed.items in
    let left = c.loop-edges.left.items in
    let now = c.place_next.new.placed.items in
    let rest = c.place_next.new.left.items in
    let some = some_left c.loop-edges.left.len (length left) c.is_empty.result c.is_empty.ensures c.loop-edges-test.true (omega arith) in
    ap (λ e. ordered (length rest) e now rest) (sym same)
    ∙ ordered_next (length left) edges placed left now rest refl some c.in_ok-place_next.ensures.placed_now c.in_ok-place_next.ensures.left_now
    ∙ ap (λ e. ordered (length left) e placed left) same ∙ c.loop-edges.invariant

pub loop-edges-smaller : goal.loop-edges-smaller
loop-edges-smaller c =
    let edges = c.edges-edges.result.now in
    let left = c.loop-edges.left.items in
    let some = some_left c.loop-edges.left.len (length left) c.is_empty.result c.is_empty.ensures c.loop-edges-test.true (omega arith) in
    let less = length-remove left (next_place edges c.loop-edges.placed.items left) (next_within edges c.loop-edges.placed.items left some) in
    let same = ap length c.in_ok-place_next.ensures.left_now in
    let smaller : length c.place_next.new.left.items < length left = omega (arith, less, same) in
    smaller
