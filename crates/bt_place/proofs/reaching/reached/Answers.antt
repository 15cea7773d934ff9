use Rattle.std.proofs.Common.{◌<◌, ap, ◌∙◌, subst}
use Rattle.bt_place.specs.inner.Grid.{spots_in}
use Rattle.bt_place.proofs.Marking.{start_reached}
use Rattle.bt_place.proofs.reaching.reached.Goals as goal

pub mark_from-requires-clause-reached : goal.mark_from-requires-clause-reached
mark_from-requires-clause-reached c =
    start_reached c.args.reading.now c.requires c.loop-i.i
    (subst (λ n. c.loop-i.i < n) (c.spots-count.ensures.spots ∙ ap spots_in c.rect.ensures.rect) c.loop-i-test.true)
    (c.starts.ensures.0 c.if-starts.true)
