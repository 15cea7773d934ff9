use Rattle.std.proofs.Common.{refl, inr}
use Rattle.std.proofs.lemmas.Bool.{iff_false}
use Rattle.std.proofs.lemmas.Option.{slice_get-get_or}
use Rattle.bt_model.proofs.HandLemmas.{feeds_from, feeds_second, feeds_never}
use Rattle.bt_model.proofs.giving.feeds.Goals as goal

pub returns-then-feeds_from : goal.returns-then-feeds_from
returns-then-feeds_from c = (
  λ _. (
    c.cells_of-second.result.0,
    feeds_from c.args.parts.now c.args.p c.args.q _ _ _
        (slice_get-get_or c.args.parts.now c.args.p _ c.requires.p_within) (slice_get-get_or c.args.parts.now c.args.q _ c.requires.q_within)
        (c.feeds_from.ensures.0 c.if-feeds_from.true),
  ),
  λ _. refl,
)

pub feeds_from-requires-in-Some-clause-half : goal.feeds_from-requires-in-Some-clause-half
feeds_from-requires-in-Some-clause-half c = inr ((c.cells_of-second.ensures.second c.in-Some.half).0 c.in-Some.is)

pub returns-in-Some : goal.returns-in-Some
returns-in-Some c =
    feeds_second c.args.parts.now c.args.p c.args.q _ _ c.cells_of-second.result.0 c.cells_of-second.result.1 c.in-Some.half _
    (slice_get-get_or c.args.parts.now c.args.p _ c.requires.p_within) (slice_get-get_or c.args.parts.now c.args.q _ c.requires.q_within)
    c.cells_of-second.ensures.first c.cells_of-second.ensures.second c.in-Some.is
    (iff_false c.feeds_from.ensures c.if-feeds_from.false) c.feeds_from-in-Some.ensures

pub returns-in-None : goal.returns-in-None
returns-in-None c =
    feeds_never c.args.parts.now c.args.p c.args.q _ _ c.cells_of-second.result.0 c.cells_of-second.result.1
    (slice_get-get_or c.args.parts.now c.args.p _ c.requires.p_within) (slice_get-get_or c.args.parts.now c.args.q _ c.requires.q_within)
    c.cells_of-second.ensures.first c.cells_of-second.ensures.second c.in-None.is
    (iff_false c.feeds_from.ensures c.if-feeds_from.false)
