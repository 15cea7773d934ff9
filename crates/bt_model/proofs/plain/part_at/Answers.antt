use Rattle.std.proofs.Common.{below_more, arith}
use Rattle.std.proofs.lemmas.Bool.{iff_false}
use Rattle.std.proofs.lemmas.Option.{slice_get-get_or}
use Rattle.bt_parts.proofs.Places.{covers_at, within_at}
use Rattle.bt_model.proofs.plain.part_at.Goals as goal

pub loop-i-preserved : goal.loop-i-preserved
loop-i-preserved c =
    below_more _ _ c.loop-i.invariant
    (λ at. iff_false c.covers.ensures c.if-covers.false
    (covers_at c.args.parts.now c.loop-i.i _ c.args.cell (slice_get-get_or c.args.parts.now c.loop-i.i _ c.loop-i-test.true) at))

pub returns-clause-there : goal.returns-clause-there
returns-clause-there c = λ i at. c.loop-i.invariant i (omega (arith, within_at c.args.parts.now i c.args.cell at)) at
