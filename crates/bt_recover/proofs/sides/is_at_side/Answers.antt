use Rattle.std.proofs.Common.{◌≡◌, true, false, refl, arith}
use Rattle.bt_recover.proofs.SideLemmas.{none_more}
use Rattle.bt_recover.proofs.sides.is_at_side.Goals as goal

pub returns-then-reaches_farther : goal.returns-then-reaches_farther
returns-then-reaches_farther c = (
  λ t. absurd (let e : false ≡ true = t in cc),
  λ all. absurd (all c.loop-part.part-index _ (omega (arith, c.loop-part-test.true, c.loop-part.auto.part-index-end)) (c.if-reaches_farther.ensures.0 refl)),
)

pub loop-part-preserved : goal.loop-part-preserved
loop-part-preserved c =
    none_more c.args.parts.now c.args.dir c.args.cell c.loop-part.part-index _ c.loop-part.invariant (omega (arith, c.loop-part-test.true, c.loop-part.auto.part-index-end))
    (λ reach. let e : false ≡ true = c.if-reaches_farther.ensures.1 reach in cc)

pub returns : goal.returns
returns c = (λ t k d lt. c.loop-part.invariant k d (omega (arith, lt, c.loop-part-test.false, c.loop-part.auto.part-index-end)), λ all. refl)
