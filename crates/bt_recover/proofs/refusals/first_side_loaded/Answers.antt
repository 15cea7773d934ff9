use Rattle.std.proofs.Common.{below_more, ap, length, arith}
use Rattle.std.proofs.lemmas.Bool.{iff_false}
use Rattle.bt_recover.proofs.RefusalLemmas.{side_loaded_within}
use Rattle.bt_recover.proofs.refusals.first_side_loaded.Goals as goal

pub loop-i-preserved : goal.loop-i-preserved
loop-i-preserved c = below_more _ _ c.loop-i.invariant (iff_false c.is_side_loaded.ensures c.if-is_side_loaded.false)

pub returns-clause-none : goal.returns-clause-none
returns-clause-none c = λ i bad. c.loop-i.invariant i (omega (arith, ap length c.parts-i-end.ensures.value, side_loaded_within c.args.grid.now i bad)) bad
