use Rattle.std.proofs.Common.{below_more, ap, length, arith}
use Rattle.std.proofs.lemmas.Bool.{iff_false}
use Rattle.bt_recover.proofs.RefusalLemmas.{blocked_within}
use Rattle.bt_recover.proofs.refusals.first_blocked.Goals as goal

pub loop-i-preserved : goal.loop-i-preserved
loop-i-preserved c = below_more _ _ c.loop-i.invariant (iff_false c.is_blocked.ensures c.if-is_blocked.false)

pub returns : goal.returns
returns c = λ i bad. c.loop-i.invariant i (omega (arith, ap length c.parts-i-end.ensures.value, blocked_within c.args.grid.now i bad)) bad
