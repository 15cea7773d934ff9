use Rattle.std.proofs.Common.{arith, sym, ◌∙◌}
use Rattle.bt_json.proofs.Running.{skip_one}
use Rattle.bt_json.proofs.scan.skip_blanks.Goals as goal

pub loop-at-preserved : goal.loop-at-preserved
loop-at-preserved c = record {
  from = omega arith;
  within = omega arith;
  skipped = λ s skips. skip_one c.args.bytes.now c.args.start c.loop-at.at s skips (omega arith) (sym c.is_blank.ensures ∙ c.if-is_blank.true) (c.loop-at.invariant.skipped s skips);
}
