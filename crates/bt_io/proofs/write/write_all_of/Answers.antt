use Rattle.std.proofs.Common.{rules}
use Rattle.bt_io.proofs.Held.{appends_more, whole_rest}
use Rattle.bt_io.proofs.write.write_all_of.Goals as goal

pub loop-at-preserved : goal.loop-at-preserved
loop-at-preserved g c = record {
  within = search rules;
  written = appends_more _ _ _ c.args.text.now c.loop-at.at c.in-Ok.count c.loop-at.invariant.written (rw (whole_rest c.args.text.now c.loop-at.at) at c.in-Ok.ensures.bytes);
  count = search rules;
}
