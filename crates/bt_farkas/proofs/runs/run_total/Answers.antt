use Rattle.bt_farkas.proofs.RunTotals.{run_stops, run_wide, run_more}
use Rattle.bt_farkas.proofs.runs.run_total.Goals as goal

pub returns-then-limit-entry : goal.returns-then-limit-entry
returns-then-limit-entry c =
    run_stops c.args.weights.now c.args.run.now c.args.limit c.loop-entry.entry-index c.entry-item.result c.loop-entry.sum c.loop-entry-test.true c.entry-item.is
    c.if-limit-entry.true c.loop-entry.invariant.below c.loop-entry.invariant.runs

pub returns-in_default : goal.returns-in_default
returns-in_default c = (
  c.if-limit-entry.false,
  run_wide c.args.weights.now c.args.run.now c.loop-entry.entry-index c.entry-item.result c.index-weights-entry.result c.loop-entry.sum c.loop-entry-test.true c.entry-item.is
      c.requires c.index-weights-entry.is c.loop-entry.invariant.runs c.in_default.ensures.none,
)

pub loop-entry-preserved : goal.loop-entry-preserved
loop-entry-preserved c =
    let so = run_more c.args.weights.now c.args.run.now c.args.limit c.loop-entry.entry-index c.entry-item.result c.index-weights-entry.result c.loop-entry.sum c.in-Some.next
    c.loop-entry-test.true c.entry-item.is c.requires c.index-weights-entry.is c.if-limit-entry.false c.loop-entry.invariant.below c.loop-entry.invariant.runs c.in-Some.ensures.some in
    record { below = so.below; runs = so.runs }
