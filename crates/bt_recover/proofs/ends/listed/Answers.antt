use Rattle.bt_model.specs.Chains.{IsSplitter, IsInput, IsOutput}
use Rattle.bt_recover.proofs.EndLemmas.{listed_step}
use Rattle.bt_recover.proofs.ends.listed.Goals as goal

pub loop-i-preserved : goal.loop-i-preserved
loop-i-preserved c = record {
  splitters = listed_step (IsSplitter c.args.grid.now) c.loop-i.splitters.items c.push_if.new.list.items c.loop-i.i c.is_splitter.result c.loop-i.invariant.splitters c.is_splitter.ensures c.in_ok-push_if.ensures;
  inputs = listed_step (IsInput c.args.grid.now) c.loop-i.inputs.items c.push_if-in-loop-i.new.list.items c.loop-i.i c.is_input.result c.loop-i.invariant.inputs c.is_input.ensures c.in_ok-push_if-2.ensures;
  outputs = listed_step (IsOutput c.args.grid.now) c.loop-i.outputs.items c.push_if-in-loop-i-2.new.list.items c.loop-i.i c.is_output.result c.loop-i.invariant.outputs c.is_output.ensures c.in_ok-push_if-3.ensures;
}
