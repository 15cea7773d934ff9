use Rattle.bt_model.specs.Chains.{IsSplitter, IsInput, IsOutput}
use Rattle.bt_recover.specs.inner.Ends.{ListsUpTo}
use Rattle.bt_recover.proofs.ends.listed.Given as goal

abbrev pub invariant-loop-i : goal.invariant-loop-i
invariant-loop-i l = record {
  splitters : ListsUpTo (IsSplitter l.grid) l.splitters.items l.i;
  inputs : ListsUpTo (IsInput l.grid) l.inputs.items l.i;
  outputs : ListsUpTo (IsOutput l.grid) l.outputs.items l.i;
}
