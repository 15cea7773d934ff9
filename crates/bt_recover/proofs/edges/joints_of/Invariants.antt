use Rattle.bt_recover.specs.inner.Edges.{HasEdges, IsJoint, naming_of}
use Rattle.bt_recover.proofs.Done.{InputsDone, SplittersDone}
use Rattle.bt_recover.proofs.edges.joints_of.Given as goal

abbrev pub invariant-loop-k : goal.invariant-loop-k
invariant-loop-k l = HasEdges l.grid (IsJoint l.grid (naming_of l.names)) (InputsDone l.names.inputs.items l.k) l.joints.items

abbrev pub invariant-loop-k-2 : goal.invariant-loop-k-2
invariant-loop-k-2 l = HasEdges l.grid (IsJoint l.grid (naming_of l.names)) (SplittersDone l.names.splitters.items l.k) l.joints.items
