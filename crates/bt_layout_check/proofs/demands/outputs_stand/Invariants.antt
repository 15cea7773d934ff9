use Rattle.std.proofs.Common.{ℕ, ◌<◌}
use Rattle.bt_net.specs.declared.network.End.TheVariants.{Output}
use Rattle.bt_model.specs.Laying.{StandsAtSide}
use Rattle.bt_layout_check.specs.Laid.{naming_of}
use Rattle.bt_layout_check.proofs.demands.outputs_stand.Given as goal

-- all outputs so far stand at the side
abbrev pub invariant-loop-k : goal.invariant-loop-k
invariant-loop-k l = (j : ℕ) → j < l.k → StandsAtSide l.parts l.rect (naming_of l.names) l.dir (Output j)
