use Rattle.std.proofs.Common.{◌≡◌, take}
use Rattle.bt_grids.proofs.again.gives_of.Given as goal

-- the edges that the splitters so far prefer
abbrev pub invariant-loop-splitter : goal.invariant-loop-splitter
invariant-loop-splitter l = l.gives.items ≡ take l.splitter l.net.gives
