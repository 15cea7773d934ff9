use Rattle.std.proofs.Common.{◌≡◌, take}
use Rattle.bt_grids.proofs.again.merges_of.Given as goal

-- which of the splitters so far may prefer any
abbrev pub invariant-loop-splitter : goal.invariant-loop-splitter
invariant-loop-splitter l = l.merges.items ≡ take l.splitter l.net.merges
