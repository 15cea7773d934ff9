use Rattle.std.proofs.Common.{◌≡◌, length}
use Rattle.bt_net.specs.declared.network.TheConstants.{MOST_OF_EACH}
use Rattle.bt_flow.proofs.Numbers.{Fill}
use Rattle.bt_flow.proofs.ports.ports_of.Given as goal

abbrev pub invariant-loop-place : goal.invariant-loop-place
invariant-loop-place l = (length l.ports ≡ MOST_OF_EACH) × Fill l.net l.role l.place l.ports
