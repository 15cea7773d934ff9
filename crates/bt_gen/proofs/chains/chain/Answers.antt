use Rattle.std.proofs.Common.{arith}
use Rattle.bt_gen.proofs.Wired.{chain_is_network}
use Rattle.bt_gen.proofs.chains.chain.Goals as goal

pub made-requires : goal.made-requires
made-requires c =
    rw c.in_ok-edges.ensures (chain_is_network c.args.splitters (omega arith, omega arith))
