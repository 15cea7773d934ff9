use Rattle.std.proofs.Common.{arith, subst}
use Rattle.bt_net.specs.PinText.{IsDemandHere, IsBlockHere}
use Rattle.bt_net.specs.inner.Lines.{ItemsEnd}
use Rattle.bt_net.proofs.reading.read_items.Goals as goal

pub returns : goal.returns
returns c =
    let n = c.args.wiring.now in
    let demands = c.in_ok-demands.ensures.read in
    let blocks = c.in_ok-blocks.ensures.read in
    record {
      count = c.in_ok-found.found.count;
      after_priorities = c.in_ok-found.found.rest.now;
      priorities_end = c.in_ok-found.ensures.read;
      after_demands = c.in_ok-demands.behind_demands.now;
      demands_end = subst (λ k. ItemsEnd (IsDemandHere c.args.admitted n) k c.in_ok-found.found.rest.now c.in_ok-demands.demands.items c.in_ok-demands.behind_demands.now) (omega arith) demands;
      blocks_end = subst (λ k. ItemsEnd (IsBlockHere c.args.admitted) k c.in_ok-demands.behind_demands.now c.in_ok-blocks.blocks.items c.in_ok-blocks.rest.now) (omega arith) blocks;
      number_is = omega arith;
    }
