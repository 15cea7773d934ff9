use Rattle.std.proofs.Common.{◌≡◌, arith}
use Rattle.std.specs.Prelude.{None}
use Rattle.bt_net.specs.Network.{give_of, take_of}
use Rattle.bt_layout.proofs.Bare.{below_more}
use Rattle.bt_layout.proofs.preferring.prefers_any.Goals as goal

pub loop-splitter-preserved : goal.loop-splitter-preserved
loop-splitter-preserved c =
    below_more (λ k. (give_of c.args.net.now k ≡ None) × (take_of c.args.net.now k ≡ None)) c.loop-splitter.splitter c.loop-splitter.invariant
    (c.prefers.ensures.give c.if-prefers.false, c.prefers.ensures.take c.if-prefers.false)

pub returns : goal.returns
returns c = λ f k lt.
    let ended = c.loop-splitter-test.false in
    c.loop-splitter.invariant k (omega (arith, lt, ended, c.splitters-splitter-end.ensures))
