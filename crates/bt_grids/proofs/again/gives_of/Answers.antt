use Rattle.std.proofs.Common.{None, ◌++◌, ◌∷◌, [], ap, ◌∙◌, arith}
use Rattle.std.proofs.lemmas.List.{take_all}
use Rattle.bt_grids.proofs.Copied.{one_more}
use Rattle.bt_grids.proofs.again.gives_of.Goals as goal

pub loop-splitter-preserved : goal.loop-splitter-preserved
loop-splitter-preserved c =
    let count = c.requires.prioritised.gives_each in
    let lt = c.loop-splitter-test.true in
    c.in_ok-push.ensures.items ∙ ap (λ edge. c.loop-splitter.gives.items ++ edge ∷ []) c.give.ensures
    ∙ one_more None c.args.net.now.gives c.loop-splitter.gives.items c.loop-splitter.splitter (omega (arith, count, lt, c.splitters-splitter-end.ensures)) c.loop-splitter.invariant

pub returns : goal.returns
returns c =
    let count = c.requires.prioritised.gives_each in
    let ended = c.loop-splitter-test.false in
    c.loop-splitter.invariant ∙ take_all c.loop-splitter.splitter c.args.net.now.gives (omega (arith, count, ended, c.splitters-splitter-end.ensures, c.loop-splitter.auto.splitter-end))
