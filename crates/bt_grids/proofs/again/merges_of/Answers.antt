use Rattle.std.proofs.Common.{◌++◌, ◌∷◌, [], false, ap, ◌∙◌, arith}
use Rattle.std.proofs.lemmas.List.{take_all}
use Rattle.bt_grids.proofs.Copied.{one_more}
use Rattle.bt_grids.proofs.again.merges_of.Goals as goal

pub loop-splitter-preserved : goal.loop-splitter-preserved
loop-splitter-preserved c =
    let count = c.requires.prioritised.merges_each in
    let lt = c.loop-splitter-test.true in
    c.in_ok-push.ensures.items ∙ ap (λ any. c.loop-splitter.merges.items ++ any ∷ []) c.merges_any.ensures
    ∙ one_more false c.args.net.now.merges c.loop-splitter.merges.items c.loop-splitter.splitter (omega (arith, count, lt, c.splitters-splitter-end.ensures)) c.loop-splitter.invariant

pub returns : goal.returns
returns c =
    let count = c.requires.prioritised.merges_each in
    let ended = c.loop-splitter-test.false in
    c.loop-splitter.invariant ∙ take_all c.loop-splitter.splitter c.args.net.now.merges (omega (arith, count, ended, c.splitters-splitter-end.ensures, c.loop-splitter.auto.splitter-end))
