use Rattle.std.proofs.Common.{map, subst}
use Rattle.std.specs.Prelude.{IfSome}
use Rattle.std.specs.List.{Any}
use Rattle.bt_theory.specs.inner.Scopes.{IsConflictIn, parts_of}
use Rattle.bt_theory.proofs.Goals.{possible}
use Rattle.bt_theory.proofs.goal.ask.Goals as goal

pub complete-requires-clause-conflict : goal.complete-requires-clause-conflict
complete-requires-clause-conflict g c =
    let f = c.args.solver.now.kernel.formula in
    let truths = c.args.truths.now in
    let scopes = map parts_of c.args.scopes.now in
    possible f truths c.in-Some.conflict scopes c.requires.scopes
    (subst (λ o. IfSome o (λ conflict. Any (IsConflictIn truths conflict) scopes)) c.in-Some.is c.in_ok-conflict.ensures.found)
