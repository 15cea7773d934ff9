use Rattle.std.proofs.Common.{map, subst}
use Rattle.bt_sat.specs.Answering.{Assumes}
use Rattle.bt_sat.specs.declared.answer.Assumed.TheVariants as assumed
use Rattle.bt_sat.proofs.Ended
use Rattle.bt_sat.proofs.kernel.Kernel.assume.Goals as goal

pub returns-in-Refuted-clause-given : goal.returns-in-Refuted-clause-given
returns-in-Refuted-clause-given g c =
    let f = g.C.Chooser.told_clauses in
    let waiting = map f c.args.choosers.now.items in
    let p = c.self.inside.progress in
    subst (λ s. Assumes s waiting s waiting assumed.Refuted) c.self.view_is (Ended.assumed_refuted p c.self.inside.stage waiting c.in-Refuted.is c.self.invariant.stands)

pub returns-in-Spent-clause-given : goal.returns-in-Spent-clause-given
returns-in-Spent-clause-given g c =
    let f = g.C.Chooser.told_clauses in
    let waiting = map f c.args.choosers.now.items in
    let p = c.self.inside.progress in
    subst (λ s. Assumes s waiting s waiting assumed.Spent) c.self.view_is (Ended.assumed_spent p c.self.inside.stage waiting c.in-Spent.is c.self.invariant.stands)
