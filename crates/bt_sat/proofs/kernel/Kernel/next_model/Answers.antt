use Rattle.std.proofs.Common.{map, subst}
use Rattle.bt_sat.specs.Answering.{GivesNext}
use Rattle.bt_sat.specs.declared.answer.Answer.TheVariants as answer
use Rattle.bt_sat.proofs.Ended
use Rattle.bt_sat.proofs.kernel.Kernel.next_model.Goals as goal

pub returns-in-Refuted-clause-given : goal.returns-in-Refuted-clause-given
returns-in-Refuted-clause-given g c =
    let f = g.C.Chooser.told_clauses in
    let waiting = map f c.args.choosers.now.items in
    let p = c.self.inside.progress in
    subst (λ s. GivesNext s waiting s waiting answer.Refuted) c.self.view_is (Ended.again_refuted p c.self.inside.stage waiting c.in-Refuted.is c.self.invariant.stands)

pub returns-in-Spent-clause-given : goal.returns-in-Spent-clause-given
returns-in-Spent-clause-given g c =
    let f = g.C.Chooser.told_clauses in
    let waiting = map f c.args.choosers.now.items in
    let p = c.self.inside.progress in
    subst (λ s. GivesNext s waiting s waiting answer.Spent) c.self.view_is (Ended.again_spent p c.self.inside.stage waiting c.in-Spent.is c.self.invariant.stands)
