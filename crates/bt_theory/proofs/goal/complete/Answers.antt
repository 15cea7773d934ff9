use Rattle.std.proofs.Common.{ℕ, ap, length, map, subst, ◌∙◌}
use Rattle.bt_log.specs.Logs.{LogParts}
use Rattle.std.proofs.lemmas.Result.{IfOk-weaker}
use Rattle.bt_sat.specs.Answering.{GivesNext}
use Rattle.bt_theory.specs.inner.Goals.{IsTry}
use Rattle.bt_theory.proofs.Goals.{given_on, given_refuted, given_spent, grown_try, then_try}
use Rattle.bt_theory.proofs.goal.complete.Goals as goal

pub returns-in-Refuted : goal.returns-in-Refuted
returns-in-Refuted g c = λ pivots.
    let old = c.args.solver.now.kernel in
    let new = c.next_model.new.self.kernel in
    let waiting = map g.C.Chooser.told_clauses c.args.solver.now.choosers.items in
    let left = map g.C.Chooser.told_clauses c.next_model.new.self.choosers.items in
    given_refuted old new waiting left c.requires.fits pivots (subst (GivesNext old waiting new left) c.in-Refuted.is c.in_ok-next_model.ensures.given)

pub returns-in-Spent : goal.returns-in-Spent
returns-in-Spent g c = λ pivots.
    let old = c.args.solver.now.kernel in
    let new = c.next_model.new.self.kernel in
    let waiting = map g.C.Chooser.told_clauses c.args.solver.now.choosers.items in
    let left = map g.C.Chooser.told_clauses c.next_model.new.self.choosers.items in
    given_spent old new waiting left c.requires.fits pivots (subst (GivesNext old waiting new left) c.in-Spent.is c.in_ok-next_model.ensures.given)

pub add-requires-clause-fits : goal.add-requires-clause-fits
add-requires-clause-fits g c =
    let old = c.args.solver.now.kernel in
    let new = c.next_model.new.self.kernel in
    let waiting = map g.C.Chooser.told_clauses c.args.solver.now.choosers.items in
    let left = map g.C.Chooser.told_clauses c.next_model.new.self.choosers.items in
    (given_on old new waiting left c.requires.fits c.in_ok-next_model.field-0 c.in_ok-next_model.ensures.given).fits

pub returns-then-are_negated : goal.returns-then-are_negated
returns-then-are_negated g c =
    let old = c.args.solver.now.kernel in
    let mid = c.next_model.new.self.kernel in
    let new = c.add.new.solver.kernel in
    let waiting = map g.C.Chooser.told_clauses c.args.solver.now.choosers.items in
    let left = map g.C.Chooser.told_clauses c.next_model.new.self.choosers.items in
    let on = given_on old mid waiting left c.requires.fits c.in_ok-next_model.field-0 c.in_ok-next_model.ensures.given in
    IfOk-weaker c.add.result (λ tried. (pivots : ℕ) → IsTry pivots mid new tried) (λ tried. (pivots : ℕ) → IsTry pivots old new tried)
    (λ tried is pivots. then_try pivots old mid new tried on (is pivots)) c.add.ensures

pub returns : goal.returns
returns g c = λ pivots.
    let old = c.args.solver.now.kernel in
    let new = c.next_model.new.self.kernel in
    let waiting = map g.C.Chooser.told_clauses c.args.solver.now.choosers.items in
    let left = map g.C.Chooser.told_clauses c.next_model.new.self.choosers.items in
    let on = given_on old new waiting left c.requires.fits c.in_ok-next_model.field-0 c.in_ok-next_model.ensures.given in
    grown_try pivots old new c.len-before.result c.len.result c.once_more.result on (c.len-before.ensures ∙ ap (λ (l : LogParts). length l.steps) c.log.ensures)
    (c.len.ensures ∙ ap (λ (l : LogParts). length l.steps) c.log-else-are_negated.ensures) c.once_more.ensures
