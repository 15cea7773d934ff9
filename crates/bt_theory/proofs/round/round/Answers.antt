use Rattle.std.proofs.Common.{map, subst, sym}
use Rattle.std.specs.List.{All}
use Rattle.bt_theory.specs.inner.Scopes.{IsScopeOf, parts_of}
use Rattle.bt_sat.specs.Answering.{GivesNext}
use Rattle.bt_theory.specs.inner.Bases.{IsBase}
use Rattle.bt_theory.proofs.Rounds.{ready_next, refuted_round, spent_round}
use Rattle.bt_theory.proofs.round.round.Goals as goal

pub try_model-requires-clause-ready : goal.try_model-requires-clause-ready
try_model-requires-clause-ready g c =
    ready_next c.args.base.now c.args.solver.now.kernel c.next_model.new.self.kernel c.args.tableau.now (map g.C.Chooser.told_clauses c.args.solver.now.choosers.items)
    (map g.C.Chooser.told_clauses c.next_model.new.self.choosers.items) c.requires.ready c.in_ok-next_model.field-0 c.in_ok-next_model.ensures.given

pub try_model-requires-clause-base : goal.try_model-requires-clause-base
try_model-requires-clause-base g c = subst (IsBase c.args.base.now) (sym c.in_ok-next_model.ensures.given.goes_on.formula) c.requires.base

pub try_model-requires-clause-scopes : goal.try_model-requires-clause-scopes
try_model-requires-clause-scopes g c =
    subst (λ f. All (IsScopeOf f) (map parts_of c.args.scopes.now)) (sym c.in_ok-next_model.ensures.given.goes_on.formula) c.requires.scopes

pub returns-in-Refuted-clause-round : goal.returns-in-Refuted-clause-round
returns-in-Refuted-clause-round g c =
    let old = c.args.solver.now.kernel in
    let new = c.next_model.new.self.kernel in
    let waiting = map g.C.Chooser.told_clauses c.args.solver.now.choosers.items in
    let left = map g.C.Chooser.told_clauses c.next_model.new.self.choosers.items in
    refuted_round c.args.base.now old new c.args.tableau.now waiting left c.requires.ready c.args.pivots
    (subst (GivesNext old waiting new left) c.in-Refuted.is c.in_ok-next_model.ensures.given)

pub returns-in-Spent-clause-round : goal.returns-in-Spent-clause-round
returns-in-Spent-clause-round g c =
    let old = c.args.solver.now.kernel in
    let new = c.next_model.new.self.kernel in
    let waiting = map g.C.Chooser.told_clauses c.args.solver.now.choosers.items in
    let left = map g.C.Chooser.told_clauses c.next_model.new.self.choosers.items in
    spent_round c.args.base.now old new c.args.tableau.now waiting left c.requires.ready c.args.pivots (subst (GivesNext old waiting new left) c.in-Spent.is c.in_ok-next_model.ensures.given)
