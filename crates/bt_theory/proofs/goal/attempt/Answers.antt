use Rattle.std.proofs.Common.{map, subst}
use Rattle.bt_sat.specs.Answering.{Assumes}
use Rattle.bt_theory.proofs.Goals.{assumed_on, assumed_refuted, assumed_spent}
use Rattle.bt_theory.proofs.goal.attempt.Goals as goal

pub ask-requires-clause-fits : goal.ask-requires-clause-fits
ask-requires-clause-fits g c =
    let old = c.args.solver.now.kernel in
    let new = c.assume.new.self.kernel in
    let waiting = map g.C.Chooser.told_clauses c.args.solver.now.choosers.items in
    let left = map g.C.Chooser.told_clauses c.assume.new.self.choosers.items in
    (assumed_on old new waiting left c.requires.fits c.in_ok-assume.field-0 c.in_ok-assume.ensures.given).fits

pub returns-in-Follows-clause-tried : goal.returns-in-Follows-clause-tried
returns-in-Follows-clause-tried g c =
    let old = c.args.solver.now.kernel in
    let new = c.assume.new.self.kernel in
    let waiting = map g.C.Chooser.told_clauses c.args.solver.now.choosers.items in
    let left = map g.C.Chooser.told_clauses c.assume.new.self.choosers.items in
    assumed_on old new waiting left c.requires.fits c.in_ok-assume.field-0 c.in_ok-assume.ensures.given

pub returns-in-Refuted-clause-tried : goal.returns-in-Refuted-clause-tried
returns-in-Refuted-clause-tried g c =
    let old = c.args.solver.now.kernel in
    let new = c.assume.new.self.kernel in
    let waiting = map g.C.Chooser.told_clauses c.args.solver.now.choosers.items in
    let left = map g.C.Chooser.told_clauses c.assume.new.self.choosers.items in
    assumed_refuted old new waiting left c.requires.fits c.args.pivots (subst (Assumes old waiting new left) c.in-Refuted.is c.in_ok-assume.ensures.given)

pub returns-in-Spent-clause-tried : goal.returns-in-Spent-clause-tried
returns-in-Spent-clause-tried g c =
    let old = c.args.solver.now.kernel in
    let new = c.assume.new.self.kernel in
    let waiting = map g.C.Chooser.told_clauses c.args.solver.now.choosers.items in
    let left = map g.C.Chooser.told_clauses c.assume.new.self.choosers.items in
    assumed_spent old new waiting left c.requires.fits c.args.pivots (subst (Assumes old waiting new left) c.in-Spent.is c.in_ok-assume.ensures.given)
