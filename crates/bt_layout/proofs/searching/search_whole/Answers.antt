use Rattle.std.proofs.Common.{map, ap}
use Rattle.bt_log.specs.Logs.{LogParts}
use Rattle.bt_layout.proofs.Ending.{ends_within}
use Rattle.bt_layout.proofs.LeftOut.{is_over}
use Rattle.bt_layout.proofs.searching.search_whole.Goals as goal

pub searched_of-requires-clause-over : goal.searched_of-requires-clause-over
searched_of-requires-clause-over g c =
    let waiting = map g.C.Chooser.told_clauses c.in_ok-solver.solver.choosers.items in
    let left = map g.C.Chooser.told_clauses c.next_model.new.self.choosers.items in
    is_over c.args.request.now c.args.learnt c.in_ok-formula.formula c.in_ok-solver.solver.kernel c.next_model.new.self.kernel waiting left _ c.into_log.result
    c.in_ok-formula.ensures.formula c.in_ok-solver.ensures.kernel c.in_ok-answer.ensures.given c.into_log.ensures

pub searched_of-requires-clause-ends : goal.searched_of-requires-clause-ends
searched_of-requires-clause-ends g c =
    let waiting = map g.C.Chooser.told_clauses c.in_ok-solver.solver.choosers.items in
    let left = map g.C.Chooser.told_clauses c.next_model.new.self.choosers.items in (
      c.args.learnt,
      ends_within c.args.request.now c.args.learnt c.in_ok-formula.formula c.in_ok-solver.solver.kernel c.next_model.new.self.kernel waiting left _ c.into_log.result.steps
          c.in_ok-formula.ensures.request c.in_ok-formula.ensures.formula c.in_ok-solver.ensures.kernel (ap (λ (l : LogParts). l.steps) c.into_log.ensures)
          c.in_ok-answer.ensures.given,
    )

pub returns : goal.returns
returns g c =
    let waiting = map g.C.Chooser.told_clauses c.in_ok-solver.solver.choosers.items in
    let left = map g.C.Chooser.told_clauses c.next_model.new.self.choosers.items in
    c.searched_of.ensures c.args.learnt
    (ends_within c.args.request.now c.args.learnt c.in_ok-formula.formula c.in_ok-solver.solver.kernel c.next_model.new.self.kernel waiting left _ c.into_log.result.steps
    c.in_ok-formula.ensures.request c.in_ok-formula.ensures.formula c.in_ok-solver.ensures.kernel (ap (λ (l : LogParts). l.steps) c.into_log.ensures)
    c.in_ok-answer.ensures.given)
