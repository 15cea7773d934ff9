use Rattle.std.proofs.Common.{◌≡◌, take, subst, arith}
use Rattle.std.specs.List.{All}
use Rattle.bt_cnf.specs.Assignments.{truth_in}
use Rattle.bt_cnf.specs.Meeting.{MeetsClause}
use Rattle.bt_theory.proofs.Chosen.{one_more}
use Rattle.bt_theory.proofs.choosing.meets_clauses.Goals as goal

pub loop-place-preserved : goal.loop-place-preserved
loop-place-preserved c =
    one_more (MeetsClause (truth_in c.args.assignment.now)) c.args.formula.now.clauses c.loop-place.place c.in-Some.id c.clause.result.now c.clause.ensures.value c.in-Some.ensures.some
    c.loop-place.invariant (c.is_met.ensures c.if-not-is_met.false)

pub returns : goal.returns
returns c = λ _.
    let end : c.loop-place.place ≡ c.args.clauses = omega arith in
    subst (λ n. All (MeetsClause (truth_in c.args.assignment.now)) (take n c.args.formula.now.clauses)) end c.loop-place.invariant
