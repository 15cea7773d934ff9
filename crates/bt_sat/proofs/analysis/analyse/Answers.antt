use Rattle.std.proofs.Common.{◌≡◌, arith, length, subst}
use Rattle.bt_sat.specs.inner.Analysing.{IsTracing}
use Rattle.bt_sat.specs.inner.LoggedFormula.{clauses_in}
use Rattle.bt_sat.proofs.Deriving
use Rattle.bt_sat.proofs.analysis.analyse.Goals as goal

pub loop-place-init : goal.loop-place-init
loop-place-init c =
    let s = c.args.search.now in
    let size : length s.assignment.trail.items ≡ c.len-bound.result = omega (arith, c.len-bound.ensures) in
    subst (λ n. IsTracing (clauses_in c.args.known.now) s c.in_ok-conflict_level.conflict_level c.begin.new.analysis.agenda c.begin.new.analysis.picked.items n c.begin.new.analysis.hints.items) size c.in_ok-conflict_level.ensures

pub deal-requires-clause-taken : goal.deal-requires-clause-taken
deal-requires-clause-taken c = record {
  before = c.loop-place.analysis.agenda;
  bound = c.loop-place.bound;
  tracing = c.loop-place.invariant;
  takes = c.in-Some.ensures;
}

pub loop-place-smaller : goal.loop-place-smaller
loop-place-smaller c = c.loop-place.invariant.derived.before c.in-Some.place c.in-Some.ensures.0.0

pub returns : goal.returns
returns c =
    Deriving.learnt (clauses_in c.args.known.now) c.args.search.now c.requires.ordered c.in_ok-conflict_level.conflict_level c.loop-place.analysis.agenda c.loop-place.analysis.picked.items c.loop-place.analysis.hints.items
    c.reverse.new.self.items c.loop-place.bound c.loop-place.invariant c.in_default.ensures c.reverse.ensures.items
