use Rattle.std.proofs.Common.{◌-◌, false, get_or, subst}
use Rattle.std.proofs.lemmas.Bool.{false≢true}
use Rattle.bt_cnf.specs.Units.{clause_at}
use Rattle.bt_cert.specs.inner.Refuting.{IsPropagated}
use Rattle.bt_cert.proofs.Walks.{hint_inside, walks_no_more, walk_ends, told}
use Rattle.bt_cert.proofs.units.refute.Goals as goal

pub propagate-requires-clause-inside : goal.propagate-requires-clause-inside
propagate-requires-clause-inside c =
    hint_inside c.args.known.now.clauses c.args.hints.now c.in-Some.units.now c.in-Some.last.now c.loop-hint.hint-index c.requires.hints c.in-Some.ensures.cases.0 c.loop-hint-test.true

pub returns-then-not-branch-clause-refuted : goal.returns-then-not-branch-clause-refuted
returns-then-not-branch-clause-refuted c =
    let known = c.args.known.now in
    let hints = c.args.hints.now in
    let units = c.in-Some.units.now in
    let last = c.in-Some.last.now in
    let i = c.loop-hint.hint-index in
    let clause = clause_at known.clauses (get_or units i 0 - 1) in
    let unit = subst (IsPropagated c.loop-hint.assumed clause c.propagate.new.assumed) c.if-not-branch.true c.in_ok-propagate.ensures.unit in
    told known c.args.assumed.now hints units last false c.requires.sound c.requires.hints c.requires.size c.in-Some.ensures.cases.0 (
      λ yes. absurd (false≢true yes),
      λ propagates. absurd (walks_no_more known c.loop-hint.assumed c.propagate.new.assumed units i (clause_at known.clauses (last - 1)) c.loop-hint-test.true unit (c.loop-hint.invariant.left.0 propagates)),
    )

pub returns-clause-refuted : goal.returns-clause-refuted
returns-clause-refuted c =
    let known = c.args.known.now in
    let hints = c.args.hints.now in
    let units = c.in-Some.units.now in
    let last = c.in-Some.last.now in
    told known c.args.assumed.now hints units last c.are_false.result c.requires.sound c.requires.hints c.requires.size c.in-Some.ensures.cases.0
    (walk_ends known c.args.assumed.now c.loop-hint.assumed units c.loop-hint.hint-index last c.place_of.result c.in-Some-get.clause.now c.are_false.result c.loop-hint-test.false
    c.place_of.ensures c.in-Some-get.ensures.some.value c.are_false.ensures c.loop-hint.invariant.left)
