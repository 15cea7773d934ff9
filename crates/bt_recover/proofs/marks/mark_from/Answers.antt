use Rattle.std.proofs.Common.{◌<◌, length, set, true, false, sym, ◌∙◌, subst, ⊎_elim, arith}
use Rattle.std.proofs.lemmas.List.{get_or_read}
use Rattle.bt_recover.specs.inner.Marks.{IsMarked}
use Rattle.bt_recover.proofs.MarkLemmas.{marking_first, marking_more, marking_stops, marking_joins, marked_here, marked_still}
use Rattle.bt_recover.proofs.marks.mark_from.Goals as goal

pub loop-marks-init : goal.loop-marks-init
loop-marks-init c = marking_first c.args.grid.now c.args.marks.now.items c.args.start c.requires.marks c.requires.within c.requires.link c.requires.free

pub returns-in_default-clause-marks : goal.returns-in_default-clause-marks
returns-in_default-clause-marks c =
    marking_stops c.args.grid.now c.args.marks.now.items c.loop-marks.marks.items c.args.start c.loop-marks.i c.loop-marks.invariant c.in_default.ensures.next

pub loop-marks-preserved : goal.loop-marks-preserved
loop-marks-preserved c =
    marking_more c.args.grid.now c.requires.orderly c.args.marks.now.items c.loop-marks.marks.items c.args.start c.loop-marks.i c.in-Some.next c.loop-marks.invariant
    c.in-Some.ensures.next c.in-Some.ensures.within

pub returns-in_default-clause-keeps : goal.returns-in_default-clause-keeps
returns-in_default-clause-keeps c = λ k marked.
    let before = c.loop-marks.invariant in
    marked_still c.loop-marks.marks.items c.loop-marks.i (omega (arith, before.within, before.count)) k (before.keeps k marked)

pub returns-in_default-clause-start : goal.returns-in_default-clause-start
returns-in_default-clause-start c =
    let before = c.loop-marks.invariant in
    let marks = c.loop-marks.marks.items in
    let within : c.loop-marks.i < length marks = omega (arith, before.within, before.count) in
    ⊎_elim (λ marked. marked_still marks c.loop-marks.i within c.args.start marked)
    (λ same. subst (λ k. IsMarked (set marks c.loop-marks.i true) k) same (marked_here marks c.loop-marks.i within)) before.started

pub returns-clause-marks : goal.returns-clause-marks
returns-clause-marks c =
    let before = c.loop-marks.invariant in
    let marks = c.loop-marks.marks.items in
    let marked : IsMarked marks c.loop-marks.i =
    sym (get_or_read marks c.loop-marks.i c.index.result.now (omega (arith, before.within, before.count)) c.index.ensures false) ∙ c.loop-marks-test.false in
    marking_joins c.args.grid.now c.args.marks.now.items marks c.args.start c.loop-marks.i before marked

pub returns-clause-keeps : goal.returns-clause-keeps
returns-clause-keeps c = c.loop-marks.invariant.keeps

pub returns-clause-start : goal.returns-clause-start
returns-clause-start c =
    let before = c.loop-marks.invariant in
    let marks = c.loop-marks.marks.items in
    let marked : IsMarked marks c.loop-marks.i =
    sym (get_or_read marks c.loop-marks.i c.index.result.now (omega (arith, before.within, before.count)) c.index.ensures false) ∙ c.loop-marks-test.false in
    ⊎_elim (λ had. had) (λ same. subst (λ k. IsMarked marks k) same marked) before.started
