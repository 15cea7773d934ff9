use Rattle.std.proofs.Common.{map, refl, subst, None, Some}
use Rattle.bt_sat.specs.inner.Choices.{DecidesUntilConflict}
use Rattle.bt_sat.specs.inner.Searching.{SearchesOn, LearnsAndTells}
use Rattle.bt_sat.proofs.Searched.{searches_end, searches_kept, searches_none, searches_step, kept_next}
use Rattle.bt_sat.proofs.cdcl.find_model.Goals as goal

pub loop-conflict-init : goal.loop-conflict-init
loop-conflict-init g c =
    let f = g.C.Chooser.told_clauses in
    let p = c.args.progress.now in
    record {
      on = searches_none p (map f c.args.choosers.now);
      running = c.requires;
      kept = record { formula = refl; first = refl };
    }

pub returns-in-Some-2-clause-searches : goal.returns-in-Some-2-clause-searches
returns-in-Some-2-clause-searches g c =
    let f = g.C.Chooser.told_clauses in
    let start = map f c.args.choosers.now in
    let before = map f c.loop-conflict.choosers in
    let down = map f c.decide_until_conflict.new.choosers in
    let after = map f c.learn_and_tell.new.choosers in
    let d = subst (DecidesUntilConflict c.loop-conflict.progress c.decide_until_conflict.new.progress) c.in-Some.is c.in_ok-conflict.ensures.decides in
    let m : LearnsAndTells c.decide_until_conflict.new.progress down c.learn_and_tell.new.progress after (Some c.in-Some-2.found) = subst (LearnsAndTells c.decide_until_conflict.new.progress down c.learn_and_tell.new.progress after) c.in-Some-2.is c.in_ok-found.ensures.learns in
    let on : SearchesOn c.args.progress.now start c.decide_until_conflict.new.progress down =
    searches_kept c.args.progress.now c.loop-conflict.progress c.decide_until_conflict.new.progress start before down c.loop-conflict.invariant.on d.0 c.in_ok-conflict.ensures.same in
    searches_end c.args.progress.now c.decide_until_conflict.new.progress c.learn_and_tell.new.progress start down after c.in-Some-2.found on m

pub loop-conflict-preserved : goal.loop-conflict-preserved
loop-conflict-preserved g c =
    let f = g.C.Chooser.told_clauses in
    let start = map f c.args.choosers.now in
    let before = map f c.loop-conflict.choosers in
    let down = map f c.decide_until_conflict.new.choosers in
    let after = map f c.learn_and_tell.new.choosers in
    let d = subst (DecidesUntilConflict c.loop-conflict.progress c.decide_until_conflict.new.progress) c.in-Some.is c.in_ok-conflict.ensures.decides in
    let m : LearnsAndTells c.decide_until_conflict.new.progress down c.learn_and_tell.new.progress after None = subst (LearnsAndTells c.decide_until_conflict.new.progress down c.learn_and_tell.new.progress after) c.in_default-2.is c.in_ok-found.ensures.learns in
    let on : SearchesOn c.args.progress.now start c.decide_until_conflict.new.progress down =
    searches_kept c.args.progress.now c.loop-conflict.progress c.decide_until_conflict.new.progress start before down c.loop-conflict.invariant.on d.0 c.in_ok-conflict.ensures.same in
    let now : SearchesOn c.args.progress.now start c.learn_and_tell.new.progress after = searches_step c.args.progress.now c.decide_until_conflict.new.progress c.learn_and_tell.new.progress start down after on m.0 in
    record {
      on = now;
      running = m.1;
      kept = kept_next c.args.progress.now c.loop-conflict.progress c.learn_and_tell.new.progress c.loop-conflict.invariant.kept (kept_next c.loop-conflict.progress c.decide_until_conflict.new.progress c.learn_and_tell.new.progress c.in_ok-conflict.ensures.kept c.in_ok-found.ensures.kept);
    }
