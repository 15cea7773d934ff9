use Rattle.std.proofs.Common.{◌≡◌, ◌+◌, ◌-◌, ◌<◌, ◌∷◌, [], None, Some, ap, arith, length, length-append, map, refl, subst, ◌∙◌}
use Rattle.bt_log.specs.Logs.{LogParts}
use Rattle.bt_sat.specs.declared.logged_formula.LoggedFormula.{LoggedFormula}
use Rattle.bt_sat.specs.inner.Searching.{SearchesOn, LearnsAndTells}
use Rattle.bt_sat.proofs.Searched.{assumes_end, restart_keeps, restart_kept, searches_kept, searches_none, searches_step, kept_next}
use Rattle.bt_sat.proofs.assuming.assume.Goals as goal

pub loop-conflict-init : goal.loop-conflict-init
loop-conflict-init g c =
    let p = c.args.progress.now in
    let waiting = map g.C.Chooser.told_clauses c.args.choosers.now in
    let back = c.restart.ensures in
    let new = c.restart.new.progress in
    record {
      on = searches_kept p p new waiting waiting waiting (searches_none p waiting) (restart_keeps p new back) refl;
      running = back.running;
      kept = restart_kept p new back;
    }

pub returns-in-Some-2-clause-assumes : goal.returns-in-Some-2-clause-assumes
returns-in-Some-2-clause-assumes g c =
    let f = g.C.Chooser.told_clauses in
    let start = map f c.args.choosers.now in
    let before = map f c.loop-conflict.choosers in
    let after = map f c.learn_and_tell.new.choosers in
    let mid = c.make_all_false.new.progress in
    let learns : LearnsAndTells mid before c.learn_and_tell.new.progress after (Some c.in-Some-2.found) = subst (LearnsAndTells mid before c.learn_and_tell.new.progress after) c.in-Some-2.is c.in_ok-found.ensures.learns in
    let on : SearchesOn c.args.progress.now start mid before = searches_kept c.args.progress.now c.loop-conflict.progress mid start before before c.loop-conflict.invariant.on c.in_ok-conflict.ensures.propagates.keeps refl in
    assumes_end c.args.progress.now mid c.learn_and_tell.new.progress start before after c.in-Some-2.found on learns

pub loop-conflict-smaller : goal.loop-conflict-smaller
loop-conflict-smaller g c =
    let f = g.C.Chooser.told_clauses in
    let before = map f c.loop-conflict.choosers in
    let after = map f c.learn_and_tell.new.choosers in
    let first = c.loop-conflict.progress in
    let mid = c.make_all_false.new.progress in
    let new = c.learn_and_tell.new.progress in
    let last = c.restart-in-Some.new.progress in
    let learns : LearnsAndTells mid before new after None = subst (LearnsAndTells mid before new after) c.in_default-2.is c.in_ok-found.ensures.learns in
    let count : LoggedFormula → _ = λ k. length k.log.steps in
    let same : count mid.known ≡ count first.known = ap count c.in_ok-conflict.ensures.propagates.keeps.known in
    let more : count new.known ≡ count mid.known + 1 = ap length (ap (λ (l : LogParts). l.steps) learns.0.logs.log) ∙ length-append mid.known.log.steps (learns.0.step ∷ []) in
    let stays : count last.known ≡ count new.known = ap count c.restart-in-Some.ensures.known in
    let limit : last.limit ≡ first.limit = c.restart-in-Some.ensures.limit ∙ learns.0.limit ∙ c.in_ok-conflict.ensures.propagates.keeps.limit in
    let room = learns.0.room in
    let bound : mid.limit ≡ first.limit = c.in_ok-conflict.ensures.propagates.keeps.limit in
    let less : last.limit - length last.known.log.steps < first.limit - length first.known.log.steps = omega (arith, same, more, stays, limit, room, bound) in
    less

pub loop-conflict-preserved : goal.loop-conflict-preserved
loop-conflict-preserved g c =
    let f = g.C.Chooser.told_clauses in
    let start = map f c.args.choosers.now in
    let before = map f c.loop-conflict.choosers in
    let after = map f c.learn_and_tell.new.choosers in
    let p = c.args.progress.now in
    let first = c.loop-conflict.progress in
    let mid = c.make_all_false.new.progress in
    let new = c.learn_and_tell.new.progress in
    let last = c.restart-in-Some.new.progress in
    let back = c.restart-in-Some.ensures in
    let learns : LearnsAndTells mid before new after None = subst (LearnsAndTells mid before new after) c.in_default-2.is c.in_ok-found.ensures.learns in
    let on : SearchesOn p start mid before = searches_kept p first mid start before before c.loop-conflict.invariant.on c.in_ok-conflict.ensures.propagates.keeps refl in
    let now : SearchesOn p start new after = searches_step p mid new start before after on learns.0 in
    record {
      on = searches_kept p new last start after after now (restart_keeps new last back) refl;
      running = back.running;
      kept = kept_next p new last (kept_next p first new c.loop-conflict.invariant.kept (kept_next first mid new c.in_ok-conflict.ensures.kept c.in_ok-found.ensures.kept)) (restart_kept new last back);
    }
