use Rattle.std.proofs.Common.{◌≡◌, ◌<◌, ◌+◌, ◌^◌, [], ◌∷◌, ◌++◌, length, arith, refl, sym, subst, ◌∙◌}
use Rattle.std.proofs.lemmas.Bool.Decides.{nat_tests}
use Rattle.bt_log.specs.Logs.{Learnt}
use Rattle.bt_watch.specs.Levels.{IsReady}
use Rattle.bt_sat.specs.inner.Asserting.{IsPrepared}
use Rattle.bt_sat.specs.inner.LoggedFormula.{clauses_in}
use Rattle.bt_sat.specs.inner.Progressing.{IsNextStep, LogsStep}
use Rattle.bt_sat.proofs.Logging
use Rattle.bt_sat.proofs.progress.learn.Goals as goal

pub returns-then-len-progress-clause-learns : goal.returns-then-len-progress-clause-learns
returns-then-len-progress-clause-learns c =
    let p = c.args.progress.now in
    let lits = c.prepare.new.learnt_clause.lits.items in
    let hints = c.prepare.new.learnt_clause.analysis.hints.items in
    let is : IsPrepared (clauses_in p.known) p.known.formula.vars c.prepare.new.search lits hints =
    subst (λ n. IsPrepared (clauses_in p.known) n c.prepare.new.search lits hints) c.requires.running.variables c.in_ok-prepare.ensures in
    (refl, refl, sym c.len.ensures ∙ c.if-len-progress.true, (Learnt lits hints, Logging.prepared_next p.known c.prepare.new.search lits hints is))

pub returns-clause-learns : goal.returns-clause-learns
returns-clause-learns c =
    let p = c.args.progress.now in
    let s = c.prepare.new.search in
    let lits = c.prepare.new.learnt_clause.lits.items in
    let hints = c.prepare.new.learnt_clause.analysis.hints.items in
    let all = clauses_in p.known in
    let is : IsPrepared all p.known.formula.vars s lits hints = subst (λ n. IsPrepared all n s lits hints) c.requires.running.variables c.in_ok-prepare.ensures in
    let next : IsNextStep p.known (Learnt lits hints) = Logging.prepared_next p.known s lits hints is in
    let some : 0 < length lits = grind (arith, nat_tests) in
    let logs : LogsStep p.known (record { formula = p.known.formula; log = c.add_learnt-2.new.self }) (Learnt lits hints) = record {
      formula = refl;
      log = c.in_ok-add_learnt-2.ensures ∙ Logging.same_learnt p.known.log c.deref-3.result.now lits c.deref-4.result.now hints c.deref-3.ensures.value c.deref-4.ensures.value;
    } in
    let room : length p.known.log.steps < p.limit = omega (arith, c.requires.running.logged.within, c.len.ensures, c.if-len-progress.false) in
    let size : length s.assignment.trail.items ≡ c.len-progress.result = omega (arith, c.len-progress.ensures) in
    let counts : length p.known.log.steps + 1 < 2 ^ 64 = omega (arith, room) in (
      record {
        logged = Logging.logged_push p.known (record { formula = p.known.formula; log = c.add_learnt-2.new.self }) p.limit (Learnt lits hints) c.requires.running.logged logs next (Logging.not_empty lits some) room;
        variables = c.in_ok-adopt.ensures.same ∙ is.variables;
        stands =
            subst (λ cs. IsReady cs c.len-progress.result c.adopt.new.search) (sym (Logging.clauses_push p.known (record { formula = p.known.formula; log = c.add_learnt-2.new.self }) (Learnt lits hints) logs))
            (subst (λ n. IsReady (all ++ lits ∷ []) n c.adopt.new.search) size (subst (λ ls. IsReady (all ++ ls ∷ []) (length s.assignment.trail.items) c.adopt.new.search) c.deref-2.ensures.value c.in_ok-adopt.ensures.ready));
      },
      refl,
      record { room = room; counts = counts },
      refl,
      (hints, logs, next),
    )
