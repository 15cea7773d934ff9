use Rattle.std.proofs.Common.{◌≡◌, [], ◌∷◌, ◌++◌, length, arith, refl, sym, subst, ◌∙◌}
use Rattle.bt_log.specs.Logs.{Lemma}
use Rattle.bt_watch.specs.Levels.{IsReady, Stands}
use Rattle.bt_sat.specs.declared.logged_formula.LoggedFormula.{LoggedFormula}
use Rattle.bt_sat.specs.inner.LoggedFormula.{clauses_in}
use Rattle.bt_sat.specs.inner.Lemmas.{Admits, CanAdmit}
use Rattle.bt_sat.specs.inner.Progressing.{LogsStep}
use Rattle.bt_sat.proofs.Admitted
use Rattle.bt_sat.proofs.Logging
use Rattle.bt_sat.proofs.Taken
use Rattle.bt_sat.proofs.lemmas.take_lemma.Goals as goal

pub admit-requires : goal.admit-requires
admit-requires c =
    let p = c.args.progress.now in
    let all = clauses_in p.known in
    let s = c.backjump_for.new.search in
    let lits = c.backjump_for.new.learnt_clause.lits.items in
    let ready : IsReady all p.propagated p.search = subst (Stands all p.propagated p.search) c.requires.complete.none c.requires.complete.running.stands in
    let some = Taken.some_lits p.known.formula c.args.lits.now c.args.weights.now c.requires.next.valid in
    subst (CanAdmit all s) (sym c.deref.ensures.value) (c.in_ok-backjump_for.ensures.admits all p.propagated ready (Taken.some_same c.args.lits.now lits c.in_ok-backjump_for.ensures.same some))

pub returns-clause-takes : goal.returns-clause-takes
returns-clause-takes c =
    let p = c.args.progress.now in
    let all = clauses_in p.known in
    let s = c.backjump_for.new.search in
    let new = c.admit.new.search in
    let clause = c.args.lits.now in
    let step = Lemma clause c.args.weights.now in
    let lits = c.backjump_for.new.learnt_clause.lits.items in
    let known : LoggedFormula = record { formula = p.known.formula; log = c.add_lemma.new.self } in
    let some = Taken.some_lits p.known.formula clause c.args.weights.now c.requires.next.valid in
    let logs : LogsStep p.known known step = record { formula = refl; log = c.in_ok-add_lemma.ensures } in
    let conflict = c.in_ok-progress.field-0 in
    let size : length s.assignment.trail.items ≡ c.len-progress.result = omega (arith, c.len-progress.ensures) in
    let admits : Admits all lits s new conflict = subst (λ ls. Admits all ls s new conflict) c.deref.ensures.value c.in_ok-progress.ensures in
    record {
      running = record {
        logged = Logging.logged_push p.known known p.limit step c.requires.complete.running.logged logs c.requires.next some c.requires.room;
        variables = admits.variables ∙ c.in_ok-backjump_for.ensures.variables ∙ c.requires.complete.running.variables;
        stands =
            subst (λ cs. Stands cs c.len-progress.result new conflict) (sym (Logging.clauses_push p.known known step logs))
            (Admitted.stands all lits clause c.in_ok-backjump_for.ensures.same c.len-progress.result new conflict (subst (λ n. Stands (all ++ lits ∷ []) n new conflict) size admits.stands));
      };
      logs = logs;
      limit = refl;
    }
