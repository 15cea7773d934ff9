use Rattle.std.proofs.Common.{◌≡◌, length, arith, refl, sym, subst, ap, ◌∙◌, None, Some}
use Rattle.std.specs.Prelude.{slice_get}
use Rattle.bt_watch.specs.Levels.{IsReady, Stands}
use Rattle.bt_watch.specs.Propagating.{Propagates}
use Rattle.bt_sat.specs.inner.LoggedFormula.{clauses_in}
use Rattle.bt_watch.proofs.Propagated
use Rattle.bt_sat.proofs.progress.propagate_all.Goals as goal

pub returns-in-Some-clause-propagates : goal.returns-in-Some-clause-propagates
returns-in-Some-clause-propagates c =
    let p = c.args.progress.now in
    let s = c.propagate.new.search in
    let all = clauses_in p.known in
    let ready : IsReady all p.propagated p.search = subst (Stands all p.propagated p.search) c.requires.ready c.requires.running.stands in
    let came : Propagates p.search s (Some c.in-Some.id) = subst (Propagates p.search s) c.in-Some.is c.in_ok-id.ensures in
    record {
      running = record {
        logged = c.requires.running.logged;
        variables = came.0.variables ∙ c.requires.running.variables;
        stands = Propagated.propagated_some all p.propagated p.search s ready c.in-Some.id c.number_of-progress.result came (c.number_of-progress.ensures ∙ ap (λ ns. slice_get ns c.in-Some.id) c.deref.ensures.value) p.propagated;
      };
      known = refl;
      limit = refl;
      propagated = λ none. absurd (Propagated.never_none all p.propagated p.search s ready c.in-Some.id came (sym (c.number_of-progress.ensures ∙ ap (λ ns. slice_get ns c.in-Some.id) c.deref.ensures.value) ∙ none));
      fewer = Propagated.fewer p.search s came.0;
      grows = record { more = came.0.more; trail = came.0.trail; order = refl };
    }

pub returns-in-None-clause-propagates : goal.returns-in-None-clause-propagates
returns-in-None-clause-propagates c =
    let p = c.args.progress.now in
    let s = c.propagate.new.search in
    let all = clauses_in p.known in
    let ready : IsReady all p.propagated p.search = subst (Stands all p.propagated p.search) c.requires.ready c.requires.running.stands in
    let came : Propagates p.search s None = subst (Propagates p.search s) c.in-None.is c.in_ok-id.ensures in
    let size : length s.assignment.trail.items ≡ c.len-progress.result = omega (arith, c.len-progress.ensures) in
    record {
      running = record {
        logged = c.requires.running.logged;
        variables = came.0.variables ∙ c.requires.running.variables;
        stands = subst (Stands all c.len-progress.result s) (sym c.requires.ready) (subst (λ n. IsReady all n s) size (Propagated.inferred_none all p.propagated p.search s ready came));
      };
      known = refl;
      limit = refl;
      propagated = λ none. sym size;
      fewer = Propagated.fewer p.search s came.0;
      grows = record { more = came.0.more; trail = came.0.trail; order = refl };
    }
