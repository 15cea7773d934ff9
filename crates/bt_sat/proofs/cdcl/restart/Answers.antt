use Rattle.std.proofs.Common.{◌≡◌, ◌<◌, length, arith, refl, subst, ◌∙◌}
use Rattle.bt_watch.specs.Levels.{IsReady}
use Rattle.bt_sat.specs.inner.LoggedFormula.{clauses_in}
use Rattle.bt_sat.proofs.Searched.{ready_back, stands_held, stands_ordered}
use Rattle.bt_sat.proofs.cdcl.restart.Goals as goal

pub backjump-requires-clause-truths : goal.backjump-requires-clause-truths
backjump-requires-clause-truths c =
    let p = c.args.progress.now in
    (stands_ordered (clauses_in p.known) p.propagated p.search p.conflict c.requires.stands).whole.truths

pub backjump-requires-clause-placed : goal.backjump-requires-clause-placed
backjump-requires-clause-placed c =
    let p = c.args.progress.now in
    (stands_ordered (clauses_in p.known) p.propagated p.search p.conflict c.requires.stands).reasoned.placed

pub returns-then-len-gt0 : goal.returns-then-len-gt0
returns-then-len-gt0 c =
    let p = c.args.progress.now in
    let s = c.backjump.new.search in
    let all = clauses_in p.known in
    let ordered = stands_ordered all p.propagated p.search p.conflict c.requires.stands in
    let some : 0 < length p.search.starts.items = omega (arith, c.if-len-gt0.true, c.len.ensures) in
    let held = stands_held all p.propagated p.search p.conflict c.requires.stands some in
    let size : length s.assignment.trail.items ≡ c.len-progress.result = omega (arith, c.len-progress.ensures) in
    record {
      running = record {
        logged = c.requires.logged;
        variables = c.backjump.ensures.forgets.variables ∙ c.requires.variables;
        stands = subst (λ n. IsReady all n s) size (ready_back all 0 p.search s ordered held c.backjump.ensures some);
      };
      known = refl;
      limit = refl;
    }
