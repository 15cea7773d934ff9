use Rattle.std.proofs.Common.{Some, refl, subst}
use Rattle.std.proofs.lemmas.Bool.{false≢true}
use Rattle.bt_watch.specs.Assigning.{Assigns}
use Rattle.bt_watch.proofs.Loaded.{true_loaded, unit_loaded}
use Rattle.bt_watch.proofs.loading.load_lit.Goals as goal

pub returns-in_ok-assign-clause-loads : goal.returns-in_ok-assign-clause-loads
returns-in_ok-assign-clause-loads c =
    let s = c.args.search.now in
    unit_loaded c.args.formula.now.clauses c.args.id c.args.lit.now c.requires.below c.requires.some c.requires.alone s c.assign.new.assignment c.requires.loaded
    (subst (λ n. Assigns s.assignment c.assign.new.assignment c.args.lit.now (Some n)) c.place.ensures c.in_ok-assign.ensures)
    c.requires.variable (λ h. false≢true (c.if-not-is_lit_true.ensures.1 h)) (λ h. false≢true (c.if-is_lit_false.ensures.1 h))

pub returns-else-not-is_lit_true-clause-loads : goal.returns-else-not-is_lit_true-clause-loads
returns-else-not-is_lit_true-clause-loads c =
    true_loaded c.args.formula.now.clauses c.args.id c.args.lit.now c.requires.below c.requires.some c.requires.alone c.args.search.now c.requires.loaded (c.if-not-is_lit_true.ensures.0 refl)
