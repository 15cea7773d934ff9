use Rattle.std.proofs.Common.{◌∙◌, ap, sym}
use Rattle.bt_sat.specs.declared.logged_formula.LoggedFormula.{LoggedFormula}
use Rattle.bt_sat.proofs.Listed.{grows_lists}
use Rattle.bt_sat.proofs.deciding.propagate_decision.Goals as goal

pub returns-clause-propagates : goal.returns-clause-propagates
returns-clause-propagates c =
    let p = c.args.progress.now in
    let q = c.propagate_all.new.progress in
    let propagates = c.in_ok-propagate_all.ensures.propagates in
    let size = propagates.running.variables ∙ ap (λ (k : LoggedFormula). k.formula.vars) propagates.known ∙ sym c.requires.running.variables in record {
      keeps = record { known = propagates.known; limit = propagates.limit };
      running = propagates.running;
      choice = record {
        propagated = propagates.propagated;
        listed = λ none. grows_lists p q c.requires.running propagates.running c.requires.ready none size propagates.grows c.requires.listed;
      };
      fewer = propagates.fewer;
    }
