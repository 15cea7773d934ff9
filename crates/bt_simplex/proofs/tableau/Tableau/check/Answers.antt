use Rattle.std.proofs.Common.{ap, subst, sym, ◌∙◌}
use Rattle.bt_simplex.specs.Checks.{IsCheck}
use Rattle.bt_pivot.specs.Tableaus.{TableauParts}
use Rattle.bt_simplex.proofs.tableau.Tableau.check.Goals as goal

pub check_in-requires : goal.check_in-requires
check_in-requires c = c.in_ok-work.ensures.copy ∙ ap (λ (t : TableauParts). t.slots) (sym c.in_ok-work.ensures.same)

pub keep-requires : goal.keep-requires
keep-requires c = c.in_ok-check.ensures.tableau

pub returns-clause-checked : goal.returns-clause-checked
returns-clause-checked c =
    subst (λ t. IsCheck c.args.pivots t c.keep.new.self c.in_ok-check.check) c.in_ok-work.ensures.same
    (subst (λ t. IsCheck c.args.pivots c.workspace.new.self t c.in_ok-check.check) (sym c.keep.ensures) c.in_ok-check.ensures.checked)
