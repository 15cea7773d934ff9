use Rattle.std.proofs.Common.{◌≢◌, rules, sym, ◌∙◌}
use Rattle.bt_frac.specs.declared.relation.Relation.TheVariants.{Equal}
use Rattle.bt_simplex.proofs.Enters.{may_by}
use Rattle.bt_simplex.proofs.bland.may_enter.Goals as goal

pub returns-then-ne : goal.returns-then-ne
returns-then-ne c row point number order sign =
    let unequal : c.in-Some.relation ≢ Equal = search rules in
    let moves = c.moves_towards.ensures row point number order sign in
    let may = may_by c.args.tableau.now row point c.args.position number c.in-Some.relation (sym c.bound_relation.ensures ∙ c.in-Some.is) unequal in
    (λ h. may.0 (moves.0 h), λ e. moves.1 (may.1 e))
