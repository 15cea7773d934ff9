use Rattle.std.proofs.Common.{sym, subst}
use Rattle.bt_pivot.specs.Tableaus.{AreOverColumns}
use Rattle.bt_theory.proofs.Bases.{base_over}
use Rattle.bt_theory.proofs.binding.tableau_of.Goals as goal

pub new-requires : goal.new-requires
new-requires c = subst (AreOverColumns c.args.base.now.columns) (sym c.rows_in.ensures) (base_over c.args.base.now c.args.formula.now c.requires)
