use Rattle.std.proofs.Common.{sym, subst}
use Rattle.bt_pivot.specs.Tableaus.{AreOverColumns}
use Rattle.bt_theory.specs.Reaching.{atom_rows, columns_of}
use Rattle.bt_theory.proofs.Columns.{over_end}
use Rattle.bt_theory.proofs.close.close_tableau.Goals as goal

pub new-requires-2 : goal.new-requires-2
new-requires-2 c =
    let f = c.loop-row.close in
    subst (λ n. AreOverColumns n c.rows.result.now) (sym c.columns.ensures) (subst (AreOverColumns (columns_of f)) (sym c.rows.ensures.value) (over_end (atom_rows f)))
