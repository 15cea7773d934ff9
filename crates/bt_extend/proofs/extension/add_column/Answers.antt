use Rattle.std.proofs.Common.{sym, subst}
use Rattle.bt_frac.specs.Rows.{HaveColumns}
use Rattle.bt_extend.proofs.Formed.{column_less_form, less_column_form}
use Rattle.bt_extend.proofs.extension.add_column.Goals as goal

pub add_comparison-requires : goal.add_comparison-requires
add_comparison-requires c =
    subst HaveColumns (sym c.in_ok-above.ensures) (column_less_form c.args.column c.args.form.now c.requires.over c.requires.below).columns

pub add_comparison-requires-2 : goal.add_comparison-requires-2
add_comparison-requires-2 c =
    subst HaveColumns (sym c.in_ok-below.ensures) (less_column_form c.args.column c.args.form.now c.requires.over c.requires.below).columns
