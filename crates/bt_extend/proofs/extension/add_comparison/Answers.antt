use Rattle.std.proofs.Common.{◌∙◌, ap, sym, subst}
use Rattle.bt_frac.specs.Columns.{AreColumnsFrom}
use Rattle.bt_frac.specs.Rows.{columns_of}
use Rattle.bt_extend.specs.Forms.{turned}
use Rattle.bt_extend.proofs.Formed.{turned_columns}
use Rattle.bt_extend.proofs.extension.add_comparison.Goals as goal

pub row_of-requires-2 : goal.row_of-requires-2
row_of-requires-2 c =
    subst (AreColumnsFrom 0) (sym (ap columns_of (c.in_ok-opposite.ensures ∙ ap turned c.deref.ensures.value) ∙ turned_columns c.args.terms.items)) c.requires
