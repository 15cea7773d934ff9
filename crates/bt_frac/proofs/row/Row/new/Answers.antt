use Rattle.std.proofs.Common.{sym, subst, refl}
use Rattle.bt_frac.specs.Rows.{IsRow}
use Rattle.bt_frac.proofs.row.Row.new.Goals as goal

pub invariant_of-result : goal.invariant_of-result
invariant_of-result c =
    let are = c.if-not-have_columns.ensures in
    subst IsRow (sym c.in_ok-copied.ensures)
    (record { columns = are.columns.0 refl; coefficients = are.known refl; bound = c.denominator.ensures.known })

pub returns : goal.returns
returns c =
    let are = c.if-not-have_columns.ensures in (
      subst IsRow (sym c.in_ok-copied.ensures)
          (record { columns = are.columns.0 refl; coefficients = are.known refl; bound = c.denominator.ensures.known }),
      c.in_ok-copied.ensures,
    )
