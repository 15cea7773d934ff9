use Rattle.std.proofs.Common.{◌≡◌, ◌↔◌, pos, take, drop}
use Rattle.std.specs.List.{All}
use Rattle.bt_frac.specs.Ratio.{IsLowest}
use Rattle.bt_frac.specs.Columns.{AreColumnsFrom}
use Rattle.bt_frac.specs.Rows.{HaveColumns, columns_of}
use Rattle.bt_extend.proofs.form.are_terms.Given as goal

abbrev pub invariant-loop-column : goal.invariant-loop-column
invariant-loop-column l = record {
  columns : HaveColumns l.terms ↔ AreColumnsFrom l.least (columns_of (drop l.column-index l.terms));
  nonzero : All (λ t. t.1.over ≡ pos 0 → ⊥) (take l.column-index l.terms);
  known : All (λ t. IsLowest t.1) (take l.column-index l.terms);
}
