use Rattle.std.proofs.Common.{inl, inr, ⊎_elim, sym, ◌∙◌}
use Rattle.std.proofs.lemmas.Bool.{false≢true}
use Rattle.bt_layout_check.proofs.InRows.{row_told}
use Rattle.bt_layout_check.proofs.rows.are_in_row.Goals as goal

pub returns-then-are_in_line : goal.returns-then-are_in_line
returns-then-are_in_line c = λ kind lists up. (
  λ t. (row_told c.args.parts.now kind c.args.indices.now lists up).0 (inl (c.are_in_line.ensures.0 t)),
  λ row. c.if-are_in_line.true,
)

pub returns-else-are_in_line : goal.returns-else-are_in_line
returns-else-are_in_line c = λ kind lists up. (
  λ t. (row_told c.args.parts.now kind c.args.indices.now lists up).0 (inr (c.are_in_line-else-are_in_line.ensures.0 t)),
  λ row. ⊎_elim (λ east. absurd (false≢true (sym c.if-are_in_line.false ∙ c.are_in_line.ensures.1 east))) (λ south. c.are_in_line-else-are_in_line.ensures.1 south)
      ((row_told c.args.parts.now kind c.args.indices.now lists up).1 row),
)
