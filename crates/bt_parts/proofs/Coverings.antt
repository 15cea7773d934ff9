-- Whether a part covers a cell.
use Rattle.std.proofs.Common.{◌≡◌, ◌⊎◌, refl, inl, inr, ⊎_elim}
use Rattle.bt_parts.specs.declared.part.Cell.{Cell}
use Rattle.bt_parts.specs.declared.part.Kind.{Kind}
use Rattle.bt_parts.specs.declared.part.Kind.TheVariants.{Belt, Entrance, Exit, Splitter}
use Rattle.bt_parts.specs.declared.part.Part.{Part}
use Rattle.bt_parts.specs.Cells.{Covers, beside}
use Rattle.bt_parts.proofs.CellOrder.{cell_cases}

pub splitter_cases : (kind : Kind) → (kind ≡ Splitter) ⊎ (kind ≡ Splitter → ⊥)
splitter_cases Belt = inr (λ e. cc)
splitter_cases Entrance = inr (λ e. cc)
splitter_cases Exit = inr (λ e. cc)
splitter_cases Splitter = inl refl

-- a part covers a cell or not
pub covers_cases : (part : Part) (cell : Cell) → Covers part cell ⊎ (Covers part cell → ⊥)
covers_cases part cell =
    ⊎_elim (λ one. inl (inl one.0))
    (λ one. ⊎_elim
    (λ kind. ⊎_elim (λ two. inl (inr (kind, two.0))) (λ two. inr (⊎_elim one.0 (λ g. two.0 g.1)))
    (cell_cases cell (beside part.dir part.cell)))
    (λ other. inr (⊎_elim one.0 (λ g. other g.0)))
    (splitter_cases part.kind))
    (cell_cases cell part.cell)
