-- The lines of the first basis.
use Rattle.std.specs.Prelude.{List, ◌∷◌, ◌++◌, replicate, map, Some, None, if◌then◌else◌, ◌==◌, unsigned_abs, ℕ, []}
use Rattle.bt_frac.specs.Rows.{RowParts}
use Rattle.bt_linear_forms.specs.Lines.{Terms}
use Rattle.bt_pivot.specs.SolvedForms.{Slots}

-- the terms whose number isn't 0
abbrev pub kept : Terms → Terms
kept [] = []
kept (t ∷ terms) = if unsigned_abs t.1.over == 0 then kept terms else t ∷ kept terms

-- the slots of the columns are empty, and each row has its line
abbrev pub start_slots : List RowParts → ℕ → Slots
start_slots rows columns = replicate columns None ++ map (λ row. Some (kept row.terms)) rows
