-- The terms of two ascending lists of columns.
use Rattle.std.specs.Prelude.{ℕ, nat_lt, List, [], ◌∷◌, map, if◌then◌else◌}
use Rattle.bt_frac.specs.Ratio.{Ratio}
use Rattle.bt_flow_formula.specs.Columns.{plus, minus}

-- a first column and more, added, and ascending columns, subtracted, where the rest of the first are merged so
abbrev pub merged_from : ℕ → List ℕ → (List ℕ → List (ℕ × Ratio)) → List ℕ → List (ℕ × Ratio)
merged_from x xs rest [] = plus x ∷ map plus xs
merged_from x xs rest (y ∷ ys) =
    if nat_lt x y then plus x ∷ rest (y ∷ ys) else (if nat_lt y x then minus y ∷ merged_from x xs rest ys else rest ys)

-- ascending columns, those of the first list added and those of the second subtracted; a column of both is left out
abbrev pub merged : List ℕ → List ℕ → List (ℕ × Ratio)
merged [] ys = map minus ys
merged (x ∷ xs) ys = merged_from x xs (merged xs) ys
