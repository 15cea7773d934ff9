-- Steps there and back.
use Rattle.std.proofs.Common.{◌≡◌, ℕ, ◌+◌, ℤ, refl, sym, ◌∙◌, ap, arith}
use Rattle.std.proofs.lemmas.Int.{ints}
use Rattle.bt_parts.specs.declared.part.Cell.{Cell}
use Rattle.bt_parts.specs.declared.part.Dir.{Dir}
use Rattle.bt_parts.specs.declared.part.Dir.TheVariants.{North, East, South, West}
use Rattle.bt_parts.specs.Cells.{steps, opposite}

-- the direction against the opposite one
pub opposite-opposite : (dir : Dir) → opposite (opposite dir) ≡ dir
opposite-opposite North = refl
opposite-opposite East = refl
opposite-opposite South = refl
opposite-opposite West = refl

at_x : (x z : ℤ) (y : ℤ) → x ≡ z → ◌≡◌ {A = Cell} (record { x = x; y = y }) (record { x = z; y = y })
at_x x z y e = ap (λ w. record { x = w; y = y }) e

at_y : (x : ℤ) (y z : ℤ) → y ≡ z → ◌≡◌ {A = Cell} (record { x = x; y = y }) (record { x = x; y = z })
at_y x y z e = ap (λ w. record { x = x; y = w }) e

-- some of the steps back
pub steps_back : (dir : Dir) (m n k : ℕ) (cell : Cell) → m + n ≡ k → steps m dir (steps k (opposite dir) cell) ≡ steps n (opposite dir) cell
steps_back North m n k cell e = at_y _ _ _ (omega (arith, ints))
steps_back East m n k cell e = at_x _ _ _ (omega (arith, ints))
steps_back South m n k cell e = at_y _ _ _ (omega (arith, ints))
steps_back West m n k cell e = at_x _ _ _ (omega (arith, ints))

-- no step
pub steps_none : (dir : Dir) (cell : Cell) → steps 0 dir cell ≡ cell
steps_none North cell = at_y cell.x _ _ (omega (arith, ints))
steps_none East cell = at_x _ _ cell.y (omega (arith, ints))
steps_none South cell = at_y cell.x _ _ (omega (arith, ints))
steps_none West cell = at_x _ _ cell.y (omega (arith, ints))

-- from the far end some of the steps back, and all of them
pub seen_back : (dir : Dir) (m n k : ℕ) (near far : Cell) → m + n ≡ k → far ≡ steps k dir near → steps m (opposite dir) far ≡ steps n dir near
seen_back dir m n k near far e at =
    ap (λ c. steps m (opposite dir) c) at
    ∙ ap (λ d. steps m (opposite dir) (steps k d near)) (sym (opposite-opposite dir))
    ∙ steps_back (opposite dir) m n k near e
    ∙ ap (λ d. steps n d near) (opposite-opposite dir)

-- the near end from the far one
pub near_end : (dir : Dir) (k : ℕ) (near far : Cell) → far ≡ steps k dir near → near ≡ steps k (opposite dir) far
near_end dir k near far at = sym (steps_none dir near) ∙ sym (seen_back dir k 0 k near far (omega arith) at)
