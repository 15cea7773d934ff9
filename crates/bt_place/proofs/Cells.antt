-- The cells of a rectangle and their numbers.
use Rattle.std.proofs.Common.{◌≡◌, ℕ, ◌+◌, ◌*◌, ◌/◌, ◌%◌, ◌<◌, ◌≤◌, ◌≤ℤ◌, ℤ, pos, negsuc, refl, sym, ◌∙◌, ap, inl, inr, ⊎_elim, arith}
use Rattle.std.specs.Prelude.{unsigned_abs}
use Rattle.std.proofs.lemmas.Bool.{cases_lt, cases_order}
use Rattle.std.proofs.lemmas.Int.{ints}
use Rattle.std.proofs.lemmas.Nat.{div-add-mod', div-mul-add, mod-mul-add}
use Rattle.std.proofs.Math.Nat.{mod-lt, mul-le-mul_right}
use Rattle.bt_parts.specs.declared.part.Cell.{Cell}
use Rattle.bt_parts.specs.declared.part.Part.{Part}
use Rattle.bt_parts.specs.declared.part.Rect.{Rect}
use Rattle.bt_parts.specs.Cells.{IsInside, cell_at}
use Rattle.bt_model.specs.Requests.{IsGrid}
use Rattle.bt_rules.proofs.kept.Geometry.{across, same_cell}
use Rattle.bt_place.specs.Solutions.{ComesAbove}
use Rattle.bt_place.specs.inner.Grid.{spots_in, spot_in, cell_numbered}

pub spot_within : (rect : Rect) (c : Cell) → IsInside rect c → spot_in rect c < spots_in rect
spot_within rect c h =
    let at = across rect c h in
    let rows : (unsigned_abs c.y + 1) * rect.width ≤ rect.height * rect.width =
    mul-le-mul_right rect.width (let y : unsigned_abs c.y + 1 ≤ rect.height = omega (arith, at.1) in y) in
    omega (arith, at.0)

pub numbered_spot : (rect : Rect) (i : ℕ) → spot_in rect (cell_numbered rect i) ≡ i
numbered_spot rect i = div-add-mod' i rect.width

is_pos : (x : ℤ) → pos 0 ≤ℤ x → x ≡ pos (unsigned_abs x)
is_pos (pos n) h = refl
is_pos (negsuc n) h = absurd (omega (arith, ints))

pub cell_of : (rect : Rect) (c : Cell) → IsInside rect c → c ≡ cell_at (unsigned_abs c.x) (unsigned_abs c.y)
cell_of rect c h = same_cell c (cell_at (unsigned_abs c.x) (unsigned_abs c.y)) (is_pos c.x h.0) (is_pos c.y h.2)

pub spot_numbered : (rect : Rect) (c : Cell) → IsInside rect c → cell_numbered rect (spot_in rect c) ≡ c
spot_numbered rect c h =
    let at = (across rect c h).0 in
    let x : spot_in rect c % rect.width ≡ unsigned_abs c.x = mod-mul-add (unsigned_abs c.y) rect.width (unsigned_abs c.x) at in
    let y : spot_in rect c / rect.width ≡ unsigned_abs c.y = div-mul-add (unsigned_abs c.y) rect.width (unsigned_abs c.x) at in
    ap (λ z. cell_at z (spot_in rect c / rect.width)) x ∙ ap (λ z. cell_at (unsigned_abs c.x) z) y ∙ sym (cell_of rect c h)

at_inside : (rect : Rect) (x y : ℕ) → x < rect.width → y < rect.height → IsInside rect (cell_at x y)
at_inside rect x y h k = (omega (arith, ints), omega (arith, ints), omega (arith, ints), omega (arith, ints))

pub numbered_inside : (rect : Rect) (i : ℕ) → IsGrid rect → i < spots_in rect → IsInside rect (cell_numbered rect i)
numbered_inside rect i grid lt =
    let x : i % rect.width < rect.width = mod-lt i (let some = grid.some_width in omega arith) in
    let y : i / rect.width < rect.height =
    ⊎_elim (λ below. below)
    (λ above. let rows : rect.height * rect.width ≤ i / rect.width * rect.width = mul-le-mul_right rect.width above in
    absurd (omega (arith, div-add-mod' i rect.width)))
    (cases_lt (i / rect.width) rect.height) in
    at_inside rect (i % rect.width) (i / rect.width) x y

pub one_number : (rect : Rect) (i j : ℕ) → cell_numbered rect i ≡ cell_numbered rect j → i ≡ j
one_number rect i j e = sym (numbered_spot rect i) ∙ ap (spot_in rect) e ∙ numbered_spot rect j

-- the one comes before the other where its number is less
pub above_of : (rect : Rect) (one other : Part) → IsInside rect one.cell → IsInside rect other.cell → spot_in rect one.cell < spot_in rect other.cell
    → ComesAbove one other
above_of rect one other h k lt =
    let a = across rect one.cell h in
    let b = across rect other.cell k in
    let a_cell = cell_of rect one.cell h in
    let b_cell = cell_of rect other.cell k in
    let a_x : one.cell.x ≡ pos (unsigned_abs one.cell.x) = ap (λ c. c.x) a_cell in
    let a_y : one.cell.y ≡ pos (unsigned_abs one.cell.y) = ap (λ c. c.y) a_cell in
    let b_x : other.cell.x ≡ pos (unsigned_abs other.cell.x) = ap (λ c. c.x) b_cell in
    let b_y : other.cell.y ≡ pos (unsigned_abs other.cell.y) = ap (λ c. c.y) b_cell in
    by (unsigned_abs one.cell.x) (unsigned_abs one.cell.y) (unsigned_abs other.cell.x) (unsigned_abs other.cell.y) a_x a_y b_x b_y a.0 b.0 lt
  where
    by : (ax ay bx by' : ℕ) → one.cell.x ≡ pos ax → one.cell.y ≡ pos ay → other.cell.x ≡ pos bx → other.cell.y ≡ pos by' → ax < rect.width → bx < rect.width
        → ay * rect.width + ax < by' * rect.width + bx → ComesAbove one other
    by ax ay bx by' e_ax e_ay e_bx e_by a_lt b_lt less =
        ⊎_elim
        (λ same. inr (
          e_ay ∙ ap pos same ∙ sym e_by,
          (let rows : ay * rect.width ≡ by' * rect.width = ap (λ n. n * rect.width) same in
              let x : ax < bx = omega arith in omega (arith, ints)),
        ))
        (λ apart. ⊎_elim
        (λ below. inl (omega (arith, ints)))
        (λ over. let rows : (by' + 1) * rect.width ≤ ay * rect.width = mul-le-mul_right rect.width (let o : by' + 1 ≤ ay = omega arith in o) in
        absurd (omega arith)) apart)
        (cases_order ay by')
