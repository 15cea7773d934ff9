-- The cells of a rectangle, their neighbours, and what counts inside and outside.
use Rattle.std.proofs.Common.{◌≡◌, ◌⊎◌, ◌≢◌, ℕ, ◌<◌, ℤ, pos, negsuc, ◌<ℤ◌, ◌≤ℤ◌, cond, true, false, List, [], map, refl, ◌∙◌, ap, inl, inr, ⊎_elim, arith}
use Rattle.std.specs.Prelude.{unsigned_abs}
use Rattle.std.proofs.lemmas.Int.{ints}
use Rattle.bt_parts.specs.declared.part.Cell.{Cell}
use Rattle.bt_parts.specs.declared.part.Dir.{Dir}
use Rattle.bt_parts.specs.declared.part.Dir.TheVariants.{North, East, South, West}
use Rattle.bt_parts.specs.declared.part.Rect.{Rect}
use Rattle.bt_parts.specs.Cells.{opposite, beside, IsInside}
use Rattle.bt_facts.specs.declared.fact.Content.{Content}
use Rattle.bt_facts.specs.declared.fact.Content.TheVariants.{Empty, Turned}
use Rattle.bt_facts.specs.declared.fact.Half.TheVariants.{Lesser, Greater}
use Rattle.bt_facts.specs.declared.fact.Shape.{Shape}
use Rattle.bt_facts.specs.declared.fact.Shape.TheVariants as shape
use Rattle.bt_rules.specs.Contents.{shapes, contents}
use Rattle.bt_facts.specs.Spots.{dirs, before, is_inside, where_inside, where_outside, cells_of, is_border, border_of}
use Rattle.bt_facts.proofs.Geometry.{in_dirs, inside_cases, from_cells, step_behind}
use Rattle.bt_facts.proofs.Keeping.{In, in_flat, in_map, from_filter}

in_shapes : (of : Shape) → In shapes of
in_shapes shape.Belt = inl refl
in_shapes shape.Entrance = inr (inl refl)
in_shapes shape.Exit = inr (inr (inl refl))
in_shapes (shape.Half Lesser) = inr (inr (inr (inl refl)))
in_shapes (shape.Half Greater) = inr (inr (inr (inr (inl refl))))

pub in_contents : (content : Content) → In contents content
in_contents Empty = inl refl
in_contents (Turned of dir) =
    inr (in_flat (λ s. map (Turned s) dirs) shapes of (Turned of dir) (in_shapes of) (in_map (Turned of) dirs dir (in_dirs dir)))

pub no_opposite : (d : Dir) → d ≢ opposite d
no_opposite North e = cc
no_opposite East e = cc
no_opposite South e = cc
no_opposite West e = cc

pub beside_before : (dir : Dir) (c : Cell) → beside dir (before dir c) ≡ c
beside_before North c = step_behind East c
beside_before East c = step_behind South c
beside_before South c = step_behind East c
beside_before West c = step_behind South c

-- ---- inside

pub in_or_out : (rect : Rect) (c : Cell) → IsInside rect c ⊎ (IsInside rect c → ⊥)
in_or_out rect c = ⊎_elim (λ h. inl h.0) (λ h. inr h.0) (inside_cases rect c)

pub inside_true : (rect : Rect) (c : Cell) → IsInside rect c → is_inside rect c ≡ true
inside_true rect c h = ⊎_elim (λ i. i.1) (λ o. absurd (o.0 h)) (inside_cases rect c)

pub inside_false : (rect : Rect) (c : Cell) → (IsInside rect c → ⊥) → is_inside rect c ≡ false
inside_false rect c out = ⊎_elim (λ i. absurd (out i.0)) (λ o. o.1) (inside_cases rect c)

pub where_in : {X : Type 0} (rect : Rect) (c : Cell) (xs : List X) → IsInside rect c → where_inside rect c xs ≡ xs
where_in rect c xs h = ap (λ b. cond b xs []) (inside_true rect c h)

pub where_out : {X : Type 0} (rect : Rect) (c : Cell) (xs : List X) → (IsInside rect c → ⊥) → where_inside rect c xs ≡ []
where_out rect c xs h = ap (λ b. cond b xs []) (inside_false rect c h)

pub out_in : {X : Type 0} (rect : Rect) (c : Cell) (xs : List X) → IsInside rect c → where_outside rect c xs ≡ []
out_in rect c xs h = ap (λ b. cond b [] xs) (inside_true rect c h)

pub out_out : {X : Type 0} (rect : Rect) (c : Cell) (xs : List X) → (IsInside rect c → ⊥) → where_outside rect c xs ≡ xs
out_out rect c xs h = ap (λ b. cond b [] xs) (inside_false rect c h)

-- ---- the cells of the rectangle

same_abs : (x y : ℤ) → pos 0 ≤ℤ x → pos 0 ≤ℤ y → unsigned_abs x ≡ unsigned_abs y → x ≡ y
same_abs (pos x) (pos y) h k e = ap pos e
same_abs (pos x) (negsuc y) h k e = absurd (omega (arith, ints))
same_abs (negsuc x) y h k e = absurd (omega (arith, ints))

pub same_cell : (a b : Cell) → a.x ≡ b.x → a.y ≡ b.y → a ≡ b
same_cell a b x y = ap (λ z. record { x = z; y = a.y }) x ∙ ap (λ z. record { x = b.x; y = z }) y

pub same_spot : (rect : Rect) (a b : Cell) → IsInside rect a → IsInside rect b → unsigned_abs a.x ≡ unsigned_abs b.x
    → unsigned_abs a.y ≡ unsigned_abs b.y → a ≡ b
same_spot rect a b h k x y = same_cell a b (same_abs a.x b.x h.0 k.0 x) (same_abs a.y b.y h.2 k.2 y)

below_width : (x : ℤ) (n : ℕ) → pos 0 ≤ℤ x → x <ℤ pos n → unsigned_abs x < n
below_width (pos x) n h k = omega (arith, ints)
below_width (negsuc x) n h k = absurd (omega (arith, ints))

-- the columns and rows of a cell inside are those of the rectangle
pub across : (rect : Rect) (c : Cell) → IsInside rect c → (unsigned_abs c.x < rect.width) × (unsigned_abs c.y < rect.height)
across rect c h = (below_width c.x rect.width h.0 h.1, below_width c.y rect.height h.2 h.3)

pub border_inside : (rect : Rect) (c : Cell) → In (border_of rect) c → IsInside rect c
border_inside rect c h = from_cells rect c (from_filter (is_border rect) (cells_of rect) c h).0
