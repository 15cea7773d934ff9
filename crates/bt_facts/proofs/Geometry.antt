-- Cells of a rectangle, and steps there and back.
use Rattle.std.proofs.Common.{◌≡◌, ◌≢◌, ◌⊎◌, inl, inr, ℕ, ◌+◌, ◌<◌, ◌≤◌, ℤ, pos, negsuc, Bool, true, false, not, ◌&&◌, refl, sym, ◌∙◌, ap, subst, ⊎_elim, arith}
use Rattle.std.specs.List.{range_with_len}
use Rattle.std.specs.Prelude.{int_lt, unsigned_abs, ◌<ℤ◌, ◌≤ℤ◌}
use Rattle.std.proofs.lemmas.Bool.{lt-ltb, le-ltb, cases_lt}
use Rattle.std.proofs.lemmas.Int.{ints}
use Rattle.bt_parts.specs.declared.part.Cell.{Cell}
use Rattle.bt_parts.specs.declared.part.Dir.{Dir}
use Rattle.bt_parts.specs.declared.part.Dir.TheVariants.{North, East, South, West}
use Rattle.bt_parts.specs.declared.part.Rect.{Rect}
use Rattle.bt_parts.specs.Cells.{step, steps, opposite, beside, IsInside, cell_at}
use Rattle.bt_facts.specs.declared.fact.Half.{Half}
use Rattle.bt_facts.specs.declared.fact.Half.TheVariants.{Lesser, Greater}
use Rattle.bt_facts.specs.Spots.{dirs, sides_of, others_than, halves, behind, before, is_inside, row_cells, cells_of, is_border, border_of}
use Rattle.bt_facts.proofs.Keeping.{In, any_in, in_map, in_flat, from_map, from_flat, in_range, from_range, in_filter, Distinct, distinct_map, distinct_flat, distinct_range, distinct_filter}

-- ---- directions

pub in_dirs : (dir : Dir) → In dirs dir
in_dirs North = inl refl
in_dirs East = inr (inl refl)
in_dirs South = inr (inr (inl refl))
in_dirs West = inr (inr (inr (inl refl)))

pub in_halves : (half : Half) → In halves half
in_halves Lesser = inl refl
in_halves Greater = inr (inl refl)

pub distinct_dirs : Distinct dirs
distinct_dirs = (
  λ h. ⊎_elim (λ e. cc) (λ h. ⊎_elim (λ e. cc) (λ h. ⊎_elim (λ e. cc) (λ n. n) h) h) h,
  ((λ h. ⊎_elim (λ e. cc) (λ h. ⊎_elim (λ e. cc) (λ n. n) h) h), ((λ h. ⊎_elim (λ e. cc) (λ n. n) h), ((λ h. h), tt))),
)

-- a direction other than this one
pub in_others : (dir other : Dir) → other ≢ dir → In (others_than dir) other
in_others North North n = absurd (n refl)
in_others North East n = inl refl
in_others North South n = inr (inl refl)
in_others North West n = inr (inr (inl refl))
in_others East North n = inl refl
in_others East East n = absurd (n refl)
in_others East South n = inr (inl refl)
in_others East West n = inr (inr (inl refl))
in_others South North n = inl refl
in_others South East n = inr (inl refl)
in_others South South n = absurd (n refl)
in_others South West n = inr (inr (inl refl))
in_others West North n = inl refl
in_others West East n = inr (inl refl)
in_others West South n = inr (inr (inl refl))
in_others West West n = absurd (n refl)

pub others_apart : (dir other : Dir) → In (others_than dir) other → other ≢ dir
others_apart dir other h e = by dir (subst (In (others_than dir)) e h)
  where
    by : (d : Dir) → In (others_than d) d → ⊥
    by North h = ⊎_elim (λ e. cc) (λ h. ⊎_elim (λ e. cc) (λ h. ⊎_elim (λ e. cc) (λ n. n) h) h) h
    by East h = ⊎_elim (λ e. cc) (λ h. ⊎_elim (λ e. cc) (λ h. ⊎_elim (λ e. cc) (λ n. n) h) h) h
    by South h = ⊎_elim (λ e. cc) (λ h. ⊎_elim (λ e. cc) (λ h. ⊎_elim (λ e. cc) (λ n. n) h) h) h
    by West h = ⊎_elim (λ e. cc) (λ h. ⊎_elim (λ e. cc) (λ h. ⊎_elim (λ e. cc) (λ n. n) h) h) h

-- a direction is this one, one across, or the opposite one
pub in_sides : (dir other : Dir) → other ≢ dir → other ≢ opposite dir → In (sides_of dir) other
in_sides North North n m = absurd (n refl)
in_sides North East n m = inl refl
in_sides North South n m = absurd (m refl)
in_sides North West n m = inr (inl refl)
in_sides East North n m = inl refl
in_sides East East n m = absurd (n refl)
in_sides East South n m = inr (inl refl)
in_sides East West n m = absurd (m refl)
in_sides South North n m = absurd (m refl)
in_sides South East n m = inl refl
in_sides South South n m = absurd (n refl)
in_sides South West n m = inr (inl refl)
in_sides West North n m = inl refl
in_sides West East n m = absurd (m refl)
in_sides West South n m = inr (inl refl)
in_sides West West n m = absurd (n refl)

-- ---- the rectangle

int_cases : (a b : ℤ) → ((int_lt a b ≡ true) × (a <ℤ b)) ⊎ ((int_lt a b ≡ false) × (b ≤ℤ a))
int_cases (pos a) (pos b) = ⊎_elim (λ lt. inl (lt-ltb a b lt, omega (arith, ints))) (λ ge. inr (le-ltb a b ge, omega (arith, ints))) (cases_lt a b)
int_cases (pos a) (negsuc b) = inr (refl, omega (arith, ints))
int_cases (negsuc a) (pos b) = inl (refl, omega (arith, ints))
int_cases (negsuc a) (negsuc b) = ⊎_elim (λ lt. inl (lt-ltb b a lt, omega (arith, ints))) (λ ge. inr (le-ltb b a ge, omega (arith, ints))) (cases_lt b a)

-- a cell is inside, or it isn't
pub inside_cases : (rect : Rect) (c : Cell) → (IsInside rect c × (is_inside rect c ≡ true)) ⊎ ((IsInside rect c → ⊥) × (is_inside rect c ≡ false))
inside_cases rect c = by (int_lt c.x (pos 0)) (int_lt c.x (pos rect.width)) (int_lt c.y (pos 0)) (int_lt c.y (pos rect.height))
    (int_cases c.x (pos 0)) (int_cases c.x (pos rect.width)) (int_cases c.y (pos 0)) (int_cases c.y (pos rect.height))
  where
    by : (a b d e : Bool)
        → ((a ≡ true) × (c.x <ℤ pos 0)) ⊎ ((a ≡ false) × (pos 0 ≤ℤ c.x))
        → ((b ≡ true) × (c.x <ℤ pos rect.width)) ⊎ ((b ≡ false) × (pos rect.width ≤ℤ c.x))
        → ((d ≡ true) × (c.y <ℤ pos 0)) ⊎ ((d ≡ false) × (pos 0 ≤ℤ c.y))
        → ((e ≡ true) × (c.y <ℤ pos rect.height)) ⊎ ((e ≡ false) × (pos rect.height ≤ℤ c.y))
        → (IsInside rect c × ((not a && b && not d && e) ≡ true)) ⊎ ((IsInside rect c → ⊥) × ((not a && b && not d && e) ≡ false))
    by a b d e (inl p) q r s = inr ((λ h. let l = h.0 in let k = p.1 in omega (arith, ints, l, k)), ap (λ z. not z && b && not d && e) p.0)
    by a b d e (inr p) (inr q) r s = inr (
      (λ h. let l = h.1 in let k = q.1 in omega (arith, ints, l, k)),
      ap (λ z. not z && b && not d && e) p.0 ∙ ap (λ z. z && not d && e) q.0,
    )
    by a b d e (inr p) (inl q) (inl r) s = inr (
      (λ h. let l = h.2 in let k = r.1 in omega (arith, ints, l, k)),
      ap (λ z. not z && b && not d && e) p.0 ∙ ap (λ z. z && not d && e) q.0 ∙ ap (λ z. not z && e) r.0,
    )
    by a b d e (inr p) (inl q) (inr r) (inr s) = inr (
      (λ h. let l = h.3 in let k = s.1 in omega (arith, ints, l, k)),
      ap (λ z. not z && b && not d && e) p.0 ∙ ap (λ z. z && not d && e) q.0 ∙ ap (λ z. not z && e) r.0 ∙ s.0,
    )
    by a b d e (inr p) (inl q) (inr r) (inl s) = inl (
      (p.1, q.1, r.1, s.1),
      ap (λ z. not z && b && not d && e) p.0 ∙ ap (λ z. z && not d && e) q.0 ∙ ap (λ z. not z && e) r.0 ∙ s.0,
    )

-- cells between two cells of the rectangle are inside
pub inside_between : (rect : Rect) (dir : Dir) (j k : ℕ) (c : Cell) → IsInside rect c → IsInside rect (steps k dir c) → j ≤ k → IsInside rect (steps j dir c)
inside_between rect North j k c (a, b, d, e) (f, g, h, i) le = (a, b, omega (arith, ints), omega (arith, ints))
inside_between rect East j k c (a, b, d, e) (f, g, h, i) le = (omega (arith, ints), omega (arith, ints), d, e)
inside_between rect South j k c (a, b, d, e) (f, g, h, i) le = (a, b, omega (arith, ints), omega (arith, ints))
inside_between rect West j k c (a, b, d, e) (f, g, h, i) le = (omega (arith, ints), omega (arith, ints), d, e)

-- ---- steps

pub steps_plus : (dir : Dir) (m n : ℕ) (c : Cell) → steps m dir (steps n dir c) ≡ steps (m + n) dir c
steps_plus North m n c = ap (λ y. record { x = c.x; y = y }) (omega (arith, ints))
steps_plus East m n c = ap (λ x. record { x = x; y = c.y }) (omega (arith, ints))
steps_plus South m n c = ap (λ y. record { x = c.x; y = y }) (omega (arith, ints))
steps_plus West m n c = ap (λ x. record { x = x; y = c.y }) (omega (arith, ints))

pub behind_step : (dir : Dir) (c : Cell) → behind dir (step dir c) ≡ c
behind_step North c = ap (λ y. record { x = c.x; y = y }) (omega (arith, ints))
behind_step East c = ap (λ x. record { x = x; y = c.y }) (omega (arith, ints))
behind_step South c = ap (λ y. record { x = c.x; y = y }) (omega (arith, ints))
behind_step West c = ap (λ x. record { x = x; y = c.y }) (omega (arith, ints))

pub step_behind : (dir : Dir) (c : Cell) → step dir (behind dir c) ≡ c
step_behind North c = ap (λ y. record { x = c.x; y = y }) (omega (arith, ints))
step_behind East c = ap (λ x. record { x = x; y = c.y }) (omega (arith, ints))
step_behind South c = ap (λ y. record { x = c.x; y = y }) (omega (arith, ints))
step_behind West c = ap (λ x. record { x = x; y = c.y }) (omega (arith, ints))

-- so many steps there and back
pub back_steps : (dir : Dir) (k : ℕ) (c : Cell) → steps k (opposite dir) (steps k dir c) ≡ c
back_steps North k c = ap (λ y. record { x = c.x; y = y }) (omega (arith, ints))
back_steps East k c = ap (λ x. record { x = x; y = c.y }) (omega (arith, ints))
back_steps South k c = ap (λ y. record { x = c.x; y = y }) (omega (arith, ints))
back_steps West k c = ap (λ x. record { x = x; y = c.y }) (omega (arith, ints))

pub steps_back : (dir : Dir) (k : ℕ) (c : Cell) → steps k dir (steps k (opposite dir) c) ≡ c
steps_back North k c = ap (λ y. record { x = c.x; y = y }) (omega (arith, ints))
steps_back East k c = ap (λ x. record { x = x; y = c.y }) (omega (arith, ints))
steps_back South k c = ap (λ y. record { x = c.x; y = y }) (omega (arith, ints))
steps_back West k c = ap (λ x. record { x = x; y = c.y }) (omega (arith, ints))

pub before_beside : (dir : Dir) (c : Cell) → before dir (beside dir c) ≡ c
before_beside North c = ap (λ x. record { x = x; y = c.y }) (omega (arith, ints))
before_beside East c = ap (λ y. record { x = c.x; y = y }) (omega (arith, ints))
before_beside South c = ap (λ x. record { x = x; y = c.y }) (omega (arith, ints))
before_beside West c = ap (λ y. record { x = c.x; y = y }) (omega (arith, ints))

pub beside_apart : (dir : Dir) (c : Cell) → c ≡ beside dir c → ⊥
beside_apart North c e = let x = ap (λ d. d.x) e in omega (arith, ints, x)
beside_apart East c e = let y = ap (λ d. d.y) e in omega (arith, ints, y)
beside_apart South c e = let x = ap (λ d. d.x) e in omega (arith, ints, x)
beside_apart West c e = let y = ap (λ d. d.y) e in omega (arith, ints, y)

-- ---- the cells of the rectangle

pub from_cells : (rect : Rect) (c : Cell) → In (cells_of rect) c → IsInside rect c
from_cells rect c h =
    let row = from_flat (row_cells rect) (range_with_len 0 rect.height) c h in
    let at = from_map (λ x. cell_at x row.0) (range_with_len 0 rect.width) c row.2 in
    let y = from_range 0 rect.height row.0 row.1 in
    let x = from_range 0 rect.width at.0 at.1 in
    let below_x = x.1 in let below_y = y.1 in
    subst (IsInside rect) (sym at.2) (omega (arith, ints), omega (arith, ints, below_x), omega (arith, ints), omega (arith, ints, below_y))

pub in_cells : (rect : Rect) (c : Cell) → IsInside rect c → In (cells_of rect) c
in_cells rect c h =
    let x = unsigned_abs c.x in let y = unsigned_abs c.y in
    let left = h.0 in let right = h.1 in let top = h.2 in let bottom = h.3 in
    let at_x : c.x ≡ pos x = by c.x left in
    let at_y : c.y ≡ pos y = by c.y top in
    let in_x : x < rect.width = below c.x rect.width left right in
    let in_y : y < rect.height = below c.y rect.height top bottom in
    let same : c ≡ cell_at x y = ap (λ z. record { x = z; y = c.y }) at_x ∙ ap (λ z. record { x = pos x; y = z }) at_y in
    subst (In (cells_of rect)) (sym same)
    (in_flat (row_cells rect) (range_with_len 0 rect.height) y (cell_at x y) (in_range 0 rect.height y (omega arith) (omega arith))
    (in_map (λ z. cell_at z y) (range_with_len 0 rect.width) x (in_range 0 rect.width x (omega arith) (omega arith))))
  where
    by : (z : ℤ) → pos 0 ≤ℤ z → z ≡ pos (unsigned_abs z)
    by (pos n) h = refl
    by (negsuc n) h = absurd (omega (arith, ints))

    below : (z : ℤ) (n : ℕ) → pos 0 ≤ℤ z → z <ℤ pos n → unsigned_abs z < n
    below (pos m) n h lt = omega (arith, ints)
    below (negsuc m) n h lt = absurd (omega (arith, ints))

pub distinct_cells : (rect : Rect) → Distinct (cells_of rect)
distinct_cells rect =
    distinct_flat (row_cells rect) (range_with_len 0 rect.height) (distinct_range 0 rect.height)
    (λ y. distinct_map (λ x. cell_at x y) (λ a b e. let x = ap (λ c. c.x) e in cc) (range_with_len 0 rect.width) (distinct_range 0 rect.width))
    (λ y z c h k.
    let a = from_map (λ x. cell_at x y) (range_with_len 0 rect.width) c h in
    let b = from_map (λ x. cell_at x z) (range_with_len 0 rect.width) c k in
    let e = ap (λ d. d.y) (sym a.2 ∙ b.2) in cc)

-- a cell with a neighbour outside is on the border
pub in_border : (rect : Rect) (dir : Dir) (c : Cell) → IsInside rect c → (IsInside rect (step dir c) → ⊥) → In (border_of rect) c
in_border rect dir c here out =
    in_filter (is_border rect) (cells_of rect) c (in_cells rect c here)
    (any_in (λ d. not (is_inside rect (step d c))) dirs dir (in_dirs dir)
    (⊎_elim (λ h. absurd (out h.0)) (λ h. ap not h.1) (inside_cases rect (step dir c))))

pub distinct_border : (rect : Rect) → Distinct (border_of rect)
distinct_border rect = distinct_filter (is_border rect) (cells_of rect) (distinct_cells rect)
