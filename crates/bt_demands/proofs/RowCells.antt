-- The cells of rows.
use Rattle.std.proofs.Common.{◌≡◌, ◌<◌, ◌≤◌, ◌-◌, ℕ, ℤ, pos, negsuc, Bool, true, false, cond, List, [], ◌∷◌, ◌++◌, length, get_or, refl, sym, ◌∙◌, ap, subst, ⊎_elim, arith}
use Rattle.std.specs.List.{flat_map, filter}
use Rattle.std.specs.Prelude.{unsigned_abs, ◌<ℤ◌, ◌≤ℤ◌}
use Rattle.std.proofs.lemmas.Bool.{false≢true}
use Rattle.std.proofs.lemmas.Int.{ints}
use Rattle.bt_parts.specs.declared.part.Cell.{Cell}
use Rattle.bt_parts.specs.declared.part.Rect.{Rect}
use Rattle.bt_parts.specs.Cells.{steps, IsInside}
use Rattle.bt_net.specs.declared.network.EndKind.{EndKind}
use Rattle.bt_net.specs.declared.network.EndKind.TheVariants.{Inputs, Outputs}
use Rattle.bt_model.specs.Requests.{IsGrid}
use Rattle.bt_facts.specs.declared.fact.Line.{Line}
use Rattle.bt_facts.specs.Near.{IsNear}
use Rattle.bt_facts.specs.Spots.{is_inside, cells_of}
use Rattle.bt_facts.proofs.Geometry.{inside_cases, inside_between, from_cells}
use Rattle.bt_facts.proofs.Keeping.{In, in_at}
use Rattle.bt_demands.specs.Rows.{lines_of, way_of, has_place}

small : (a : ℤ) (n : ℕ) → n ≤ 1024 → pos 0 ≤ℤ a → a <ℤ pos n → unsigned_abs a ≤ 1024
small (pos m) n few h lt = omega (arith, ints)
small (negsuc m) n few h lt = absurd (omega (arith, ints))

-- a cell of a grid is near
pub grid_near : (rect : Rect) → IsGrid rect → (c : Cell) → IsInside rect c → IsNear c
grid_near rect grid c h =
    let x = small c.x rect.width (omega (arith, grid.few_across)) h.0 h.1 in
    let y = small c.y rect.height (omega (arith, grid.few_down)) h.2 h.3 in
    (omega (arith, x), omega (arith, y))

-- a cell that is found inside is inside
true_inside : (rect : Rect) (c : Cell) → is_inside rect c ≡ true → IsInside rect c
true_inside rect c t = ⊎_elim (λ h. h.0) (λ h. absurd (false≢true (sym h.1 ∙ t))) (inside_cases rect c)

-- all cells of a place are
pub place_inside : (rect : Rect) (count : ℕ) (l : Line) (c : Cell) → IsInside rect c → has_place rect count l c ≡ true → (k : ℕ) → k < count → IsInside rect (steps k (way_of l) c)
place_inside rect count l c h t k lt = inside_between rect (way_of l) k (count - 1) c h (true_inside rect (steps (count - 1) (way_of l) c) t) (omega arith)

pub cell_inside : (rect : Rect) (cells : List Cell) → cells ≡ cells_of rect → (i : ℕ) (d : Cell) → i < length cells → IsInside rect (get_or cells i d)
cell_inside rect cells same i d lt = from_cells rect (get_or cells i d) (subst (λ l. In l (get_or cells i d)) same (in_at cells i d lt))

-- rows of a kind run two ways
pub two_lines : (kind : EndKind) (lines : List Line) → lines ≡ lines_of kind → length lines ≡ 2
two_lines Inputs lines e = ap length e
two_lines Outputs lines e = ap length e

one_filtered : {X Y : Type 0} (f : X → List Y) (x : X) (xs : List X) (ys : List Y) (b : Bool) → ys ≡ flat_map f xs → cond b (f x) [] ++ ys ≡ flat_map f (cond b (x ∷ xs) xs)
one_filtered f x xs ys true e = ap (λ l. f x ++ l) e
one_filtered f x xs ys false e = e

-- what is made of those that pass a test
pub flat_filtered : {X Y : Type 0} (p : X → Bool) (f : X → List Y) (xs : List X) → flat_map (λ x. cond (p x) (f x) []) xs ≡ flat_map f (filter p xs)
flat_filtered p f [] = refl
flat_filtered p f (x ∷ xs) = one_filtered f x (filter p xs) (flat_map (λ y. cond (p y) (f y) []) xs) (p x) (flat_filtered p f xs)
