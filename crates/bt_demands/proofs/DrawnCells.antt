-- What draws up the rules of a request may rely on of cells.
use Rattle.std.proofs.Common.{◌≡◌, ℕ, suc, ◌<◌, ◌≤◌, ℤ, pos, negsuc, List, [], ◌∷◌, length, get_or, subst, arith}
use Rattle.std.specs.List.{All, AllByRecursion}
use Rattle.std.specs.Prelude.{unsigned_abs, ◌<ℤ◌, ◌≤ℤ◌}
use Rattle.std.proofs.lemmas.Int.{ints}
use Rattle.bt_parts.specs.declared.part.Cell.{Cell}
use Rattle.bt_parts.specs.Cells.{IsInside, IsInRange}
use Rattle.bt_net.specs.declared.network.Demand.{Demand}
use Rattle.bt_net.specs.declared.network.Demand.TheVariants as demand
use Rattle.bt_model.specs.Requests.{LayoutRequest, IsRequest, IsPinnedInside, pinned, blocked}
use Rattle.bt_facts.specs.Spots.{cells_of, is_border, border_of}
use Rattle.bt_facts.specs.Near.{IsNear}
use Rattle.bt_demands.specs.inner.Near.{IsDemandedNear, IsBlockedNear}
use Rattle.bt_facts.proofs.Geometry.{from_cells}
use Rattle.bt_facts.proofs.Keeping.{In, in_at, from_filter}

module _ (r : LayoutRequest) (is : IsRequest r) where
  small : (a : ℤ) (n : ℕ) → n ≤ 160 → pos 0 ≤ℤ a → a <ℤ pos n → unsigned_abs a ≤ 160
  small (pos m) n few h lt = omega (arith, ints)
  small (negsuc m) n few h lt = absurd (omega (arith, ints))

  small_x : (c : Cell) → IsInside r.rect c → unsigned_abs c.x ≤ 160
  small_x c h = small c.x r.rect.width is.grid.few_across h.0 h.1

  small_y : (c : Cell) → IsInside r.rect c → unsigned_abs c.y ≤ 160
  small_y c h = small c.y r.rect.height is.grid.few_down h.2 h.3

  pub inside_near : (c : Cell) → IsInside r.rect c → IsNear c
  inside_near c h = let x = small_x c h in let y = small_y c h in (omega (arith, x), omega (arith, y))

  inside_in_range : (c : Cell) → IsInside r.rect c → IsInRange c
  inside_in_range c h = let x = small_x c h in let y = small_y c h in (omega (arith, x), omega (arith, y))

  pub cell_inside : (cells : List Cell) (i : ℕ) (d : Cell) → cells ≡ cells_of r.rect → i < length cells → IsInside r.rect (get_or cells i d)
  cell_inside cells i d same lt = from_cells r.rect (get_or cells i d) (subst (λ l. In l (get_or cells i d)) same (in_at cells i d lt))

  pub cells_in_range : (cells : List Cell) → cells ≡ cells_of r.rect → All IsInRange cells
  cells_in_range cells same i d lt = inside_in_range (get_or cells i d) (cell_inside cells i d same lt)

  pub cells_near : (cells : List Cell) → cells ≡ cells_of r.rect → All IsNear cells
  cells_near cells same i d lt = inside_near (get_or cells i d) (cell_inside cells i d same lt)

  pub border_near : (cells : List Cell) → cells ≡ border_of r.rect → All IsNear cells
  border_near cells same i d lt =
      inside_near (get_or cells i d) (from_cells r.rect (get_or cells i d) (from_filter (is_border r.rect) (cells_of r.rect) (get_or cells i d) (subst (λ l. In l (get_or cells i d)) same (in_at cells i d lt))).0)

  each_of_all : {X : Type 0} (P Q : X → Type 0) (xs : List X) → ((x : X) → P x → Q x) → All P xs → AllByRecursion Q xs
  each_of_all P Q [] f h = tt
  each_of_all P Q (x ∷ xs) f h = (f x (h 0 x (omega arith)), each_of_all P Q xs f (λ k d lt. h (suc k) d (omega arith)))

  demand_near : (d : Demand) → IsPinnedInside r.rect d → IsDemandedNear d
  demand_near (demand.Pin pin) h = let x = small_x (pinned pin) h in let y = small_y (pinned pin) h in (omega (arith, x), omega (arith, y))
  demand_near (demand.Side side) h = tt
  demand_near (demand.Row row) h = tt

  pub demands_near : AllByRecursion IsDemandedNear r.demands
  demands_near = each_of_all (IsPinnedInside r.rect) IsDemandedNear r.demands demand_near is.pins_inside

  pub blocks_near : AllByRecursion IsBlockedNear r.blocks
  blocks_near = each_of_all (λ block. IsInside r.rect (blocked block)) IsBlockedNear r.blocks
      (λ block h. let x = small_x (blocked block) h in let y = small_y (blocked block) h in (omega (arith, x), omega (arith, y))) is.blocks_inside
