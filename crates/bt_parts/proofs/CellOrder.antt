-- Cells that compare equal are the same cell.
use Rattle.std.proofs.Common.{◌≡◌, ◌⊎◌, Bool, true, false, Ordering, refl, ap, ◌∙◌, subst, inl, inr}
use Rattle.std.specs.declared.cmp.Ordering.TheVariants.{Less, Equal, Greater}
use Rattle.std.specs.Ordering.{is_eq, ordering_then, int_cmp}
use Rattle.std.specs.Cmp.{IsTotalOrder}
use Rattle.std.proofs.lemmas.Cmp.{tied_itself}
use Rattle.std.proofs.lemmas.Map.Lookups.{exact_signed}
use Rattle.std.proofs.lemmas.Bool.{both_ways}
use Rattle.bt_parts.specs.declared.part.Cell.{Cell}
use Rattle.bt_parts.specs.Order.{cell_order}
use Rattle.bt_parts.specs.contracts.part.CellOrd.TheImpl.Laws.{total-law}

-- the order of cells is total
pub cell_order_total : IsTotalOrder cell_order
cell_order_total = total-law

then_equal : (o p : Ordering) → ordering_then o p ≡ Equal → (o ≡ Equal) × (p ≡ Equal)
then_equal Less p h = absurd (cc)
then_equal Equal p h = (refl, h)
then_equal Greater p h = absurd (cc)

is_equal : (o : Ordering) → is_eq o ≡ true → o ≡ Equal
is_equal Less h = absurd (cc)
is_equal Equal h = refl
is_equal Greater h = absurd (cc)

-- cells that compare equal are the same
pub same_cell : (a b : Cell) → is_eq (cell_order a b) ≡ true → a ≡ b
same_cell a b h =
    let parts = then_equal (int_cmp a.x b.x) (int_cmp a.y b.y) (is_equal _ h) in
    let ex : a.x ≡ b.x = exact_signed _ _ parts.0 in
    let ey : a.y ≡ b.y = exact_signed _ _ parts.1 in
    ap (λ z. record { x = z; y = a.y }) ex ∙ ap (λ z. record { x = b.x; y = z }) ey

-- a cell compares equal to itself
cell_itself : (a : Cell) → is_eq (cell_order a a) ≡ true
cell_itself a = ap is_eq (tied_itself cell_order_total a)

-- two cells are the same or not, as the order tells
pub cell_cases : (a b : Cell) → ((a ≡ b) × (is_eq (cell_order a b) ≡ true)) ⊎ ((a ≡ b → ⊥) × (is_eq (cell_order a b) ≡ false))
cell_cases a b = split (is_eq (cell_order a b)) refl where
  split : (t : Bool) → is_eq (cell_order a b) ≡ t → ((a ≡ b) × (is_eq (cell_order a b) ≡ true)) ⊎ ((a ≡ b → ⊥) × (is_eq (cell_order a b) ≡ false))
  split true h = inl (same_cell a b h, h)
  split false h = inr ((λ e. both_ways (is_eq (cell_order a b)) h (subst (λ c. is_eq (cell_order a c) ≡ true) e (cell_itself a))), h)
