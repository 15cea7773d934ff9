-- Which part is on a cell, and what it covers.
use Rattle.std.proofs.Common.{◌≡◌, ◌≢◌, ℕ, ◌<◌, List, length, sym, ◌∙◌, subst, inl, inr, ⊎_elim}
use Rattle.std.proofs.lemmas.Option.{same_Some, slice_get_within}
use Rattle.std.proofs.lemmas.Bool.{cases_order}
use Rattle.bt_parts.specs.declared.part.Cell.{Cell}
use Rattle.bt_parts.specs.declared.part.Kind.TheVariants.{Splitter}
use Rattle.bt_parts.specs.declared.part.Part.{Part}
use Rattle.bt_parts.specs.Cells.{Covers}
use Rattle.bt_parts.specs.Layouts.{HasPart, IsAt, IsWellPlaced, IsUnderground}

-- there is one part with an index
pub same_part : (parts : List Part) (i : ℕ) (p q : Part) → HasPart parts i p → HasPart parts i q → p ≡ q
same_part parts i p q h k = same_Some p q (sym h ∙ k)

-- a part that is no splitter covers its own cell alone
pub own_cell : (part : Part) (cell : Cell) → part.kind ≢ Splitter → Covers part cell → cell ≡ part.cell
own_cell part cell link (inl e) = e
own_cell part cell link (inr g) = absurd (link g.0)

-- an underground piece is no splitter
pub no_splitter : (part : Part) → IsUnderground part → part.kind ≢ Splitter
no_splitter part (inl e) k = absurd (let a = e in let b = k in cc)
no_splitter part (inr e) k = absurd (let a = e in let b = k in cc)

-- one part is on a cell of a well placed layout
pub one_there : (parts : List Part) → IsWellPlaced parts → (i j : ℕ) (cell : Cell) → IsAt parts i cell → IsAt parts j cell → i ≡ j
one_there parts placed i j cell at_i at_j =
    ⊎_elim (λ e. e) (λ apart. ⊎_elim (λ lt. absurd (placed i j lt (cell, at_i, at_j))) (λ gt. absurd (placed j i gt (cell, at_j, at_i))) apart)
    (cases_order i j)

-- the part with this index that is on a cell covers it
pub covers_at : (parts : List Part) (i : ℕ) (part : Part) (cell : Cell) → HasPart parts i part → IsAt parts i cell → Covers part cell
covers_at parts i part cell h at = subst (λ p. Covers p cell) (same_part parts i at.part part at.is_i h) at.covers

-- a part that is on a cell has an index within the list
pub within_at : (parts : List Part) (i : ℕ) (cell : Cell) → IsAt parts i cell → i < length parts
within_at parts i cell at = slice_get_within parts i at.part at.is_i
