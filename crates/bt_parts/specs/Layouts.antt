-- Layouts, which are lists of parts, and the pairs of their underground pieces.
use Rattle.std.specs.Prelude.{◌≡◌, ℕ, ◌<◌, ◌≤◌, ◌+◌, List, slice_get, Some, All, ◌⊎◌}
use Rattle.bt_parts.specs.declared.part.Cell.{Cell}
use Rattle.bt_parts.specs.declared.part.Dir.{Dir}
use Rattle.bt_parts.specs.declared.part.Kind.TheVariants.{Entrance, Exit}
use Rattle.bt_parts.specs.declared.part.Part.{Part}
use Rattle.bt_parts.specs.declared.part.Tier.{Tier}
use Rattle.bt_parts.specs.Cells.{steps, opposite, Covers, IsInRange}
use Rattle.bt_parts.specs.Tiers.{reach_of}

-- the part with this index
abbrev pub HasPart : List Part → ℕ → Part → Type 0
HasPart parts i part = slice_get parts i ≡ Some part

-- each part's coordinates are in range
abbrev pub AreInRange : List Part → Type 0
AreInRange parts = All (λ part. IsInRange part.cell) parts

-- the part with this index covers the cell
pub record IsAt (parts : List Part) (i : ℕ) (cell : Cell) : Type 0 where
  pub part : Part
  pub is_i : HasPart parts i part
  pub covers : Covers part cell

-- some cell is covered by both parts
abbrev pub ShareCell : List Part → ℕ → ℕ → Type 0
ShareCell parts i j = (cell : Cell) × IsAt parts i cell × IsAt parts j cell

-- no cell is covered by two parts
abbrev pub IsWellPlaced : List Part → Type 0
IsWellPlaced parts = (i j : ℕ) → i < j → ShareCell parts i j → ⊥

-- the part is an underground piece
abbrev pub IsUnderground : Part → Type 0
IsUnderground part = (part.kind ≡ Entrance) ⊎ (part.kind ≡ Exit)

-- an underground piece of this tier that points in this direction or the opposite one
abbrev pub IsPieceOn : Tier → Dir → Part → Type 0
IsPieceOn tier dir part = IsUnderground part × (part.tier ≡ tier) × ((part.dir ≡ dir) ⊎ (part.dir ≡ opposite dir))

-- the exit b lies ahead of the entrance a within reach, with no piece of that tier and axis between
pub record Pairs (parts : List Part) (a b : ℕ) : Type 0 where
  pub entrance : Part
  pub is_a : HasPart parts a entrance
  pub enters : entrance.kind ≡ Entrance
  pub exit : Part
  pub is_b : HasPart parts b exit
  pub leaves : exit.kind ≡ Exit
  pub same_tier : exit.tier ≡ entrance.tier
  pub same_dir : exit.dir ≡ entrance.dir
  pub distance : ℕ
  pub apart : 0 < distance
  pub within : distance ≤ reach_of entrance.tier + 1
  pub ahead : exit.cell ≡ steps distance entrance.dir entrance.cell
  pub none_between : (d i : ℕ) (part : Part) → 0 < d → d < distance → HasPart parts i part
      → Covers part (steps d entrance.dir entrance.cell) → IsPieceOn entrance.tier entrance.dir part → ⊥

-- the two are the ends of a pair
abbrev pub ArePaired : List Part → ℕ → ℕ → Type 0
ArePaired parts i j = Pairs parts i j ⊎ Pairs parts j i

-- the part with this index is an underground piece
abbrev pub IsPieceAt : List Part → ℕ → Type 0
IsPieceAt parts i = (part : Part) × HasPart parts i part × IsUnderground part

-- an underground piece that is in no pair
pub record IsUnpaired (parts : List Part) (i : ℕ) : Type 0 where
  pub piece : IsPieceAt parts i
  pub alone : (j : ℕ) → ArePaired parts i j → ⊥
