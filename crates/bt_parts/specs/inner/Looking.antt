-- Looking from an underground piece on for the other end of its pair.
use Rattle.std.specs.Prelude.{◌≡◌, ℕ, ◌<◌, ◌+◌, List, ◌⊎◌}
use Rattle.bt_parts.specs.declared.part.Cell.{Cell}
use Rattle.bt_parts.specs.declared.part.Dir.{Dir}
use Rattle.bt_parts.specs.declared.part.Kind.{Kind}
use Rattle.bt_parts.specs.declared.part.Kind.TheVariants.{Entrance, Exit}
use Rattle.bt_parts.specs.declared.part.Part.{Part}
use Rattle.bt_parts.specs.declared.part.Tier.{Tier}
use Rattle.bt_parts.specs.Cells.{steps, opposite, Covers}
use Rattle.bt_parts.specs.Layouts.{HasPart, IsPieceOn}
use Rattle.bt_parts.specs.Tiers.{reach_of}

-- an underground piece of this tier that points in this direction or the opposite one is on the cell
pub record IsPieceThere (parts : List Part) (tier : Tier) (dir : Dir) (cell : Cell) (i : ℕ) : Type 0 where
  pub part : Part
  pub is_i : HasPart parts i part
  pub covers : Covers part cell
  pub on_axis : IsPieceOn tier dir part

-- nearer than this distance there is no piece of the part's tier and axis
abbrev pub NoneNearer : List Part → Part → Dir → ℕ → Type 0
NoneNearer parts from toward limit = (d i : ℕ) → 0 < d → d < limit
    → IsPieceThere parts from.tier from.dir (steps d toward from.cell) i → ⊥

-- the first piece of the part's tier and axis from the part on in a direction, within its reach
pub record IsFirstPiece (parts : List Part) (from : Part) (toward : Dir) (i : ℕ) : Type 0 where
  pub distance : ℕ
  pub apart : 0 < distance
  pub within : distance < reach_of from.tier + 2
  pub piece : IsPieceThere parts from.tier from.dir (steps distance toward from.cell) i
  pub none_nearer : NoneNearer parts from toward distance

-- the other end of an underground piece's pair lies in this direction and is of this kind
abbrev pub IsFarEnd : Part → Dir → Kind → Type 0
IsFarEnd part toward kind =
    ((part.kind ≡ Entrance) × (toward ≡ part.dir) × (kind ≡ Exit))
    ⊎ ((part.kind ≡ Exit) × (toward ≡ opposite part.dir) × (kind ≡ Entrance))

-- the other part is of this kind and points in the part's direction
abbrev pub IsEndFor : Part → Kind → Part → Type 0
IsEndFor other kind part = (other.kind ≡ kind) × (other.dir ≡ part.dir)
