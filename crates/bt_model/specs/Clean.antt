-- Clean layouts: pieces in pairs, no side-loading, no part that looks at one that blocks it, and no ring.
use Rattle.std.specs.Prelude.{◌≡◌, ◌≢◌, ℕ, List, ◌⊎◌}
use Rattle.bt_parts.specs.declared.part.Cell.{Cell}
use Rattle.bt_parts.specs.declared.part.Kind.TheVariants.{Belt}
use Rattle.bt_parts.specs.declared.part.Part.{Part}
use Rattle.bt_parts.specs.declared.part.Side.{Side}
use Rattle.bt_parts.specs.declared.part.Side.TheVariants.{Across}
use Rattle.bt_parts.specs.Layouts.{HasPart, IsWellPlaced, IsPieceAt, IsUnderground, ArePaired}
use Rattle.bt_model.specs.Handing.{LooksFrom, Feeds, Hands, BlocksFrom}
use Rattle.bt_model.specs.Chains.{Path}

-- the part with this index is in a pair, and in no other
pub record IsPaired (parts : List Part) (i : ℕ) : Type 0 where
  pub other : ℕ
  pub paired : ArePaired parts i other
  pub no_other : (j : ℕ) → ArePaired parts i j → j ≡ other

-- the part with this index is a belt with two or more feeders
pub record HasTwoFeeders (parts : List Part) (i : ℕ) : Type 0 where
  pub belt : Part
  pub is_i : HasPart parts i belt
  pub kind : belt.kind ≡ Belt
  pub one : ℕ
  pub two : ℕ
  pub apart : one ≢ two
  pub one_feeds : Feeds parts one i
  pub two_feeds : Feeds parts two i

-- the part with this index is an underground piece, and some part looks at it from a side
pub record IsSeenAcross (parts : List Part) (i : ℕ) : Type 0 where
  pub giver : ℕ
  pub half : Cell
  pub look : LooksFrom parts giver half i Across
  pub underground : IsUnderground look.taker.part

-- there is side-loading at this part: it is a belt with two feeders, or a piece that is looked at from a side
abbrev pub IsSideLoaded : List Part → ℕ → Type 0
IsSideLoaded parts i = HasTwoFeeders parts i ⊎ IsSeenAcross parts i

-- this cell of the part looks at a part that blocks what comes from there
pub record IsHalfBlocked (parts : List Part) (i : ℕ) (half : Cell) : Type 0 where
  pub taker : ℕ
  pub side : Side
  pub look : LooksFrom parts i half taker side
  pub blocked : BlocksFrom look.taker.part.kind side

-- some cell of the part looks at a part that blocks what comes from there
abbrev pub IsBlocked : List Part → ℕ → Type 0
IsBlocked parts i = (half : Cell) × IsHalfBlocked parts i half

-- the part is on a ring: a closed list of belts and underground pieces in which each hands to the next
pub record IsOnRing (parts : List Part) (i : ℕ) : Type 0 where
  pub last : ℕ
  pub links : List ℕ
  pub path : Path parts i last links
  pub closed : Hands parts last i

-- the layout is clean: no cell has two parts, each piece is in one pair, and there is no side-loading, no blocked part
-- and no ring
pub record IsClean (parts : List Part) : Type 0 where
  pub well_placed : IsWellPlaced parts
  pub paired : (i : ℕ) → IsPieceAt parts i → IsPaired parts i
  pub no_side_load : (i : ℕ) → IsSideLoaded parts i → ⊥
  pub no_blocked : (i : ℕ) → IsBlocked parts i → ⊥
  pub no_ring : (i : ℕ) → IsOnRing parts i → ⊥
