-- Orderly layouts: clean but for rings.
use Rattle.std.specs.Prelude.{ℕ, List}
use Rattle.bt_parts.specs.declared.part.Part.{Part}
use Rattle.bt_parts.specs.Layouts.{IsWellPlaced, IsPieceAt}
use Rattle.bt_model.specs.Clean.{IsPaired, IsSideLoaded, IsBlocked}

-- no number is of this kind
abbrev pub Never : (ℕ → Type 0) → Type 0
Never P = (i : ℕ) → P i → ⊥

-- each underground piece is in one pair, and in no other
abbrev pub AllPaired : List Part → Type 0
AllPaired parts = (i : ℕ) → IsPieceAt parts i → IsPaired parts i

-- all that makes a layout clean, but that it may have rings
pub record IsOrderly (parts : List Part) : Type 0 where
  pub well_placed : IsWellPlaced parts
  pub paired : AllPaired parts
  pub no_side_load : Never (IsSideLoaded parts)
  pub no_blocked : Never (IsBlocked parts)
