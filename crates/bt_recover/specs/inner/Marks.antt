-- Marking the parts of the chains, so that the unmarked ones are on rings.
use Rattle.std.specs.Prelude.{◌≡◌, ℕ, List, length, slice_index_or, Bool, true, false}
use Rattle.bt_parts.specs.declared.part.Part.{Part}
use Rattle.bt_model.specs.Chains.{IsLink, LinksTo}
use Rattle.bt_model.specs.Clean.{IsOnRing}

-- the part with this index is marked
abbrev pub IsMarked : List Bool → ℕ → Type 0
IsMarked marks i = slice_index_or marks i false ≡ true

-- marked parts are on no ring, and what they hand to is marked
pub record AreMarks (parts : List Part) (marks : List Bool) : Type 0 where
  pub count : length marks ≡ length parts
  pub sound : (i : ℕ) → IsMarked marks i → IsOnRing parts i → ⊥
  pub closed : (i j : ℕ) → IsMarked marks i → LinksTo parts i j → IsMarked marks j

-- nothing that was marked is unmarked
abbrev pub Keeps : List Bool → List Bool → Type 0
Keeps old new = (i : ℕ) → IsMarked old i → IsMarked new i

-- a belt or an underground piece that isn't marked
abbrev pub IsUnmarkedLink : List Part → List Bool → ℕ → Type 0
IsUnmarkedLink parts marks i = IsLink parts i × (IsMarked marks i → ⊥)
