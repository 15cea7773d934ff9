-- The other ends of the pairs, as far as they are found.
use Rattle.std.specs.Prelude.{◌≡◌, ◌↔◌, ℕ, ◌<◌, List, length, Option, Some, None}
use Rattle.bt_parts.specs.declared.part.Part.{Part}
use Rattle.bt_parts.specs.Layouts.{IsPieceAt, ArePaired}
use Rattle.bt_recover.specs.Pairing.{partner_of}

-- the list has the other ends of the first n parts
pub record HasPartners (parts : List Part) (partners : List (Option ℕ)) (n : ℕ) : Type 0 where
  pub count : length partners ≡ n
  pub other_end : (i j : ℕ) → i < n → (partner_of partners i ≡ Some j) ↔ ArePaired parts i j
  pub none_alone : (i : ℕ) → i < n → partner_of partners i ≡ None → IsPieceAt parts i → ⊥
