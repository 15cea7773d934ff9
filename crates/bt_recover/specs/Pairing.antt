-- The pairs of a layout's underground pieces.
use Rattle.std.specs.Prelude.{◌≡◌, ◌↔◌, ℕ, ◌<◌, List, length, Option, Some, None, Result, Ok, Err, slice_index_or}
use Rattle.bt_parts.specs.declared.part.Part.{Part}
use Rattle.bt_parts.specs.Layouts.{IsPieceAt, ArePaired, IsUnpaired}
use Rattle.bt_recover.specs.declared.pairing.PairFault.{PairFault}
use Rattle.bt_recover.specs.declared.pairing.PairFault.TheVariants.{Unpaired, Memory}

-- what the list has for this index
abbrev pub partner_of : List (Option ℕ) → ℕ → Option ℕ
partner_of partners i = slice_index_or partners i None

-- each underground piece is in exactly one pair, and the list has for each part the other end of its pair, if it is in
-- one
pub record ArePartners (parts : List Part) (partners : List (Option ℕ)) : Type 0 where
  pub count : length partners ≡ length parts
  pub other_end : (i j : ℕ) → (partner_of partners i ≡ Some j) ↔ ArePaired parts i j
  pub no_piece : (i : ℕ) → (partner_of partners i ≡ None) ↔ (IsPieceAt parts i → ⊥)

-- the least index of an underground piece that is in no pair
pub record IsFirstUnpaired (parts : List Part) (i : ℕ) : Type 0 where
  pub unpaired : IsUnpaired parts i
  pub least : (j : ℕ) → j < i → IsUnpaired parts j → ⊥

-- all underground pieces are in pairs, and these are their partners, or the first one in no pair is told
abbrev pub ArePairedAs : List Part → Result (List (Option ℕ)) PairFault → Type 0
ArePairedAs parts (Ok partners) = ArePartners parts partners
ArePairedAs parts (Err (Unpaired i)) = IsFirstUnpaired parts i
ArePairedAs parts (Err Memory) = ⊥
