-- Lists of the parts of a kind, and of parts by their cells.
use Rattle.std.specs.Prelude.{◌≡◌, ℕ, ◌<◌, List, Contains, All, AllPairs, map}
use Rattle.bt_parts.specs.declared.part.Cell.{Cell}
use Rattle.bt_parts.specs.declared.part.Part.{Part}
use Rattle.bt_parts.specs.Layouts.{HasPart}
use Rattle.bt_model.specs.Chains.{IsSplitter, IsInput, IsOutput}
use Rattle.bt_model.specs.Shown.{Naming}

-- the list has the indices below n of this kind, ascending
pub record ListsUpTo (P : ℕ → Type 0) (xs : List ℕ) (n : ℕ) : Type 0 where
  pub all : (i : ℕ) → i < n → P i → Contains xs i
  pub only : (i : ℕ) → Contains xs i → (i < n) × P i
  pub ascends : AllPairs ◌<◌ xs

-- the lists have the splitters, inputs and outputs below n, ascending
pub record AreListed (parts : List Part) (naming : Naming) (n : ℕ) : Type 0 where
  pub splitters : ListsUpTo (IsSplitter parts) naming.splitters n
  pub inputs : ListsUpTo (IsInput parts) naming.inputs n
  pub outputs : ListsUpTo (IsOutput parts) naming.outputs n

-- the pair has a part's cell and its index
abbrev pub IsKeyed : List Part → Cell × ℕ → Type 0
IsKeyed parts entry = (part : Part) × HasPart parts entry.1 part × (entry.0 ≡ part.cell)

-- the list has the parts, in their order, with their cells
pub record AreKeyed (parts : List Part) (indices : List ℕ) (list : List (Cell × ℕ)) : Type 0 where
  pub indices_are : map (λ entry. entry.1) list ≡ indices
  pub keys : All (IsKeyed parts) list
