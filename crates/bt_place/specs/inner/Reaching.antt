-- Marking the cells that are reached, and what their parts are.
use Rattle.std.specs.Prelude.{◌≡◌, ◌≢◌, ℕ, ◌<◌, ◌≤◌, ◌⊎◌, Bool, true, false, List, length, slice_index_or, Option, MatchOption}
use Rattle.bt_parts.specs.declared.part.Cell.{Cell}
use Rattle.bt_parts.specs.declared.part.Dir.{Dir}
use Rattle.bt_parts.specs.declared.part.Kind.{Kind}
use Rattle.bt_parts.specs.declared.part.Part.{Part}
use Rattle.bt_parts.specs.Cells.{step, steps, IsInside}
use Rattle.bt_facts.specs.declared.fact.Fact.{Fact}
use Rattle.bt_facts.specs.declared.fact.Fact.TheVariants.{HalfOn, Begins, Pair, Goes}
use Rattle.bt_facts.specs.declared.fact.Half.TheVariants.{Greater}
use Rattle.bt_facts.specs.declared.fact.Shape.{Shape}
use Rattle.bt_facts.specs.declared.fact.Shape.TheVariants as shape
use Rattle.bt_facts.specs.Facts.{holds}
use Rattle.bt_rules.specs.Kept.{kind_of, IsReached}
use Rattle.bt_rules.specs.Underground.{most_distance}
use Rattle.bt_place.specs.inner.Grid.{spots_in, cell_numbered, IsNumberOf}
use Rattle.bt_place.specs.inner.Told.{Told, reading_of}

-- the fact holds
abbrev pub Says : Told → Fact → Type 0
Says t fact = reading_of t fact ≡ true

-- something comes to the cell
abbrev pub Reached : Told → Cell → Type 0
Reached t c = IsReached t.request (reading_of t) c

-- what comes to the cell is handed on to this one, or goes to it under the ground
pub data IsNext (t : Told) (c n : Cell) : Type 0 where
  by_hand : (dir : Dir) → Says t (Goes c dir) → n ≡ step dir c → IsNext t c n
  by_pair : (dir : Dir) (k : ℕ) → 1 ≤ k → k ≤ most_distance t.request → IsInside t.request.rect (steps k dir c)
      → Says t (Pair c dir k) → n ≡ steps k dir c → IsNext t c n

-- something starts to come on the cell: an input begins there, or a half stands there
abbrev pub IsStart : Told → Cell → Type 0
IsStart t c = Says t (Begins c) ⊎ Says t (HalfOn c)

-- the cell with a number
abbrev pub cell_in : Told → ℕ → Cell
cell_in t i = cell_numbered t.request.rect i

-- the number of the cell to which what stands on this one, so turned, hands, if it hands to one
abbrev pub TellsHanded : Told → ℕ → Dir → Option ℕ → Type 0
TellsHanded t i dir found = MatchOption found (Says t (Goes (cell_in t i) dir) → ⊥)
    (λ j. Says t (Goes (cell_in t i) dir) × IsNumberOf t.request.rect (step dir (cell_in t i)) j)

-- the entrance on the cell pairs with the exit so far ahead
abbrev pub PairsAt : Told → ℕ → Dir → ℕ → Type 0
PairsAt t i dir k = IsInside t.request.rect (steps k dir (cell_in t i)) × Says t (Pair (cell_in t i) dir k)

-- the number of the cell so far ahead, if the entrance on this one pairs with an exit there
abbrev pub TellsPaired : Told → ℕ → Dir → ℕ → Option ℕ → Type 0
TellsPaired t i dir k found = MatchOption found (PairsAt t i dir k → ⊥)
    (λ j. PairsAt t i dir k × IsNumberOf t.request.rect (steps k dir (cell_in t i)) j)

-- the number of the cell of the exit with which the entrance on this one pairs, if there is one
abbrev pub TellsExit : Told → ℕ → Dir → Option ℕ → Type 0
TellsExit t i dir found = MatchOption found ((k : ℕ) → 1 ≤ k → k ≤ most_distance t.request → PairsAt t i dir k → ⊥)
    (λ j. (k : ℕ) × (1 ≤ k) × (k ≤ most_distance t.request) × PairsAt t i dir k × IsNumberOf t.request.rect (steps k dir (cell_in t i)) j)

-- the number of the next cell, if there is one
abbrev pub TellsNext : Told → ℕ → Option ℕ → Type 0
TellsNext t i found = MatchOption found ((n : Cell) → IsNext t (cell_in t i) n → ⊥)
    (λ j. (j < spots_in t.request.rect) × IsNext t (cell_in t i) (cell_in t j))

-- the cell with this number is marked
abbrev pub IsMarked : List Bool → ℕ → Type 0
IsMarked marks i = slice_index_or marks i false ≡ true

-- marked cells are reached, and what comes from them comes to marked cells
pub record AreMarks (t : Told) (marks : List Bool) : Type 0 where
  pub count : length marks ≡ spots_in t.request.rect
  pub sound : (i : ℕ) → i < spots_in t.request.rect → IsMarked marks i → Reached t (cell_in t i)
  pub closed : (i j : ℕ) → i < spots_in t.request.rect → j < spots_in t.request.rect → IsMarked marks i
      → IsNext t (cell_in t i) (cell_in t j) → IsMarked marks j

-- nothing that was marked is unmarked
abbrev pub Keeps : List Bool → List Bool → Type 0
Keeps old new = (i : ℕ) → IsMarked old i → IsMarked new i

-- the starts up to here are marked
abbrev pub HasStarts : Told → List Bool → ℕ → Type 0
HasStarts t marks n = (i : ℕ) → i < n → i < spots_in t.request.rect → IsStart t (cell_in t i) → IsMarked marks i

-- the kind of the part whose own cell has this shape
abbrev pub TellsKind : Shape → Option Kind → Type 0
TellsKind of found = MatchOption found (of ≡ shape.Half Greater)
    (λ kind. (kind ≡ kind_of of) × (of ≢ shape.Half Greater))

-- the part stands on its cell with this shape, and has the request's tier
pub record StandsAs (t : Told) (part : Part) (of : Shape) : Type 0 where
  pub own : of ≢ shape.Half Greater
  pub says : Says t (holds part.cell of part.dir)
  pub is_kind : part.kind ≡ kind_of of
  pub tier : part.tier ≡ t.request.tier

-- the part of which the cell with this number is the own one, if there is one
abbrev pub TellsPart : Told → ℕ → Option Part → Type 0
TellsPart t i found = MatchOption found
    ((of : Shape) (dir : Dir) → of ≢ shape.Half Greater → Says t (holds (cell_in t i) of dir) → ⊥)
    (λ part. (part.cell ≡ cell_in t i) × ((of : Shape) × StandsAs t part of))
