-- The parts that are kept of what a reading of the facts says of the cells: those that something comes to.
use Rattle.std.specs.Prelude.{◌≡◌, ◌≢◌, ℕ, ◌≤◌, Bool, true}
use Rattle.bt_parts.specs.declared.part.Cell.{Cell}
use Rattle.bt_parts.specs.declared.part.Dir.{Dir}
use Rattle.bt_parts.specs.declared.part.Kind.{Kind}
use Rattle.bt_parts.specs.declared.part.Kind.TheVariants as kind
use Rattle.bt_parts.specs.declared.part.Part.{Part}
use Rattle.bt_parts.specs.Cells.{step, steps, IsInside}
use Rattle.bt_model.specs.Requests.{LayoutRequest}
use Rattle.bt_facts.specs.declared.fact.Fact.{Fact}
use Rattle.bt_facts.specs.declared.fact.Fact.TheVariants.{HalfOn, Begins, Pair, Goes}
use Rattle.bt_facts.specs.declared.fact.Half.TheVariants.{Greater}
use Rattle.bt_facts.specs.declared.fact.Shape.{Shape}
use Rattle.bt_facts.specs.declared.fact.Shape.TheVariants as shape
use Rattle.bt_facts.specs.Facts.{holds}
use Rattle.bt_rules.specs.Underground.{most_distance}

-- the kind of the part of which this shape is the cell
abbrev pub kind_of : Shape → Kind
kind_of shape.Belt = kind.Belt
kind_of shape.Entrance = kind.Entrance
kind_of shape.Exit = kind.Exit
kind_of (shape.Half half) = kind.Splitter

-- something comes to the cell: an input begins there, a half of a splitter stands there, or what comes to a cell is
-- handed on to this one or goes to it under the ground
pub data IsReached (r : LayoutRequest) (reading : Fact → Bool) : Cell → Type 0 where
  begun : (c : Cell) → IsInside r.rect c → reading (Begins c) ≡ true → IsReached r reading c
  half : (c : Cell) → IsInside r.rect c → reading (HalfOn c) ≡ true → IsReached r reading c
  handed : (c : Cell) (dir : Dir) → IsReached r reading c → IsInside r.rect (step dir c)
      → reading (Goes c dir) ≡ true → IsReached r reading (step dir c)
  under : (c : Cell) (dir : Dir) (k : ℕ) → IsReached r reading c → IsInside r.rect (steps k dir c)
      → 1 ≤ k → k ≤ most_distance r → reading (Pair c dir k) ≡ true → IsReached r reading (steps k dir c)

-- the part stands on a cell that is reached, as the reading says, and has the request's tier
pub record IsKeptPart (r : LayoutRequest) (reading : Fact → Bool) (part : Part) : Type 0 where
  pub of : Shape
  pub no_greater : of ≢ shape.Half Greater
  pub reached : IsReached r reading part.cell
  pub stands : reading (holds part.cell of part.dir) ≡ true
  pub is_kind : part.kind ≡ kind_of of
  pub tier : part.tier ≡ r.tier
