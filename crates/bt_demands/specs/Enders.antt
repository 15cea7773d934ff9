-- The parts with which outputs end.
use Rattle.std.specs.List.{flat_map}
use Rattle.std.specs.Prelude.{List, [], ◌∷◌}
use Rattle.bt_parts.specs.declared.part.Cell.{Cell}
use Rattle.bt_parts.specs.declared.part.Rect.{Rect}
use Rattle.bt_parts.specs.Cells.{step}
use Rattle.bt_facts.specs.declared.fact.Fact.{Fact}
use Rattle.bt_facts.specs.declared.fact.Shape.TheVariants as shape
use Rattle.bt_facts.specs.Facts.{holds}
use Rattle.bt_facts.specs.Spots.{dirs, where_outside}

-- the belts and exits on the cell in front of which the rectangle ends
abbrev pub enders : Rect → Cell → List Fact
enders rect c = flat_map
    (λ dir. where_outside rect (step dir c) (holds c shape.Belt dir ∷ holds c shape.Exit dir ∷ [])) dirs
