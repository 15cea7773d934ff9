-- Facts that rules share.
use Rattle.std.specs.Prelude.{List, [], ◌∷◌}
use Rattle.bt_parts.specs.declared.part.Cell.{Cell}
use Rattle.bt_parts.specs.declared.part.Dir.{Dir}
use Rattle.bt_parts.specs.declared.part.Rect.{Rect}
use Rattle.bt_facts.specs.declared.fact.Content.TheVariants.{Turned}
use Rattle.bt_facts.specs.declared.fact.Fact.{Fact}
use Rattle.bt_facts.specs.declared.fact.Fact.TheVariants.{Kind}
use Rattle.bt_facts.specs.declared.fact.Shape.{Shape}
use Rattle.bt_facts.specs.Spots.{where_inside}
use Rattle.bt_facts.specs.declared.fact.Fact.TheVariants.{Goes}
use Rattle.bt_facts.specs.Spots.{behind}

-- the cell holds a part of this shape, so turned
abbrev pub holds : Cell → Shape → Dir → Fact
holds c of dir = Kind c (Turned of dir)

-- something comes to the cell from behind in this direction, where that is inside
abbrev pub goes_into : Rect → Cell → Dir → List Fact
goes_into rect c dir = where_inside rect (behind dir c) (Goes (behind dir c) dir ∷ [])
