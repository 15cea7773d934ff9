-- The names of entities, after the Factorio Wiki.
use Rattle.std.specs.Prelude.{ℕ, List, [], ◌++◌, codes}
use Rattle.bt_parts.specs.declared.part.Tier.{Tier}
use Rattle.bt_parts.specs.declared.part.Tier.TheVariants.{Basic, Fast, Express, Turbo}
use Rattle.bt_entities.specs.declared.name.EntityFamily.{EntityFamily}
use Rattle.bt_entities.specs.declared.name.EntityFamily.TheVariants.{Belts, Undergrounds, Splitters}

-- the name of a family's basic entity
abbrev pub stem_of : EntityFamily → List ℕ
stem_of Belts = codes "transport-belt"
stem_of Undergrounds = codes "underground-belt"
stem_of Splitters = codes "splitter"

-- what a tier's names begin with
abbrev pub prefix_of : Tier → List ℕ
prefix_of Basic = []
prefix_of Fast = codes "fast-"
prefix_of Express = codes "express-"
prefix_of Turbo = codes "turbo-"

-- the name of the entity of a family and a tier
abbrev pub name_of : EntityFamily → Tier → List ℕ
name_of family tier = prefix_of tier ++ stem_of family
