-- Parts of a state's text while it is written.
use Rattle.std.specs.Prelude.{ℕ, List, ◌++◌, codes}
use Rattle.std.specs.List.{flat_map}
use Rattle.bt_text.specs.Lines.{line}
use Rattle.bt_flow.specs.declared.property.Property.{Property}
use Rattle.bt_flow.specs.States.{Fractions}
use Rattle.bt_flow.specs.Names.{property_name}
use Rattle.bt_flow.specs.StateText.{ends_text}

-- the word of each item, with a space in front
abbrev pub words : {A : Type 0} → (A → List ℕ) → List A → List ℕ
words word items = flat_map (λ item. codes " " ++ word item) items

-- the line of the property
abbrev pub title_line : Property → List ℕ
title_line p = line (codes "no " ++ property_name p)

-- the lines of the property, of the loads and of the rooms
abbrev pub head_text : Property → Fractions → List ℕ
head_text p t = title_line p ++ ends_text t
