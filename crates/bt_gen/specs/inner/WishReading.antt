-- Wishes while their words are read.
use Rattle.std.specs.Prelude.{◌≡◌, ℕ, false, List, ◌∷◌}
use Rattle.bt_flow.specs.declared.property.Property.{Property}
use Rattle.bt_flow.specs.Names.{property_name}
use Rattle.bt_gen.specs.declared.wish.Wish.{Wish}
use Rattle.bt_gen.specs.Wishes.{wishes_for, with_property, Becomes, names_text, IsWishWord}

-- the wish for the property of this name too, which isn't wished for yet
abbrev pub Adds : Wish → List ℕ → Wish → Type 0
Adds v name w = (p : Property) × (name ≡ property_name p) × (wishes_for v p ≡ false) × (w ≡ with_property v p)

-- behind what is wished for so far, the words come to this
abbrev pub Reads : Wish → List ℕ → Wish → Type 0
Reads v word w = (p : Property) × (more : List Property) × (word ≡ names_text p more) × Becomes v (p ∷ more) w

-- what the whole word comes to is what the rest comes to behind what is wished for so far
pub record LeadsTo (word : List ℕ) (before : Wish) (rest : List ℕ) : Type 0 where
  pub there : (w : Wish) → IsWishWord w word → Reads before rest w
  pub back : (w : Wish) → Reads before rest w → IsWishWord w word
