-- Wishes: which properties a balancer is to have, and the words for them.
use Rattle.std.specs.Prelude.{◌≡◌, ℕ, Bool, true, false, List, [], ◌∷◌, ◌++◌}
use Rattle.bt_flow.specs.declared.property.Property.{Property}
use Rattle.bt_flow.specs.declared.property.Property.TheVariants.{Balanced, DrawnEvenly, Unlimited, Full, Fair, DrawnFairly}
use Rattle.bt_flow.specs.Names.{property_name}
use Rattle.bt_gen.specs.declared.wish.Wish.{Wish}

-- whether the wish is for this property
abbrev pub wishes_for : Wish → Property → Bool
wishes_for w Balanced = w.balanced
wishes_for w DrawnEvenly = w.drawn_evenly
wishes_for w Unlimited = w.unlimited
wishes_for w Full = w.full
wishes_for w Fair = w.fair
wishes_for w DrawnFairly = w.drawn_fairly

-- the wish for one property more
abbrev pub with_property : Wish → Property → Wish
with_property w Balanced = record w { balanced = true }
with_property w DrawnEvenly = record w { drawn_evenly = true }
with_property w Unlimited = record w { unlimited = true }
with_property w Full = record w { full = true }
with_property w Fair = record w { fair = true }
with_property w DrawnFairly = record w { drawn_fairly = true }

-- no property is wished for
abbrev pub nothing_wished : Wish
nothing_wished = record { balanced = false; drawn_evenly = false; unlimited = false; full = false; fair = false; drawn_fairly = false }

-- the wish for this property alone
abbrev pub only : Property → Wish
only p = with_property nothing_wished p

-- a wish becomes another one by these properties, of which each is new to it
abbrev pub Becomes : Wish → List Property → Wish → Type 0
Becomes v [] w = v ≡ w
Becomes v (p ∷ more) w = (wishes_for v p ≡ false) × Becomes (with_property v p) more w

-- the names of properties, joined by commas
abbrev pub names_text : Property → List Property → List ℕ
names_text p [] = property_name p
names_text p (q ∷ more) = property_name p ++ 44 ∷ names_text q more

-- the word is the names of one property or more, joined by commas, each at most once, and the wish is for these
abbrev pub IsWishWord : Wish → List ℕ → Type 0
IsWishWord w word = (p : Property) × (more : List Property) × (word ≡ names_text p more) × Becomes nothing_wished (p ∷ more) w
