-- The text of a state that is written for a property.
use Rattle.std.specs.Prelude.{◌≡◌, ℕ, ◌⊎◌, Bool, true, false, List, [], ◌∷◌, ◌++◌, map, codes, All}
use Rattle.std.specs.List.{flat_map}
use Rattle.bt_text.specs.Blanks.{IsBlank}
use Rattle.bt_text.specs.Lines.{line}
use Rattle.bt_flow.specs.declared.property.Property.{Property}
use Rattle.bt_flow.specs.States.{Fractions, AreLowest}
use Rattle.bt_flow.specs.Names.{property_name}
use Rattle.bt_frac.specs.Texts.{frac_text}

-- `f` for a free edge and `b` for a backed one
abbrev pub mark_text : Bool → List ℕ
mark_text true = codes "b"
mark_text false = codes "f"

-- each word after a space
abbrev pub spaced : List (List ℕ) → List ℕ
spaced words = flat_map (λ w. codes " " ++ w) words

-- the line of the loads of a state, and that of its rooms
abbrev pub ends_text : Fractions → List ℕ
ends_text t = line (codes "load" ++ spaced (map frac_text t.loads)) ++ line (codes "room" ++ spaced (map frac_text t.rooms))

-- the line of the flows of a state, and that of its marks
abbrev pub edges_text : Fractions → List ℕ
edges_text t = line (codes "flow" ++ spaced (map frac_text t.flows)) ++ line (codes "mark" ++ spaced (map mark_text t.backed))

-- the six lines of a state for a property, the last without its line feed
abbrev pub state_text : Property → Fractions → List ℕ
state_text p t =
    line (codes "no " ++ property_name p)
    ++ line (codes "load" ++ spaced (map frac_text t.loads))
    ++ line (codes "room" ++ spaced (map frac_text t.rooms))
    ++ line (codes "flow" ++ spaced (map frac_text t.flows))
    ++ line (codes "mark" ++ spaced (map mark_text t.backed))
    ++ codes "end"

-- the text as it is written: each of its six lines ends with a line feed
abbrev pub printed_state : Property → Fractions → List ℕ
printed_state p t = state_text p t ++ 10 ∷ []

-- the bytes are the text of the state for the property, of which each fraction is in lowest terms; the
-- last line feed may be missing, and blanks may follow it
pub record IsStateText (p : Property) (t : Fractions) (bytes : List ℕ) : Type 0 where
  pub lowest : AreLowest t
  pub text : (bytes ≡ state_text p t) ⊎ ((blanks : List ℕ) × All IsBlank blanks × (bytes ≡ state_text p t ++ 10 ∷ blanks))
