-- The names of properties.
use Rattle.std.proofs.Common.{◌≡◌, ℕ, List, get_or, nat_eq, refl, sym, ◌∙◌, ap}
use Rattle.std.specs.Prelude.{cond, codes}
use Rattle.bt_flow.specs.declared.property.Property.{Property}
use Rattle.bt_flow.specs.declared.property.Property.TheVariants.{Balanced, DrawnEvenly, Unlimited, Full, Fair, DrawnFairly}
use Rattle.bt_flow.specs.Names.{property_name}
use Rattle.bt_text.specs.Lines.{Lacks}
use Rattle.bt_text.proofs.Lacking.{lacks}

-- the property whose name has these bytes as its first, second and seventh
abbrev begun_by : ℕ → ℕ → ℕ → Property
begun_by byte second seventh =
    cond (nat_eq byte 98) Balanced
    (cond (nat_eq byte 100) (cond (nat_eq seventh 101) DrawnEvenly DrawnFairly) (cond (nat_eq byte 117) Unlimited (cond (nat_eq second 117) Full Fair)))

abbrev begun : List ℕ → Property
begun name = begun_by (get_or name 0 0) (get_or name 1 0) (get_or name 6 0)

begins : (p : Property) → begun (property_name p) ≡ p
begins Balanced = refl
begins DrawnEvenly = refl
begins Unlimited = refl
begins Full = refl
begins Fair = refl
begins DrawnFairly = refl

-- properties with one name are one
pub same_property : (p q : Property) → property_name p ≡ property_name q → p ≡ q
same_property p q e = sym (begins p) ∙ ap begun e ∙ begins q

-- no comma stands in a name
pub name_lacks : (p : Property) → Lacks 44 (property_name p)
name_lacks Balanced = lacks 44 (codes "balanced") refl
name_lacks DrawnEvenly = lacks 44 (codes "drawn-evenly") refl
name_lacks Unlimited = lacks 44 (codes "unlimited") refl
name_lacks Full = lacks 44 (codes "full") refl
name_lacks Fair = lacks 44 (codes "fair") refl
name_lacks DrawnFairly = lacks 44 (codes "drawn-fairly") refl
