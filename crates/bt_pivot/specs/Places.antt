-- Where a position stands.
use Rattle.std.specs.Prelude.{◌≡◌, ◌<◌, ◌-◌, ◌^◌, ◌∷◌, Some, None, ℕ, []}
use Rattle.bt_linear_forms.specs.Lines.{one, signed_terms}
use Rattle.bt_pivot.specs.SolvedForms.{Slots, slot_at}
use Rattle.bt_pivot.specs.declared.basis.Place.{Place}
use Rattle.bt_pivot.specs.declared.basis.Place.TheVariants.{Line, Like, Outside}

-- the line of its class's first position, up to the sign; another position alone, up to the sign; or outside
abbrev pub IsPlace : Slots → ℕ → Place → Type 0
IsPlace slots position (Line class first line negated) =
    (slot_at slots position ≡ Some (signed_terms negated line.now)) × (slot_at slots first ≡ Some line.now)
IsPlace slots position (Like other negated) = (slot_at slots position ≡ Some (signed_terms negated ((other, one) ∷ []))) × (other < 2 ^ 64 - 1)
IsPlace slots position Outside = slot_at slots position ≡ None
