-- What is done to a slot where a position enters.
use Rattle.std.specs.Prelude.{◌≡◌, ◌≢◌, ℕ, ℤ, Option, Some, None}
use Rattle.bt_farkas.specs.WeightedRows.{coefficient_at}
use Rattle.bt_linear_forms.specs.Lines.{Terms, IsLine, IsCombination}
use Rattle.bt_linear_forms.specs.declared.short.merging.Change.{Change}
use Rattle.bt_linear_forms.specs.declared.short.merging.Change.TheVariants.{Lacks, Made, Long}
use Rattle.bt_linear_forms.specs.declared.short.merging.Scales.{Scales}
use Rattle.bt_linear_forms.specs.Shorts.{reduced, AreScales}
use Rattle.bt_linear_forms.specs.Substituting.{IsSubstituted}

-- the slot has the sum of the line that it had and a number times another, by these scales
pub record IsScaled (zero : Terms) (slot slot' : Option Terms) (scales : Scales) : Type 0 where
  pub terms : Terms
  pub slot_is : slot ≡ Some terms
  pub terms_after : Terms
  pub slot_after : slot' ≡ Some terms_after
  pub factor : ℤ
  pub are_scales : AreScales scales.left_under factor scales.right_under scales.left scales.right scales.under
  pub line : IsLine terms
  pub zero_line : IsLine zero
  pub line_after : IsLine terms_after
  pub sum : IsCombination terms (reduced factor scales.left_under) zero terms_after

-- it stays and has no line that names the position, or what the position stands for is in place of it, or it stays and
-- its line names the position
abbrev pub IsChange : ℕ → Terms → Option Terms → Option Terms → Change → Type 0
IsChange enters zero slot slot' Lacks = (slot' ≡ slot) × IsSubstituted enters zero slot slot'
IsChange enters zero slot slot' (Made scales) = IsSubstituted enters zero slot slot' × IsScaled zero slot slot' scales
IsChange enters zero slot slot' Long = (slot' ≡ slot) × ((terms : Terms) × (slot ≡ Some terms) × (coefficient_at enters terms ≢ None))
