-- What a position stands for, put in place of it in a line.
use Rattle.std.specs.Prelude.{◌≡◌, ℕ, ◌⊎◌, [], ◌∷◌, Option, Some, None}
use Rattle.bt_frac.specs.Ratio.{Ratio, IsLowest, negated}
use Rattle.bt_frac.specs.Products.{IsDivision}
use Rattle.bt_farkas.specs.WeightedRows.{coefficient_at}
use Rattle.bt_linear_forms.specs.Lines.{one, Terms, IsLine, IsCombination}
use Rattle.bt_linear_forms.specs.declared.unfit.Unfit.{Unfit}
use Rattle.bt_linear_forms.specs.Unfits.{IsUnfit}

-- 1 over the number times the position less its line: where the line holds, this is 0
pub record IsZeroLine (position : ℕ) (terms : Terms) (number : Ratio) (zero : Terms) : Type 0 where
  pub line : IsLine zero
  pub share : Ratio
  pub share_lowest : IsLowest share
  pub is_share : IsDivision one number share
  pub combination : IsCombination ((position, share) ∷ []) (negated share) terms zero

-- the slot's line lacks the position, or the new one has its number there times the zero line added to it
abbrev pub IsSubstituted : ℕ → Terms → Option Terms → Option Terms → Type 0
IsSubstituted position zero None slot = slot ≡ None
IsSubstituted position zero (Some terms) slot =
    ((coefficient_at position terms ≡ None) × (slot ≡ Some terms))
    ⊎ ((number : Ratio) × (coefficient_at position terms ≡ Some number) × ((terms' : Terms) × (slot ≡ Some terms') × IsLine terms' × IsCombination terms number zero terms'))

-- an operation of the sum of a line and its number at the position times the zero line doesn't fit
abbrev pub IsUnfitChange : ℕ → Terms → Terms → Unfit → Type 0
IsUnfitChange position zero terms unfit = (number : Ratio) × (coefficient_at position terms ≡ Some number) × IsUnfit terms number zero unfit

-- the position and the zero line, which has its number -1 there
pub record IsEntering (position : ℕ) (zero entering : Terms) : Type 0 where
  pub line : IsLine entering
  pub combination : IsCombination ((position, one) ∷ []) one zero entering
