-- What the words of a line tell: the terms of a form, and forms.
use Rattle.std.specs.Prelude.{◌≡◌, ◌≢◌, ℕ, ◌+◌, ◌<◌, ◌^◌, pos, List, [], ◌∷◌, ◌++◌, Option, Some, None}
use Rattle.std.specs.List.{All, flat_map}
use Rattle.bt_frac.specs.Ratio.{Ratio, IsLowest}
use Rattle.bt_frac.specs.Texts.{frac_text}
use Rattle.bt_text.specs.Pieces.{BeginsWith}
use Rattle.bt_extend.specs.Forms.{FormParts, IsForm}
use Rattle.bt_extend.specs.Texts.{form_text}
use Rattle.bt_extend.specs.declared.item.Nonzero.{Nonzero}

-- the fraction is in lowest terms, and isn't 0
abbrev pub IsNonzero : Nonzero → Type 0
IsNonzero n = IsLowest n.fraction × (n.fraction.over ≡ pos 0 → ⊥)

-- the word of it
abbrev pub nonzero_text : Nonzero → List ℕ
nonzero_text n = frac_text n.fraction

-- the number of a place, from 1 on, as a fraction
abbrev pub number_of : ℕ → Ratio
number_of place = record { over = pos (place + 1); under = 1 }

-- the words of terms: of each its coefficient, and the number of its column
abbrev pub words_of : List (ℕ × Ratio) → List Nonzero
words_of terms = flat_map (λ t. record { fraction = t.1 } ∷ record { fraction = number_of t.0 } ∷ []) terms

-- the words are those of no terms whose columns are below 2 ^ 64
abbrev pub TellNoTerms : List Nonzero → Type 0
TellNoTerms told = (terms : List (ℕ × Ratio)) → All (λ t. t.0 < 2 ^ 64) terms → told ≢ words_of terms

-- the number and the words are those of the form, or of none
abbrev pub TellForm : Ratio → List Nonzero → Option FormParts → Type 0
TellForm number told (Some form) = IsForm form × (form.constant ≡ number) × (told ≡ words_of form.terms)
TellForm number told None = (form : FormParts) → IsForm form → form.constant ≡ number → told ≢ words_of form.terms

-- the text begins with the form, and then with this rest, which is empty or begins with a space
pub record BeginsWithForm (text : List ℕ) (form : FormParts) (rest : List ℕ) : Type 0 where
  pub is_form : IsForm form
  pub text_is : text ≡ form_text form ++ rest
  pub begins : BeginsWith 32 rest

-- it begins with no form
abbrev pub BeginsWithNoForm : List ℕ → Type 0
BeginsWithNoForm text = (form : FormParts) (rest : List ℕ) → BeginsWithForm text form rest → ⊥

-- the text is this form
pub record IsFormText (text : List ℕ) (form : FormParts) : Type 0 where
  pub is_form : IsForm form
  pub text_is : text ≡ form_text form

-- it is no form
abbrev pub IsNoForm : List ℕ → Type 0
IsNoForm text = (form : FormParts) → IsFormText text form → ⊥

-- the text is these two forms
pub record AreForms (text : List ℕ) (first second : FormParts) : Type 0 where
  pub is_first : IsForm first
  pub is_second : IsForm second
  pub text_is : text ≡ form_text first ++ form_text second

-- it is no two forms
abbrev pub AreNoForms : List ℕ → Type 0
AreNoForms text = (first second : FormParts) → AreForms text first second → ⊥
