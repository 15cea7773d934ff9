-- The bytes that may stand around a text.
use Rattle.std.specs.Prelude.{◌≡◌, ℕ, ◌⊎◌, List, ◌++◌, ◌<◌, length, slice_index, All}

-- a space, a tab, a line feed or a carriage return
abbrev pub IsBlank : ℕ → Type 0
IsBlank byte = (byte ≡ 32) ⊎ (byte ≡ 9) ⊎ (byte ≡ 10) ⊎ (byte ≡ 13)

-- the text is blanks, and then this rest, which begins with no blank
pub record SkipsBlanks (text rest : List ℕ) : Type 0 where
  pub blanks : List ℕ
  pub are_blanks : All IsBlank blanks
  pub text_is : text ≡ blanks ++ rest
  pub no_more : 0 < length rest → ¬ IsBlank (slice_index rest 0)
