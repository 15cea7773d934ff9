-- The lines of a text that have their line feeds.
use Rattle.std.specs.Prelude.{◌≡◌, ℕ, ◌⊎◌, List, [], ◌++◌}
use Rattle.bt_text.specs.Lines.{Lacks, line}

-- these bytes of the text, which end with a line feed or are none, and a rest without a line feed
pub record EndsLines (text lines : List ℕ) : Type 0 where
  pub rest : List ℕ
  pub text_is : text ≡ lines ++ rest
  pub whole : (lines ≡ []) ⊎ ((front : List ℕ) × (lines ≡ line front))
  pub lacks : Lacks 10 rest
