-- Lines of a text, and the words of a line.
use Rattle.std.specs.Prelude.{◌≡◌, ◌≢◌, ◌==◌, ℕ, ◌⊎◌, List, [], ◌∷◌, ◌++◌, All, count_by}
use Rattle.std.specs.List.{flat_map}

-- the byte stands nowhere among these
abbrev pub Lacks : ℕ → List ℕ → Type 0
Lacks byte bytes = All (λ other. other ≢ byte) bytes

-- what stands before the first such byte of a text, and what stands after it
pub record SplitsAt (byte : ℕ) (text front back : List ℕ) : Type 0 where
  pub first : Lacks byte front
  pub text_is : text ≡ front ++ byte ∷ back

-- how many line feeds a text has
abbrev pub line_feeds : List ℕ → ℕ
line_feeds text = count_by (λ byte. byte == 10) text

-- a line is its bytes and a line feed
abbrev pub line : List ℕ → List ℕ
line bytes = bytes ++ 10 ∷ []

-- the bytes of a text's first line, and what follows that line; the last line may lack its line feed
abbrev pub IsFirstLine : List ℕ → List ℕ → List ℕ → Type 0
IsFirstLine text bytes rest = SplitsAt 10 text bytes rest ⊎ (Lacks 10 text × (text ≡ bytes) × (rest ≡ []))

-- the text begins with these lines, of which the last line feed may be missing at its end, and this is what follows
abbrev pub BeginsWithLines : List ℕ → List (List ℕ) → List ℕ → Type 0
BeginsWithLines text lines rest = (text ≡ flat_map line lines ++ rest) ⊎ ((line text ≡ flat_map line lines) × (rest ≡ []))
