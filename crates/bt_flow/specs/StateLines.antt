-- The lines of a state's text, and the first line that isn't right.
use Rattle.std.specs.Prelude.{◌≡◌, ℕ, ◌+◌, ◌<◌, ◌≤◌, ◌==◌, Bool, List, [], ◌∷◌, ◌++◌, length, map, codes, All, MatchOption, slice_get, slice_index_or, ⊤}
use Rattle.std.specs.List.{slice_split}
use Rattle.bt_text.specs.Blanks.{IsBlank}
use Rattle.bt_frac.specs.Ratio.{Ratio, IsLowest}
use Rattle.bt_frac.specs.Texts.{frac_text}
use Rattle.bt_net.specs.Network.{Network}
use Rattle.bt_flow.specs.declared.property.Property.{Property}
use Rattle.bt_flow.specs.Names.{property_name}
use Rattle.bt_flow.specs.StateText.{mark_text, spaced}

-- what a line has to be: these bytes; a word and so many fractions; `mark` and so many marks; or blanks
pub data Form : Type 0 where
  just : List ℕ → Form
  numbers : List ℕ → ℕ → Form
  marks : ℕ → Form
  blanks : Form

-- so many items, each of which meets a condition, and the text is their words, each after a space
pub record SpellsItems {A : Type 0} (Meets : A → Type 0) (word : A → List ℕ) (count : ℕ) (text : List ℕ) (items : List A) : Type 0 where
  pub counted : length items ≡ count
  pub meets : All Meets items
  pub text_is : text ≡ spaced (map word items)

-- the text is these fractions, so many and in lowest terms
abbrev pub SpellsFractions : ℕ → List ℕ → List Ratio → Type 0
SpellsFractions count text fractions = SpellsItems IsLowest frac_text count text fractions

-- the text is these marks, so many
abbrev pub SpellsMarks : ℕ → List ℕ → List Bool → Type 0
SpellsMarks count text backed = SpellsItems (λ _. ⊤) mark_text count text backed

-- the line begins with the word, and what follows it spells the list
pub record Follows {A : Type 0} (word line : List ℕ) (Spells : List ℕ → List A → Type 0) (items : List A) : Type 0 where
  pub text : List ℕ
  pub line_is : line ≡ word ++ text
  pub spells : Spells text items

-- the line is of the form
abbrev pub Fills : Form → List ℕ → Type 0
Fills (just bytes) line = line ≡ bytes
Fills (numbers word count) line = (fractions : List Ratio) × Follows word line (SpellsFractions count) fractions
Fills (marks count) line = (backed : List Bool) × Follows (codes "mark") line (SpellsMarks count) backed
Fills blanks line = All IsBlank line

-- the forms of the six lines
abbrev pub forms : Network → Property → List Form
forms n p =
    just (codes "no " ++ property_name p)
    ∷ numbers (codes "load") n.inputs
    ∷ numbers (codes "room") n.outputs
    ∷ numbers (codes "flow") (length n.edges)
    ∷ marks (length n.edges)
    ∷ just (codes "end")
    ∷ []

-- the lines of a text, without their line feeds; after a last line feed comes an empty line
abbrev pub lines_of : List ℕ → List (List ℕ)
lines_of bytes = slice_split (λ b. b == 10) bytes

-- the line with this number, from 0, is of its form, which after the last is blanks; only there may it be missing
abbrev pub IsRightAt : List Form → List (List ℕ) → ℕ → Type 0
IsRightAt wanted lines k = MatchOption (slice_get lines k) (length wanted ≤ k) (λ line. Fills (slice_index_or wanted k blanks) line)

-- the line with this number, from 0, is the first that isn't right
pub record IsFirstWrong (wanted : List Form) (lines : List (List ℕ)) (k : ℕ) : Type 0 where
  pub wrong : IsRightAt wanted lines k → ⊥
  pub earlier : (j : ℕ) → j < k → IsRightAt wanted lines j

-- the line with this number, from 1, is the first of a text that isn't of the form that belongs there
abbrev pub IsFirstWrongLine : List Form → List ℕ → ℕ → Type 0
IsFirstWrongLine wanted bytes line = (k : ℕ) × (line ≡ k + 1) × IsFirstWrong wanted (lines_of bytes) k

-- the same of the text of a state of the network for the property
abbrev pub IsWrongLine : Network → Property → List ℕ → ℕ → Type 0
IsWrongLine n p bytes line = IsFirstWrongLine (forms n p) bytes line
