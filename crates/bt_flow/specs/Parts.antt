-- The parts of a state's text, one after another: what is read of each, and the line that stops it.
use Rattle.std.specs.Prelude.{◌≡◌, ◌⊎◌, ℕ, ◌+◌, ⊤, List, ◌∷◌, ◌++◌, All, Bool, codes, length}
use Rattle.bt_text.specs.Blanks.{IsBlank}
use Rattle.bt_text.specs.Lines.{line_feeds}
use Rattle.bt_text.specs.Pieces.{LeadsTo}
use Rattle.bt_frac.specs.Ratio.{Ratio, IsLowest}
use Rattle.bt_frac.specs.Texts.{frac_text}
use Rattle.bt_net.specs.Network.{Network}
use Rattle.bt_flow.specs.declared.fault.StateFault.{StateFault}
use Rattle.bt_flow.specs.declared.fault.StateFault.TheVariants.{CertLine, Memory}
use Rattle.bt_flow.specs.declared.reading.line.TheConstants.{LOADS}
use Rattle.bt_flow.specs.StateText.{mark_text}
use Rattle.bt_flow.specs.StateLines.{SpellsItems, Follows, Fills, numbers, marks}

-- the fault names a line of which this holds, unless it is want of memory
abbrev pub IsFault : (ℕ → Type 0) → StateFault → Type 0
IsFault P (CertLine line) = P line
IsFault P Memory = ⊤

-- a line of which this holds comes next, and then this rest
pub record LeadsOn (Right : List ℕ → Type 0) (text rest : List ℕ) : Type 0 where
  pub line : List ℕ
  pub leads : LeadsTo 10 text line rest
  pub right : Right line

-- no line of which this holds comes next: none, or another one
abbrev pub StopsAt : (List ℕ → Type 0) → List ℕ → Type 0
StopsAt Right text = ((rest : List ℕ) → text ≡ 10 ∷ rest → ⊥) ⊎ ((rest : List ℕ) × LeadsOn (λ line. Right line → ⊥) text rest)

-- of two lines that are to come next, the first has this number, and this is the one that doesn't come
abbrev pub StopsInTwo : ℕ → (List ℕ → Type 0) → (List ℕ → Type 0) → List ℕ → ℕ → Type 0
StopsInTwo number First Second text line = ((line ≡ number) × StopsAt First text)
    ⊎ ((line ≡ number + 1) × ((middle : List ℕ) × LeadsOn First text middle × StopsAt Second middle))

-- a line comes next that has this name and then so many items, and then this rest
abbrev pub IsListLine : {A : Type 0} → (A → Type 0) → (A → List ℕ) → List ℕ → ℕ → List ℕ → List A → List ℕ → Type 0
IsListLine CanStand word name count text items rest = LeadsOn (λ line. Follows name line (SpellsItems CanStand word count) items) text rest

-- the lines of loads and rooms come next, and then this rest
pub record IsEnds (n : Network) (text : List ℕ) (loads rooms : List Ratio) (rest : List ℕ) : Type 0 where
  pub middle : List ℕ
  pub load_line : IsListLine IsLowest frac_text (codes "load") n.inputs text loads middle
  pub room_line : IsListLine IsLowest frac_text (codes "room") n.outputs middle rooms rest

-- of the lines of loads and rooms this one doesn't come
abbrev pub StopsInEnds : Network → List ℕ → ℕ → Type 0
StopsInEnds n text line = StopsInTwo LOADS (Fills (numbers (codes "load") n.inputs)) (Fills (numbers (codes "room") n.outputs)) text line

-- the lines of flows and marks come next, and then this rest
pub record IsEdges (n : Network) (text : List ℕ) (flows : List Ratio) (backed : List Bool) (rest : List ℕ) : Type 0 where
  pub middle : List ℕ
  pub flow_line : IsListLine IsLowest frac_text (codes "flow") (length n.edges) text flows middle
  pub mark_line : IsListLine (λ _. ⊤) mark_text (codes "mark") (length n.edges) middle backed rest

-- of the lines of flows and marks, of which the first has this number, this one doesn't come
abbrev pub StopsInEdges : Network → ℕ → List ℕ → ℕ → Type 0
StopsInEdges n number text line = StopsInTwo number (Fills (numbers (codes "flow") (length n.edges))) (Fills (marks (length n.edges))) text line

-- the text is blanks and then a byte that isn't, after so many line feeds
pub record HasByteAfter (text : List ℕ) (feeds : ℕ) : Type 0 where
  pub blanks : List ℕ
  pub byte : ℕ
  pub rest : List ℕ
  pub text_is : text ≡ blanks ++ byte ∷ rest
  pub are_blanks : All IsBlank blanks
  pub other : IsBlank byte → ⊥
  pub feeds_are : feeds ≡ line_feeds blanks

-- the last line comes next, and then this rest
abbrev pub LeadsToEnd : List ℕ → List ℕ → Type 0
LeadsToEnd text rest = LeadsOn (λ line. line ≡ codes "end") text rest

-- the last line comes next, and then only blanks
pub record Closes (text : List ℕ) : Type 0 where
  pub rest : List ℕ
  pub ends : LeadsToEnd text rest
  pub blanks : All IsBlank rest

-- the last line comes next, and after so many line feeds a byte that isn't blank
pub record GoesOnAfter (text : List ℕ) (feeds : ℕ) : Type 0 where
  pub rest : List ℕ
  pub ends : LeadsToEnd text rest
  pub more : HasByteAfter rest feeds

-- the last line, which has this number, doesn't come next, or this line after it isn't blank
abbrev pub StopsAtEnd : ℕ → List ℕ → ℕ → Type 0
StopsAtEnd number text line = ((line ≡ number) × StopsAt (λ l. l ≡ codes "end") text) ⊎ ((feeds : ℕ) × (line ≡ number + feeds) × GoesOnAfter text feeds)
