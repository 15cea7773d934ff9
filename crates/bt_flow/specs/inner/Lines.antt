-- What is read of a state's text, one line after another.
use Rattle.std.specs.Prelude.{◌≡◌, ℕ, List}
use Rattle.bt_text.specs.Lines.{Lacks}
use Rattle.bt_text.specs.Pieces.{CutsAt, LeadsTo}
use Rattle.bt_flow.specs.declared.fault.StateFault.{StateFault}
use Rattle.bt_flow.specs.StateLines.{SpellsItems, Follows}
use Rattle.bt_flow.specs.Parts.{IsFault, StopsAt}

-- the fault names this line and has this cause, unless it is want of memory
abbrev pub IsLineFault : ℕ → Type 0 → StateFault → Type 0
IsLineFault number cause fault = IsFault (λ line. (line ≡ number) × cause) fault

-- no word of an item has a space
abbrev pub HaveNoSpace : {A : Type 0} → (A → Type 0) → (A → List ℕ) → Type 0
HaveNoSpace {A} CanStand word = (item : A) → CanStand item → Lacks 32 (word item)

-- the word of an item comes next, after a space, and then this rest
abbrev pub LeadsToItem : {A : Type 0} → (A → Type 0) → (A → List ℕ) → List ℕ → A → List ℕ → Type 0
LeadsToItem CanStand word text item rest = CanStand item × LeadsTo 32 text (word item) rest

-- no line comes next that has this name and then so many items
abbrev pub StopsAtList : {A : Type 0} → (A → Type 0) → (A → List ℕ) → List ℕ → ℕ → List ℕ → Type 0
StopsAtList {A} CanStand word name count text = StopsAt (λ line. (items : List A) × Follows name line (SpellsItems CanStand word count) items) text

-- the first line of a text is this title, and this rest follows
pub record IsTitled (wanted text rest : List ℕ) : Type 0 where
  pub title : List ℕ
  pub cuts : CutsAt 10 text title rest
  pub is_title : title ≡ wanted

-- another first line
pub record StopsAtTitle (wanted text : List ℕ) : Type 0 where
  pub title : List ℕ
  pub rest : List ℕ
  pub cuts : CutsAt 10 text title rest
  pub other : title ≡ wanted → ⊥
