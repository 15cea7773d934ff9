-- The lists of a step line, each item after a space.
use Rattle.std.specs.Prelude.{◌≡◌, ℕ, List, ◌++◌}
use Rattle.bt_text.specs.Lines.{Lacks}
use Rattle.bt_text.specs.Pieces.{BeginsWith, LeadsTo}
use Rattle.bt_log.specs.LogText.{words}

-- the word of an item comes next, after a space, and then this rest
abbrev pub LeadsToItem : {A : Type 0} → (A → Type 0) → (A → List ℕ) → List ℕ → A → List ℕ → Type 0
LeadsToItem CanStand word text item rest = CanStand item × LeadsTo 32 text (word item) rest

-- no word of an item comes next
abbrev pub LeadsToNone : {A : Type 0} → (A → Type 0) → (A → List ℕ) → List ℕ → Type 0
LeadsToNone {A} CanStand word text = (item : A) (rest : List ℕ) → LeadsToItem CanStand word text item rest → ⊥

-- no word of an item has a space
abbrev pub HaveNoSpace : {A : Type 0} → (A → Type 0) → (A → List ℕ) → Type 0
HaveNoSpace {A} CanStand word = (item : A) → CanStand item → Lacks 32 (word item)

-- the text is the words of these items, each after a space, and a rest, where no word of an item comes next
pub record StopsAfter {A : Type 0} (CanStand : A → Type 0) (word : A → List ℕ) (text : List ℕ) (items : List A) (rest : List ℕ) : Type 0 where
  pub text_is : text ≡ words word items ++ rest
  pub begins : BeginsWith 32 text → BeginsWith 32 rest
  pub no_more : LeadsToNone CanStand word rest
