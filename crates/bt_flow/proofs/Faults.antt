-- Causes of faults, passed on.
use Rattle.std.proofs.Common.{◌≡◌, ℕ, ◌+◌, Result, Ok, Err, List, ◌++◌, inr, sym, ◌∙◌, subst}
use Rattle.std.specs.Result.{IfErr}
use Rattle.std.proofs.lemmas.List.{append_cancel_left}
use Rattle.bt_text.specs.Pieces.{LeadsTo}
use Rattle.bt_flow.specs.declared.fault.StateFault.{StateFault}
use Rattle.bt_flow.specs.declared.fault.StateFault.TheVariants.{CertLine, Memory}
use Rattle.bt_flow.specs.StateLines.{SpellsItems, Follows}
use Rattle.bt_flow.specs.Parts.{IsFault, LeadsOn, StopsAt, StopsInTwo, IsListLine}
use Rattle.bt_flow.specs.inner.Lines.{IsLineFault, StopsAtList}

fault_weaker : (P Q : ℕ → Type 0) (fault : StateFault) → ((line : ℕ) → P line → Q line) → IsFault P fault → IsFault Q fault
fault_weaker P Q (CertLine line) weaker h = weaker line h
fault_weaker P Q Memory weaker h = tt

-- a line that begins with the word is refused as what follows the word is
pub refused_after : {X A : Type 0} (number : ℕ) (word line text : List ℕ) (Spells : List ℕ → List A → Type 0) (r : Result X StateFault)
    → line ≡ word ++ text → IfErr r (IsLineFault number ((items : List A) → Spells text items → ⊥))
    → IfErr r (IsLineFault number ((items : List A) → Follows word line Spells items → ⊥))
refused_after number word line text Spells (Ok x) is h = tt
refused_after {A = A} number word line text Spells (Err fault) is h =
    fault_weaker (λ other. (other ≡ number) × ((items : List A) → Spells text items → ⊥))
    (λ other. (other ≡ number) × ((items : List A) → Follows word line Spells items → ⊥)) fault
    (λ other (same, none). (same, λ items follows. none items (spelled items follows)))
    h
  where
    spelled : (items : List A) → Follows word line Spells items → Spells text items
    spelled items follows =
        subst (λ t. Spells t items) (append_cancel_left word follows.text text (sym follows.line_is ∙ is)) follows.spells

-- a text is refused as the line that comes next is
pub refused_line : {A : Type 0} (CanStand : A → Type 0) (word : A → List ℕ) (number : ℕ) (name : List ℕ) (count : ℕ) (text line rest : List ℕ) (fault : StateFault)
    → LeadsTo 10 text line rest → IsLineFault number ((items : List A) → Follows name line (SpellsItems CanStand word count) items → ⊥) fault
    → IsLineFault number (StopsAtList CanStand word name count text) fault
refused_line {A = A} CanStand word number name count text line rest fault leads h =
    fault_weaker (λ other. (other ≡ number) × ((items : List A) → Follows name line (SpellsItems CanStand word count) items → ⊥))
    (λ other. (other ≡ number) × StopsAtList CanStand word name count text) fault
    (λ other (same, none). (same, inr (rest, record { line = line; leads = leads; right = λ (items, follows). none items follows })))
    h

-- the second of two lines is refused
pub refused_second : (number : ℕ) (First Second : List ℕ → Type 0) (text middle : List ℕ) (fault : StateFault) → LeadsOn First text middle
    → IsLineFault (number + 1) (StopsAt Second middle) fault → IsFault (StopsInTwo number First Second text) fault
refused_second number First Second text middle fault leads h =
    fault_weaker (λ line. (line ≡ number + 1) × StopsAt Second middle) (StopsInTwo number First Second text) fault
    (λ line (is, stops). inr (is, (middle, leads, stops))) h

-- a line with these items is one with some
pub some_items : {A : Type 0} (CanStand : A → Type 0) (word : A → List ℕ) (name : List ℕ) (count : ℕ) (text : List ℕ) (items : List A) (rest : List ℕ)
    → IsListLine CanStand word name count text items rest → LeadsOn (λ line. (all : List A) × Follows name line (SpellsItems CanStand word count) all) text rest
some_items CanStand word name count text items rest h = record { line = h.line; leads = h.leads; right = (items, h.right) }
