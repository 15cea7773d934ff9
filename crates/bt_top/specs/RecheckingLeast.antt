-- What `check-layout` answers to what `smallest` wrote.
use Rattle.std.specs.Prelude.{◌≡◌, ℕ, ◌≤◌, List, [], ◌∷◌, ◌++◌, All, length, Option, Ok}
use Rattle.std.specs.Global.{Vec}
use Rattle.bt_parts.specs.declared.hand.Priority.{Priority}
use Rattle.bt_parts.specs.declared.part.Rect.{Rect}
use Rattle.bt_parts.specs.declared.part.Tier.{Tier}
use Rattle.bt_grids.specs.declared.outcome.RuledOut.{RuledOut}
use Rattle.bt_grids.specs.declared.outcome.Smallest.{Smallest}
use Rattle.bt_grids.specs.declared.outcome.Smallest.TheVariants.{Found, Nowhere, Spent}
use Rattle.bt_grids.specs.SmallestText.{nowhere_text, earlier_text, from_line}
use Rattle.bt_print.specs.declared.answer.Answer.TheVariants as answer
use Rattle.bt_print.specs.declared.answer.Brief.TheVariants as brief
use Rattle.bt_designs.specs.declared.held.TheConstants.{MOST_CHECKED}
use Rattle.bt_print.specs.Answers.{text_of}
use Rattle.bt_top.specs.NoneCertificates.{IsLayoutChecked}
use Rattle.bt_top.specs.Searching.{IsSearchedFrom}

-- the grids of which a certificate is written: all that are ruled out, but where a log is used up none
abbrev pub certified_in : Smallest → List RuledOut
certified_in (Found earlier grid parts) = earlier.items
certified_in (Nowhere earlier) = earlier.items
certified_in (Spent earlier grid log) = []

-- behind the network text, the certificate of a grid is accepted with this grid and the tier, where both aren't more
-- than `check-layout` reads
abbrev pub IsAccepted : Option Tier → List ℕ → RuledOut → Type 0
IsAccepted tier bytes one = length (bytes ++ 10 ∷ nowhere_text one.log.steps) ≤ MOST_CHECKED
    → IsLayoutChecked one.grid tier (bytes ++ 10 ∷ nowhere_text one.log.steps) (Ok (answer.Brief brief.NoLayout))

-- the text begins with the line of the first grid, where one is named, and the lines and certificates of these
abbrev pub BeginsWithGrids : Option Rect → List ℕ → List RuledOut → Type 0
BeginsWithGrids first text ones = (rest : List ℕ) × (text ≡ from_line first ++ earlier_text ones ++ rest)

-- what `smallest` writes begins with the line of the grid with which it begins, where one is named, and the lines of
-- grids and their certificates, and each certificate is accepted behind the network text
abbrev pub LeastIsChecked : Type 0
LeastIsChecked = (first : Option Rect) (most : Rect) (tier : Option Tier) (learnt : ℕ) (bytes : List ℕ) (found : Smallest) (priorities : Vec Priority)
    → IsSearchedFrom first most tier learnt bytes (Ok (answer.Least first found priorities)) → BeginsWithGrids first (text_of (answer.Least first found priorities)) (certified_in found) × All (IsAccepted tier bytes) (certified_in found)
