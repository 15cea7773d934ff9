-- What `smallest --found` is asked, with the parts of the design beside the request.
use Rattle.std.specs.Prelude.{ℕ, List, Option, Some, None}
use Rattle.bt_parts.specs.declared.part.Part.{Part}
use Rattle.bt_model.specs.Requests.{LayoutRequest}
use Rattle.bt_grids.specs.Spanned.{IsSpanned}
use Rattle.bt_designs.specs.Designs.{IsJsonText}
use Rattle.bt_designs.specs.Kept.{AreDrawn}
use Rattle.bt_print.specs.Replies.{Reply}
use Rattle.bt_top.specs.Finding.{IsSmallFound}
use Rattle.bt_top.specs.declared.smallest_found.Asked.{Asked}

-- the request of what is asked
abbrev pub asked_request : Asked → LayoutRequest
asked_request asked = asked.request

-- the parts of the design, where it is a blueprint
abbrev pub IsDrawnAs : List ℕ → Option (List Part) → Type 0
IsDrawnAs bytes None = IsJsonText bytes → ⊥
IsDrawnAs bytes (Some parts) = AreDrawn bytes parts

-- what is answered to a request on the greatest grid, beside a design of these parts, where it is laid out
abbrev pub IsFoundBeside : Option (List Part) → ℕ → LayoutRequest → Reply → Type 0
IsFoundBeside None learnt r reply = IsSmallFound None learnt r reply
IsFoundBeside (Some parts) learnt r reply = (cells : ℕ) × IsSpanned cells parts × IsSmallFound (Some cells) learnt r reply
