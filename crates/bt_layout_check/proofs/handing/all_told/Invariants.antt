use Rattle.std.proofs.Common.{◌≡◌, ℕ, ◌<◌, length, get_or}
use Rattle.bt_parts.specs.declared.hand.Priority.{Priority}
use Rattle.bt_parts.specs.declared.part.Part.{Part}
use Rattle.bt_parts.specs.Layouts.{HasPart}
use Rattle.bt_layout_check.specs.inner.Handed.{IsTold}
use Rattle.bt_layout_check.proofs.handing.all_told.Given as goal

-- what each part so far is to prefer
abbrev pub invariant-loop-index : goal.invariant-loop-index
invariant-loop-index l = (length l.priorities.items ≡ l.index)
    × ((k : ℕ) (d : Priority) → k < length l.priorities.items → (part : Part) → HasPart l.parts k part → IsTold l.halves l.wishes k part.kind (get_or l.priorities.items k d))
