-- Assignments as lists, which grow and change.
use Rattle.std.proofs.Common.{◌≡◌, ℕ, ◌<◌, inl, inr, Bool, true, false, List, [], length, sym, ◌∙◌}
use Rattle.std.proofs.lemmas.Bool.{cases_lt, false≢true}
use Rattle.std.proofs.lemmas.List.{get_or_past}
use Rattle.bt_cnf.specs.Assignments.{truth_in}

-- what is true is before the end of the list
pub below_true : (xs : List Bool) (v : ℕ) → truth_in xs v ≡ true → v < length xs
below_true xs v h = elim (cases_lt v (length xs)) [ inl l ↦ l | inr l ↦ absurd (false≢true (sym (get_or_past xs v false l) ∙ h)) ]
