-- The answers of a check, by the slots to which its pivots lead.
use Rattle.std.specs.Prelude.{◌≡◌, List, ℕ}
use Rattle.bt_pivot.specs.SolvedForms.{Slots, basis_of}
use Rattle.bt_pivot.specs.Tableaus.{TableauParts, IsTableau, with_slots}
use Rattle.bt_simplex.specs.Checks.{StartsAt, IsCheck, cause_of}
use Rattle.bt_pivot.specs.declared.basis.Pivot.{Pivot}
use Rattle.bt_simplex.specs.declared.answers.Wide.{Wide}
use Rattle.bt_simplex.specs.declared.answers.Check.{Check}
use Rattle.bt_simplex.specs.declared.answers.Check.TheVariants.{Sat, Unsat, Pivots, Wide as TooWide}
use Rattle.bt_pivot.specs.declared.causes.Cause.{Cause}

-- the answer tells this cause, after these pivots, at the basis of these slots
pub record IsWideFor (t : TableauParts) (steps : List Pivot) (slots : Slots) (cause : Cause) (wide : Wide) : Type 0 where
  pub starts : StartsAt t wide.trace
  pub steps_are : wide.trace.steps.items ≡ steps
  pub basis : wide.basis.items ≡ basis_of slots
  pub cause_is : cause_of wide ≡ cause

-- the slots that stay after a check: those to which its pivots lead, where they are of a final basis, and else those
-- before it
abbrev pub slots_after : Slots → Slots → Check → Slots
slots_after before reached (Sat values) = reached
slots_after before reached (Unsat weights) = reached
slots_after before reached (Pivots trace) = before
slots_after before reached (TooWide wide) = before

-- what a check answers whose pivots lead to these slots
pub record Concludes (pivots : ℕ) (t : TableauParts) (reached : Slots) (check : Check) : Type 0 where
  pub tableau : IsTableau (with_slots t (slots_after t.slots reached check))
  pub checked : IsCheck pivots t (with_slots t (slots_after t.slots reached check)) check
