-- What is printed behind a design.
use Rattle.std.proofs.Common.{◌≡◌, ◌≢◌, ℕ, ◌^◌, ◌<◌, ◌≤◌, List, [], ◌∷◌, ◌++◌, length, alloc_error, Ok, arith, length-append}
use Rattle.std.specs.Prelude.{codes}
use Rattle.std.specs.List.{flat_map}
use Rattle.bt_text.specs.Lines.{line}
use Rattle.bt_log.specs.Logs.{Step}
use Rattle.bt_log.specs.LogText.{step_line, step_text, log_text}
use Rattle.bt_print.specs.declared.answer.Answer.{Answer}
use Rattle.bt_print.specs.declared.answer.Answer.TheVariants as answer
use Rattle.bt_print.specs.declared.answer.Brief.TheVariants as brief
use Rattle.bt_designs.specs.declared.fault.DesignFault.{DesignFault}
use Rattle.bt_designs.specs.declared.fault.DesignFault.TheVariants as design
use Rattle.bt_designs.specs.declared.held.TheConstants.{MOST_CHECKED}
use Rattle.bt_designs.specs.declared.refusal.Refusal.{Refusal}
use Rattle.bt_print.specs.Replies.{design_told}
use Rattle.bt_designs.proofs.InTurns.{same_value, not_both}

-- an answer that is no refusal isn't that of a design's fault
pub no_refusal : (a : Answer) (fault : DesignFault) → ((r : Refusal) → a ≢ answer.Brief (brief.Refused r)) → Ok a ≡ design_told fault → ⊥
no_refusal a (design.Refused r) other e = other r (same_value a (answer.Brief (brief.Refused r)) e)
no_refusal a design.Memory other e = not_both a alloc_error e

-- a log has no more steps than its text has bytes
steps_in : (steps : List Step) → length steps ≤ length (flat_map step_line steps)
steps_in [] = omega arith
steps_in (step ∷ steps) =
    omega (arith, steps_in steps, length-append (step_line step) (flat_map step_line steps), length-append (step_text step) (10 ∷ []))

-- where a log behind some bytes, a line and other lines isn't more than `check` reads, it has few steps
pub few_printed : (bytes first middle : List ℕ) (steps : List Step) → length (bytes ++ 10 ∷ (line first ++ (middle ++ log_text steps))) ≤ MOST_CHECKED → length steps < 10 ^ 17
few_printed bytes first middle steps short =
    omega (
      arith,
      short,
      steps_in steps,
      length-append bytes (10 ∷ (line first ++ (middle ++ log_text steps))),
      length-append (line first) (middle ++ log_text steps),
      length-append middle (log_text steps),
      length-append (flat_map step_line steps) (codes "end\n"),
    )
