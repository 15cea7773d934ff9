-- A log that refutes a placement formula, without the steps that its last one doesn't need.
use Rattle.std.proofs.Common.{◌≡◌, ℕ, arith, length, Option, List, ap, ◌∙◌}
use Rattle.bt_cnf.specs.declared.literal.Lit.{Lit}
use Rattle.bt_cnf.specs.Formulas.{FormulaParts}
use Rattle.bt_log.specs.Logs.{LogParts}
use Rattle.bt_sat.specs.Answering.{GivesNext}
use Rattle.bt_sat.specs.Solving.{SolverParts, begun, log_of}
use Rattle.bt_sat.specs.declared.answer.Answer.{Answer}
use Rattle.bt_sat.specs.declared.answer.Answer.TheVariants.{Refuted}
use Rattle.bt_model.specs.Requests.{LayoutRequest}
use Rattle.bt_place.specs.PlaceFormula.{place_formula}
use Rattle.bt_log.proofs.Left.{is_short}
use Rattle.bt_theory.proofs.Trimmed.{trimmed_refutation}
use Rattle.bt_layout.specs.inner.Ends.{EndsWith, IsOver, IsSought, IsTrimmedTo}
use Rattle.bt_grids.specs.declared.outcome.Layout.{Layout}
use Rattle.bt_grids.specs.declared.outcome.Layout.TheVariants as layout
use Rattle.bt_layout.specs.inner.Progressing.{HasLog}

-- the log of a search is over the clauses of its formula
pub is_over : (r : LayoutRequest) (learnt : ℕ) (f : FormulaParts) (old new : SolverParts) (waiting left : List (Option (List (List Lit)))) (answer : Answer) (log : LogParts)
    → f ≡ place_formula r → old ≡ begun f learnt → GivesNext old waiting new left answer → log ≡ log_of new → IsOver r log
is_over r learnt f old new waiting left answer log is begins gives e =
    ap (λ (l : LogParts). l.first) e ∙ ap (λ (g : FormulaParts). length g.clauses) (gives.goes_on.formula ∙ ap (λ (s : SolverParts). s.formula) begins ∙ is)

-- what is told is right
pub nowhere_layout : (r : LayoutRequest) (learnt : ℕ) (log : LogParts) (told : Layout) → IsOver r log → EndsWith r learnt log.steps Refuted → IsTrimmedTo log told → IsSought r learnt told
nowhere_layout r learnt log (layout.Found parts) over ends trimmed = absurd trimmed
nowhere_layout r learnt log (layout.Spent left) over ends trimmed = absurd trimmed
nowhere_layout r learnt log (layout.Nowhere left) over ends trimmed =
    let short = is_short log left trimmed in
    (ends.0, trimmed_refutation (place_formula r) log left trimmed over ends.1, omega (arith, short, ends.2), record { first = trimmed.first ∙ over; tight = trimmed.tight })

-- and has no more steps
pub nowhere_log : (log : LogParts) (told : Layout) → IsTrimmedTo log told → HasLog told (length log.steps)
nowhere_log log (layout.Found parts) trimmed = absurd trimmed
nowhere_log log (layout.Spent left) trimmed = absurd trimmed
nowhere_log log (layout.Nowhere left) trimmed = is_short log left trimmed
