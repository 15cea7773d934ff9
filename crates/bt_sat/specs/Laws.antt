-- When a step is fresh, and how many fresh steps there can be.
use Rattle.std.specs.Prelude.{◌≡◌, ◌≢◌, ◌<◌, ◌^◌, List, [], Contains, length}
use Rattle.bt_cnf.specs.Formulas.{FormulaParts, IsFormula}
use Rattle.bt_cnf.specs.declared.literal.Lit.{Lit}
use Rattle.bt_log.specs.Logs.{Step, clause_of}
use Rattle.bt_cnf.specs.Units.{opposite}
use Rattle.bt_log.specs.Validity.{AreValid}
use Rattle.bt_watch.specs.Propagation.{IsFullyPropagated, MeetsFalse}
use Rattle.bt_sat.specs.Freshness.{IsFreshStep, IsOpen}
use Rattle.bt_sat.specs.Solving.{AreFresh, AreNonempty}

-- where propagation has come to its end, a clause whose literals but one are false, and whose last isn't true, doesn't
-- follow by propagation
abbrev pub PropagatedIsOpen : Type 0
PropagatedIsOpen = (clauses : List (List Lit)) (falses lits : List Lit) (x : Lit) → IsFullyPropagated clauses falses → Contains lits x
    → ((l : Lit) → Contains lits l → l ≢ x → Contains falses l) → (Contains falses (opposite x) → ⊥) → IsOpen clauses lits x

-- where propagation meets a false clause before anything is chosen, only the empty step is fresh
abbrev pub OnlyEmptyAfterConflict : Type 0
OnlyEmptyAfterConflict = (clauses : List (List Lit)) (step : Step) → MeetsFalse clauses [] → IsFreshStep clauses step → clause_of step ≡ []

-- a log whose steps are each valid and fresh after the formula's clauses and the earlier steps, and of which none is
-- empty, has fewer than 3 ^ v steps over v variables
abbrev pub FreshStepsAreFew : Type 0
FreshStepsAreFew = (f : FormulaParts) (steps : List Step) → IsFormula f → AreValid f f.clauses steps → AreFresh f.clauses steps
    → AreNonempty steps → length steps < 3 ^ f.vars
