-- That the formula of two networks is met by just the pairs that show a difference, and what follows from a log that
-- refutes it.
use Rattle.std.specs.Prelude.{◌≡◌, ◌↔◌, ℕ, ◌+◌, ◌<◌, Bool, List, length}
use Rattle.bt_frac.specs.Ratio.{Ratio}
use Rattle.bt_frac.specs.Values.{AreValues}
use Rattle.bt_net.specs.Network.{Network, IsNetwork}
use Rattle.bt_flow.specs.States.{Flows, backed_at}
use Rattle.bt_cnf.specs.Formulas.{IsFormula}
use Rattle.bt_cnf.specs.Meeting.{Meets}
use Rattle.bt_log.specs.Laws.{IsUnmet}
use Rattle.bt_log.specs.Logs.{Step}
use Rattle.bt_log.specs.Refuting.{Refutes}
use Rattle.bt_flow_formula.specs.Laws.{values_of}
use Rattle.bt_flow_formula.specs.Solutions.{HasValues}
use Rattle.bt_same.specs.Sameness.{HaveEqualEnds, AreSame, ShowsDifference}
use Rattle.bt_same.specs.SameFormula.{shifted, first_shift, second_columns, second_vars, same_formula}

-- an assignment with values that meets the formula of two networks: its marks are those of two states, and its values
-- are their flows, loads and rooms
pub record IsMetByBoth (a b : Network) (s t : Flows) : Type 0 where
  pub assignment : ℕ → Bool
  pub values : ℕ → Ratio
  pub are_values : AreValues values
  pub meets : Meets (same_formula a b) assignment values
  pub first_marks : (k : ℕ) → k < length a.edges → assignment k ≡ backed_at s k
  pub second_marks : (k : ℕ) → k < length b.edges → assignment (k + length a.edges) ≡ backed_at t k
  pub first_values : (c : ℕ) → values (shifted (first_shift a b) c) ≡ values_of s c
  pub second_values : (c : ℕ) → values (shifted (second_columns a b) c) ≡ values_of t c

-- each pair that shows a difference meets the formula of the two networks
abbrev pub ShowingMeets : Type 0
ShowingMeets = (a b : Network) (s t : Flows) → IsNetwork a → IsNetwork b → HaveEqualEnds a b → ShowsDifference a b s t → IsMetByBoth a b s t

-- where an assignment with values, which may be any fractions, meets the formula of two networks, each two states over
-- one denominator with these marks and values show a difference
abbrev pub MeetingShows : Type 0
MeetingShows = (a b : Network) (assignment : ℕ → Bool) (values : ℕ → Ratio) (s t : Flows) → IsNetwork a → IsNetwork b → HaveEqualEnds a b
    → AreValues values → Meets (same_formula a b) assignment values → s.denominator ≡ t.denominator
    → HasValues a s (λ v. assignment (shifted (first_shift a b) v)) (λ c. values (shifted (first_shift a b) c))
    → HasValues b t (λ v. assignment (shifted (second_vars a b) v)) (λ c. values (shifted (second_columns a b) c))
    → ShowsDifference a b s t

-- two networks behave the same exactly where no pair shows a difference
abbrev pub SameExactly : Type 0
SameExactly = (a b : Network) → AreSame a b ↔ ((s t : Flows) → ShowsDifference a b s t → ⊥)

-- where nothing meets the formula of two networks, they behave the same
abbrev pub UnmetAreSame : Type 0
UnmetAreSame = (a b : Network) → IsNetwork a → IsNetwork b → HaveEqualEnds a b → IsUnmet (same_formula a b) → AreSame a b

-- so they do where a log refutes it
abbrev pub RefutedAreSame : Type 0
RefutedAreSame = (a b : Network) (steps : List Step) → IsNetwork a → IsNetwork b → HaveEqualEnds a b → IsFormula (same_formula a b)
    → Refutes (same_formula a b) steps → AreSame a b
