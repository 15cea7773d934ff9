-- What follows from claims that are true, the claims that are true of steady states and of states that
-- break a property, and what follows from a log that refutes the flow formula.
use Rattle.std.specs.Prelude.{◌≡◌, ◌↔◌, ℕ, ◌<◌, ◌⊎◌, Bool, true, List, [], ◌∷◌, ◌++◌, pos, length, slice_index_or}
use Rattle.std.specs.List.{All, AllByRecursion}
use Rattle.bt_frac.specs.Ratio.{Ratio}
use Rattle.bt_frac.specs.Values.{RowHolds, AreValues}
use Rattle.bt_net.specs.Network.{Network, IsNetwork}
use Rattle.bt_flow.specs.States.{Flows, IsStateOf, backed_at}
use Rattle.bt_flow.specs.Steady.{IsSteady}
use Rattle.bt_flow.specs.declared.property.Property.{Property}
use Rattle.bt_flow.specs.Properties.{IsAdmissible, Breaks, Holds}
use Rattle.bt_cnf.specs.Meeting.{Meets}
use Rattle.bt_log.specs.Laws.{IsUnmet}
use Rattle.bt_log.specs.Logs.{Step}
use Rattle.bt_log.specs.Refuting.{Refutes}
use Rattle.bt_flow_formula.specs.declared.state_literal.Pair.{Pair}
use Rattle.bt_flow_formula.specs.declared.state_literal.StateLiteral.{StateLiteral}
use Rattle.bt_flow_formula.specs.declared.state_literal.StateLiteral.TheVariants.{Mark, Says, First}
use Rattle.bt_flow_formula.specs.Pairs.{first_row}
use Rattle.bt_flow_formula.specs.Numbering.{formula_of, AreNamed}
use Rattle.bt_flow_formula.specs.Levels.{level_column}
use Rattle.bt_flow_formula.specs.FlowFormula.{steady_clauses, flow_clauses, flow_formula, variable_of}

-- the claim is true of marks and values: the edge has this mark, the row holds, or the first row of the pair
abbrev pub IsTrueOf : (ℕ → Bool) → (ℕ → Ratio) → StateLiteral → Type 0
IsTrueOf mark values (Mark a backed) = mark a ≡ backed
IsTrueOf mark values (Says row) = RowHolds row values
IsTrueOf mark values (First pair) = RowHolds (first_row pair) values

-- one of the claims is true of marks and values
abbrev pub HasTrue : (ℕ → Bool) → (ℕ → Ratio) → List StateLiteral → Type 0
HasTrue mark values [] = ⊥
HasTrue mark values (claim ∷ claims) = IsTrueOf mark values claim ⊎ HasTrue mark values claims

-- an assignment that begins with these marks meets the formula with the values, and makes each atom true exactly where
-- its row holds
pub record IsMetWith (at : Pair → ℕ) (marks : ℕ) (clauses : List (List StateLiteral)) (mark : ℕ → Bool) (values : ℕ → Ratio)
    : Type 0 where
  pub assignment : ℕ → Bool
  pub begins : (a : ℕ) → a < marks → assignment a ≡ mark a
  pub meets : Meets (formula_of at marks clauses) assignment values
  pub exact : All (λ atom. (assignment atom.0 ≡ true) ↔ RowHolds atom.1 values) (formula_of at marks clauses).atoms

-- where each clause has a claim that is true of marks and values, these give an assignment that meets the
-- formula
abbrev pub TrueClaimsMeet : Type 0
TrueClaimsMeet = (at : Pair → ℕ) (marks : ℕ) (clauses : List (List StateLiteral)) (mark : ℕ → Bool) (values : ℕ → Ratio)
    → AreNamed at marks clauses → AllByRecursion (HasTrue mark values) clauses → IsMetWith at marks clauses mark values

-- the values of a state: its flows, loads and rooms in the order of columns, over its denominator
abbrev pub values_of : Flows → ℕ → Ratio
values_of s column =
    record { over = slice_index_or (s.flows ++ s.loads ++ s.rooms) column (pos 0); under = s.denominator }

-- the marks and values of each state that is admissible and steady meet the formula of the families' clauses
abbrev pub SteadyMeets : Type 0
SteadyMeets = (n : Network) → IsNetwork n → (s : Flows) → IsStateOf n s → IsAdmissible n s → IsSteady n s
    → IsMetWith (variable_of n) (length n.edges) (steady_clauses n) (backed_at s) (values_of s)

-- the marks and values of each state that breaks a property meet the clauses of claims: all of the flow formula but its
-- level
abbrev pub BreakingMeets : Type 0
BreakingMeets = (n : Network) (p : Property) (s : Flows) → IsNetwork n → Breaks n p s
    → AreValues (values_of s) × IsMetWith (variable_of n) (length n.edges) (flow_clauses n p) (backed_at s) (values_of s)

-- an assignment with values meets the flow formula of a network and a property, has a state's marks, and has its flows,
-- loads and rooms as the values of their columns
pub record IsMetBy (n : Network) (p : Property) (s : Flows) : Type 0 where
  pub assignment : ℕ → Bool
  pub values : ℕ → Ratio
  pub marks : (a : ℕ) → a < length n.edges → assignment a ≡ backed_at s a
  pub columns : (c : ℕ) → c < level_column n → values c ≡ values_of s c
  pub known : AreValues values
  pub meets : Meets (flow_formula n p) assignment values

-- each state that breaks a property gives an assignment with values that meets the flow formula
abbrev pub BreakingIsMet : Type 0
BreakingIsMet = (n : Network) (p : Property) (s : Flows) → IsNetwork n → Breaks n p s → IsMetBy n p s

-- where nothing meets the flow formula of a network and a property, the network has the property
abbrev pub UnmetHolds : Type 0
UnmetHolds = (n : Network) (p : Property) → IsNetwork n → IsUnmet (flow_formula n p) → Holds n p

-- so it has where a log refutes the formula
abbrev pub RefutedHolds : Type 0
RefutedHolds =
    (n : Network) (p : Property) (steps : List Step) → IsNetwork n → Refutes (flow_formula n p) steps → Holds n p
