-- Formulas to which the clauses of rules are added.
use Rattle.std.specs.Prelude.{◌≡◌, ◌<◌, ℕ, true, false, List, [], ◌∷◌, ◌++◌, map, if◌then◌else◌}
use Rattle.bt_cnf.specs.declared.literal.Lit.{Lit}
use Rattle.bt_cnf.specs.Formulas.{FormulaParts}
use Rattle.bt_model.specs.Requests.{LayoutRequest, IsRequest}
use Rattle.bt_facts.specs.declared.draft.RuleFact.{RuleFact}
use Rattle.bt_facts.specs.declared.fact.Fact.{Fact}
use Rattle.bt_facts.specs.Rules.{Rule}
use Rattle.bt_place.specs.Numbering.{Sizes, variables, variable_of}
use Rattle.bt_place.specs.PlaceFormula.{sizes_of, literal, clause_of}
use Rattle.bt_place.specs.Within.{IsNumbered}

-- the formula has these variables, of which each fact has one
pub record HasVariables (z : Sizes) (vars : ℕ) : Type 0 where
  pub count : vars ≡ variables z
  pub each : (x : Fact) → IsNumbered z x → variable_of z x < vars

-- a request with its sizes, and a formula that has its variables
pub record IsEncoding (r : LayoutRequest) (z : Sizes) (vars : ℕ) : Type 0 where
  pub is_request : IsRequest r
  pub of_request : z ≡ sizes_of r
  pub variables : HasVariables z vars

-- the formula with the clauses of these rules too
abbrev pub with_rules : Sizes → FormulaParts → List Rule → FormulaParts
with_rules z f rules = record f { clauses = f.clauses ++ map (clause_of z) rules }

-- the literal of a claim, where it is one of those that are given
abbrev pub given_literal : Sizes → RuleFact → List Lit
given_literal z claim = if claim.follows then [] else literal z false claim.fact ∷ []

-- the literal of a claim, where it is one of those of which one follows
abbrev pub following_literal : Sizes → RuleFact → List Lit
following_literal z claim = if claim.follows then literal z true claim.fact ∷ [] else []
