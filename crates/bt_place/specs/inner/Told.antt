-- What an assignment says of the facts of a request.
use Rattle.std.specs.Prelude.{Bool, List}
use Rattle.bt_cnf.specs.Assignments.{truth_in}
use Rattle.bt_model.specs.Requests.{LayoutRequest, IsRequest}
use Rattle.bt_facts.specs.declared.fact.Fact.{Fact}
use Rattle.bt_rules.specs.Laws.{KeepsRules}
use Rattle.bt_place.specs.Laws.{read_by}

-- a request, and an assignment of its formula
pub record Told : Type 0 where
  pub request : LayoutRequest
  pub assignment : List Bool

-- this request, and this assignment
abbrev pub told_of : LayoutRequest → List Bool → Told
told_of r assignment = record { request = r; assignment = assignment }

-- the facts as the assignment reads them
abbrev pub reading_of : Told → Fact → Bool
reading_of t fact = read_by t.request (truth_in t.assignment) fact

-- the facts that hold keep the rules of the request
pub record IsSolved (t : Told) : Type 0 where
  pub is_request : IsRequest t.request
  pub keeps : KeepsRules t.request (reading_of t)
