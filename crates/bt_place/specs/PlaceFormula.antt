-- The placement formula of a request. That there is no layout where a log refutes it rests on one law and not on how
-- its rules read: parts that lay a request give an assignment that meets its formula (`LayingMeets`, which
-- `laying_meets` has as its contract). That what is decoded is a layout rests on `MeetingKeeps`. The rules that count
-- halves (`count_rules`) say nothing that the others don't; they are there for the search.
use Rattle.std.specs.List.{range_with_len, position_or_len}
use Rattle.std.specs.Prelude.{◌≡◌, ◌⊎◌, ℕ, ◌*◌, ◌≤◌, ◌==◌, Bool, true, false, List, [], ◌++◌, length, map}
use Rattle.bt_cnf.specs.declared.literal.Lit.{Lit}
use Rattle.bt_cnf.specs.Formulas.{FormulaParts}
use Rattle.bt_net.specs.Network.{Network}
use Rattle.bt_model.specs.Requests.{LayoutRequest}
use Rattle.bt_facts.specs.declared.fact.Fact.{Fact}
use Rattle.bt_demands.specs.Classes.{classes_of}
use Rattle.bt_demands.specs.Counting.{halves_of, has_room}
use Rattle.bt_model.specs.declared.request.TheConstants.{MOST_CELLS, MOST_ENCODED}
use Rattle.bt_rules.specs.PlaceRules.{rules_of}
use Rattle.bt_facts.specs.Rules.{Rule}
use Rattle.bt_rules.specs.Underground.{most_distance}
use Rattle.bt_demands.specs.Rows.{lining}
use Rattle.bt_demands.specs.Stopping.{stopping}
use Rattle.bt_place.specs.Numbering.{Sizes, ordered, variable_of, variables}

-- the splitters of a network in the order in which the search places them: as the program finds it, step by step. It
-- numbers variables and no more, and the laws of the formula hold of it as it is
abbrev pub splitter_order : Network → List ℕ
splitter_order net = ordered net.splitters net.edges [] (range_with_len 0 net.splitters)

-- the rank of each splitter
abbrev pub ranks_of : Network → List ℕ
ranks_of net = map (λ s. position_or_len (λ k. k == s) (splitter_order net)) (range_with_len 0 net.splitters)

-- the sizes of a request
abbrev pub sizes_of : LayoutRequest → Sizes
sizes_of r = record {
  width = r.rect.width;
  height = r.rect.height;
  splitters = r.net.splitters;
  halves = halves_of r;
  inputs = r.net.inputs;
  stops = stopping r;
  lines = lining r;
  distances = most_distance r;
  classes = classes_of r;
  ranks = ranks_of r.net;
}

-- a fact as a literal that is true where it holds, or where it doesn't
abbrev pub literal : Sizes → Bool → Fact → Lit
literal z positive fact = record { var = variable_of z fact; positive = positive }

-- a rule as a clause: one of the given facts doesn't hold, or one of the others does
abbrev pub clause_of : Sizes → Rule → List Lit
clause_of z r = map (literal z false) r.given ++ map (literal z true) r.one_of

-- the request is no larger than those of which a formula with all rules is written
pub record IsEncodable (r : LayoutRequest) : Type 0 where
  pub cells : r.rect.width * r.rect.height ≤ MOST_CELLS
  pub edges : length r.net.edges ≤ MOST_ENCODED
  pub splitters : r.net.splitters ≤ MOST_ENCODED

-- the request has a formula: it is no larger than that, or its rectangle has no room, upon which the formula is the
-- empty clause
abbrev pub HasFormula : LayoutRequest → Type 0
HasFormula r = IsEncodable r ⊎ (has_room r ≡ false)

-- the formula of a request: for each rule one clause, and no atoms
abbrev pub place_formula : LayoutRequest → FormulaParts
place_formula r = record {
  vars = variables (sizes_of r);
  clauses = map (clause_of (sizes_of r)) (rules_of r);
  atoms = [];
}
