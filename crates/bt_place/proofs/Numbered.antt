-- The facts within a request have variables.
use Rattle.std.proofs.Common.{◌≡◌, ℕ, ◌<◌, Bool, true, false, cond, List, [], ◌∷◌, length, arith}
use Rattle.std.specs.List.{AllByRecursion, list_any}
use Rattle.bt_model.specs.Requests.{LayoutRequest, IsRequest, is_row}
use Rattle.bt_facts.specs.declared.fact.Line.{Line}
use Rattle.bt_facts.specs.declared.fact.Line.TheVariants as line
use Rattle.bt_parts.specs.declared.part.Cell.{Cell}
use Rattle.bt_parts.specs.Cells.{IsInside}
use Rattle.bt_facts.specs.declared.fact.Fact.{Fact}
use Rattle.bt_facts.specs.declared.fact.Fact.TheVariants as fact
use Rattle.bt_demands.specs.Counting.{has_room, count_rules}
use Rattle.bt_rules.specs.PlaceRules.{cell_rules, splitter_rules, rules_of}
use Rattle.bt_demands.specs.Ends.{end_rules}
use Rattle.bt_facts.specs.Rules.{Rule}
use Rattle.bt_rules.specs.Within.{IsWithin, HasWithin}
use Rattle.bt_facts.specs.Spots.{cells_of}
use Rattle.bt_rules.proofs.RulesWithin.{rules_within, cell_within, splitter_within, ends_within, counts_within}
use Rattle.bt_place.specs.Numbering.{line_number, spots}
use Rattle.bt_place.specs.PlaceFormula.{sizes_of}
use Rattle.bt_place.specs.Within.{IsNumbered, HasNumbered}
use Rattle.bt_place.proofs.Inverse.{length_cells}

-- rows have numbers where there are any
lines_numbered : (b : Bool) (l : Line) → 0 < cond b 4 0 → line_number l < cond b 4 0
lines_numbered true line.InputsEast some = omega arith
lines_numbered true line.InputsSouth some = omega arith
lines_numbered true line.OutputsEast some = omega arith
lines_numbered true line.OutputsSouth some = omega arith
lines_numbered false l some = absurd (omega (arith, some))

pub numbered_of : (r : LayoutRequest) (x : Fact) → IsWithin r x → IsNumbered (sizes_of r) x
numbered_of r (fact.Kind c content) h = h
numbered_of r (fact.Carries c k) h = h
numbered_of r (fact.HalfOn c) h = h
numbered_of r (fact.BeltOn c) h = h
numbered_of r (fact.Begins c) h = h
numbered_of r (fact.Starts c i) h = h
numbered_of r (fact.Stops c o) h = h
numbered_of r (fact.Lies c l) h = (h.0, lines_numbered (list_any is_row r.demands) l h.1)
numbered_of r (fact.Pair c dir k) h = h
numbered_of r (fact.Tunnel c dir) h = h
numbered_of r (fact.Goes c dir) h = h
numbered_of r (fact.At s c dir) h = h
numbered_of r (fact.Column s x) h = h
numbered_of r (fact.Row s y) h = h
numbered_of r (fact.Points s dir) h = h
numbered_of r (fact.EntersLesser s) h = h
numbered_of r (fact.LeavesLesser s) h = h
numbered_of r (fact.Held spare half) h =
    let few = h.0 in
    let long : length (cells_of r.rect) ≡ spots (sizes_of r) = length_cells (sizes_of r) in
    (omega (arith, few, long), h.1)

facts_numbered : (r : LayoutRequest) (facts : List Fact) → AllByRecursion (IsWithin r) facts → AllByRecursion (IsNumbered (sizes_of r)) facts
facts_numbered r [] h = tt
facts_numbered r (x ∷ facts) h = (numbered_of r x h.0, facts_numbered r facts h.1)

list_numbered : (r : LayoutRequest) (rules : List Rule) → AllByRecursion (HasWithin r) rules → AllByRecursion (HasNumbered (sizes_of r)) rules
list_numbered r [] h = tt
list_numbered r (a ∷ rules) h =
    (record { given = facts_numbered r a.given h.0.given; one_of = facts_numbered r a.one_of h.0.one_of }, list_numbered r rules h.1)

module _ (r : LayoutRequest) (is : IsRequest r) where
  abbrev H : Rule → Type 0
  H = HasNumbered (sizes_of r)

  pub rules_numbered : AllByRecursion H (rules_of r)
  rules_numbered = list_numbered r (rules_of r) (rules_within r is)

  pub cell_numbered : (c : Cell) → IsInside r.rect c → AllByRecursion H (cell_rules r c)
  cell_numbered c h = list_numbered r (cell_rules r c) (cell_within r is c h)

  pub splitter_numbered : (s : ℕ) → s < r.net.splitters → AllByRecursion H (splitter_rules r s)
  splitter_numbered s lt = list_numbered r (splitter_rules r s) (splitter_within r is s lt)

  pub ends_numbered : AllByRecursion H (end_rules r)
  ends_numbered = list_numbered r (end_rules r) (ends_within r is)

  pub counts_numbered : has_room r ≡ true → AllByRecursion H (count_rules r)
  counts_numbered t = list_numbered r (count_rules r) (counts_within r is t)
