-- The placement formula of a request is a formula.
use Rattle.std.proofs.Common.{◌<◌, Bool, true, false, List, [], ◌∷◌, map, arith}
use Rattle.std.specs.List.{AllByRecursion}
use Rattle.std.proofs.lemmas.List.Elements.{All-from_recursion}
use Rattle.bt_cnf.specs.Formulas.{IsFormula, LitsBelow}
use Rattle.bt_cnf.specs.declared.literal.Lit.{Lit}
use Rattle.bt_model.specs.Requests.{LayoutRequest, IsRequest}
use Rattle.bt_facts.specs.declared.fact.Fact.{Fact}
use Rattle.bt_place.specs.Numbering.{variables}
use Rattle.bt_rules.specs.PlaceRules.{rules_of}
use Rattle.bt_facts.specs.Rules.{Rule}
use Rattle.bt_facts.proofs.Keeping.{each_both}
use Rattle.bt_place.specs.PlaceFormula.{sizes_of, splitter_order, literal, clause_of, place_formula}
use Rattle.bt_place.specs.Within.{IsNumbered, HasNumbered}
use Rattle.bt_place.proofs.Inverse.{fact_at}
use Rattle.bt_place.proofs.Numbered.{rules_numbered}
use Rattle.bt_place.proofs.Ranking.{ranked}

module _ (r : LayoutRequest) where
  literals_below : (positive : Bool) (facts : List Fact) → AllByRecursion (IsNumbered (sizes_of r)) facts
      → AllByRecursion (λ (l : Lit). l.var < variables (sizes_of r)) (map (literal (sizes_of r) positive) facts)
  literals_below positive [] h = tt
  literals_below positive (f ∷ facts) h = ((fact_at (sizes_of r) (splitter_order r.net) (ranked r) f h.0).0, literals_below positive facts h.1)

  clauses_below : (rules : List Rule) → AllByRecursion (HasNumbered (sizes_of r)) rules → AllByRecursion (LitsBelow (variables (sizes_of r))) (map (clause_of (sizes_of r)) rules)
  clauses_below [] h = tt
  clauses_below (rule ∷ rules) h = (
    All-from_recursion (λ (l : Lit). l.var < variables (sizes_of r)) (clause_of (sizes_of r) rule)
        (each_both (λ (l : Lit). l.var < variables (sizes_of r)) (map (literal (sizes_of r) false) rule.given) (map (literal (sizes_of r) true) rule.one_of)
        (literals_below false rule.given h.0.given) (literals_below true rule.one_of h.0.one_of)),
    clauses_below rules h.1,
  )

  pub place_is_formula : IsRequest r → IsFormula (place_formula r)
  place_is_formula is = record {
    clauses = All-from_recursion (LitsBelow (variables (sizes_of r))) (map (clause_of (sizes_of r)) (rules_of r)) (clauses_below (rules_of r) (rules_numbered r is));
    atoms = tt;
    rows = λ k d lt. absurd (omega arith);
  }
