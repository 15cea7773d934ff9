-- What writes the clauses of a request's rules may rely on.
use Rattle.std.proofs.Common.{◌≡◌, ℕ, ◌<◌, ◌≤◌, ◌+◌, List, [], ◌++◌, length, map, take, get_or, refl, sym, ◌∙◌, ap, subst, arith}
use Rattle.std.specs.List.{AllByRecursion, flat_map}
use Rattle.bt_cnf.specs.Formulas.{FormulaParts}
use Rattle.bt_model.specs.Requests.{LayoutRequest, IsRequest}
use Rattle.bt_demands.specs.declared.plan.Gate.{Gate}
use Rattle.bt_demands.specs.Classes.{splitters_of}
use Rattle.bt_rules.specs.PlaceRules.{rules_of}
use Rattle.bt_facts.specs.Rules.{Rule}
use Rattle.bt_arena.proofs.Loops.{taken_more, taken_all}
use Rattle.bt_place.specs.Numbering.{Sizes, variables, variable_of}
use Rattle.bt_place.specs.PlaceFormula.{sizes_of, splitter_order, place_formula}
use Rattle.bt_place.specs.Within.{IsNumbered, HasNumbered}
use Rattle.bt_place.specs.inner.Writing.{IsEncoding, with_rules}
use Rattle.bt_place.proofs.Counting.{get_map, length_map, length_range, get_range}
use Rattle.bt_place.proofs.Inverse.{fact_at}
use Rattle.bt_place.proofs.Ranking.{ranked}
use Rattle.bt_place.proofs.Written.{with_more, has_after}

-- the formula of so many variables
pub encoding_of : (r : LayoutRequest) (is : IsRequest r) (z : Sizes) (vars : ℕ) → z ≡ sizes_of r → vars ≡ variables z → IsEncoding r z vars
encoding_of r is z vars same count = record {
  is_request = is;
  of_request = same;
  variables = record {
    count = count;
    each = λ x h.
        let lt : variable_of z x < variables z = subst (λ (w : Sizes). IsNumbered w x → variable_of w x < variables w) (sym same)
        (λ (k : IsNumbered (sizes_of r) x). (fact_at (sizes_of r) (splitter_order r.net) (ranked r) x k).0) h in
        omega (arith, lt, count);
  };
}

-- the splitter of a gate is one of the request's
pub gate_there : (r : LayoutRequest) (gates : List Gate) (i : ℕ) (d : Gate) → map (λ g. g.splitter) gates ≡ splitters_of r → i < length gates
    → (get_or gates i d).splitter < r.net.splitters
gate_there r gates i d same lt =
    let n = r.net.splitters in
    let long : length gates ≡ n = sym (length_map (λ (g : Gate). g.splitter) gates) ∙ ap length same ∙ length_range 0 n in
    let is : (get_or gates i d).splitter ≡ 0 + i = sym (get_map (λ (g : Gate). g.splitter) gates i 0 d lt) ∙ ap (λ l. get_or l i 0) same ∙ get_range 0 n i 0 (omega (arith, long, lt)) in
    omega (arith, is, long, lt)

-- ---- rules that are written

module _ (r : LayoutRequest) (z : Sizes) where
  -- the facts of the rules have variables
  pub drawn_numbered : (vars : ℕ) (drawn rules : List Rule) → IsEncoding r z vars → drawn ≡ rules → AllByRecursion (HasNumbered (sizes_of r)) rules → AllByRecursion (HasNumbered z) drawn
  drawn_numbered vars drawn rules is same h =
      subst (λ l. AllByRecursion (HasNumbered z) l) (sym same) (subst (λ w. AllByRecursion (HasNumbered w) rules) (sym is.of_request) h)

  -- and so are they with more clauses
  pub encoding_after : (old now : FormulaParts) (rules : List Rule) → IsEncoding r z old.vars → now ≡ with_rules z old rules → IsEncoding r z now.vars
  encoding_after old now rules is e = record { is_request = is.is_request; of_request = is.of_request; variables = has_after z old now rules is.variables e }

-- what an item of a list adds
pub item_written : {X : Type 0} (z : Sizes) (f : X → List Rule) (xs : List X) (old now new : FormulaParts) (i : ℕ) (d : X) → i < length xs
    → now ≡ with_rules z old (flat_map f (take i xs)) → new ≡ with_rules z now (f (get_or xs i d)) → new ≡ with_rules z old (flat_map f (take (i + 1) xs))
item_written z f xs old now new i d lt e h =
    with_more z old now new (flat_map f (take i xs)) (f (get_or xs i d)) (flat_map f (take (i + 1) xs)) e h
    (sym (taken_more f xs [] (flat_map f (take i xs)) (flat_map f (take i xs) ++ f (get_or xs i d)) i d lt refl refl))

-- what all items of a list add
pub items_written : {X : Type 0} (z : Sizes) (f : X → List Rule) (xs : List X) (old now : FormulaParts) (i : ℕ) → length xs ≤ i
    → now ≡ with_rules z old (flat_map f (take i xs)) → now ≡ with_rules z old (flat_map f xs)
items_written z f xs old now i le e = e ∙ ap (with_rules z old) (taken_all f xs [] (flat_map f (take i xs)) i le refl)

-- the formula of so many variables
abbrev empty : ℕ → FormulaParts
empty v = record { vars = v; clauses = []; atoms = [] }

-- the formula with the clauses of all rules
pub formula_written : (r : LayoutRequest) (z : Sizes) (f g : FormulaParts) (n : ℕ) → z ≡ sizes_of r → n ≡ variables z → f ≡ record { vars = n; clauses = []; atoms = [] }
    → g ≡ with_rules z f (rules_of r) → g ≡ place_formula r
formula_written r z f g n sizes count new written =
    written ∙ ap (λ (h : FormulaParts). with_rules z h (rules_of r)) (new ∙ ap (λ (v : ℕ). empty v) count)
    ∙ ap (λ (w : Sizes). with_rules w (empty (variables w)) (rules_of r)) sizes
