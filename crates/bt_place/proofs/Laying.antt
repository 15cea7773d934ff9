-- Each layout that lays a request gives an assignment that meets its formula.
use Rattle.std.proofs.Common.{◌≡◌, ◌⊎◌, inl, inr, ℕ, zero, suc, ◌<◌, Bool, true, false, List, [], ◌∷◌, ◌++◌, length, map, get_or, refl, ◌∙◌, ap, ⊎_elim, arith}
use Rattle.std.specs.List.{All, Any, AllByRecursion}
use Rattle.bt_cnf.specs.Meeting.{IsTrueUnder, MeetsClause}
use Rattle.bt_model.specs.Requests.{LayoutRequest}
use Rattle.bt_facts.specs.declared.fact.Fact.{Fact}
use Rattle.bt_rules.specs.PlaceRules.{rules_of}
use Rattle.bt_facts.specs.Rules.{Rule, AllHold, OneHolds, Keeps}
use Rattle.bt_rules.proofs.Laying.{laying_keeps}
use Rattle.bt_place.specs.Laws.{LayingMeets}
use Rattle.bt_place.specs.Numbering.{variable_of}
use Rattle.bt_place.specs.PlaceFormula.{splitter_order, sizes_of, literal, clause_of}
use Rattle.bt_place.specs.Within.{IsNumbered, HasNumbered}
use Rattle.bt_place.proofs.Counting.{joined}
use Rattle.bt_place.proofs.Inverse.{blocks, fact_at, blocks_long}
use Rattle.bt_place.proofs.Numbered.{rules_numbered}
use Rattle.bt_place.proofs.Ranking.{ranked}

from_all : {X : Type 0} (P : X → Type 0) (xs : List X) → AllByRecursion P xs → All P xs
from_all P [] h = λ k d lt. absurd (omega arith)
from_all P (x ∷ xs) h = λ k d lt. by k d lt (from_all P xs h.1)
  where
    by : (k : ℕ) (d : _) → k < length (x ∷ xs) → All P xs → P (get_or (x ∷ xs) k d)
    by zero d lt rest = h.0
    by (suc k) d lt rest = rest k d (omega arith)

any_here : {X : Type 0} (P : X → Type 0) (x : X) (xs : List X) → P x → Any P (x ∷ xs)
any_here P x xs p = (0, x, omega arith, refl, p)

any_later : {X : Type 0} (P : X → Type 0) (x : X) (xs : List X) → Any P xs → Any P (x ∷ xs)
any_later P x xs h = let lt = h.2 in (suc h.0, h.1, omega (arith, lt), h.3, h.4)

either : (b : Bool) → (b ≡ true) ⊎ (b ≡ false)
either true = inl refl
either false = inr refl

module _ (r : LayoutRequest) (reading : Fact → Bool) where
  -- what is read at a place of a list of facts
  read_off : List Fact → ℕ → Bool
  read_off [] v = false
  read_off (f ∷ facts) zero = reading f
  read_off (f ∷ facts) (suc v) = read_off facts v

  read_at : (facts : List Fact) (v : ℕ) (f : Fact) → get_or facts v f ≡ f → v < length facts → read_off facts v ≡ reading f
  unfolding read_off
  read_at [] v f e lt = absurd (omega arith)
  read_at (g ∷ facts) zero f e lt = ap reading e
  read_at (g ∷ facts) (suc v) f e lt = read_at facts v f e (omega arith)

  -- the assignment that reads so
  assigned : ℕ → Bool
  assigned v = read_off (joined (blocks (sizes_of r) (splitter_order r.net))) v

  assigned_at : (f : Fact) → IsNumbered (sizes_of r) f → assigned (variable_of (sizes_of r) f) ≡ reading f
  unfolding assigned
  assigned_at f h =
      let at = fact_at (sizes_of r) (splitter_order r.net) (ranked r) f h in
      let long = blocks_long (sizes_of r) (splitter_order r.net) (ranked r) in
      let lt = at.0 in
      read_at (joined (blocks (sizes_of r) (splitter_order r.net))) (variable_of (sizes_of r) f) f at.1 (omega (arith, lt, long))

  conclude : (facts : List Fact) → AllByRecursion (IsNumbered (sizes_of r)) facts → OneHolds reading facts → MeetsClause assigned (map (literal (sizes_of r) true) facts)
  conclude [] w h = absurd h
  conclude (f ∷ facts) w (inl q) = any_here (IsTrueUnder assigned) (literal (sizes_of r) true f) (map (literal (sizes_of r) true) facts) (assigned_at f w.0 ∙ q)
  conclude (f ∷ facts) w (inr h) = any_later (IsTrueUnder assigned) (literal (sizes_of r) true f) (map (literal (sizes_of r) true) facts) (conclude facts w.1 h)

  clause_met : (given one_of : List Fact) → AllByRecursion (IsNumbered (sizes_of r)) given → AllByRecursion (IsNumbered (sizes_of r)) one_of
      → (AllHold reading given → OneHolds reading one_of) → MeetsClause assigned (map (literal (sizes_of r) false) given ++ map (literal (sizes_of r) true) one_of)
  clause_met [] one_of w v h = conclude one_of v (h tt)
  clause_met (f ∷ given) one_of w v h =
      ⊎_elim
      (λ q. any_later (IsTrueUnder assigned) (literal (sizes_of r) false f) (map (literal (sizes_of r) false) given ++ map (literal (sizes_of r) true) one_of)
      (clause_met given one_of w.1 v (λ all. h (q, all))))
      (λ n. any_here (IsTrueUnder assigned) (literal (sizes_of r) false f) (map (literal (sizes_of r) false) given ++ map (literal (sizes_of r) true) one_of)
      (assigned_at f w.0 ∙ n))
      (either (reading f))

  rules_met : (rules : List Rule) → AllByRecursion (HasNumbered (sizes_of r)) rules → AllByRecursion (Keeps reading) rules → AllByRecursion (MeetsClause assigned) (map (clause_of (sizes_of r)) rules)
  rules_met [] w h = tt
  rules_met (rule ∷ rules) w h = (clause_met rule.given rule.one_of w.0.given w.0.one_of h.0, rules_met rules w.1 h.1)

pub laying_meets : LayingMeets
laying_meets r parts is lays =
    let reads = laying_keeps r parts is lays in (
      assigned r reads.0,
      λ values. record {
        clauses = from_all (MeetsClause (assigned r reads.0)) (map (clause_of (sizes_of r)) (rules_of r)) (rules_met r reads.0 (rules_of r) (rules_numbered r is) reads.1);
        atoms = λ k d lt. absurd (omega arith);
      },
    )
