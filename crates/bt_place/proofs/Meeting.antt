-- Rules that are kept, and clauses that are met.
use Rattle.std.proofs.Common.{◌≡◌, ◌⊎◌, ℕ, zero, suc, ◌<◌, Bool, true, false, List, [], ◌∷◌, ◌++◌, length, map, get_or, sym, subst, ◌∙◌, inl, inr, ⊎_elim, arith}
use Rattle.std.specs.List.{All, Any, AllByRecursion}
use Rattle.std.proofs.lemmas.Bool.{false≢true}
use Rattle.bt_cnf.specs.Meeting.{IsTrueUnder, MeetsClause}
use Rattle.bt_facts.specs.declared.fact.Fact.{Fact}
use Rattle.bt_rules.specs.PlaceRules.{rules_of}
use Rattle.bt_facts.specs.Rules.{Rule, AllHold, OneHolds, Keeps}
use Rattle.bt_place.specs.Laws.{MeetingKeeps}
use Rattle.bt_place.specs.Numbering.{Sizes, variable_of}
use Rattle.bt_place.specs.PlaceFormula.{sizes_of, literal, clause_of}

-- what holds of each item of a mapped list
pub all_back : {X Y : Type 0} (f : X → Y) (P : Y → Type 0) (xs : List X) → All P (map f xs) → AllByRecursion (λ x. P (f x)) xs
all_back f P [] h = tt
all_back f P (x ∷ xs) h = (h 0 (f x) (omega arith), all_back f P xs (λ k d lt. h (suc k) d (omega arith)))

-- of a list the first item has P, or one of the others
any_cases : {X : Type 0} (P : X → Type 0) (x : X) (xs : List X) → Any P (x ∷ xs) → P x ⊎ Any P xs
any_cases P x xs h = by h.0 h.1 h.2 h.3 h.4
  where
    by : (k : ℕ) (y : _) → k < length (x ∷ xs) → get_or (x ∷ xs) k y ≡ y → P y → P x ⊎ Any P xs
    by zero y lt e p = inl (subst P (sym e) p)
    by (suc k) y lt e p = inr (k, y, omega arith, e, p)

module _ (z : Sizes) (assignment : ℕ → Bool) where
  one_holds : (facts : List Fact) → MeetsClause assignment (map (literal z true) facts) → OneHolds (λ fact. assignment (variable_of z fact)) facts
  one_holds [] h = let lt = h.2 in absurd (omega arith)
  one_holds (fact ∷ facts) h =
      ⊎_elim (λ t. inl t) (λ more. inr (one_holds facts more)) (any_cases (IsTrueUnder assignment) (literal z true fact) (map (literal z true) facts) h)

  kept : (given one_of : List Fact) → MeetsClause assignment (map (literal z false) given ++ map (literal z true) one_of)
      → AllHold (λ fact. assignment (variable_of z fact)) given → OneHolds (λ fact. assignment (variable_of z fact)) one_of
  kept [] one_of h all = one_holds one_of h
  kept (fact ∷ given) one_of h all =
      ⊎_elim (λ f. absurd (false≢true (sym f ∙ all.0))) (λ more. kept given one_of more all.1)
      (any_cases (IsTrueUnder assignment) (literal z false fact) (map (literal z false) given ++ map (literal z true) one_of) h)

each_kept : (z : Sizes) (assignment : ℕ → Bool) (rules : List Rule) → AllByRecursion (λ r. MeetsClause assignment (clause_of z r)) rules
    → AllByRecursion (Keeps (λ fact. assignment (variable_of z fact))) rules
each_kept z assignment [] h = tt
each_kept z assignment (r ∷ rules) h = (kept z assignment r.given r.one_of h.0, each_kept z assignment rules h.1)

pub meeting_keeps : MeetingKeeps
meeting_keeps r assignment values meets =
    each_kept (sizes_of r) assignment (rules_of r) (all_back (clause_of (sizes_of r)) (MeetsClause assignment) (rules_of r) meets.clauses)
