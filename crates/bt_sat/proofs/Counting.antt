-- A log of fresh steps is no longer than there are clauses, where a clause counts as the set of its literals: each has
-- a number in base 3, with a digit for each variable.
use Rattle.std.proofs.Common.{◌≡◌, ◌≢◌, ℕ, zero, suc, ◌+◌, ◌*◌, ◌^◌, ◌<◌, ◌⊎◌, inl, inr, arith, Bool, true, false, not, List, [], ◌∷◌, ◌++◌, length, sym, subst, refl, ap, ◌∙◌, eqb}
use Rattle.std.proofs.Math.Nat.{pow-succ'}
use Rattle.std.specs.Prelude.{Contains}
use Rattle.std.specs.List.{AllByRecursion, AllZip, IsDistinct, list_any}
use Rattle.std.proofs.lemmas.Bool.{eqb-true, false≢true, ne_eqb, or_cases}
use Rattle.std.proofs.lemmas.List.Elements.{All-head, All-tail, All-contains, Contains-append_left, Contains-push}
use Rattle.std.proofs.lemmas.Map.Steps.{length-le_from_distinct_below}
use Rattle.bt_frac.specs.Rows.{RowParts}
use Rattle.bt_cnf.specs.Formulas.{FormulaParts, IsFormula, LitsBelow}
use Rattle.bt_cnf.specs.Meeting.{IsTrueUnder, MeetsClause}
use Rattle.bt_cnf.specs.declared.literal.Lit.{Lit}
use Rattle.bt_log.specs.Logs.{Lemma, Learnt, Step, clause_of}
use Rattle.bt_cnf.specs.Units.{HasNoBothSigns, IsUnit, opposite}
use Rattle.bt_log.specs.Validity.{AreValid, IsValidStep, NegatesAtom}
use Rattle.bt_watch.specs.Propagation.{begins, goes_on}
use Rattle.bt_sat.specs.Freshness.{IsFreshLemma, IsFreshStep, IsOpen}
use Rattle.bt_sat.specs.Laws.{FreshStepsAreFew}
use Rattle.bt_sat.specs.Solving.{AreFresh, AreNonempty}
use Rattle.bt_cnf.proofs.Lists.{contains_here, contains_or, first_or, lit_or, none_in, all_of}
use Rattle.bt_log.proofs.NegatedAtoms.{negated_below}

-- 1 where the first holds, otherwise 2 where the second does, and otherwise 0
digit_by : {A B : Type 0} → A ⊎ (A → ⊥) → B ⊎ (B → ⊥) → ℕ
digit_by (inl a) y = 1
digit_by (inr n) (inl b) = 2
digit_by (inr n) (inr m) = 0

module _ {A B : Type 0} where
  digit_small : (x : A ⊎ (A → ⊥)) (y : B ⊎ (B → ⊥)) → digit_by x y < 3
  unfolding digit_by
  digit_small (inl a) y = omega arith
  digit_small (inr n) (inl b) = omega arith
  digit_small (inr n) (inr m) = omega arith

  digit_first : (x : A ⊎ (A → ⊥)) (y : B ⊎ (B → ⊥)) → A → digit_by x y ≡ 1
  unfolding digit_by
  digit_first (inl a) y h = refl
  digit_first (inr n) y h = absurd (n h)

  digit_second : (x : A ⊎ (A → ⊥)) (y : B ⊎ (B → ⊥)) → (A → ⊥) → B → digit_by x y ≡ 2
  unfolding digit_by
  digit_second (inl a) y none h = absurd (none a)
  digit_second (inr n) (inl b) none h = refl
  digit_second (inr n) (inr m) none h = absurd (m h)

  first_from : (x : A ⊎ (A → ⊥)) (y : B ⊎ (B → ⊥)) → digit_by x y ≡ 1 → A
  unfolding digit_by
  first_from (inl a) y is = a
  first_from (inr n) (inl b) is = absurd (omega (arith, is))
  first_from (inr n) (inr m) is = absurd (omega (arith, is))

  second_from : (x : A ⊎ (A → ⊥)) (y : B ⊎ (B → ⊥)) → digit_by x y ≡ 2 → B
  unfolding digit_by
  second_from (inl a) y is = absurd (omega (arith, is))
  second_from (inr n) (inl b) is = b
  second_from (inr n) (inr m) is = absurd (omega (arith, is))

abbrev lit_of : ℕ → Bool → Lit
lit_of var positive = record { var = var; positive = positive }

-- the digit of a variable: 1 where it stands there positive, 2 where it does negative, and 0 where it doesn't stand
-- there
digit : List Lit → ℕ → ℕ
digit lits var = digit_by (contains_or lits (lit_of var true)) (contains_or lits (lit_of var false))

-- the number of a clause over so many variables
code : List Lit → ℕ → ℕ
code lits zero = 0
code lits (suc var) = 3 * code lits var + digit lits var

code_below : (lits : List Lit) (vars : ℕ) → code lits vars < 3 ^ vars
unfolding code digit
code_below lits zero = omega arith
code_below lits (suc var) =
    let small = digit_small (contains_or lits (lit_of var true)) (contains_or lits (lit_of var false)) in
    omega (arith, small, code_below lits var, pow-succ' 3 var)

-- clauses with the same number have the same digits
same_digits : (a b : List Lit) (vars var : ℕ) → var < vars → code a vars ≡ code b vars → digit a var ≡ digit b var
unfolding code digit
same_digits a b zero var below same = absurd (omega (arith, below))
same_digits a b (suc last) var below same =
    let small_a = digit_small (contains_or a (lit_of last true)) (contains_or a (lit_of last false)) in
    let small_b = digit_small (contains_or b (lit_of last true)) (contains_or b (lit_of last false)) in
    elim (last_or var last below) [
      | inl at ↦ subst (λ v. digit a v ≡ digit b v) (sym at) (omega (arith, same, small_a, small_b))
      | inr before ↦ same_digits a b last var before (omega (arith, same, small_a, small_b))
    ]
  where
    last_or : (m n : ℕ) → m < suc n → (m ≡ n) ⊎ (m < n)
    last_or m n h = grind arith

-- a clause with a literal has another number than 0
some_code : (lits : List Lit) (vars var : ℕ) → var < vars → 0 < digit lits var → 0 < code lits vars
unfolding code
some_code lits zero var below some = absurd (omega (arith, below))
some_code lits (suc last) var below some =
    elim (last_or var last below) [
      | inl at ↦ let here : 0 < digit lits last = subst (λ v. 0 < digit lits v) at some in omega (arith, here)
      | inr before ↦ omega (arith, some_code lits last var before some)
    ]
  where
    last_or : (m n : ℕ) → m < suc n → (m ≡ n) ⊎ (m < n)
    last_or m n h = grind arith

-- a clause over so many variables, none of which stands there with both signs
record IsSet (vars : ℕ) (lits : List Lit) : Type 0 where
  below : LitsBelow vars lits
  signs : HasNoBothSigns lits

digit_positive : (lits : List Lit) (var : ℕ) → Contains lits (lit_of var true) → digit lits var ≡ 1
unfolding digit
digit_positive lits var among = digit_first (contains_or lits (lit_of var true)) (contains_or lits (lit_of var false)) among

digit_negative : (lits : List Lit) (var : ℕ) → HasNoBothSigns lits → Contains lits (lit_of var false) → digit lits var ≡ 2
unfolding digit
digit_negative lits var signs among =
    digit_second (contains_or lits (lit_of var true)) (contains_or lits (lit_of var false)) (signs (lit_of var false) among) among

-- a clause has the literals of one with the same number
same_code_at : (vars : ℕ) (a b : List Lit) → HasNoBothSigns a → code a vars ≡ code b vars → (var : ℕ) (positive : Bool) → var < vars → Contains a (lit_of var positive) → Contains b (lit_of var positive)
unfolding digit
same_code_at vars a b signs same var true below among =
    first_from (contains_or b (lit_of var true)) (contains_or b (lit_of var false)) (sym (same_digits a b vars var below same) ∙ digit_positive a var among)
same_code_at vars a b signs same var false below among =
    second_from (contains_or b (lit_of var true)) (contains_or b (lit_of var false)) (sym (same_digits a b vars var below same) ∙ digit_negative a var signs among)

same_code : (vars : ℕ) (a b : List Lit) → IsSet vars a → code a vars ≡ code b vars → (l : Lit) → Contains a l → Contains b l
same_code vars a b is same l among =
    same_code_at vars a b is.signs same l.var l.positive (All-contains (λ (m : Lit). m.var < vars) a l is.below among) among

nonempty_code : (vars : ℕ) (lits : List Lit) → IsSet vars lits → lits ≢ [] → 0 < code lits vars
nonempty_code vars [] is some = absurd (some refl)
nonempty_code vars (l ∷ lits) is some =
    some_code (l ∷ lits) vars l.var (All-head (λ (m : Lit). m.var < vars) l lits is.below) (some_digit l.var l.positive (contains_here l l lits refl))
  where
    some_digit : (var : ℕ) (positive : Bool) → Contains (l ∷ lits) (lit_of var positive) → 0 < digit (l ∷ lits) var
    some_digit var true among = omega (arith, digit_positive (l ∷ lits) var among)
    some_digit var false among = omega (arith, digit_negative (l ∷ lits) var is.signs among)

-- the literals of a lemma are negations
pub all_negated : (f : FormulaParts) (lits : List Lit) (rows : List RowParts) → AllZip (NegatesAtom f) lits rows → (l : Lit) → Contains lits l → l.positive ≡ false
all_negated f [] rows all l among = absurd (none_in l among)
all_negated f (m ∷ lits) [] all l among = absurd all
all_negated f (m ∷ lits) (row ∷ rows) all l among =
    elim (first_or m l lits among) [
      | inl here ↦ subst (λ (x : Lit). x.positive ≡ false) here all.0.0
      | inr later ↦ all_negated f lits rows all.1 l later
    ]

-- the clause of a valid step is such a set
step_set : (f : FormulaParts) (clauses : List (List Lit)) (step : Step) → IsFormula f → IsValidStep f clauses step → IsSet f.vars (clause_of step)
step_set f clauses (Lemma lits weights) is valid = record {
  below = negated_below f lits valid.rows is valid.negated;
  signs = λ l here there.
      false≢true (sym (all_negated f lits valid.rows valid.negated (opposite l) there) ∙ ap not (all_negated f lits valid.rows valid.negated l here));
}
step_set f clauses (Learnt lits hints) is valid = record { below = valid.variables; signs = valid.signs }

-- a fresh step that isn't empty doesn't add the literals of an earlier clause again
module _ (clauses : List (List Lit)) (earlier lits : List Lit) (among : Contains clauses earlier) (signs : HasNoBothSigns lits)
    (to : (l : Lit) → Contains earlier l → Contains lits l) (from : (l : Lit) → Contains lits l → Contains earlier l) where
  other_or : (x : Lit) (opens : IsOpen clauses lits x) (l : Lit) → Contains earlier l → (l ≡ x) ⊎ Contains opens.others l
  other_or x opens l here =
      elim (lit_or l x) [
        | inl same ↦ inl same
        | inr differs ↦ inr ((opens.are_others l).1 (to l here, differs))
      ]

  not_open : (x : Lit) → IsOpen clauses lits x → ⊥
  not_open x opens =
      let unit : IsUnit opens.others earlier x = record {
        among = from x opens.among;
        unset = λ h. ((opens.are_others x).0 h).1 refl;
        not_true = λ h. signs x opens.among ((opens.are_others (opposite x)).0 h).0;
        others = all_of (λ l. (l ≡ x) ⊎ Contains opens.others l) earlier (other_or x opens);
      } in
      opens.not_made (record {
        falses = opposite x ∷ opens.others;
        reached = goes_on opens.others earlier x begins among unit;
        holds = contains_here (opposite x) (opposite x) opens.others refl;
      })

  not_met : IsFreshLemma clauses lits → ⊥
  not_met fresh =
      let met = All-contains (MeetsClause fresh.assignment) clauses earlier fresh.meets among in
      All-contains (λ m. IsTrueUnder fresh.assignment m → ⊥) lits met.1 fresh.unmet
      (to met.1 (met.0, met.2, met.3)) met.4

not_again : (clauses : List (List Lit)) (earlier : List Lit) (step : Step) → Contains clauses earlier → HasNoBothSigns (clause_of step) → clause_of step ≢ []
    → ((l : Lit) → Contains earlier l → Contains (clause_of step) l) → ((l : Lit) → Contains (clause_of step) l → Contains earlier l) → IsFreshStep clauses step → ⊥
not_again clauses earlier (Lemma lits weights) among signs some to from fresh = not_met clauses earlier lits among signs to from fresh
not_again clauses earlier (Learnt lits hints) among signs some to from fresh =
    elim fresh [
      | inl none ↦ some none
      | inr opens ↦ not_open clauses earlier lits among signs to from opens.0 opens.1
    ]

codes_of : ℕ → List Step → List ℕ
codes_of vars [] = []
codes_of vars (step ∷ steps) = code (clause_of step) vars ∷ codes_of vars steps

module _ (f : FormulaParts) (is : IsFormula f) where
  -- the steps' clauses have other numbers than an earlier clause
  all_other : (clauses : List (List Lit)) (earlier : List Lit) (steps : List Step) → IsSet f.vars earlier → Contains clauses earlier → AreValid f clauses steps → AreFresh clauses steps
      → AreNonempty steps → AllByRecursion (λ n. eqb (code earlier f.vars) n ≡ false) (codes_of f.vars steps)
  unfolding codes_of
  all_other clauses earlier [] set among valid fresh some = tt
  all_other clauses earlier (step ∷ steps) set among valid fresh some =
      let own = step_set f clauses step is valid.0 in
      let not_same : code earlier f.vars ≢ code (clause_of step) f.vars = λ same.
      not_again clauses earlier step among own.signs (All-head (λ s. clause_of s ≢ []) step steps some) (same_code f.vars earlier (clause_of step) set same)
      (same_code f.vars (clause_of step) earlier own (sym same)) fresh.0 in (
        ne_eqb (code earlier f.vars) (code (clause_of step) f.vars) not_same,
        all_other (clauses ++ clause_of step ∷ []) earlier steps set (Contains-append_left clauses (clause_of step ∷ []) earlier among) valid.1 fresh.1
            (All-tail (λ s. clause_of s ≢ []) step steps some),
      )

  -- they have different numbers
  distinct : (clauses : List (List Lit)) (steps : List Step) → AreValid f clauses steps → AreFresh clauses steps → AreNonempty steps → IsDistinct eqb (codes_of f.vars steps)
  unfolding codes_of IsDistinct
  distinct clauses [] valid fresh some = tt
  distinct clauses (step ∷ steps) valid fresh some =
      let rest = All-tail (λ s. clause_of s ≢ []) step steps some in (
        all_other (clauses ++ clause_of step ∷ []) (clause_of step) steps (step_set f clauses step is valid.0) (Contains-push clauses (clause_of step)) valid.1 fresh.1 rest,
        distinct (clauses ++ clause_of step ∷ []) steps valid.1 fresh.1 rest,
      )

  -- none of them is 0
  none_zero : (clauses : List (List Lit)) (steps : List Step) → AreValid f clauses steps → AreNonempty steps → AllByRecursion (λ n. eqb 0 n ≡ false) (codes_of f.vars steps)
  unfolding codes_of
  none_zero clauses [] valid some = tt
  none_zero clauses (step ∷ steps) valid some =
      let more = nonempty_code f.vars (clause_of step) (step_set f clauses step is valid.0) (All-head (λ s. clause_of s ≢ []) step steps some) in (
        ne_eqb 0 (code (clause_of step) f.vars) (λ same. omega (arith, more, same)),
        none_zero (clauses ++ clause_of step ∷ []) steps valid.1 (All-tail (λ s. clause_of s ≢ []) step steps some),
      )

codes_below : (vars : ℕ) (steps : List Step) (q : ℕ) → list_any (eqb q) (codes_of vars steps) ≡ true → q < 3 ^ vars
unfolding codes_of
codes_below vars [] q h = absurd (false≢true h)
codes_below vars (step ∷ steps) q h =
    elim (or_cases (eqb q (code (clause_of step) vars)) (list_any (eqb q) (codes_of vars steps)) h) [
      | inl here ↦ subst (λ n. n < 3 ^ vars) (sym (eqb-true q (code (clause_of step) vars) here)) (code_below (clause_of step) vars)
      | inr later ↦ codes_below vars steps q later
    ]

codes_length : (vars : ℕ) (steps : List Step) → length (codes_of vars steps) ≡ length steps
unfolding codes_of
codes_length vars [] = refl
codes_length vars (step ∷ steps) = ap suc (codes_length vars steps)

pub fresh_steps_are_few : FreshStepsAreFew
unfolding IsDistinct
fresh_steps_are_few f steps is valid fresh some =
    let codes = codes_of f.vars steps in
    let apart : IsDistinct eqb (0 ∷ codes) = (none_zero f is f.clauses steps valid some, distinct f is f.clauses steps valid fresh some) in
    let many = length-le_from_distinct_below (0 ∷ codes) (3 ^ f.vars) apart (λ q h. below q (or_cases (eqb q 0) (list_any (eqb q) codes) h)) in
    omega (arith, many, codes_length f.vars steps)
  where
    below : (q : ℕ) → (eqb q 0 ≡ true) ⊎ (list_any (eqb q) (codes_of f.vars steps) ≡ true) → q < 3 ^ f.vars
    below q (inl zero_q) = omega (arith, eqb-true q 0 zero_q, code_below [] f.vars)
    below q (inr among) = codes_below f.vars steps q among
