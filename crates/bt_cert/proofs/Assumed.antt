-- What is assumed of variables, and clauses under it.
use Rattle.std.proofs.Common.{◌≡◌, ℕ, ◌⊎◌, inl, inr, arith, Bool, true, false, not, List, [], ◌∷◌, ◌++◌, length, get_or, Option, None, Some, sym, ◌∙◌, refl, subst, length-append}
use Rattle.std.specs.List.{All}
use Rattle.std.proofs.lemmas.Bool.{false≢true}
use Rattle.std.proofs.lemmas.List.{get_or_append_left}
use Rattle.std.proofs.lemmas.List.Elements.{All-push, All-contains, All-from_get_or, All-weaker, Contains-push, Contains-append_left}
use Rattle.bt_cnf.specs.declared.literal.Lit.{Lit}
use Rattle.bt_cert.specs.inner.Assuming.{value_at, AreTrailed, AreUnset, IsTrueIn, IsFalseIn, IsUnsetIn, IsUnitIn, HasNoUnit, IsUnitSoFar}

front_of : {X : Type 0} (P : X → Type 0) (xs ys : List X) (x : X) → xs ≡ ys ++ x ∷ [] → All P xs → All P ys × P x
front_of P xs ys x is all =
    let joined : All P (ys ++ x ∷ []) = subst (All P) is all in (
      λ k d inside. subst P (get_or_append_left ys (x ∷ []) d k inside) (joined k d (omega (arith, inside, length-append ys (x ∷ [])))),
      All-contains P (ys ++ x ∷ []) x joined (Contains-push ys x),
    )

-- where nothing is on the trail, no variable has a value
pub all_unset : (values : List (Option Bool)) (trail : List ℕ) → length trail ≡ 0 → AreTrailed values trail → AreUnset values
all_unset values trail none are = All-from_get_or (λ value. value ≡ None) values None (λ i inside. none_is i (get_or values i None) refl)
  where
    none_is : (i : ℕ) (value : Option Bool) → get_or values i None ≡ value → value ≡ None
    none_is i None is = refl
    none_is i (Some value) is = let among = are.named i value is in absurd (omega (arith, none, among.1))

opposites : (b : Bool) → b ≡ not b → ⊥
opposites true e = false≢true (sym e)
opposites false e = false≢true e

-- a literal is not both
pub true_not_false : (values : List (Option Bool)) (l : Lit) → IsTrueIn values l → IsFalseIn values l → ⊥
true_not_false values l is_true is_false = opposites l.positive (some_same (sym is_true ∙ is_false))
  where
    some_same : {a b : Bool} → Some a ≡ Some b → a ≡ b
    some_same e = cc

set_or_not : (o : Option Bool) (b : Bool) → o ≡ None → o ≡ Some b → ⊥
set_or_not o b none some = cc

pub unset_not_false : (values : List (Option Bool)) (l : Lit) → IsUnsetIn values l → IsFalseIn values l → ⊥
unset_not_false values l is_unset is_false = set_or_not (value_at values l.var) (not l.positive) is_unset is_false

pub unset_not_true : (values : List (Option Bool)) (l : Lit) → IsUnsetIn values l → IsTrueIn values l → ⊥
unset_not_true values l is_unset is_true = set_or_not (value_at values l.var) l.positive is_unset is_true

module _ (values : List (Option Bool)) where
  abbrev Other : Lit → Lit → Type 0
  Other l other = (other ≡ l) ⊎ IsFalseIn values other

  -- one more literal that is false
  pub so_far_false : (front : List Lit) (lit : Lit) (unit : Option Lit) → IsUnitSoFar values front unit → IsFalseIn values lit → IsUnitSoFar values (front ++ lit ∷ []) unit
  so_far_false front lit None so_far is_false = All-push (IsFalseIn values) front lit so_far is_false
  so_far_false front lit (Some l) so_far is_false = record {
    among = Contains-append_left front (lit ∷ []) l so_far.among;
    unset = so_far.unset;
    others = All-push (Other l) front lit so_far.others (inr is_false);
  }

  -- one more literal without a value: the first, or the same again
  pub so_far_first : (front : List Lit) (lit : Lit) → IsUnitSoFar values front None → IsUnsetIn values lit → IsUnitIn values (front ++ lit ∷ []) lit
  so_far_first front lit so_far is_unset = record {
    among = Contains-push front lit;
    unset = is_unset;
    others = All-push (Other lit) front lit (All-weaker (IsFalseIn values) (Other lit) (λ other f. inr f) front so_far) (inl refl);
  }

  pub so_far_same : (front : List Lit) (lit : Lit) → IsUnitIn values front lit → IsUnitIn values (front ++ lit ∷ []) lit
  so_far_same front lit so_far = record {
    among = Contains-push front lit;
    unset = so_far.unset;
    others = All-push (Other lit) front lit so_far.others (inl refl);
  }

  -- a clause of false literals
  pub no_unit_false : (clause : List Lit) → All (IsFalseIn values) clause → HasNoUnit values clause
  no_unit_false clause all l unit = unset_not_false values l unit.unset (All-contains (IsFalseIn values) clause l all unit.among)
