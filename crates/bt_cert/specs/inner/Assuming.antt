-- What is assumed of variables, and what clauses do under it.
use Rattle.std.specs.Prelude.{◌≡◌, ◌⊎◌, ℕ, ◌<◌, ◌↔◌, Bool, not, List, [], ◌∷◌, length, Option, None, Some, slice_set, slice_index_or, Contains}
use Rattle.std.specs.List.{All}
use Rattle.bt_cnf.specs.declared.literal.Lit.{Lit}
use Rattle.bt_cnf.specs.declared.truth.Lbool.{Lbool}
use Rattle.bt_cnf.specs.declared.truth.Lbool.TheVariants.{True, False, Unset}

-- what is assumed of a variable, if something is
abbrev pub value_at : List (Option Bool) → ℕ → Option Bool
value_at values var = slice_index_or values var None

-- each variable with a value is on the trail, which names variables
pub record AreTrailed (values : List (Option Bool)) (trail : List ℕ) : Type 0 where
  pub inside : All (λ var. var < length values) trail
  pub named : (var : ℕ) (value : Bool) → value_at values var ≡ Some value → Contains trail var

-- no variable has a value
abbrev pub AreUnset : List (Option Bool) → Type 0
AreUnset values = All (λ value. value ≡ None) values

-- the literal is assumed to be true
abbrev pub IsTrueIn : List (Option Bool) → Lit → Type 0
IsTrueIn values l = value_at values l.var ≡ Some l.positive

-- the literal is assumed to be false
abbrev pub IsFalseIn : List (Option Bool) → Lit → Type 0
IsFalseIn values l = value_at values l.var ≡ Some (not l.positive)

-- nothing is assumed of the literal
abbrev pub IsUnsetIn : List (Option Bool) → Lit → Type 0
IsUnsetIn values l = value_at values l.var ≡ None

-- the value of a literal
abbrev pub Stands : List (Option Bool) → Lit → Lbool → Type 0
Stands values l True = IsTrueIn values l
Stands values l False = IsFalseIn values l
Stands values l Unset = IsUnsetIn values l

-- no literal of the clause is true, and this one alone isn't false
pub record IsUnitIn (values : List (Option Bool)) (clause : List Lit) (l : Lit) : Type 0 where
  pub among : Contains clause l
  pub unset : IsUnsetIn values l
  pub others : All (λ other. (other ≡ l) ⊎ IsFalseIn values other) clause

-- no literal is such a one
abbrev pub HasNoUnit : List (Option Bool) → List Lit → Type 0
HasNoUnit values clause = (l : Lit) → IsUnitIn values clause l → ⊥

-- all literals are false, or all but this one
abbrev pub IsUnitSoFar : List (Option Bool) → List Lit → Option Lit → Type 0
IsUnitSoFar values clause None = All (IsFalseIn values) clause
IsUnitSoFar values clause (Some l) = IsUnitIn values clause l

-- the values after one more
abbrev pub with_value : List (Option Bool) → ℕ → Bool → List (Option Bool)
with_value values var value = slice_set values var (Some value)

-- the clauses are units in turn, the literal of each true from then on, and then the last has only false literals
abbrev pub Propagates : List (Option Bool) → List (List Lit) → List Lit → Type 0
Propagates values [] last = All (IsFalseIn values) last
Propagates values (clause ∷ clauses) last =
    (l : Lit) × IsUnitIn values clause l × Propagates (with_value values l.var l.positive) clauses last

-- the literals that are false are these
abbrev pub Tells : List (Option Bool) → List Lit → Type 0
Tells values falses = (l : Lit) → l.var < length values → IsFalseIn values l ↔ Contains falses l
