-- What choosers are asked, and what they tell of the clauses that they were told.
use Rattle.std.specs.Prelude.{◌≡◌, ◌⊎◌, ℕ, ◌<◌, Bool, List, [], ◌∷◌, ◌++◌, Option, Some, None, Contains, slice_get}
use Rattle.std.specs.List.{All}
use Rattle.bt_cnf.specs.declared.chooser.Pick.{Pick}
use Rattle.bt_cnf.specs.declared.literal.Lit.{Lit}

-- each number is below all that follow
abbrev pub Ascends : List ℕ → Type 0
Ascends [] = Unit {0}
Ascends (n ∷ ns) = All (λ m. n < m) ns × Ascends ns

-- these clauses were added to the list, where it is told; whether it is told doesn't change
abbrev pub Gains : Option (List (List Lit)) → Option (List (List Lit)) → List (List Lit) → Type 0
Gains None None more = Unit {0}
Gains None (Some new) more = ⊥
Gains (Some old) None more = ⊥
Gains (Some old) (Some new) more = new ≡ old ++ more

-- the first of the variables that is unset is picked, and set by its phase
abbrev pub PicksFirst : (ℕ → Bool) → List ℕ → List ℕ → Pick → Type 0
PicksFirst phase [] unset pick = ⊥
PicksFirst phase (v ∷ vars) unset pick =
    ((slice_get unset pick.place ≡ Some v) × (pick.positive ≡ phase v)) ⊎ ((Contains unset v → ⊥) × PicksFirst phase vars unset pick)

-- whichever of the variables are unset, the first one of these may be picked, and set by its phase
abbrev pub AreInPickOrder : (List ℕ → Pick → Type 0) → (ℕ → Bool) → List ℕ → Type 0
AreInPickOrder may_pick phase vars = (unset : List ℕ) (pick : Pick) → Ascends unset → All (Contains vars) unset → PicksFirst phase vars unset pick → may_pick unset pick
