-- What choosers pick.
use Rattle.std.specs.Prelude.{◌≡◌, ◌⊎◌, ◌≤◌, ℕ, true, false, List, [], ◌∷◌, length, slice_index_or, Contains, nat_lt}
use Rattle.std.specs.List.{All, IsFirstBest}
use Rattle.bt_cnf.specs.declared.chooser.Pick.{Pick}
use Rattle.bt_cnf.specs.declared.literal.Lit.{Lit}
use Rattle.bt_choosers.specs.Activities.{Activity}

-- the variable that is picked among these
abbrev pub picked : List ℕ → Pick → ℕ
picked unset pick = slice_index_or unset pick.place 0

-- the lowest variable is set to false
pub record PicksLowest (unset : List ℕ) (pick : Pick) : Type 0 where
  pub lowest : All (λ v. picked unset pick ≤ v) unset
  pub phase : pick.positive ≡ false

-- the highest variable is set to true
pub record PicksHighest (unset : List ℕ) (pick : Pick) : Type 0 where
  pub highest : All (λ v. v ≤ picked unset pick) unset
  pub phase : pick.positive ≡ true

-- the first of the clause's variables that is unset is set to false, or the lowest one where all of them are set
abbrev pub PicksRecent : List Lit → List ℕ → Pick → Type 0
PicksRecent [] unset pick = PicksLowest unset pick
PicksRecent (l ∷ clause) unset pick =
    (Contains unset l.var × (picked unset pick ≡ l.var) × (pick.positive ≡ false)) ⊎ ((Contains unset l.var → ⊥) × PicksRecent clause unset pick)

-- the variable of the greatest score, the first among equals, is set by its phase
pub record PicksActive (a : Activity) (unset : List ℕ) (pick : Pick) : Type 0 where
  pub greatest : IsFirstBest (λ v w. nat_lt (a.score w) (a.score v)) unset (length unset) pick.place
  pub phase : pick.positive ≡ a.phase (picked unset pick)

-- the first of the choosers picks, as it may; where there is none, the lowest variable is set to false
abbrev pub AsksFirst : {C : Type 0} → (C → List ℕ → Pick → Type 0) → List C → List ℕ → Pick → Type 0
AsksFirst may_pick [] unset pick = PicksLowest unset pick
AsksFirst may_pick (chooser ∷ choosers) unset pick = may_pick chooser unset pick
