-- What a watched clause does where a literal has become false.
use Rattle.std.specs.Prelude.{◌≡◌, ◌≢◌, ◌⊎◌, Bool, List, Option, IsPermutation}
use Rattle.std.specs.List.{All}
use Rattle.bt_cnf.specs.declared.literal.Lit.{Lit}
use Rattle.bt_cnf.specs.Truths.{IsTrueIn, IsFalseIn}
use Rattle.bt_watch.specs.declared.watched.Visit.{Visit}
use Rattle.bt_watch.specs.declared.watched.Visit.TheVariants.{Stale, Satisfied, NewWatch, UnitLit, Conflict}
use Rattle.bt_watch.specs.Watched.{first, second}

-- the same literals in another order, and the same two are watched
pub record KeepsPair (old new : List Lit) : Type 0 where
  pub permuted : IsPermutation old new
  pub pair : ((first new ≡ first old) × (second new ≡ second old)) ⊎ ((first new ≡ second old) × (second new ≡ first old))

-- the same literals in another order, and the one of the two that isn't this literal stands first
pub record LeavesOne (false_lit : Lit) (old new : List Lit) : Type 0 where
  pub permuted : IsPermutation old new
  pub pair : ((first new ≡ first old) × (second old ≡ false_lit)) ⊎ ((first new ≡ second old) × (first old ≡ false_lit))

-- all literals but one are false, and that one is unset
pub record Leaves (values : List (Option Bool)) (clause : List Lit) (l : Lit) : Type 0 where
  pub stands : first clause ≡ l
  pub others : All (λ m. (m ≡ l) ⊎ IsFalseIn values m) clause
  pub not_true : IsTrueIn values l → ⊥
  pub not_false : IsFalseIn values l → ⊥

-- another literal that isn't false is watched
pub record WatchesNow (values : List (Option Bool)) (clause : List Lit) (l : Lit) : Type 0 where
  pub stands : second clause ≡ l
  pub not_false : IsFalseIn values l → ⊥
  pub differs : l ≢ first clause

-- what the clause does where this literal has become false
abbrev pub VisitsClause : List (Option Bool) → Lit → List Lit → List Lit → Visit → Type 0
VisitsClause values false_lit old new Stale = KeepsPair old new × (first new ≢ false_lit) × (second new ≢ false_lit)
VisitsClause values false_lit old new (Satisfied other) = KeepsPair old new × (second new ≡ false_lit) × (first new ≡ other) × IsTrueIn values other
VisitsClause values false_lit old new (NewWatch l other) = LeavesOne false_lit old new × (first new ≡ other) × WatchesNow values new l
VisitsClause values false_lit old new (UnitLit l) = KeepsPair old new × (second new ≡ false_lit) × Leaves values new l
VisitsClause values false_lit old new Conflict = KeepsPair old new × All (IsFalseIn values) new
