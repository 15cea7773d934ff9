-- What becomes of a watched clause, the first two of whose literals are watched, where one of the two is false.
use Rattle.std.specs.Prelude.{◌≡◌, ◌≢◌, ◌⊎◌, ℕ, ◌≤◌, ◌<◌, Bool, true, false, List, Option, Some, None, length}
use Rattle.std.specs.List.{HoldsAt, AllWithin, swap}
use Rattle.bt_cnf.specs.declared.literal.Lit.{Lit}
use Rattle.bt_cnf.specs.Truths.{IsTrueIn, IsFalseIn}
use Rattle.bt_watch.specs.declared.watched.Visit.{Visit}
use Rattle.bt_watch.specs.declared.watched.Visit.TheVariants.{Stale, Satisfied, NewWatch, UnitLit, Conflict}

-- the first two were exchanged where the literal stood first, and nothing was changed where it didn't
pub record BringsSecond (false_lit : Lit) (old new : List Lit) : Type 0 where
  pub first : HoldsAt (λ l. l ≡ false_lit) old 0 → new ≡ swap old 0 1
  pub other : HoldsAt (λ l. l ≢ false_lit) old 0 → new ≡ old

-- the literal is another and isn't false, or it is false or the same
abbrev pub CanWatch : List (Option Bool) → Lit → Lit → Bool → Type 0
CanWatch values first l true = (IsFalseIn values l → ⊥) × (l ≢ first)
CanWatch values first l false = (l ≡ first) ⊎ IsFalseIn values l

-- another literal that isn't false came from behind the first two to the second place, in exchange
pub record MovesTo (values : List (Option Bool)) (first : Lit) (old new : List Lit) (l : Lit) : Type 0 where
  pub place : ℕ
  pub behind : 2 ≤ place
  pub within : place < length old
  pub swapped : new ≡ swap old 1 place
  pub stood : HoldsAt (λ m. m ≡ l) old place
  pub not_false : IsFalseIn values l → ⊥
  pub differs : l ≢ first

-- all literals behind the first two are false, but for the first, and nothing was changed
pub record StandsStill (values : List (Option Bool)) (first : Lit) (old new : List Lit) : Type 0 where
  pub same : new ≡ old
  pub falses : AllWithin (λ m. (m ≡ first) ⊎ IsFalseIn values m) old 2 (length old)

-- a literal that can be watched came to the second place, or there is none behind the first two
abbrev pub ReplacesSecond : List (Option Bool) → Lit → List Lit → List Lit → Option Lit → Type 0
ReplacesSecond values first old new (Some l) = MovesTo values first old new l
ReplacesSecond values first old new None = StandsStill values first old new

-- the first literal is this
abbrev pub StandsFirst : List Lit → Lit → Type 0
StandsFirst lits l = HoldsAt (λ m. m ≡ l) lits 0

-- what the clause does where its second literal is false
abbrev pub Visits : List (Option Bool) → List Lit → List Lit → Visit → Type 0
Visits values old new Stale = ⊥
Visits values old new (Satisfied other) = (new ≡ old) × StandsFirst old other × IsTrueIn values other
Visits values old new (NewWatch l other) = StandsFirst old other × MovesTo values other old new l
Visits values old new (UnitLit l) = StandsFirst old l × StandsStill values l old new × (IsTrueIn values l → ⊥) × (IsFalseIn values l → ⊥)
Visits values old new Conflict = (first : Lit) × StandsFirst old first × StandsStill values first old new × IsFalseIn values first
