-- What the choosers are told of one step.
use Rattle.std.specs.Prelude.{◌≡◌, ◌⊎◌, ◌+◌, ◌*◌, ◌<◌, ◌≤◌, ℕ, List, [], ◌∷◌, length, slice_get, Option, Some}
use Rattle.bt_cnf.specs.Choosing.{Gains}
use Rattle.bt_cnf.specs.declared.literal.Lit.{Lit}
use Rattle.bt_sat.specs.declared.serving.TheConstants.{EPOCH_STEPS}

-- the next step is in the epoch of the chooser at a place
pub record IsServing (choosers steps place : ℕ) : Type 0 where
  pub inside : place < choosers
  pub begun : EPOCH_STEPS * place ≤ steps
  pub goes_on : (steps < EPOCH_STEPS * (place + 1)) ⊎ (place + 1 ≡ choosers)

-- the chooser that serves was told of a clause, and the others weren't
pub record TellsOne (steps : ℕ) (old : List (Option (List (List Lit)))) (clause : List Lit) (new : List (Option (List (List Lit)))) : Type 0 where
  pub count : length new ≡ length old
  pub each : (place : ℕ) (was is : Option (List (List Lit))) → slice_get old place ≡ Some was → slice_get new place ≡ Some is
      → (IsServing (length old) steps place × Gains was is (clause ∷ [])) ⊎ ((IsServing (length old) steps place → ⊥) × (is ≡ was))
