-- How a log keeps its steps.
use Rattle.std.specs.Prelude.{◌≡◌, ℕ, ◌<◌, List, [], ◌++◌, length, map, slice_index_or}
use Rattle.std.specs.List.{All}
use Rattle.bt_frac.specs.Ratio.{Ratio}
use Rattle.bt_cnf.specs.declared.literal.Lit.{Lit}
use Rattle.bt_log.specs.Logs.{Step}
use Rattle.bt_log.specs.Logs as step
use Rattle.bt_log.specs.declared.pooled_step.PooledStep.{PooledStep}
use Rattle.bt_log.specs.declared.pooled_step.PooledStep.TheVariants.{Lemma, Learnt}

-- the step whose lists lie at these places
abbrev pub kept_step : List (List Lit) → List (List Ratio) → List (List ℕ) → PooledStep → Step
kept_step lits weights hints (Lemma l w) = step.Lemma (slice_index_or lits l []) (slice_index_or weights w [])
kept_step lits weights hints (Learnt l h) = step.Learnt (slice_index_or lits l []) (slice_index_or hints h [])

-- the steps in their order
abbrev pub kept_steps : List (List Lit) → List (List Ratio) → List (List ℕ) → List PooledStep → List Step
kept_steps lits weights hints steps = map (kept_step lits weights hints) steps

-- the lists of a step are there
abbrev pub IsKept : List (List Lit) → List (List Ratio) → List (List ℕ) → PooledStep → Type 0
IsKept lits weights hints (Lemma l w) = (l < length lits) × (w < length weights)
IsKept lits weights hints (Learnt l h) = (l < length lits) × (h < length hints)

-- the lists of each step are there
abbrev pub AreKept : List (List Lit) → List (List Ratio) → List (List ℕ) → List PooledStep → Type 0
AreKept lits weights hints steps = All (IsKept lits weights hints) steps

-- lists were added to a pool, if any
abbrev pub Grows : {X : Type 0} → List (List X) → List (List X) → Type 0
Grows {X} old new = (more : List (List X)) × (new ≡ old ++ more)

-- the list at this place is this one
abbrev pub IsAt : {X : Type 0} → List (List X) → List X → ℕ → Type 0
IsAt all list place = (place < length all) × (slice_index_or all place [] ≡ list)
