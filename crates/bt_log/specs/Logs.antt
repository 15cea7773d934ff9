-- Logs: steps, each of which adds a clause.
use Rattle.std.specs.Prelude.{◌≡◌, ℕ, List, ◌∷◌, [], ◌++◌, Result, Ok, Err}
use Rattle.std.specs.declared.alloc.AllocError.{AllocError}
use Rattle.bt_frac.specs.Ratio.{Ratio}
use Rattle.bt_cnf.specs.declared.literal.Lit.{Lit}

-- a lemma has a weight for each of its literals, which rule out a set of rows; a learnt clause has
-- hints, the numbers of clauses from which it follows
pub data Step : Type 0 where
  Lemma : List Lit → List Ratio → Step
  Learnt : List Lit → List ℕ → Step

-- the clause that a step adds
abbrev pub clause_of : Step → List Lit
clause_of (Lemma lits weights) = lits
clause_of (Learnt lits hints) = lits

-- the number of clauses before the first step, and the steps
pub record LogParts : Type 0 where
  pub first : ℕ
  pub steps : List Step

-- a step was added, or nothing was changed
abbrev pub AddsStep : LogParts → Step → LogParts → Result (Unit {0}) AllocError → Type 0
AddsStep old step new (Ok done) = new ≡ record old { steps = old.steps ++ step ∷ [] }
AddsStep old step new (Err e) = new ≡ old
