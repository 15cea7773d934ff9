-- How active variables are by the clauses that a chooser was told: the program's own rule, said as it goes. It steers a
-- search and nothing rests on it: what a search answers is right whatever its choosers pick.
use Rattle.std.specs.Prelude.{ℕ, ◌+◌, ◌/◌, ◌==◌, Bool, false, List, [], ◌∷◌, min, nat_lt, fold, if◌then◌else◌}
use Rattle.bt_cnf.specs.declared.literal.Lit.{Lit}
use Rattle.bt_choosers.specs.declared.active.TheConstants.{FIRST_BUMP, MOST_BUMP, MOST_SCORE}

-- the score of each variable, the phase that it is set with, and what the next clause adds to the scores of its
-- variables
pub record Activity : Type 0 where
  pub score : ℕ → ℕ
  pub phase : ℕ → Bool
  pub bump : ℕ

-- a score that the bump is added to
abbrev pub raised : ℕ → ℕ → ℕ
raised bump score = min (score + bump) MOST_SCORE

-- the score of a variable once each literal of the clause that is of this variable has added the bump
abbrev pub raised_score : Activity → List Lit → ℕ → ℕ
raised_score a clause v = fold (λ score l. if l.var == v then raised a.bump score else score) (a.score v) clause

-- the phase that makes the clause's last literal of the variable true, or the one before where it has none
abbrev pub taken_phase : Activity → List Lit → ℕ → Bool
taken_phase a clause v = fold (λ phase l. if l.var == v then l.positive else phase) (a.phase v) clause

-- a bump that has grown by a twentieth
abbrev pub grown_bump : ℕ → ℕ
grown_bump bump = bump + bump / 20

-- half of a number where the bump is large, and the number where it isn't
abbrev pub scaled : ℕ → ℕ → ℕ
scaled bump n = if nat_lt MOST_BUMP bump then n / 2 else n

-- what a clause makes of it
abbrev pub after_clause : Activity → List Lit → Activity
after_clause a clause = record {
  score = λ v. scaled (grown_bump a.bump) (raised_score a clause v);
  phase = taken_phase a clause;
  bump = scaled (grown_bump a.bump) (grown_bump a.bump);
}

-- what is so once these clauses were told, the last of which comes first
abbrev pub activity_of : List (List Lit) → Activity
activity_of [] = record { score = λ v. 0; phase = λ v. false; bump = FIRST_BUMP }
activity_of (clause ∷ earlier) = after_clause (activity_of earlier) clause
