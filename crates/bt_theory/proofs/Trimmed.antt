-- What is left of a sound log that refutes a formula is sound and refutes it.
use Rattle.std.proofs.Common.{◌≡◌, ◌≢◌, ℕ, zero, suc, ◌+◌, ◌-◌, ◌<◌, ◌≤◌, inl, inr, arith, List, [], ◌∷◌, ◌++◌, length, get_or, map, take, sym, subst, ap, ◌∙◌, append-nil, append_assoc, length-append}
use Rattle.std.specs.Prelude.{Contains}
use Rattle.std.specs.List.{All}
use Rattle.std.proofs.lemmas.List.{get_or_append_left, get_or-map, get_or-take, length-map, length-take-le, take_all, take_more}
use Rattle.std.proofs.lemmas.List.Elements.{All-contains, All-from_get_or, All-get_or, Contains-append_cases, Contains-append_left, Contains-append_right}
use Rattle.bt_cnf.proofs.Lists.{all_of}
use Rattle.bt_cnf.specs.Formulas.{FormulaParts}
use Rattle.bt_cnf.specs.Meeting.{MeetsClause}
use Rattle.bt_cnf.specs.declared.literal.Lit.{Lit}
use Rattle.bt_log.specs.Logs.{Step, Lemma, Learnt, LogParts, clause_of}
use Rattle.bt_log.specs.Trimming.{IsRenumbered, IsTrimmed, step_at}
use Rattle.bt_log.proofs.Left.{comes_before, is_short, left_at, place_of, same_clause}
use Rattle.bt_log.proofs.Valid.{before, trimmed_ends, trimmed_valid}
use Rattle.bt_watch.specs.Propagation.{begins, goes_on, MakesTrue, MeetsFalse, Reaches}
use Rattle.bt_sat.specs.Freshness.{IsFreshLearnt, IsFreshStep, IsOpen}
use Rattle.bt_sat.specs.Solving.{AreFresh, AreNonempty}
use Rattle.bt_theory.specs.Outcomes.{Fits, IsRefutation}
use Rattle.bt_theory.specs.declared.outcome.Outcome.{Outcome}
use Rattle.bt_theory.specs.declared.outcome.Outcome.TheVariants as outcome
use Rattle.bt_theory.specs.declared.round.End.TheVariants as end
use Rattle.bt_theory.specs.inner.Rounds.{IsTrimmedTo, Tells}

fresh_at : (clauses : List (List Lit)) (steps : List Step) (place : ℕ) → AreFresh clauses steps → place < length steps → IsFreshStep (before clauses steps place) (step_at steps place)
fresh_at clauses [] place fresh small = absurd (omega (arith, small))
fresh_at clauses (s ∷ steps) zero fresh small = subst (λ some. IsFreshStep some s) (sym (append-nil clauses)) fresh.0
fresh_at clauses (s ∷ steps) (suc place) fresh small =
    subst (λ some. IsFreshStep some (step_at steps place)) (append_assoc clauses (clause_of s ∷ []) (map clause_of (take place steps)))
    (fresh_at (clauses ++ clause_of s ∷ []) steps place fresh.1 (omega (arith, small)))

fresh_from : (clauses : List (List Lit)) (steps : List Step) → ((place : ℕ) → place < length steps → IsFreshStep (before clauses steps place) (step_at steps place)) → AreFresh clauses steps
fresh_from clauses [] each = tt
fresh_from clauses (s ∷ steps) each = (
  subst (λ some. IsFreshStep some s) (append-nil clauses) (each 0 (omega arith)),
  fresh_from (clauses ++ clause_of s ∷ []) steps
      (λ place small. subst (λ some. IsFreshStep some (step_at steps place)) (sym (append_assoc clauses (clause_of s ∷ []) (map clause_of (take place steps))))
      (each (suc place) (omega (arith, small)))),
)

-- over fewer clauses propagation comes to less
module _ (some all : List (List Lit)) (more : (clause : List Lit) → Contains some clause → Contains all clause) where
  reaches_more : (begun falses : List Lit) → Reaches some begun falses → Reaches all begun falses
  reaches_more begun falses begins = begins
  reaches_more begun falses (goes_on earlier clause l reached among unit) = goes_on earlier clause l (reaches_more begun earlier reached) (more clause among) unit

  open_fewer : (lits : List Lit) (x : Lit) → IsOpen all lits x → IsOpen some lits x
  open_fewer lits x is = record {
    among = is.among;
    others = is.others;
    are_others = is.are_others;
    no_false = λ (meets : MeetsFalse some is.others).
        is.no_false (record {
          falses = meets.falses;
          reached = reaches_more is.others meets.falses meets.reached;
          clause = meets.clause;
          among = more meets.clause meets.among;
          is_false = meets.is_false;
        });
    not_made = λ (makes : MakesTrue some is.others x). is.not_made (record { falses = makes.falses; reached = reaches_more is.others makes.falses makes.reached; holds = makes.holds });
  }

  fresh_fewer : (first : ℕ) (kept : List ℕ) (place : ℕ) (s t : Step) → IsRenumbered first kept place s t → IsFreshStep all s → IsFreshStep some t
  fresh_fewer first kept place (Lemma lits weights) t is fresh =
      subst (IsFreshStep some) (sym is)
      (record {
        assignment = fresh.assignment;
        meets = all_of (MeetsClause fresh.assignment) some (λ clause among. All-contains (MeetsClause fresh.assignment) all clause fresh.meets (more clause among));
        unmet = fresh.unmet;
      })
  fresh_fewer first kept place (Learnt lits hints) t (again, is, zipped) fresh = subst (IsFreshStep some) (sym is) (learnt_fewer fresh)
    where
      learnt_fewer : IsFreshLearnt all lits → IsFreshLearnt some lits
      learnt_fewer (inl empty) = inl empty
      learnt_fewer (inr is_open) = inr (is_open.0, open_fewer lits is_open.0 is_open.1)

-- the clause of a step before a place is one of those before it
clause_among : (clauses : List (List Lit)) (steps : List Step) (place k : ℕ) (clause : List Lit) → k < place → place ≤ length steps → clause_of (step_at steps k) ≡ clause
    → Contains (before clauses steps place) clause
clause_among clauses steps place k clause small within is =
    let inside : k < length (take place steps) = omega (arith, small, length-take-le place steps within) in
    Contains-append_right clauses (map clause_of (take place steps)) clause (
      k,
      omega (arith, inside, length-map (take place steps) clause_of),
      get_or-map clause_of (take place steps) k (Lemma [] []) clause inside ∙ ap clause_of (get_or-take place steps k (Lemma [] []) small) ∙ is,
    )

module _ (f : FormulaParts) (old new : LogParts) (trimmed : IsTrimmed old new) where
  -- a clause before a step that is left was there before it
  was_before : (number : ℕ) → number < length new.steps → (clause : List Lit) → Contains (before f.clauses new.steps number) clause
      → Contains (before f.clauses old.steps (place_of old new trimmed number)) clause
  was_before number small clause among =
      let inside = (left_at old new trimmed number small).inside in
      elim (Contains-append_cases f.clauses (map clause_of (take number new.steps)) clause among) [
        | inl given ↦ Contains-append_left f.clauses (map clause_of (take (place_of old new trimmed number) old.steps)) clause given
        | inr added ↦
            let size : length (map clause_of (take number new.steps)) ≡ number =
            length-map (take number new.steps) clause_of ∙ length-take-le number new.steps (omega (arith, small)) in
            let k = added.0 in
            let less : k < number = omega (arith, added.1, size) in
            let front : k < length (take number new.steps) = omega (arith, less, length-take-le number new.steps (omega (arith, small))) in
            let here : clause_of (step_at new.steps k) ≡ clause =
            sym (ap clause_of (get_or-take number new.steps k (Lemma [] []) less)) ∙ sym (get_or-map clause_of (take number new.steps) k (Lemma [] []) clause front) ∙ added.2 in
            clause_among f.clauses old.steps (place_of old new trimmed number) (place_of old new trimmed k) clause (comes_before old new trimmed k number less small) (omega (arith, inside))
            (sym (same_clause old new trimmed k (omega (arith, less, small))) ∙ here)
      ]

  trimmed_fresh : AreFresh f.clauses old.steps → AreFresh f.clauses new.steps
  trimmed_fresh fresh =
      fresh_from f.clauses new.steps
      (λ number small.
      let place = place_of old new trimmed number in
      let left = left_at old new trimmed number small in
      fresh_fewer (before f.clauses new.steps number) (before f.clauses old.steps place) (was_before number small) old.first trimmed.kept place (step_at old.steps place) (step_at new.steps number)
      left.renumbered (fresh_at f.clauses old.steps place fresh left.inside))

  -- the first steps of the old log, all but one
  front_nonempty : ((front : List Step) (last : Step) → old.steps ≡ front ++ last ∷ [] → AreNonempty front) → (place : ℕ) → place + 1 < length old.steps → clause_of (step_at old.steps place) ≢ []
  front_nonempty nonempty place less =
      let n = length old.steps - 1 in
      let front = take n old.steps in
      let split : old.steps ≡ front ++ step_at old.steps n ∷ [] =
      sym (take_all (n + 1) old.steps (omega arith)) ∙ take_more old.steps n (Lemma [] []) (omega (arith, less)) in
      let inside : place < length front = omega (arith, less, length-take-le n old.steps (omega arith)) in
      let some = All-get_or (λ step. clause_of step ≢ []) front place (Lemma [] []) inside (nonempty front (step_at old.steps n) split) in
      subst (λ step. clause_of step ≢ []) (get_or-take n old.steps place (Lemma [] []) (omega (arith, less))) some

  trimmed_nonempty : ((front : List Step) (last : Step) → old.steps ≡ front ++ last ∷ [] → AreNonempty front) → (front : List Step) (last : Step) → new.steps ≡ front ++ last ∷ [] → AreNonempty front
  trimmed_nonempty nonempty front last split =
      All-from_get_or (λ step. clause_of step ≢ []) front (Lemma [] [])
      (λ number inside.
      let more : number + 1 < length new.steps = omega (arith, inside, ap length split, length-append front (last ∷ [])) in
      let next = comes_before old new trimmed number (number + 1) (omega arith) more in
      let there = (left_at old new trimmed (number + 1) more).inside in
      let some = front_nonempty nonempty (place_of old new trimmed number) (omega (arith, next, there)) in
      let same : get_or front number (Lemma [] []) ≡ step_at new.steps number =
      sym (get_or_append_left front (last ∷ []) (Lemma [] []) number inside) ∙ ap (λ steps. step_at steps number) (sym split) in
      λ empty. some (sym (same_clause old new trimmed number (omega (arith, more))) ∙ ap clause_of (sym same) ∙ empty))

  fits_again : (first : ℕ) (kept : List ℕ) (place : ℕ) (s t : Step) → IsRenumbered first kept place s t → Fits f s → Fits f t
  fits_again first kept place (Lemma lits weights) t is fits = subst (Fits f) (sym is) fits
  fits_again first kept place (Learnt lits hints) t is fits = subst (Fits f) (sym is.1) tt

  trimmed_fits : All (Fits f) old.steps → All (Fits f) new.steps
  trimmed_fits fits =
      All-from_get_or (Fits f) new.steps (Lemma [] [])
      (λ number small.
      let place = place_of old new trimmed number in
      let left = left_at old new trimmed number small in
      fits_again old.first trimmed.kept place (step_at old.steps place) (step_at new.steps number) left.renumbered
      (All-get_or (Fits f) old.steps place (Lemma [] []) left.inside fits))

  pub trimmed_refutation : old.first ≡ length f.clauses → IsRefutation f old.steps → IsRefutation f new.steps
  trimmed_refutation over is = record {
    sound = record {
      valid = trimmed_valid f old new trimmed over is.sound.valid;
      fresh = trimmed_fresh is.sound.fresh;
      nonempty = trimmed_nonempty is.sound.nonempty;
      fits = trimmed_fits is.sound.fits;
    };
    refutes = record { valid = trimmed_valid f old new trimmed over is.sound.valid; ends = trimmed_ends old new trimmed is.refutes.ends };
  }

-- what is told of a search whose log refutes the formula
pub told_refuted : (log : LogParts) (o : Outcome) → IsTrimmedTo log o → Tells end.Refuted log o
told_refuted log (outcome.Sat values assignment) trimmed pivots b s e is = absurd trimmed
told_refuted log (outcome.GaveUp cause) trimmed pivots b s e is = absurd trimmed
told_refuted log (outcome.Refuted left) trimmed pivots b s e is =
    let steps : log.steps ≡ s.steps = ap (λ (l : LogParts). l.steps) e in
    let short = is_short log left trimmed in (
      trimmed_refutation s.formula log left trimmed (ap (λ (l : LogParts). l.first) e) (subst (IsRefutation s.formula) (sym steps) is.0),
      omega (arith, short, ap length steps, is.1),
      record { first = trimmed.first ∙ ap (λ (l : LogParts). l.first) e; tight = trimmed.tight },
    )
