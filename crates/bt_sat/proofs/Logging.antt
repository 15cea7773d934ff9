-- One more step of the log.
use Rattle.std.proofs.Common.{◌≡◌, ◌≢◌, ℕ, ◌<◌, inl, inr, arith, List, [], ◌∷◌, ◌++◌, length, map, sym, subst, ap, ◌∙◌, length-append, append-nil, append_assoc}
use Rattle.std.specs.Prelude.{Contains}
use Rattle.std.proofs.lemmas.List.{get_or_default, map-append}
use Rattle.std.proofs.lemmas.List.Elements.{All-push}
use Rattle.bt_cnf.specs.Formulas.{FormulaParts}
use Rattle.bt_cnf.specs.declared.literal.Lit.{Lit}
use Rattle.bt_cnf.specs.Truths.{IsFalseIn}
use Rattle.bt_log.specs.Logs.{Step, Learnt, LogParts, clause_of}
use Rattle.bt_cnf.specs.Units.{opposite}
use Rattle.bt_log.specs.Validity.{AreValid, IsValidStep}
use Rattle.bt_watch.specs.Propagation.{IsFullyPropagated}
use Rattle.bt_watch.specs.declared.search.Search.{Search}
use Rattle.bt_watch.specs.Levels.{IsHeld}
use Rattle.bt_watch.specs.Propagating.{IsKept, falses_of}
use Rattle.bt_watch.specs.Reasons.{lit_at}
use Rattle.bt_watch.specs.Watched.{no_lit}
use Rattle.bt_sat.specs.Freshness.{IsFreshLearnt, IsFreshStep}
use Rattle.bt_sat.specs.Solving.{AreFresh}
use Rattle.bt_sat.specs.declared.logged_formula.LoggedFormula.{LoggedFormula}
use Rattle.bt_sat.specs.inner.Asserting.{IsAsserting, IsPrepared}
use Rattle.bt_sat.specs.inner.LoggedFormula.{clauses_in}
use Rattle.bt_sat.specs.inner.Progressing.{IsLogged, IsNextStep, LogsStep}
use Rattle.bt_cnf.proofs.Lists.{nat_or, all_more}
use Rattle.bt_watch.proofs.Advancing.{goes_not}
use Rattle.bt_watch.proofs.Ending.{contains_opposite, opposite_in, propagation_ends, twice_opposite}
use Rattle.bt_watch.proofs.Leveled.{held_kept}
use Rattle.bt_sat.proofs.Open.{propagated_is_open}

pub valid_push : (f : FormulaParts) (clauses : List (List Lit)) (steps : List Step) (step : Step) → AreValid f clauses steps → IsValidStep f (clauses ++ map clause_of steps) step
    → AreValid f clauses (steps ++ step ∷ [])
valid_push f clauses [] step valid next = (subst (λ cs. IsValidStep f cs step) (append-nil clauses) next, tt)
valid_push f clauses (s ∷ steps) step valid next =
    (valid.0, valid_push f (clauses ++ clause_of s ∷ []) steps step valid.1 (subst (λ cs. IsValidStep f cs step) (sym (append_assoc clauses (clause_of s ∷ []) (map clause_of steps))) next))

pub fresh_push : (clauses : List (List Lit)) (steps : List Step) (step : Step) → AreFresh clauses steps → IsFreshStep (clauses ++ map clause_of steps) step → AreFresh clauses (steps ++ step ∷ [])
fresh_push clauses [] step fresh next = (subst (λ cs. IsFreshStep cs step) (append-nil clauses) next, tt)
fresh_push clauses (s ∷ steps) step fresh next =
    (fresh.0, fresh_push (clauses ++ clause_of s ∷ []) steps step fresh.1 (subst (λ cs. IsFreshStep cs step) (sym (append_assoc clauses (clause_of s ∷ []) (map clause_of steps))) next))

-- the clauses with one more
pub clauses_push : (old new : LoggedFormula) (step : Step) → LogsStep old new step → clauses_in new ≡ clauses_in old ++ clause_of step ∷ []
clauses_push old new step logs =
    let f : FormulaParts → List (List Lit) = λ x. x.clauses in
    ap (λ x. f x ++ map clause_of new.log.steps) logs.formula ∙ ap (λ l. old.formula.clauses ++ map clause_of l) (steps_are old new step logs)
    ∙ ap (λ cs. old.formula.clauses ++ cs) (map-append clause_of old.log.steps (step ∷ [])) ∙ sym (append_assoc old.formula.clauses (map clause_of old.log.steps) (clause_of step ∷ []))
  where
    steps_are : (old new : LoggedFormula) (step : Step) → LogsStep old new step → new.log.steps ≡ old.log.steps ++ step ∷ []
    steps_are old new step logs = ap (λ (l : LogParts). l.steps) logs.log

-- the log stays in order
pub logged_push : (old new : LoggedFormula) (limit : ℕ) (step : Step) → IsLogged old limit → LogsStep old new step → IsNextStep old step → clause_of step ≢ [] → length old.log.steps < limit
    → IsLogged new limit
logged_push old new limit step is logs next some room =
    let f = old.formula in
    let done : IsLogged (record { formula = old.formula; log = record { first = old.log.first; steps = old.log.steps ++ step ∷ [] } }) limit = record {
      formula = is.formula;
      first = is.first;
      valid = valid_push f f.clauses old.log.steps step is.valid next.valid;
      fresh = fresh_push f.clauses old.log.steps step is.fresh next.fresh;
      nonempty = All-push (λ s. clause_of s ≢ []) old.log.steps step is.nonempty some;
      within = omega (arith, room, length-append old.log.steps (step ∷ []));
    } in
    subst (λ l. IsLogged (record { formula = new.formula; log = l }) limit) (sym logs.log)
    (subst (λ x. IsLogged (record { formula = x; log = record { first = old.log.first; steps = old.log.steps ++ step ∷ [] } }) limit) (sym logs.formula) done)

-- a clause that is asserted is fresh
asserted_fresh : (all : List (List Lit)) (s : Search) (lits : List Lit) → IsAsserting all s lits → IsFreshLearnt all lits
asserted_fresh all s lits is =
    let T = s.assignment.trail.items in
    let x = lit_at lits 0 in
    let end = propagation_ends s s (length T) (goes_not s) is.ready.propagates (omega arith) in
    let propagated : IsFullyPropagated all (falses_of s) = end.2 all (all_more (IsHeld s) (IsKept s) all (held_kept s) is.ready.held) in
    let others : (l : Lit) → Contains lits l → l ≢ x → Contains (falses_of s) l = λ l (i, small, at) differs. elim (nat_or i 0) [
      | inl zero_i ↦ absurd (differs (sym at ∙ get_or_default lits i l no_lit small ∙ ap (lit_at lits) zero_i))
      | inr later ↦
          let here : lit_at lits i ≡ l = get_or_default lits i no_lit l small ∙ at in
          let false_l : IsFalseIn s.assignment.values l = subst (IsFalseIn s.assignment.values) here (is.others i (omega (arith, later)) small) in
          subst (Contains (falses_of s)) (twice_opposite l) (contains_opposite T (opposite l) (is.ready.ordered.whole.truths.in_trail (opposite l) false_l))
    ] in
    let not_made : Contains (falses_of s) (opposite x) → ⊥ = λ among.
    is.not_true (is.ready.ordered.whole.truths.true_in x (subst (Contains T) (twice_opposite x) (opposite_in T (opposite x) among))) in
    inr (x, propagated_is_open all (falses_of s) lits x propagated (0, is.some, get_or_default lits 0 x no_lit is.some) others not_made)

-- what was prepared is the next step
pub prepared_next : (known : LoggedFormula) (s : Search) (lits : List Lit) (hints : List ℕ) → IsPrepared (clauses_in known) known.formula.vars s lits hints → IsNextStep known (Learnt lits hints)
prepared_next known s lits hints is = record {
  valid = record { variables = is.hinted.below; signs = is.hinted.signs; numbers = is.hinted.numbers; units = is.hinted.units };
  fresh = elim is.asserts [ inl none ↦ inl none | inr asserts ↦ asserted_fresh (clauses_in known) s lits asserts ];
}

-- a log with one learnt clause more
abbrev with_learnt : LogParts → List Lit → List ℕ → LogParts
with_learnt log lits hints = record { first = log.first; steps = log.steps ++ Learnt lits hints ∷ [] }

pub same_learnt : (log : LogParts) (lits lits' : List Lit) (hints hints' : List ℕ) → lits ≡ lits' → hints ≡ hints' → with_learnt log lits hints ≡ with_learnt log lits' hints'
same_learnt log lits lits' hints hints' a b = ap (λ ls. with_learnt log ls hints) a ∙ ap (with_learnt log lits') b

pub not_empty : {X : Type 0} (xs : List X) → 0 < length xs → xs ≢ []
not_empty [] some e = omega (arith, some)
not_empty (x ∷ xs) some e = cc
