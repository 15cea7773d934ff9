-- What one round comes to.
use Rattle.std.proofs.Common.{◌≡◌, ℕ, ◌<◌, Bool, true, false, List, [], ◌∷◌, ◌++◌, length, get_or, map, take, Option, Some, None, ap, sym, ◌∙◌, refl, subst, arith, length-append}
use Rattle.std.specs.Prelude.{Contains, Ok}
use Rattle.std.specs.List.{All, Any, AllZip}
use Rattle.std.proofs.lemmas.Bool.{false≢true}
use Rattle.std.proofs.lemmas.List.{length-map, length-take-le, get_or-map}
use Rattle.std.proofs.lemmas.List.Elements.{All-nil, All-cons, All-head, All-tail, All-append, All-map, All-contains, All-weaker, Contains-get_or, Contains-append_left}
use Rattle.bt_frac.specs.Ratio.{Ratio}
use Rattle.bt_frac.specs.Rows.{RowParts}
use Rattle.bt_frac.specs.Values.{value_in, RowHolds}
use Rattle.bt_farkas.specs.Farkas.{IsFarkas}
use Rattle.bt_farkas.specs.WeightedRows.{empty_row, picked}
use Rattle.bt_cnf.specs.declared.literal.Lit.{Lit}
use Rattle.bt_cnf.specs.Assignments.{truth_in}
use Rattle.bt_cnf.specs.Formulas.{FormulaParts}
use Rattle.bt_cnf.specs.Meeting.{IsTrueUnder, MeetsClause, Meets}
use Rattle.bt_log.specs.Logs.{Step, Lemma, Learnt}
use Rattle.bt_log.specs.Validity.{NegatesAtom}
use Rattle.bt_sat.specs.Solving.{SolverParts, KeepsModel, IsLearnt, GoesOnBy, IsSoundLog, IsSpent}
use Rattle.bt_sat.specs.Answering.{GivesNext}
use Rattle.bt_sat.specs.declared.answer.Answer.{Answer}
use Rattle.bt_sat.specs.declared.answer.Answer.TheVariants as answer
use Rattle.bt_pivot.specs.SolvedForms.{basis_of}
use Rattle.bt_simplex.specs.Weights.{weighted_rows}
use Rattle.bt_pivot.specs.Tableaus.{TableauParts}
use Rattle.bt_simplex.specs.Runs.{LeadsTo}
use Rattle.bt_simplex.specs.Checks.{IsBound, MeetsBoundRows, RefutesBoundRows}
use Rattle.bt_theory.specs.Reaching.{atom_rows, atom_vars, IsTableauOf, IsReachable}
use Rattle.bt_theory.specs.Outcomes.{IsSolution, FitsLemma, Fits, IsSound, IsUsedUp}
use Rattle.bt_theory.specs.declared.base.Base.{Base}
use Rattle.bt_theory.specs.inner.Bases.{base_in, IsBase}
use Rattle.bt_theory.proofs.Bases.{base_atoms, front_within}
use Rattle.bt_theory.specs.inner.Rounds.{IsReady, HasChosen, MakesLemma, IsLemmaLearnt, IsEnd, IsRound}
use Rattle.bt_theory.specs.inner.Scopes.{negations, IsConflictOf, AreAtoms, IsScopeOf, IsConflict, IsConflictIn}
use Rattle.bt_theory.specs.declared.lemma.Conflict.{Conflict}
use Rattle.bt_theory.specs.declared.round.End.{End}
use Rattle.bt_theory.specs.declared.round.End.TheVariants as end
use Rattle.bt_theory.proofs.Truths.{below_true}
use Rattle.bt_theory.proofs.Chosen.{chosen_meets}
use Rattle.bt_theory.proofs.Reached.{reached_on, bound_reached, IsReached}

-- what holds of all of a list holds of all of its front
pub all_front : {X : Type 0} (P : X → Type 0) (xs ys : List X) → All P (xs ++ ys) → All P xs
all_front P xs ys h = λ k d l. All-contains P (xs ++ ys) (get_or xs k d) h (Contains-append_left xs ys (get_or xs k d) (Contains-get_or xs k d l))

-- learnt steps have no sum
pub learnt_fit : (f : FormulaParts) (step : Step) → IsLearnt step → Fits f step
learnt_fit f (Lemma lits weights) h = absurd h
learnt_fit f (Learnt lits hints) h = tt

-- a sound log whose sums fit
pub sound_log : (s : SolverParts) → IsSoundLog s → All (Fits s.formula) s.steps → IsSound s.formula s.steps
sound_log s sound fits = record { valid = sound.valid; fresh = sound.fresh; nonempty = sound.nonempty; fits = fits }

pub used_up : (s : SolverParts) → IsSoundLog s → All (Fits s.formula) s.steps → IsSpent s → IsUsedUp s.formula s.limit s.steps
used_up s sound fits spent =
    record { sound = sound_log s sound fits; full = spent.full; few = spent.few; nonempty = spent.nonempty; more = spent.more; valid = spent.valid; fresh = spent.fresh }

-- all sums fit, where steps follow whose sums do
pub fits_on : (s s' : SolverParts) (more : List Step) → GoesOnBy more s s' → All (Fits s.formula) s.steps → All (Fits s.formula) more → All (Fits s'.formula) s'.steps
fits_on s s' more goes fits also =
    subst (λ f. All (Fits f) s'.steps) (sym goes.formula) (subst (All (Fits s.formula)) (sym goes.steps) (All-append (Fits s.formula) s.steps more fits also))

-- what was ready goes on being so, where steps follow whose sums fit
ready_on : (b : Base) (s s' : SolverParts) (t : TableauParts) (more : List Step) → GoesOnBy more s s' → IsTableauOf (base_in b s.formula) t
    → IsReachable (base_in b s.formula) (basis_of t.slots) → All (Fits s.formula) s.steps → All (Fits s.formula) more → IsReady b s' t
ready_on b s s' t more goes table reach fits also =
    let e = sym goes.formula in
    record {
      tableau = subst (λ f. IsTableauOf (base_in b f) t) e table;
      reachable = subst (λ f. IsReachable (base_in b f) (basis_of t.slots)) e reach;
      fits = fits_on s s' more goes fits also;
    }

module _ (b : Base) (old new : SolverParts) (t : TableauParts) (waiting left : List (Option (List (List Lit)))) (ready : IsReady b old t) where
  pub ready_next : (a : Answer) → GivesNext old waiting new left a → IsReady b new t
  ready_next a gives = ready_on b old new t gives.added gives.goes_on ready.tableau ready.reachable ready.fits (All-weaker IsLearnt (Fits old.formula) (learnt_fit old.formula) gives.added gives.learnt)

  pub refuted_round : (pivots : ℕ) → GivesNext old waiting new left answer.Refuted → IsRound pivots b old new t (Some end.Refuted)
  refuted_round pivots gives =
      record {
        formula = gives.goes_on.formula;
        limit = gives.goes_on.limit;
        says = (record { sound = sound_log new gives.sound (ready_next answer.Refuted gives).fits; refutes = gives.says.1 }, gives.sound.within);
      }

  pub spent_round : (pivots : ℕ) → GivesNext old waiting new left answer.Spent → IsRound pivots b old new t (Some end.Spent)
  spent_round pivots gives =
      record {
        formula = gives.goes_on.formula;
        limit = gives.goes_on.limit;
        says = used_up new gives.sound (ready_next answer.Spent gives).fits gives.says.1;
      }

-- the row of a place is that of its atom
row_at : (f : FormulaParts) (k : ℕ) (d : ℕ × RowParts) → k < length f.atoms → get_or (atom_rows f) k empty_row ≡ (get_or f.atoms k d).1
row_at f k d l = get_or-map (λ a. a.1) f.atoms k d empty_row l

var_at : (f : FormulaParts) (k : ℕ) (d : ℕ × RowParts) → k < length f.atoms → get_or (atom_vars f) k 0 ≡ (get_or f.atoms k d).0
var_at f k d l = get_or-map (λ a. a.0) f.atoms k d 0 l

-- the formula's atoms with their rows
pub all_atoms : (f : FormulaParts) → AreAtoms f (atom_vars f) (atom_rows f)
all_atoms f =
    record {
      paired = length-map f.atoms (λ a. a.0) ∙ sym (length-map f.atoms (λ a. a.1));
      have = λ k l.
          let d : ℕ × RowParts = (0, empty_row) in
          let within : k < length f.atoms = (let long = length-map f.atoms (λ a. a.0) in omega (arith, l, long)) in
          let p = get_or f.atoms k d in
          subst (λ v. Contains f.atoms (v, get_or (atom_rows f) k empty_row)) (sym (var_at f k d within))
          (subst (λ r. Contains f.atoms (p.0, r)) (sym (row_at f k d within)) (Contains-get_or f.atoms k d within));
    }

-- ---- a solution

module _ (f : FormulaParts) (t : TableauParts) (chosen : List Bool) (table : IsTableauOf f t) (bound_are : t.bound ≡ map (truth_in chosen) (atom_vars f))
    (meets : All (MeetsClause (truth_in chosen)) f.clauses) where
  count : length (atom_vars f) ≡ length f.atoms
  count = length-map f.atoms (λ a. a.0)

  is_chosen : (row : ℕ) → row < length f.atoms → get_or t.bound row false ≡ truth_in chosen (get_or (atom_vars f) row 0)
  is_chosen row l = ap (λ b. get_or b row false) bound_are ∙ get_or-map (truth_in chosen) (atom_vars f) row 0 false (omega (arith, l, count))

  values_meet : (values : List Ratio) → MeetsBoundRows t values → Meets f (truth_in chosen) (value_in values)
  values_meet values holds =
      record {
        clauses = meets;
        atoms = λ k d l h.
            let is_bound = is_chosen k l ∙ ap (truth_in chosen) (var_at f k d l) ∙ h in
            subst (λ r. RowHolds r (value_in values)) (ap (λ rows. get_or rows k empty_row) table.rows ∙ row_at f k d l) (holds.holds k is_bound);
      }

  pub solves : (values : List Ratio) → length chosen ≡ f.vars → MeetsBoundRows t values → IsSolution f values chosen
  solves values size holds = record { columns = holds.columns ∙ table.columns; variables = size; meets = values_meet values holds }

-- ---- a conflict

module _ (atoms : List ℕ) (t : TableauParts) (chosen : List Bool) (bound_are : t.bound ≡ map (truth_in chosen) atoms) (weighed : List (ℕ × Ratio)) (refutes : RefutesBoundRows t weighed) where
  -- a row that is bound is that of an atom which is chosen
  bound_row : (row : ℕ) → IsBound t row → row < length atoms
  bound_row row h =
      let l = below_true t.bound row h in
      let long = ap length bound_are ∙ length-map atoms (truth_in chosen) in
      omega (arith, l, long)

  row_chosen : (row : ℕ) → IsBound t row → truth_in chosen (get_or atoms row 0) ≡ true
  row_chosen row h = sym (ap (λ b. get_or b row false) bound_are ∙ get_or-map (truth_in chosen) atoms row 0 false (bound_row row h)) ∙ h

  pub rows_below : All (λ w. w.0 < length atoms) weighed
  rows_below = λ k d l. bound_row (get_or weighed k d).0 (refutes.bound k d l)

  pub conflict_in : (conflict : Conflict) (rows : List RowParts) → IsFarkas (weighted_rows rows weighed) (Ok true) → IsConflictOf atoms weighed conflict → IsConflictIn chosen conflict (atoms, rows)
  conflict_in conflict rows accepted is =
      record {
        weighed = weighed;
        below = rows_below;
        is = is;
        holds = λ k d l. row_chosen (get_or weighed k d).0 (refutes.bound k d l);
        accepted = accepted;
      }

-- the negation of a place's atom negates its row
all_negate : (f : FormulaParts) (atoms : List ℕ) (rows : List RowParts) (weighed : List (ℕ × Ratio)) → AreAtoms f atoms rows → All (λ w. w.0 < length atoms) weighed
    → AllZip (NegatesAtom f) (negations atoms weighed) (picked rows (map (λ w. w.0) weighed))
all_negate f atoms rows [] are h = tt
all_negate f atoms rows (w ∷ weighed) are h =
    ((refl, are.have w.0 (All-head (λ v. v.0 < length atoms) w weighed h)), all_negate f atoms rows weighed are (All-tail (λ v. v.0 < length atoms) w weighed h))

-- a conflict among atoms of the formula is one of the formula
conflict_is : (f : FormulaParts) (chosen : List Bool) (conflict : Conflict) (atoms : List ℕ) (rows : List RowParts) → AreAtoms f atoms rows → IsConflictIn chosen conflict (atoms, rows)
    → IsConflict f chosen conflict
conflict_is f chosen conflict atoms rows are found =
    record {
      fits = subst (λ lits. FitsLemma f lits conflict.weights.items) (sym found.is.0)
          (subst (FitsLemma f (negations atoms found.weighed)) (sym found.is.1)
          (record { rows = picked rows (map (λ w. w.0) found.weighed); negated = all_negate f atoms rows found.weighed are found.below; accepted = found.accepted }));
      counted = ap length found.is.1 ∙ length-map found.weighed (λ w. w.1)
          ∙ sym (ap length found.is.0 ∙ length-map found.weighed (λ w. record { var = get_or atoms w.0 0; positive = false }));
      unmet = subst (All (λ l. (l.positive ≡ false) × (truth_in chosen l.var ≡ true))) (sym found.is.0)
          (All-map (λ l. (l.positive ≡ false) × (truth_in chosen l.var ≡ true)) (λ w. record { var = get_or atoms w.0 0; positive = false }) found.weighed
          (λ k d l. (refl, found.holds k d l)));
    }

-- a conflict in one of the scopes
pub conflict_among : (f : FormulaParts) (chosen : List Bool) (conflict : Conflict) (scopes : List (List ℕ × List RowParts)) → All (IsScopeOf f) scopes → Any (IsConflictIn chosen conflict) scopes
    → IsConflict f chosen conflict
conflict_among f chosen conflict scopes are (k, parts, l, at, found) =
    conflict_is f chosen conflict parts.0 parts.1 (subst (IsScopeOf f) at (are k parts l)) found

-- ---- all rows

module _ (b : Base) (s : SolverParts) (t0 t1 : TableauParts) (chosen : List Bool) (pivots : ℕ) (base : IsBase b s.formula) (ready : IsReady b s t0)
    (of_model : HasChosen b s chosen) (bound_is : t1 ≡ record t0 { bound = map (truth_in chosen) b.atoms.items }) where
  abbrev pub first : FormulaParts
  first = base_in b s.formula

  meets : All (MeetsClause (truth_in chosen)) first.clauses
  meets = chosen_meets (take b.vars of_model.model) chosen first.clauses of_model.chose

  pub reached : IsReached first t1
  reached =
      bound_reached first t0 t1 (truth_in chosen) (bound_is ∙ ap (λ vars. record t0 { bound = map (truth_in chosen) vars }) base.atoms) meets ready.tableau ready.reachable

  bound_are : t1.bound ≡ map (truth_in chosen) (atom_vars first)
  bound_are = ap (λ (x : TableauParts). x.bound) bound_is ∙ ap (map (truth_in chosen)) base.atoms

  size : length chosen ≡ b.vars
  size =
      let model = of_model.has.is_model.size in
      let within = base.vars in
      of_model.chose.size ∙ length-take-le b.vars of_model.model (omega (arith, model, within))

  pub solves_all : (values : List Ratio) → MeetsBoundRows t1 values → IsSolution first values chosen
  solves_all values holds = solves first t1 chosen reached.tableau bound_are meets values size holds

  pub ready_after : (t2 : TableauParts) → LeadsTo pivots t1 t2 → IsReady b s t2
  ready_after t2 leads = let at = reached_on first pivots t1 t2 reached leads in record { tableau = at.0; reachable = at.1; fits = ready.fits }

  pub rows_of_atoms : (weighed : List (ℕ × Ratio)) → RefutesBoundRows t1 weighed → All (λ w. w.0 < length b.atoms.items) weighed
  rows_of_atoms weighed refutes = rows_below b.atoms.items t1 chosen (ap (λ (x : TableauParts). x.bound) bound_is) weighed refutes

  pub conflict_all : (weighed : List (ℕ × Ratio)) (conflict : Conflict) → RefutesBoundRows t1 weighed → IsConflictOf b.atoms.items weighed conflict
      → IsConflict s.formula chosen conflict
  conflict_all weighed conflict refutes is =
      conflict_is s.formula chosen conflict (atom_vars first) (atom_rows first) (base_atoms b s.formula base (atom_vars first) (atom_rows first) (all_atoms first))
      (conflict_in (atom_vars first) t1 chosen bound_are weighed refutes conflict (atom_rows first)
      (subst (λ r. IsFarkas (weighted_rows r weighed) (Ok true)) reached.tableau.rows refutes.accepted)
      (subst (λ vars. IsConflictOf vars weighed conflict) base.atoms is))

-- ---- its lemma

-- a conflict under the model that the search keeps
model_lemma : (s : SolverParts) (model : List Bool) (conflict : Conflict) → s.status ≡ KeepsModel model → IsConflict s.formula model conflict → MakesLemma s conflict
model_lemma s model conflict keeps is low =
    record {
      model = model;
      keeps = keeps;
      unmet = All-weaker (λ l. (l.positive ≡ false) × (truth_in model l.var ≡ true)) (λ l. IsTrueUnder (truth_in model) l → ⊥)
          (λ l (negative, holds) met. false≢true (sym (met ∙ negative) ∙ holds)) conflict.lits.items is.unmet;
      valid = record { rows = is.fits.rows; negated = is.fits.negated; counted = is.counted; fractions = low; false_sum = is.fits.accepted.1.0 refl };
    }

pub makes_lemma : (b : Base) (s : SolverParts) (chosen : List Bool) (conflict : Conflict) → HasChosen b s chosen → IsConflict s.formula chosen conflict → MakesLemma s conflict
makes_lemma b s chosen conflict of_model is =
    model_lemma s of_model.model conflict of_model.has.keeps
    (record {
      fits = is.fits;
      counted = is.counted;
      unmet = All-weaker (λ l. (l.positive ≡ false) × (truth_in chosen l.var ≡ true)) (λ l. (l.positive ≡ false) × (truth_in of_model.model l.var ≡ true))
          (λ l (negative, holds). (negative, front_within b.vars of_model.model l.var (of_model.chose.within l.var holds))) conflict.lits.items is.unmet;
    })

-- a round that ends without a step
pub ends_round : (pivots : ℕ) (b : Base) (s : SolverParts) (t : TableauParts) (e : End) → IsEnd pivots b s e → IsRound pivots b s s t (Some e)
ends_round pivots b s t e says = record { formula = refl; limit = refl; says = says }

module _ (pivots : ℕ) (b : Base) (s s' : SolverParts) (t : TableauParts) (chosen : List Bool) (conflict : Conflict) (ready : IsReady b s t) (of_model : HasChosen b s chosen)
    (is : IsConflict s.formula chosen conflict) where
  pub learnt_round : (said : Option End) → IsLemmaLearnt s s' conflict said → IsRound pivots b s s' t said
  learnt_round None (goes, sound) =
      let step = Lemma conflict.lits.items conflict.weights.items in
      let more = ap length goes.steps ∙ length-append s.steps (step ∷ []) in
      record {
        formula = goes.formula;
        limit = goes.limit;
        says = (
          ready_on b s s' t (step ∷ []) goes ready.tableau ready.reachable ready.fits (All-cons (Fits s.formula) step [] is.fits (All-nil (Fits s.formula))),
          (let l : length s.steps < length s'.steps = omega (arith, more) in l),
          sound.within,
        );
      }
  learnt_round (Some end.Spent) (same, spent) =
      subst (λ x. IsRound pivots b s x t (Some end.Spent)) (sym same) (ends_round pivots b s t end.Spent (used_up s of_model.has.sound ready.fits spent))
  learnt_round (Some end.Refuted) h = absurd h
  learnt_round (Some (end.Sat solution)) h = absurd h
  learnt_round (Some (end.Pivots trace)) h = absurd h
  learnt_round (Some (end.Wide wide)) h = absurd h
