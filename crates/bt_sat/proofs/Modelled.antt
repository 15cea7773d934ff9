-- Where all variables have a value and all that is true was propagated, there is a model.
use Rattle.std.proofs.Common.{◌≡◌, ℕ, ◌<◌, ◌⊎◌, inl, inr, arith, List, [], ◌∷◌, ◌++◌, length, map, get_or, Bool, true, false, not, sym, subst, refl, ap, ◌∙◌, Option, None, Some}
use Rattle.std.specs.Prelude.{Contains}
use Rattle.std.specs.List.{All}
use Rattle.std.proofs.lemmas.List.{length-map}
use Rattle.std.proofs.lemmas.List.Elements.{All-contains}
use Rattle.std.proofs.Math.ListN.{get_or-map}
use Rattle.bt_frac.specs.Ratio.{Ratio}
use Rattle.bt_cnf.specs.Assignments.{truth_in}
use Rattle.bt_cnf.specs.Formulas.{FormulaParts}
use Rattle.bt_cnf.specs.Meeting.{IsTrueUnder, MeetsClause}
use Rattle.bt_cnf.specs.declared.literal.Lit.{Lit}
use Rattle.bt_cnf.specs.Truths.{IsFalseIn, IsTrueIn, IsUnset}
use Rattle.bt_log.specs.Logs.{Lemma, clause_of}
use Rattle.bt_cnf.specs.Units.{opposite}
use Rattle.bt_log.specs.Validity.{IsValidLemma}
use Rattle.bt_watch.specs.Propagation.{IsFalseClause, IsFullyPropagated}
use Rattle.bt_watch.specs.declared.search.Search.{Search}
use Rattle.bt_watch.specs.Keeping.{kept_at, IsWatchable}
use Rattle.bt_watch.specs.Levels.{IsHeld, among_watched, alone, IsOrdered, IsReady, start_of, Stands}
use Rattle.bt_watch.specs.Propagating.{IsKept, falses_of}
use Rattle.bt_sat.specs.Solving.{SolverParts, IsModel, clauses_of}
use Rattle.bt_sat.specs.declared.progress.Progress.{Progress}
use Rattle.bt_sat.specs.inner.Choices.{IsComplete}
use Rattle.bt_sat.specs.inner.Kernels.{model_of, value_of}
use Rattle.bt_sat.specs.inner.LoggedFormula.{clauses_in}
use Rattle.bt_sat.specs.inner.Progressing.{IsNextStep}
use Rattle.bt_cnf.proofs.Lists.{contains_here, contains_there, first_or, none_in, all_of, all_more}
use Rattle.bt_watch.proofs.Advancing.{goes_not}
use Rattle.bt_watch.proofs.Backjumped.{take_in}
use Rattle.bt_watch.proofs.Ending.{contains_opposite, propagation_ends, twice_opposite}
use Rattle.bt_watch.proofs.Leveled.{held_kept}
use Rattle.bt_sat.proofs.Counting.{all_negated}

-- whether a literal is true
true_or : (values : List (Option Bool)) (l : Lit) → IsTrueIn values l ⊎ (IsTrueIn values l → ⊥)
true_or values l = inner (get_or values l.var None) l.positive
  where
    inner : (v : Option Bool) (b : Bool) → (v ≡ Some b) ⊎ (v ≡ Some b → ⊥)
    inner None b = inr (λ e. cc)
    inner (Some true) true = inl refl
    inner (Some true) false = inr (λ e. cc)
    inner (Some false) true = inr (λ e. cc)
    inner (Some false) false = inl refl

-- a clause has a true literal, or none
some_true : (values : List (Option Bool)) (clause : List Lit) → ((l : Lit) × Contains clause l × IsTrueIn values l) ⊎ ((l : Lit) → Contains clause l → IsTrueIn values l → ⊥)
some_true values [] = inr (λ l among true_l. none_in l among)
some_true values (x ∷ clause) = elim (true_or values x) [
  | inl here ↦ inl (x, contains_here x x clause refl, here)
  | inr not_here ↦ elim (some_true values clause) [
    | inl found ↦ inl (found.0, contains_there x found.0 clause found.1, found.2)
    | inr none ↦ inr (λ l among true_l. elim (first_or x l clause among) [
      | inl same ↦ not_here (subst (IsTrueIn values) (sym same) true_l)
      | inr later ↦ none l later true_l
    ])
  ]
]

-- a literal whose variable has a value is false where it isn't true
false_or : (values : List (Option Bool)) (l : Lit) → (IsUnset values l.var → ⊥) → (IsTrueIn values l → ⊥) → IsFalseIn values l
false_or values l set untrue = inner (get_or values l.var None) l.positive set untrue
  where
    inner : (v : Option Bool) (b : Bool) → (v ≡ None → ⊥) → (v ≡ Some b → ⊥) → v ≡ Some (not b)
    inner None b set untrue = absurd (set refl)
    inner (Some true) true set untrue = absurd (untrue refl)
    inner (Some true) false set untrue = refl
    inner (Some false) true set untrue = refl
    inner (Some false) false set untrue = absurd (untrue refl)

-- the literals of a clause that is held are of variables
held_below : (all : List (List Lit)) (s : Search) (clause : List Lit) → IsOrdered all s → IsHeld s clause → (l : Lit) → Contains clause l → l.var < length s.assignment.values
held_below all s clause ordered (among_watched id small same) l among =
    let watchable : IsWatchable (length s.assignment.values) (kept_at s.clauses id) = ordered.whole.watched.watchable id [] small in
    All-contains (λ m. m.var < length s.assignment.values) (kept_at s.clauses id) l watchable.below ((same l).0 among)
held_below all s clause ordered (alone m among_m only true_m) l among =
    let same : l ≡ m = All-contains (λ x. x ≡ m) clause l only among in
    subst (λ x. x.var < length s.assignment.values) (sym same)
    (All-contains (λ x. x.var < length s.assignment.values) s.assignment.trail.items m ordered.whole.truths.below (take_in (start_of s 0) s.assignment.trail.items m true_m))

-- the value of a variable in the model
pub value_is : (values : List (Option Bool)) (var : ℕ) → truth_in (model_of values) var ≡ value_of (get_or values var None)
value_is values var = get_or-map value_of values var None

-- a true literal is true under the model
true_under : (values : List (Option Bool)) (l : Lit) → IsTrueIn values l → IsTrueUnder (truth_in (model_of values)) l
true_under values l is = value_is values l.var ∙ ap value_of is

-- each clause has a true literal
complete_meets : (p : Progress) → IsComplete p → All (MeetsClause (truth_in (model_of p.search.assignment.values))) (clauses_in p.known)
complete_meets p is =
    let s = p.search in
    let all = clauses_in p.known in
    let values = s.assignment.values in
    let ready : IsReady all p.propagated s = subst (Stands all p.propagated s) is.none is.running.stands in
    let end = propagation_ends s s p.propagated (goes_not s) ready.propagates (omega (arith, is.propagated)) in
    let propagated : IsFullyPropagated all (falses_of s) = end.2 all (all_more (IsHeld s) (IsKept s) all (held_kept s) ready.held) in
    all_of (MeetsClause (truth_in (model_of values))) all (λ clause among. elim (some_true values clause) [
      | inl found ↦ (found.1.0, found.0, found.1.1, found.1.2, true_under values found.0 found.2)
      | inr none ↦
          let held : IsHeld s clause = All-contains (IsHeld s) all clause ready.held among in
          absurd
          (All-contains (λ c. IsFalseClause (falses_of s) c → ⊥) all clause propagated.no_false among
          (all_of (Contains (falses_of s)) clause (λ l inside.
          let false_l : IsFalseIn values l = false_or values l (is.set l.var (held_below all s clause ready.ordered held l inside)) (none l inside) in
          subst (Contains (falses_of s)) (twice_opposite l) (contains_opposite s.assignment.trail.items (opposite l) (ready.ordered.whole.truths.in_trail (opposite l) false_l)))))
    ])

-- there is a model
pub complete_model : (p : Progress) (parts : SolverParts) → IsComplete p → parts.formula ≡ p.known.formula → parts.steps ≡ p.known.log.steps → IsModel parts (model_of p.search.assignment.values)
complete_model p parts is formula steps =
    let model = model_of p.search.assignment.values in
    let clauses : clauses_in p.known ≡ clauses_of parts = ap (λ (f : FormulaParts). f.clauses ++ map clause_of p.known.log.steps) (sym formula) ∙ ap (λ ss. parts.formula.clauses ++ map clause_of ss) (sym steps) in
    record {
      size = length-map p.search.assignment.values value_of ∙ is.running.variables ∙ ap (λ (f : FormulaParts). f.vars) (sym formula);
      meets = subst (All (MeetsClause (truth_in model))) clauses (complete_meets p is);
    }

-- a negation that isn't true under the model is false
false_under : (values : List (Option Bool)) (l : Lit) → l.positive ≡ false → (IsTrueUnder (truth_in (model_of values)) l → ⊥) → IsFalseIn values l
false_under values l negated unmet = inner (get_or values l.var None) l.positive negated (λ e. unmet (value_is values l.var ∙ e))
  where
    inner : (v : Option Bool) (b : Bool) → b ≡ false → (value_of v ≡ b → ⊥) → v ≡ Some (not b)
    inner None true negated unmet = cc
    inner None false negated unmet = absurd (unmet refl)
    inner (Some true) true negated unmet = cc
    inner (Some true) false negated unmet = refl
    inner (Some false) true negated unmet = cc
    inner (Some false) false negated unmet = absurd (unmet refl)

pub lemma_falses : (f : FormulaParts) (values : List (Option Bool)) (lits : List Lit) (weights : List Ratio) → IsValidLemma f lits weights
    → All (λ l. IsTrueUnder (truth_in (model_of values)) l → ⊥) lits → All (IsFalseIn values) lits
lemma_falses f values lits weights valid unmet =
    all_of (IsFalseIn values) lits
    (λ l among. false_under values l (all_negated f lits valid.rows valid.negated l among) (All-contains (λ m. IsTrueUnder (truth_in (model_of values)) m → ⊥) lits l unmet among))

-- such a lemma is valid and fresh
pub lemma_next : (p : Progress) (lits : List Lit) (weights : List Ratio) → IsComplete p → IsValidLemma p.known.formula lits weights
    → All (λ l. IsTrueUnder (truth_in (model_of p.search.assignment.values)) l → ⊥) lits → IsNextStep p.known (Lemma lits weights)
lemma_next p lits weights is valid unmet = record {
  valid = valid;
  fresh = record {
    assignment = truth_in (model_of p.search.assignment.values);
    meets = complete_meets p is;
    unmet = unmet;
  };
}
