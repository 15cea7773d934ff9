-- What a search that has answered holds.
use Rattle.std.proofs.Common.{◌≡◌, ◌≢◌, ℕ, ◌<◌, ◌^◌, arith, Bool, List, [], ◌∷◌, ◌++◌, length, sym, subst, refl, ap, ◌∙◌, Option, length-append, append-nil}
use Rattle.std.specs.List.{All}
use Rattle.std.proofs.lemmas.List.{same_from_push}
use Rattle.std.proofs.lemmas.List.Elements.{All-contains, All-nil, Contains-append_left}
use Rattle.bt_frac.specs.Ratio.{Ratio}
use Rattle.bt_cnf.specs.Assignments.{truth_in}
use Rattle.bt_cnf.specs.Formulas.{FormulaParts}
use Rattle.bt_cnf.specs.Meeting.{IsTrueUnder}
use Rattle.bt_cnf.specs.declared.literal.Lit.{Lit}
use Rattle.bt_cnf.specs.Truths.{IsFalseIn}
use Rattle.bt_log.specs.Logs.{Step, Learnt, Lemma, LogParts, clause_of}
use Rattle.bt_log.specs.Refuting.{Refutes}
use Rattle.bt_log.specs.Validity.{AreValid}
use Rattle.bt_sat.specs.Answering.{AddsLemma, Assumes, GivesNext, Says, SaysAssumed}
use Rattle.bt_sat.specs.Serving.{TellsSteps}
use Rattle.bt_sat.specs.Solving.{AreFresh, AreNonempty, EndsRefuted, EndsSpent, IsLearnt, IsLemmaOf, IsModel, IsSoundLog, IsSpent, KeepsModel, LacksMemory, Searches, Status}
use Rattle.bt_sat.specs.declared.kernel.Stage.{Stage}
use Rattle.bt_sat.specs.declared.kernel.Stage.TheVariants.{Running, Complete, Refuted, Spent, Lost}
use Rattle.bt_sat.specs.declared.logged_formula.LoggedFormula.{LoggedFormula}
use Rattle.bt_sat.specs.declared.progress.Progress.{Progress}
use Rattle.bt_sat.specs.declared.answer.Answer.{Answer}
use Rattle.bt_sat.specs.declared.answer.Assumed.{Assumed}
use Rattle.bt_sat.specs.inner.Choices.{IsComplete}
use Rattle.bt_sat.specs.inner.Searching.{HasSpent, IsRefuted}
use Rattle.bt_sat.specs.inner.Kernels.{AddsTo, AnswersBy, AssumesBy, Comes, MayGoOn, StandsAt, StandsBy, model_of, parts_of, stage_after, stage_assumed}
use Rattle.bt_sat.specs.inner.Progressing.{IsLogged, IsNextStep}
use Rattle.bt_sat.specs.declared.answer.Answer.TheVariants as answer
use Rattle.bt_sat.specs.declared.answer.Assumed.TheVariants as assumed
use Rattle.bt_cnf.proofs.Lists.{all_of}
use Rattle.bt_sat.proofs.Counting.{fresh_steps_are_few}
use Rattle.bt_sat.proofs.Logging.{fresh_push, valid_push}
use Rattle.bt_sat.proofs.Modelled.{complete_model, lemma_falses, lemma_next}
use Rattle.bt_sat.proofs.Served.{tells_none, tells_step}

all_front : {X : Type 0} (P : X → Type 0) (front : List X) (last : X) → All P (front ++ last ∷ []) → All P front
all_front P front last all = all_of P front (λ x among. All-contains P (front ++ last ∷ []) x all (Contains-append_left front (last ∷ []) x among))

-- a log that is in order is sound
logged_sound : (p : Progress) (stage : Stage) → IsLogged p.known p.limit → IsSoundLog (parts_of p stage)
logged_sound p stage is = record {
  valid = is.valid;
  fresh = is.fresh;
  nonempty = λ front last split. all_front (λ step. clause_of step ≢ []) front last (subst AreNonempty split is.nonempty);
  within = is.within;
}

-- where the last step is the empty clause
module _ (p : Progress) (is : IsRefuted p) where
  abbrev last : Step
  last = Learnt [] is.hints

  steps_are : p.known.log.steps ≡ is.before.log.steps ++ last ∷ []
  steps_are = ap (λ (l : LogParts). l.steps) is.logs.log

  refuted_valid : AreValid p.known.formula p.known.formula.clauses p.known.log.steps
  refuted_valid =
      subst (AreValid p.known.formula p.known.formula.clauses) (sym steps_are)
      (subst (λ (f : FormulaParts). AreValid f f.clauses (is.before.log.steps ++ last ∷ [])) (sym is.logs.formula)
      (valid_push is.before.formula is.before.formula.clauses is.before.log.steps last is.logged.valid is.next.valid))

  refuted_fresh : AreFresh p.known.formula.clauses p.known.log.steps
  refuted_fresh =
      subst (AreFresh p.known.formula.clauses) (sym steps_are)
      (subst (λ (f : FormulaParts). AreFresh f.clauses (is.before.log.steps ++ last ∷ [])) (sym is.logs.formula)
      (fresh_push is.before.formula.clauses is.before.log.steps last is.logged.fresh is.next.fresh))

  pub refuted_sound : (stage : Stage) → IsSoundLog (parts_of p stage)
  refuted_sound stage = record {
    valid = refuted_valid;
    fresh = refuted_fresh;
    nonempty = λ front final split. subst AreNonempty (sym (same_from_push front is.before.log.steps final last (sym split ∙ steps_are)).0) is.logged.nonempty;
    within = omega (arith, ap length steps_are, length-append is.before.log.steps (last ∷ []), is.room);
  }

  pub refutes : Refutes p.known.formula p.known.log.steps
  refutes = record {
    valid = refuted_valid;
    ends = record { front = is.before.log.steps; last = last; split = steps_are; empty = refl };
  }

-- a log in order that is full has fewer steps than there are clauses
few_steps : (known : LoggedFormula) (limit : ℕ) → IsLogged known limit → length known.log.steps ≡ limit → limit < 3 ^ known.formula.vars
few_steps known limit is full =
    subst (λ n. n < 3 ^ known.formula.vars) full (fresh_steps_are_few known.formula known.log.steps is.formula is.valid is.fresh is.nonempty)

-- one more step would be more than the limit says
full_spent : (p : Progress) (stage : Stage) → HasSpent p → IsSpent (parts_of p stage)
full_spent p stage is = record {
  full = is.full;
  few = few_steps p.known p.limit is.logged is.full;
  nonempty = is.logged.nonempty;
  more = is.step;
  valid = is.next.valid;
  fresh = is.next.fresh;
}

comes_sound : (p : Progress) (answer : Answer) → Comes p answer → IsSoundLog (parts_of p (stage_after answer))
comes_sound p (answer.Model model) comes = logged_sound p Complete comes.0.running.logged
comes_sound p answer.Refuted comes = refuted_sound p comes Refuted
comes_sound p answer.Spent comes = logged_sound p Spent comes.logged

comes_says : (p : Progress) (answer : Answer) → Comes p answer → Says (parts_of p (stage_after answer)) answer
comes_says p (answer.Model model) comes = (
  ap (λ m. KeepsModel m) (sym comes.1),
  subst (IsModel (parts_of p Complete)) (sym comes.1) (complete_model p (parts_of p Complete) comes.0 refl refl),
)
comes_says p answer.Refuted comes = (refl, refutes p comes)
comes_says p answer.Spent comes = (refl, full_spent p Spent comes)

-- an answer that was searched for
pub gives : (old new : Progress) (was : Stage) (waiting left : List (Option (List (List Lit)))) (answer : Answer) → MayGoOn (parts_of old was).status → AnswersBy old waiting new left answer
    → GivesNext (parts_of old was) waiting (parts_of new (stage_after answer)) left answer
gives old new was waiting left answer may by = record {
  added = by.0.added;
  learnt = by.0.learnt;
  goes_on = record { formula = by.0.formula; limit = by.0.limit; steps = ap (λ (l : LogParts). l.steps) by.0.log };
  tells = by.0.tells;
  sound = comes_sound new answer by.1;
  says = comes_says new answer by.1;
  refuted = λ ends. absurd (subst MayGoOn ends may);
  spent = λ ends. absurd (subst MayGoOn ends may);
}

-- the same answer again
again : (p : Progress) (stage : Stage) (waiting : List (Option (List (List Lit)))) (answer : Answer) → IsSoundLog (parts_of p stage) → Says (parts_of p stage) answer
    → GivesNext (parts_of p stage) waiting (parts_of p stage) waiting answer
again p stage waiting answer sound says = record {
  added = [];
  learnt = All-nil IsLearnt;
  goes_on = record { formula = refl; limit = refl; steps = sym (append-nil p.known.log.steps) };
  tells = tells_none p.known.log.steps waiting;
  sound = sound;
  says = says;
  refuted = λ ends. refl;
  spent = λ ends. refl;
}

pub again_refuted : (p : Progress) (stage : Stage) (waiting : List (Option (List (List Lit)))) → stage ≡ Refuted → StandsAt p stage
    → GivesNext (parts_of p stage) waiting (parts_of p stage) waiting answer.Refuted
again_refuted p stage waiting at stands =
    let is : IsRefuted p = subst (StandsAt p) at stands in
    subst (λ s. GivesNext (parts_of p s) waiting (parts_of p s) waiting answer.Refuted) (sym at) (again p Refuted waiting answer.Refuted (refuted_sound p is Refuted) (refl, refutes p is))

pub again_spent : (p : Progress) (stage : Stage) (waiting : List (Option (List (List Lit)))) → stage ≡ Spent → StandsAt p stage
    → GivesNext (parts_of p stage) waiting (parts_of p stage) waiting answer.Spent
again_spent p stage waiting at stands =
    let is : HasSpent p = subst (StandsAt p) at stands in
    subst (λ s. GivesNext (parts_of p s) waiting (parts_of p s) waiting answer.Spent) (sym at) (again p Spent waiting answer.Spent (logged_sound p Spent is.logged) (refl, full_spent p Spent is))

assumed_sound : (p : Progress) (said : Assumed) → StandsBy p said → IsSoundLog (parts_of p (stage_assumed said))
assumed_sound p (assumed.Open truths) stands = logged_sound p Running stands.logged
assumed_sound p assumed.Follows stands = logged_sound p Running stands.logged
assumed_sound p assumed.Refuted stands = refuted_sound p stands Refuted
assumed_sound p assumed.Spent stands = logged_sound p Spent stands.logged

assumed_says : (p : Progress) (said : Assumed) → StandsBy p said → SaysAssumed (parts_of p (stage_assumed said)) said
assumed_says p (assumed.Open truths) stands = refl
assumed_says p assumed.Follows stands = refl
assumed_says p assumed.Refuted stands = (refl, refutes p stands)
assumed_says p assumed.Spent stands = (refl, full_spent p Spent stands)

-- literals were made false
pub assumes : (old new : Progress) (was : Stage) (waiting left : List (Option (List (List Lit)))) (said : Assumed) → MayGoOn (parts_of old was).status → AssumesBy old waiting new left said
    → Assumes (parts_of old was) waiting (parts_of new (stage_assumed said)) left said
assumes old new was waiting left said may by = record {
  added = by.0.added;
  learnt = by.0.learnt;
  goes_on = record { formula = by.0.formula; limit = by.0.limit; steps = ap (λ (l : LogParts). l.steps) by.0.log };
  tells = by.0.tells;
  sound = assumed_sound new said by.1;
  says = assumed_says new said by.1;
  refuted = λ ends. absurd (subst MayGoOn ends may);
  spent = λ ends. absurd (subst MayGoOn ends may);
}

-- none was, at the search's end
not_assumed : (p : Progress) (stage : Stage) (waiting : List (Option (List (List Lit)))) (said : Assumed) → IsSoundLog (parts_of p stage) → SaysAssumed (parts_of p stage) said
    → Assumes (parts_of p stage) waiting (parts_of p stage) waiting said
not_assumed p stage waiting said sound says = record {
  added = [];
  learnt = All-nil IsLearnt;
  goes_on = record { formula = refl; limit = refl; steps = sym (append-nil p.known.log.steps) };
  tells = tells_none p.known.log.steps waiting;
  sound = sound;
  says = says;
  refuted = λ ends. refl;
  spent = λ ends. refl;
}

pub assumed_refuted : (p : Progress) (stage : Stage) (waiting : List (Option (List (List Lit)))) → stage ≡ Refuted → StandsAt p stage
    → Assumes (parts_of p stage) waiting (parts_of p stage) waiting assumed.Refuted
assumed_refuted p stage waiting at stands =
    let is : IsRefuted p = subst (StandsAt p) at stands in
    subst (λ s. Assumes (parts_of p s) waiting (parts_of p s) waiting assumed.Refuted) (sym at) (not_assumed p Refuted waiting assumed.Refuted (refuted_sound p is Refuted) (refl, refutes p is))

pub assumed_spent : (p : Progress) (stage : Stage) (waiting : List (Option (List (List Lit)))) → stage ≡ Spent → StandsAt p stage
    → Assumes (parts_of p stage) waiting (parts_of p stage) waiting assumed.Spent
assumed_spent p stage waiting at stands =
    let is : HasSpent p = subst (StandsAt p) at stands in
    subst (λ s. Assumes (parts_of p s) waiting (parts_of p s) waiting assumed.Spent) (sym at) (not_assumed p Spent waiting assumed.Spent (logged_sound p Spent is.logged) (refl, full_spent p Spent is))

-- what is known where a lemma comes
pub record MeetsLemma (p : Progress) (lits : List Lit) (weights : List Ratio) : Type 0 where
  pub complete : IsComplete p
  pub falses : All (IsFalseIn p.search.assignment.values) lits
  pub next : IsNextStep p.known (Lemma lits weights)

abbrev model_in : Status → List Bool
model_in (KeepsModel model) = model
model_in _ = []

pub meets_lemma : (p : Progress) (stage : Stage) (lits : List Lit) (weights : List Ratio) → StandsAt p stage → IsLemmaOf (parts_of p stage) lits weights → MeetsLemma p lits weights
meets_lemma p Running lits weights stands of =
    let no_model : Searches ≡ KeepsModel of.model = of.keeps in
    cc
meets_lemma p Complete lits weights stands of =
    let values = p.search.assignment.values in
    let same : model_of values ≡ of.model = ap model_in of.keeps in
    let unmet = subst (λ m. All (λ l. IsTrueUnder (truth_in m) l → ⊥) lits) (sym same) of.unmet in
    record {
      complete = stands;
      falses = lemma_falses p.known.formula values lits weights of.valid unmet;
      next = lemma_next p lits weights stands of.valid unmet;
    }
meets_lemma p Refuted lits weights stands of =
    let no_model : EndsRefuted ≡ KeepsModel of.model = of.keeps in
    cc
meets_lemma p Spent lits weights stands of =
    let no_model : EndsSpent ≡ KeepsModel of.model = of.keeps in
    cc
meets_lemma p Lost lits weights stands of =
    let no_model : LacksMemory ≡ KeepsModel of.model = of.keeps in
    cc

-- the lemma was added
pub adds : (old new : Progress) (was : Stage) (waiting left : List (Option (List (List Lit)))) (lits : List Lit) (weights : List Ratio) → length old.known.log.steps < old.limit → AddsTo old waiting lits weights new left → AddsLemma (parts_of old was) waiting lits weights (parts_of new Running) left
adds old new was waiting left lits weights room by = record {
  room = room;
  goes_on = record { formula = by.logs.formula; limit = by.limit; steps = ap (λ (l : LogParts). l.steps) by.logs.log };
  tells = subst (λ steps. TellsSteps old.known.log.steps steps waiting left) (sym (ap (λ (l : LogParts). l.steps) by.logs.log)) (tells_step old.known.log.steps (Lemma lits weights) waiting left by.tells);
  sound = logged_sound new Running by.running.logged;
  searches = refl;
}

-- no lemma can be added, where the log has as many steps as it may
pub no_room : (p : Progress) (stage : Stage) (lits : List Lit) (weights : List Ratio) → MeetsLemma p lits weights → length p.known.log.steps ≡ p.limit → IsSpent (parts_of p stage)
no_room p stage lits weights is full = record {
  full = full;
  few = few_steps p.known p.limit is.complete.running.logged full;
  nonempty = is.complete.running.logged.nonempty;
  more = Lemma lits weights;
  valid = is.next.valid;
  fresh = is.next.fresh;
}
