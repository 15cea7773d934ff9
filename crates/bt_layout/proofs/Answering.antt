-- What the one answer of a search says of the request whose placement formula is searched.
use Rattle.std.proofs.Common.{◌≡◌, ℕ, ◌≤◌, Bool, List, ◌++◌, length, map, Option, sym, ◌∙◌, ap, subst, arith}
use Rattle.std.specs.List.{All}
use Rattle.std.proofs.lemmas.List.Elements.{All-weaker}
use Rattle.bt_frac.specs.Values.{nothing}
use Rattle.bt_cnf.specs.Assignments.{truth_in}
use Rattle.bt_cnf.specs.declared.literal.Lit.{Lit}
use Rattle.bt_cnf.specs.Formulas.{FormulaParts}
use Rattle.bt_cnf.specs.Meeting.{MeetsClause}
use Rattle.bt_log.specs.Logs.{Step, clause_of}
use Rattle.bt_log.specs.Refuting.{Refutes}
use Rattle.bt_sat.specs.Answering.{GivesNext}
use Rattle.bt_sat.specs.Solving.{SolverParts, begun, IsLearnt, IsModel, IsSpent}
use Rattle.bt_sat.specs.declared.answer.Answer.{Answer}
use Rattle.bt_sat.specs.declared.answer.Answer.TheVariants.{Model, Refuted, Spent}
use Rattle.bt_model.specs.Requests.{IsRequest, LayoutRequest}
use Rattle.bt_place.specs.PlaceFormula.{place_formula}
use Rattle.bt_place.specs.Solutions.{IsSolution}
use Rattle.bt_theory.specs.Outcomes.{Fits, IsRefutation, IsUsedUp}
use Rattle.bt_theory.proofs.Rounds.{all_front, learnt_fit, sound_log, used_up}
use Rattle.bt_layout.specs.inner.Ends.{EndsWith}
use Rattle.bt_layout.proofs.Refuted.{refuted_has_no_layout}

module _ (r : LayoutRequest) (learnt : ℕ) (f : FormulaParts) (old new : SolverParts) (waiting left : List (Option (List (List Lit)))) (answer : Answer)
    (is : f ≡ place_formula r) (begins : old ≡ begun f learnt) (gives : GivesNext old waiting new left answer) where
  formula : new.formula ≡ place_formula r
  formula = gives.goes_on.formula ∙ ap (λ (s : SolverParts). s.formula) begins ∙ is

  limit : new.limit ≡ learnt
  limit = gives.goes_on.limit ∙ ap (λ (s : SolverParts). s.limit) begins

  steps : gives.added ≡ new.steps
  steps = sym (gives.goes_on.steps ∙ ap (λ (s : SolverParts). s.steps ++ gives.added) begins)

  fits : All (Fits new.formula) new.steps
  fits = subst (All (Fits new.formula)) steps (All-weaker IsLearnt (Fits new.formula) (learnt_fit new.formula) gives.added gives.learnt)

  -- a model meets the formula, which has no atoms
  model_solves : (model : List Bool) → IsModel new model → IsSolution r model
  model_solves model h = (
    λ column. nothing,
    record {
      clauses = subst (λ (g : FormulaParts). All (MeetsClause (truth_in model)) g.clauses) formula
          (all_front (MeetsClause (truth_in model)) new.formula.clauses (map clause_of new.steps) h.meets);
      atoms = λ k d lt. absurd (omega arith);
    },
  )

  refutes : (log : List Step) → log ≡ new.steps → Refutes new.formula new.steps → IsRefutation (place_formula r) log × (length log ≤ learnt)
  refutes log e h =
      let within = gives.sound.within in
      let most = limit in
      subst (λ steps. IsRefutation (place_formula r) steps × (length steps ≤ learnt)) (sym e) (
        subst (λ g. IsRefutation g new.steps) formula (record { sound = sound_log new gives.sound fits; refutes = h }),
        omega (arith, within, most),
      )

  spends : (log : List Step) → log ≡ new.steps → IsSpent new → IsUsedUp (place_formula r) learnt log
  spends log e h =
      subst (IsUsedUp (place_formula r) learnt) (sym e)
      (subst (λ g. IsUsedUp g learnt new.steps) formula (subst (λ n. IsUsedUp new.formula n new.steps) limit (used_up new gives.sound fits h)))

-- what the answer of the first search says of the request
pub ends_with : (r : LayoutRequest) (learnt : ℕ) (f : FormulaParts) (old new : SolverParts) (waiting left : List (Option (List (List Lit)))) (answer : Answer) (log : List Step)
    → IsRequest r → f ≡ place_formula r → old ≡ begun f learnt → log ≡ new.steps → GivesNext old waiting new left answer → EndsWith r learnt log answer
ends_with r learnt f old new waiting left (Model model) log request is begins e gives =
    model_solves r learnt f old new waiting left (Model model) is begins gives model.items gives.says.1
ends_with r learnt f old new waiting left Refuted log request is begins e gives =
    let refuted = refutes r learnt f old new waiting left Refuted is begins gives log e gives.says.1 in
    (refuted_has_no_layout r log request refuted.0.refutes, refuted.0, refuted.1)
ends_with r learnt f old new waiting left Spent log request is begins e gives = spends r learnt f old new waiting left Spent is begins gives log e gives.says.1
