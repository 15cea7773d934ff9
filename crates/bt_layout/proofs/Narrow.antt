-- A model of the placement formula with more clauses.
use Rattle.std.proofs.Common.{◌≡◌, ℕ, ◌≤◌, Bool, List, ◌++◌, length, map, Option, ◌∙◌, ap, subst, arith}
use Rattle.std.specs.List.{All}
use Rattle.bt_frac.specs.Values.{nothing}
use Rattle.bt_cnf.specs.Assignments.{truth_in}
use Rattle.bt_cnf.specs.Formulas.{FormulaParts}
use Rattle.bt_cnf.specs.Meeting.{MeetsClause}
use Rattle.bt_cnf.specs.declared.literal.Lit.{Lit}
use Rattle.bt_log.specs.Logs.{clause_of}
use Rattle.bt_sat.specs.Answering.{GivesNext}
use Rattle.bt_sat.specs.Solving.{SolverParts, begun, IsModel}
use Rattle.bt_sat.specs.declared.answer.Answer.{Answer}
use Rattle.bt_sat.specs.declared.answer.Answer.TheVariants.{Model, Refuted, Spent}
use Rattle.bt_model.specs.Requests.{LayoutRequest}
use Rattle.bt_place.specs.Narrowed.{IsNarrowed}
use Rattle.bt_place.specs.PlaceFormula.{place_formula}
use Rattle.bt_place.specs.Solutions.{IsSolution}
use Rattle.bt_layout.specs.inner.Likely.{Solves}
use Rattle.bt_theory.proofs.Rounds.{all_front}

narrowed_solves : (r : LayoutRequest) (learnt : ℕ) (f : FormulaParts) (old new : SolverParts) (waiting left : List (Option (List (List Lit)))) (answer : Answer) (model : List Bool)
    → IsNarrowed (place_formula r) f → old ≡ begun f learnt → GivesNext old waiting new left answer → IsModel new model → IsSolution r model
narrowed_solves r learnt f old new waiting left answer model narrowed begins gives h =
    let formula : new.formula ≡ record (place_formula r) { clauses = (place_formula r).clauses ++ narrowed.0 } =
    gives.goes_on.formula ∙ ap (λ (s : SolverParts). s.formula) begins ∙ narrowed.1 in (
      λ column. nothing,
      record {
        clauses = all_front (MeetsClause (truth_in model)) (place_formula r).clauses narrowed.0
            (subst (λ (g : FormulaParts). All (MeetsClause (truth_in model)) g.clauses) formula
            (all_front (MeetsClause (truth_in model)) new.formula.clauses (map clause_of new.steps) h.meets));
        atoms = λ k d lt. absurd (omega arith);
      },
    )

pub answer_solves : (r : LayoutRequest) (learnt : ℕ) (f : FormulaParts) (old new : SolverParts) (waiting left : List (Option (List (List Lit)))) (answer : Answer)
    → IsNarrowed (place_formula r) f → old ≡ begun f learnt → GivesNext old waiting new left answer → Solves r answer
answer_solves r learnt f old new waiting left (Model model) narrowed begins gives =
    narrowed_solves r learnt f old new waiting left (Model model) model.items narrowed begins gives gives.says.1
answer_solves r learnt f old new waiting left Refuted narrowed begins gives = tt
answer_solves r learnt f old new waiting left Spent narrowed begins gives = tt

-- its log has no more steps than may be taken
pub answer_few : (most : ℕ) (f : FormulaParts) (old new : SolverParts) (waiting left : List (Option (List (List Lit)))) (answer : Answer) → old ≡ begun f most
    → GivesNext old waiting new left answer → length new.steps ≤ most
answer_few most f old new waiting left answer begins gives =
    let limit : new.limit ≡ most = gives.goes_on.limit ∙ ap (λ (s : SolverParts). s.limit) begins in
    let within = gives.sound.within in
    omega (arith, within, limit)
