-- What the answer of the search of a placement formula says, and of its log.
use Rattle.std.proofs.Common.{◌≡◌, ℕ, ◌≤◌, List, length, Option, sym, subst}
use Rattle.bt_cnf.specs.Formulas.{FormulaParts}
use Rattle.bt_cnf.specs.declared.literal.Lit.{Lit}
use Rattle.bt_log.specs.Logs.{Step}
use Rattle.bt_sat.specs.Answering.{GivesNext}
use Rattle.bt_sat.specs.Solving.{SolverParts, begun}
use Rattle.bt_sat.specs.declared.answer.Answer.{Answer}
use Rattle.bt_model.specs.Requests.{IsRequest, LayoutRequest}
use Rattle.bt_place.specs.PlaceFormula.{place_formula}
use Rattle.bt_layout.specs.inner.Ends.{EndsWithin}
use Rattle.bt_layout.proofs.Answering.{ends_with}
use Rattle.bt_layout.proofs.Narrow.{answer_few}

pub ends_within : (r : LayoutRequest) (learnt : ℕ) (f : FormulaParts) (old new : SolverParts) (waiting left : List (Option (List (List Lit)))) (answer : Answer) (log : List Step)
    → IsRequest r → f ≡ place_formula r → old ≡ begun f learnt → log ≡ new.steps → GivesNext old waiting new left answer → EndsWithin r learnt log answer
ends_within r learnt f old new waiting left answer log request is begins e gives = record {
  ends = ends_with r learnt f old new waiting left answer log request is begins e gives;
  few = subst (λ (steps : List Step). length steps ≤ learnt) (sym e) (answer_few learnt f old new waiting left answer begins gives);
}
