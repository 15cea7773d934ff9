-- What is found where a layout is likely.
use Rattle.std.specs.Prelude.{◌≡◌, ℕ, ◌≤◌, List, AllPairs}
use Rattle.bt_parts.specs.declared.part.Part.{Part}
use Rattle.bt_model.specs.Laying.{Lays}
use Rattle.bt_model.specs.Requests.{LayoutRequest}
use Rattle.bt_cnf.specs.Formulas.{FormulaParts}
use Rattle.bt_place.specs.Narrowed.{IsNarrowed}
use Rattle.bt_place.specs.PlaceFormula.{place_formula}
use Rattle.bt_place.specs.Solutions.{ComesAbove, IsSolution}
use Rattle.bt_sat.specs.Solving.{SolverParts, begun}
use Rattle.bt_sat.specs.declared.answer.Answer.{Answer}
use Rattle.bt_sat.specs.declared.answer.Answer.TheVariants as answer
use Rattle.bt_layout.specs.declared.likely.Tried.{Tried}
use Rattle.bt_layout.specs.declared.likely.Trial.{Trial}
use Rattle.bt_layout.specs.declared.likely.Trial.TheVariants.{Found, Refuted, Spent}

-- the parts lay the request, in ascending order of y and then x
abbrev pub IsLaidOut : LayoutRequest → List Part → Type 0
IsLaidOut r parts = Lays parts r × AllPairs ComesAbove parts

-- the search begins, of the placement formula of the request with more clauses, and may take so many steps
pub record IsNarrowedSearch (r : LayoutRequest) (most : ℕ) (s : SolverParts) : Type 0 where
  pub formula : FormulaParts
  pub narrowed : IsNarrowed (place_formula r) formula
  pub begins : s ≡ begun formula most

-- a model that is answered is a solution of the request
abbrev pub Solves : LayoutRequest → Answer → Type 0
Solves r (answer.Model model) = IsSolution r model.items
Solves r answer.Refuted = Unit {0}
Solves r answer.Spent = Unit {0}

-- parts that are found lay the request, in ascending order of y and then x
abbrev pub IsTrial : LayoutRequest → Trial → Type 0
IsTrial r (Found parts) = IsLaidOut r parts.items
IsTrial r Refuted = Unit {0}
IsTrial r Spent = Unit {0}

-- what a search comes to that may take so many steps: it takes no more
abbrev pub IsTried : LayoutRequest → ℕ → Tried → Type 0
IsTried r most tried = IsTrial r tried.trial × (tried.steps ≤ most)
