-- Definitions that are taken of those that a decision may be given are made for the formula.
use Rattle.std.proofs.Common.{◌≡◌, ℕ, List, [], ◌∷◌, ◌++◌, length, refl, sym, ap, ◌∙◌, arith, length-append}
use Rattle.bt_cnf.specs.Formulas.{FormulaParts}
use Rattle.bt_extend.specs.Extending.{AreTaken}
use Rattle.bt_extend.specs.declared.definition.Definition.{Definition}
use Rattle.bt_decide.specs.Verdicts.{AreMade}
use Rattle.bt_decide.specs.inner.Outcomes.{MayBeGiven}

pub none_before : {A : Type 0} (xs ys : List A) → xs ++ ys ≡ [] → xs ≡ []
none_before [] ys e = refl
none_before (x ∷ xs) ys e = absurd cc

pub made_of : (splitters : ℕ) (f : FormulaParts) (given taken : List Definition) → MayBeGiven splitters given → AreTaken f given taken → AreMade splitters f taken
made_of splitters f given taken may is = record {
  none = λ zero. none_before taken is.rest (sym is.front ∙ may.none zero);
  few = omega (arith, may.few, ap length is.front, length-append taken is.rest);
  are = is.are;
}
