-- Formulas that definitions extend one after another.
use Rattle.std.proofs.Common.{◌≡◌, ℕ, ◌<◌, ◌≤◌, ◌+◌, List, [], ◌∷◌, ◌++◌, length, get_or, take, drop, ap, sym, ◌∙◌, refl, subst, arith, append-nil}
use Rattle.std.proofs.lemmas.List.{take-append-drop, take_all, take_more, drop_more}
use Rattle.bt_cnf.specs.Formulas.{FormulaParts}
use Rattle.bt_extend.specs.Definitions.{IsDefinition}
use Rattle.bt_extend.specs.Extending.{with_definition, extended, AreDefinitions, BeginsWithNone, AreTaken}
use Rattle.bt_extend.specs.inner.Taking.{IsTaken}
use Rattle.bt_extend.specs.declared.definition.Definition.{Definition}

-- one more definition
extended_push : (f : FormulaParts) (ds : List Definition) (d : Definition) → extended f (ds ++ d ∷ []) ≡ with_definition (extended f ds) d
extended_push f [] d = refl
extended_push f (e ∷ ds) d = extended_push (with_definition f e) ds d

are_push : (f : FormulaParts) (ds : List Definition) (d : Definition) → AreDefinitions f ds → IsDefinition (extended f ds) d → AreDefinitions f (ds ++ d ∷ [])
are_push f [] d are is = (is, tt)
are_push f (e ∷ ds) d are is = (are.0, are_push (with_definition f e) ds d are.1 is)

-- the first so many definitions are taken so far
pub record TakenSoFar (f : FormulaParts) (given : List Definition) (place : ℕ) (further : FormulaParts) : Type 0 where
  pub are : AreDefinitions f (take place given)
  pub is : further ≡ extended f (take place given)

pub one_taken : (f further next : FormulaParts) (given : List Definition) (place : ℕ) (d : Definition) → place < length given → d ≡ get_or given place d → TakenSoFar f given place further
    → IsDefinition further d → next ≡ with_definition further d → TakenSoFar f given (place + 1) next
one_taken f further next given place d below at so_far is extends =
    let more = take_more given place d below ∙ ap (λ e. take place given ++ e ∷ []) (sym at) in
    record {
      are = subst (AreDefinitions f) (sym more) (are_push f (take place given) d so_far.are (subst (λ g. IsDefinition g d) so_far.is is));
      is = extends ∙ ap (λ g. with_definition g d) so_far.is ∙ sym (extended_push f (take place given) d) ∙ ap (extended f) (sym more);
    }

-- the next may not extend the formula
pub taken_up_to : (f further : FormulaParts) (given : List Definition) (place : ℕ) (d : Definition) → place < length given → d ≡ get_or given place d → TakenSoFar f given place further
    → (IsDefinition further d → ⊥) → IsTaken f given further place
taken_up_to f further given place d below at so_far is_none =
    let first = drop_more given place d below in
    record {
      below = omega (arith, below);
      taken = record {
        are = so_far.are;
        rest = drop place given;
        front = sym (take-append-drop place given);
        stops = subst (BeginsWithNone (extended f (take place given))) (sym first)
            (λ is. is_none (subst (λ g. IsDefinition g d) (sym so_far.is) (subst (IsDefinition (extended f (take place given))) (sym at) is)));
      };
      is = so_far.is;
    }

pub taken_all : (f further : FormulaParts) (given : List Definition) (place : ℕ) → length given ≤ place → TakenSoFar f given place further → IsTaken f given further (length given)
taken_all f further given place long so_far =
    let all = take_all place given long in
    let same : take place given ≡ take (length given) given = all ∙ sym (take_all (length given) given (omega arith)) in
    record {
      below = omega arith;
      taken = record {
        are = subst (AreDefinitions f) same so_far.are;
        rest = [];
        front = sym (append-nil (take (length given) given) ∙ take_all (length given) given (omega arith));
        stops = tt;
      };
      is = so_far.is ∙ ap (extended f) same;
    }

-- none are taken where none are given
pub none_taken : (f : FormulaParts) (taken : List Definition) → AreTaken f [] taken → taken ≡ []
none_taken f [] is = refl
none_taken f (d ∷ taken) is = let e = ap length is.front in absurd (omega (arith, e))
