-- The variables of literals that negate atoms.
use Rattle.std.proofs.Common.{◌≡◌, ◌<◌, ℕ, List, [], ◌∷◌, length, get_or, map, ap, ◌∙◌, subst, arith}
use Rattle.std.specs.Prelude.{Contains}
use Rattle.std.specs.List.{AllZip}
use Rattle.std.proofs.lemmas.List.{get_or-map, length-map}
use Rattle.std.proofs.lemmas.List.Elements.{All-nil, All-cons}
use Rattle.bt_frac.specs.Rows.{RowParts}
use Rattle.bt_cnf.specs.Formulas.{FormulaParts, IsFormula, LitsBelow}
use Rattle.bt_cnf.specs.declared.literal.Lit.{Lit}
use Rattle.bt_cnf.proofs.Atoms.{ascend_all}
use Rattle.bt_log.specs.Validity.{NegatesAtom}

-- the variable of an atom at a place
pub var_at : (atoms : List (ℕ × RowParts)) (i : ℕ) (a : ℕ × RowParts) → i < length atoms → get_or atoms i a ≡ a → get_or (map (λ a. a.0) atoms) i 0 ≡ a.0
var_at atoms i a inside is = get_or-map (λ b. b.0) atoms i a 0 inside ∙ ap (λ b. b.0) is

-- the variable of an atom is one of the formula's
atom_below : (f : FormulaParts) (var : ℕ) (row : RowParts) → IsFormula f → Contains f.atoms (var, row) → var < f.vars
atom_below f var row is (i, inside, at) =
    subst (λ n. n < f.vars) (var_at f.atoms i (var, row) inside at)
    (ascend_all 0 f.vars (map (λ a. a.0) f.atoms) is.atoms i 0 (omega (arith, inside, length-map f.atoms (λ a. a.0))))

-- so are those of literals that negate atoms
pub negated_below : (f : FormulaParts) (lits : List Lit) (rows : List RowParts) → IsFormula f → AllZip (NegatesAtom f) lits rows → LitsBelow f.vars lits
negated_below f [] [] is all = All-nil (λ (l : Lit). l.var < f.vars)
negated_below f [] (row ∷ rows) is all = absurd all
negated_below f (l ∷ lits) [] is all = absurd all
negated_below f (l ∷ lits) (row ∷ rows) is all =
    All-cons (λ (m : Lit). m.var < f.vars) l lits (atom_below f l.var row is all.0.1) (negated_below f lits rows is all.1)
