-- Rows and clauses that are added behind those of a formula.
use Rattle.std.proofs.Common.{◌≡◌, ℕ, ◌<◌, ◌≤◌, ◌+◌, true, List, [], ◌++◌, length, ap, sym, ◌∙◌, refl, arith, append_assoc, append-nil, length-append}
use Rattle.std.specs.List.{All, range_with_len}
use Rattle.bt_frac.specs.Rows.{RowParts}
use Rattle.bt_cnf.specs.declared.literal.Lit.{Lit}
use Rattle.bt_cnf.specs.Formulas.{FormulaParts}
use Rattle.bt_flow_formula.specs.Numbering.{atoms_from}
use Rattle.bt_flow_formula.specs.Levels.{some_of, with_rows, with_more}
use Rattle.bt_flow_formula.proofs.Numbers.{all_from, atoms-append, same_parts}
use Rattle.bt_flow_formula.proofs.Withins.{each-map, each-range}

pub no_rows : (f : FormulaParts) → f ≡ with_rows f []
no_rows f = same_parts f.vars (f.vars + length {A = RowParts} []) f.clauses f.clauses f.atoms (f.atoms ++ []) (omega arith) refl (sym (append-nil f.atoms))

pub more_rows : (old now new : FormulaParts) (rows more : List RowParts) → now ≡ with_rows old rows → new ≡ with_rows now more → new ≡ with_rows old (rows ++ more)
more_rows old now new rows more e h =
    let long = length-append rows more in
    h ∙ ap (λ f. with_rows f more) e
    ∙ same_parts (old.vars + length rows + length more) (old.vars + length (rows ++ more)) old.clauses old.clauses ((old.atoms ++ atoms_from old.vars rows) ++ atoms_from (old.vars + length rows) more)
    (old.atoms ++ atoms_from old.vars (rows ++ more)) (omega (arith, long)) refl
    (append_assoc old.atoms (atoms_from old.vars rows) (atoms_from (old.vars + length rows) more) ∙ ap (λ l. old.atoms ++ l) (sym (atoms-append old.vars rows more)))

pub no_clauses : (f : FormulaParts) → f ≡ with_more f []
no_clauses f = same_parts f.vars f.vars f.clauses (f.clauses ++ []) f.atoms f.atoms refl (sym (append-nil f.clauses)) refl

pub more_clauses : (old now new : FormulaParts) (clauses more : List (List Lit)) → now ≡ with_more old clauses → new ≡ with_more now more → new ≡ with_more old (clauses ++ more)
more_clauses old now new clauses more e h =
    h ∙ ap (λ f. with_more f more) e ∙ same_parts old.vars old.vars ((old.clauses ++ clauses) ++ more) (old.clauses ++ (clauses ++ more)) old.atoms old.atoms refl (append_assoc old.clauses clauses more) refl

-- the variables of a clause of so many from one on are below a number
pub some_below : (vars first count : ℕ) → first + count ≤ vars → All (λ l. l.var < vars) (some_of first count)
some_below vars first count h =
    let lit : ℕ → Lit = λ k. record { var = first + k; positive = true } in
    all_from (λ l. l.var < vars) (some_of first count)
    (each-map (λ l. l.var < vars) (λ k. k < count) lit (range_with_len 0 count) (each-range (λ k. k < count) 0 count (λ k l m. omega (arith, m))) (λ k l. omega (arith, h, l)))
