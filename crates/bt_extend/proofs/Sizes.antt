-- How large the formula is that definitions extend.
use Rattle.std.proofs.Common.{◌≡◌, ℕ, ◌+◌, ◌*◌, ◌^◌, ◌<◌, ◌≤◌, List, [], ◌∷◌, ◌++◌, length, map, arith, length-append}
use Rattle.std.proofs.lemmas.List.{length-map}
use Rattle.bt_cnf.specs.Formulas.{FormulaParts, AscendBelow}
use Rattle.bt_cnf.specs.declared.literal.Lit.{Lit}
use Rattle.bt_extend.specs.Definitions as formula
use Rattle.bt_extend.specs.Definitions.{IsDefinition}
use Rattle.bt_extend.specs.Extending.{asserted, denied, lit_of, opposite_of, with_column, with_definition, extended, AreDefinitions}
use Rattle.bt_extend.specs.Forms.{FormParts}
use Rattle.bt_extend.specs.declared.definition.NamedLit.{NamedLit}
use Rattle.bt_extend.specs.declared.definition.Definition.{Definition}
use Rattle.bt_extend.specs.declared.definition.Definition.TheVariants.{Comparison, Cases, Disjunction}

-- numbers that ascend are no more than there are
ascend_few : (least end : ℕ) (ns : List ℕ) → least ≤ end → AscendBelow least end ns → least + length ns ≤ end
ascend_few least end [] l ascend = omega (arith, l)
ascend_few least end (n ∷ ns) l ascend = omega (arith, ascend.0, ascend_few (n + 1) end ns (omega (arith, ascend.1)) ascend.2)

-- a definition adds at most eight variables
pub vars_with : (f : FormulaParts) (d : Definition) → (with_definition f d).vars ≤ f.vars + 8
vars_with f (Comparison form) = omega arith
vars_with f (Cases var first second) = omega arith
vars_with f (Disjunction lits) = omega arith

one_more : (clauses : List (List Lit)) (c : List Lit) → length (clauses ++ c ∷ []) ≡ length clauses + 1
one_more clauses c = length-append clauses (c ∷ [])

column_clauses : (f : FormulaParts) (column : ℕ) (form : FormParts) → length (with_column f column form).clauses ≡ length f.clauses + 2
column_clauses f column form =
    let c : List Lit = asserted f.vars ∷ asserted (f.vars + 1) ∷ [] in
    let e : List Lit = asserted (f.vars + 2) ∷ asserted (f.vars + 2 + 1) ∷ [] in
    omega (arith, one_more f.clauses c, one_more (f.clauses ++ c ∷ []) e)

-- a definition adds at most so many clauses
clauses_with : (f : FormulaParts) (d : Definition) → IsDefinition f d → length (with_definition f d).clauses ≤ length f.clauses + f.vars + 8
clauses_with f (Comparison form) is = omega (arith, one_more f.clauses (asserted f.vars ∷ asserted (f.vars + 1) ∷ []))
clauses_with f (Cases var first second) is =
    let g = with_column f (formula.columns_of f) first in
    let h = with_column g (formula.columns_of f) second in
    let a : List Lit = denied var ∷ asserted f.vars ∷ [] in
    let b : List Lit = denied var ∷ asserted (f.vars + 2) ∷ [] in
    let c : List Lit = asserted var ∷ asserted (f.vars + 4) ∷ [] in
    let e : List Lit = asserted var ∷ asserted (f.vars + 6) ∷ [] in
    omega (arith, column_clauses f (formula.columns_of f) first, column_clauses g (formula.columns_of f) second, length-append h.clauses (a ∷ b ∷ c ∷ e ∷ []))
clauses_with f (Disjunction lits) is =
    let opposites : List (List Lit) = map (λ l. asserted f.vars ∷ opposite_of l ∷ []) lits in
    let count : length opposites ≡ length lits = length-map lits (λ l. asserted f.vars ∷ opposite_of l ∷ []) in
    let vars : length (map (λ (l : NamedLit). l.var) lits) ≡ length lits = length-map lits (λ (l : NamedLit). l.var) in
    let few = ascend_few 0 f.vars (map (λ (l : NamedLit). l.var) lits) (omega arith) is.1 in
    omega (arith, length-append f.clauses ((denied f.vars ∷ map lit_of lits) ∷ opposites), count, vars, few)

-- definitions add at most eight variables each
pub vars_extended : (f : FormulaParts) (ds : List Definition) → (extended f ds).vars ≤ f.vars + 8 * length ds
vars_extended f [] = omega arith
vars_extended f (d ∷ ds) = omega (arith, vars_extended (with_definition f d) ds, vars_with f d)

-- where there are few variables, they add few clauses
pub clauses_extended : (f : FormulaParts) (ds : List Definition) → AreDefinitions f ds → f.vars + 8 * length ds < 2 ^ 30
    → length (extended f ds).clauses ≤ length f.clauses + 2 ^ 31 * length ds
clauses_extended f [] are small = omega arith
clauses_extended f (d ∷ ds) are small =
    let more = clauses_with f d are.0 in
    let vars = vars_with f d in
    omega (arith, clauses_extended (with_definition f d) ds are.1 (omega (arith, vars, small)), more, small)
