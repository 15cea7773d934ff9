-- What is added to a formula one after another makes it the one that the definition extends.
use Rattle.std.proofs.Common.{◌≡◌, ℕ, ◌+◌, ◌-◌, List, [], ◌∷◌, ◌++◌, map, ap, ◌∙◌, arith, append_assoc, Result, Ok, Err}
use Rattle.std.specs.Prelude.{OnOk}
use Rattle.bt_cnf.specs.Formulas.{FormulaParts}
use Rattle.bt_cnf.specs.declared.literal.Lit.{Lit}
use Rattle.bt_extend.specs.Definitions.{columns_of}
use Rattle.bt_extend.specs.Extending.{asserted, denied, lit_of, opposite_of, with_column, with_cases, with_disjunction}
use Rattle.bt_extend.specs.Forms.{FormParts}
use Rattle.bt_extend.specs.declared.definition.NamedLit.{NamedLit}
use Rattle.bt_extend.specs.inner.Adding.{with_choices, with_opposites}

-- what is so on Ok leads to what is so on Ok
pub on_ok : {T E P Q : Type 0} (r : Result T E) → (P → Q) → OnOk r P → OnOk r Q
on_ok (Ok v) so h = so h
on_ok (Err e) so h = tt

pub cases_added : (f g h k : FormulaParts) (var column : ℕ) (first second : FormParts) → column ≡ columns_of f → g ≡ with_column f column first
    → h ≡ with_column g column second → k ≡ with_choices h (h.vars - 8) var → k ≡ with_cases f var first second
cases_added f g h k var column first second column_is first_is second_is chosen =
    let both : ℕ → FormulaParts = λ x. with_column (with_column f x first) x second in
    let h_is : h ≡ both (columns_of f) = second_is ∙ ap (λ x. with_column x column second) first_is ∙ ap both column_is in
    let all = both (columns_of f) in
    let start : all.vars - 8 ≡ f.vars = omega arith in
    chosen ∙ ap (λ (x : FormulaParts). with_choices x (x.vars - 8) var) h_is ∙ ap (λ n. with_choices all n var) start

pub disjunction_added : (f g h k : FormulaParts) (var : ℕ) (clause : List Lit) (lits : List NamedLit) → var ≡ f.vars → g ≡ record f { vars = f.vars + 1 }
    → clause ≡ denied var ∷ map lit_of lits → h ≡ record g { clauses = g.clauses ++ clause ∷ [] } → k ≡ with_opposites h var lits → k ≡ with_disjunction f lits
disjunction_added f g h k var clause lits var_is g_is clause_is h_is k_is =
    let others : ℕ → List (List Lit) = λ v. map (λ l. asserted v ∷ opposite_of l ∷ []) lits in
    let one : ℕ → List Lit = λ v. denied v ∷ map lit_of lits in
    let with_two : FormulaParts → List Lit → ℕ → FormulaParts = λ x c v. record x { clauses = (x.clauses ++ c ∷ []) ++ others v } in
    k_is ∙ ap (λ x. with_opposites x var lits) h_is ∙ ap (λ x. with_two x clause var) g_is
    ∙ ap (λ c. with_two (record f { vars = f.vars + 1 }) c var) clause_is
    ∙ ap (λ v. with_two (record f { vars = f.vars + 1 }) (one v) v) var_is
    ∙ ap (λ cs. record { vars = f.vars + 1; clauses = cs; atoms = f.atoms }) (append_assoc f.clauses (one f.vars ∷ []) (others f.vars))
