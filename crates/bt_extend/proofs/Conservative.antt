-- Definitions never make a formula false.
use Rattle.std.proofs.Common.{◌≡◌, ◌⊎◌, inl, inr, ℕ, ◌+◌, ◌*◌, ◌<◌, ◌≤◌, suc, Bool, true, false, cond, ltb, List, [], ◌∷◌, ◌++◌, get_or, map, max, ap, sym, ◌∙◌, refl, subst, arith, append_assoc, append-nil, length-append}
use Rattle.std.specs.List.{All, AllByRecursion}
use Rattle.std.proofs.lemmas.Bool.{lt-ltb, le-ltb, false≢true}
use Rattle.std.proofs.lemmas.List.{map-append, get_or_append_left}
use Rattle.std.proofs.lemmas.List.Concat.{flat_map-append}
use Rattle.std.proofs.lemmas.List.Elements.{All-nil, All-cons, All-head, All-tail, All-append, All-map, All-from_recursion}
use Rattle.bt_frac.specs.Ratio.{Ratio}
use Rattle.bt_frac.specs.Rows.{RowParts, columns_in, end_of}
use Rattle.bt_frac.specs.Rows as rows
use Rattle.bt_frac.specs.Values.{AreValues, RowHolds, sum_of_products, valued}
use Rattle.bt_frac.proofs.Over.{under_positive}
use Rattle.bt_cnf.specs.Formulas.{FormulaParts, IsFormula}
use Rattle.bt_cnf.specs.Meeting.{IsTrueUnder, MeetsClause, Meets}
use Rattle.bt_cnf.specs.declared.literal.Lit.{Lit}
use Rattle.bt_cnf.proofs.Ends.{end-append}
use Rattle.bt_log.proofs.Sound.{true_or, refuted_is_unmet}
use Rattle.bt_extend.specs.Definitions.{columns_of, IsDefinition}
use Rattle.bt_extend.specs.Extending.{asserted, denied, lit_of, opposite_of, with_comparison, with_column, with_cases, with_disjunction, with_definition, extended}
use Rattle.bt_extend.specs.Forms.{FormParts, IsForm, reached, missed, column_less, less_column}
use Rattle.bt_extend.specs.Laws.{GoesOn, MeetingGoesOn, CutMeets, DefinitionsAreConservative, RefutedExtensionIsUnmet}
use Rattle.bt_extend.specs.declared.definition.NamedLit.{NamedLit}
use Rattle.bt_extend.specs.declared.definition.Definition.{Definition}
use Rattle.bt_extend.specs.declared.definition.Definition.TheVariants.{Comparison, Cases, Disjunction}
use Rattle.bt_extend.proofs.ColumnValues.{total, column_reached, column_missed}
use Rattle.bt_extend.proofs.Formed.{comparison_formed, column_less_form, less_column_form, definition_formed, extended_is_formula, named_below}
use Rattle.bt_extend.proofs.Opposites.{reaches_or_misses}
use Rattle.bt_extend.proofs.SameOn.{clause_same, meets_same}

-- ---- assignments with a variable more, or two

-- the assignment, and from a number on two truths
chosen : (ℕ → Bool) → ℕ → Bool → Bool → ℕ → Bool
chosen assignment n a b v = cond (ltb v n) (assignment v) (cond (ltb v (n + 1)) a b)

module _ (assignment : ℕ → Bool) (n : ℕ) (a b : Bool) where
  chosen_below : (v : ℕ) → v < n → chosen assignment n a b v ≡ assignment v
  unfolding chosen
  chosen_below v l = ap (λ t. cond t (assignment v) (cond (ltb v (n + 1)) a b)) (lt-ltb v n l)

  chosen_first : chosen assignment n a b n ≡ a
  unfolding chosen
  chosen_first =
      ap (λ t. cond t (assignment n) (cond (ltb n (n + 1)) a b)) (le-ltb n n (omega arith)) ∙ ap (λ t. cond t a b) (lt-ltb n (n + 1) (omega arith))

  chosen_second : chosen assignment n a b (n + 1) ≡ b
  unfolding chosen
  chosen_second =
      ap (λ t. cond t (assignment (n + 1)) (cond (ltb (n + 1) (n + 1)) a b)) (le-ltb (n + 1) n (omega arith))
      ∙ ap (λ t. cond t a b) (le-ltb (n + 1) (n + 1) (omega arith))

first_true : (assignment : ℕ → Bool) (l : Lit) (lits : List Lit) → IsTrueUnder assignment l → MeetsClause assignment (l ∷ lits)
first_true assignment l lits h = (0, l, omega arith, refl, h)

later_true : (assignment : ℕ → Bool) (l : Lit) (lits : List Lit) → MeetsClause assignment lits → MeetsClause assignment (l ∷ lits)
later_true assignment l lits some = (suc some.0, some.1, (let inside = some.2 in omega (arith, inside)), some.3, some.4)

-- ---- comparisons

-- with a comparison the values stay, the variables of the formula stay, and where the form reaches its number, the
-- first of the two new variables is true
record Compared (f : FormulaParts) (form : FormParts) (assignment : ℕ → Bool) (values : ℕ → Ratio) : Type 0 where
  other : ℕ → Bool
  same : (var : ℕ) → var < f.vars → other var ≡ assignment var
  meets : Meets (with_comparison f form) other values
  exact : RowHolds (reached form) values → other f.vars ≡ true

module _ (f : FormulaParts) (form : FormParts) (assignment : ℕ → Bool) (values : ℕ → Ratio) (is : IsFormula f) (met : Meets f assignment values) where
  compared_by : (a b : Bool) → (a ≡ true → RowHolds (reached form) values) → (b ≡ true → RowHolds (missed form) values) → (a ≡ true) ⊎ (b ≡ true)
      → (RowHolds (reached form) values → a ≡ true) → Compared f form assignment values
  compared_by a b so_first so_second some exactly =
      let other = chosen assignment f.vars a b in
      let same : (var : ℕ) → var < f.vars → other var ≡ assignment var = chosen_below assignment f.vars a b in
      let stays : Meets f other values = meets_same f assignment other values values is (record { variables = same; columns = λ column l. refl }) met in
      let at_first = chosen_first assignment f.vars a b in
      let at_second = chosen_second assignment f.vars a b in
      let P : ℕ × RowParts → Type 0 = λ atom. other atom.0 ≡ true → RowHolds atom.1 values in
      let clause : MeetsClause other (asserted f.vars ∷ asserted (f.vars + 1) ∷ []) =
      elim some [
        | inl e ↦ first_true other (asserted f.vars) (asserted (f.vars + 1) ∷ []) (at_first ∙ e)
        | inr e ↦ later_true other (asserted f.vars) (asserted (f.vars + 1) ∷ []) (first_true other (asserted (f.vars + 1)) [] (at_second ∙ e))
      ] in
      record {
        other = other;
        same = same;
        meets = record {
          clauses = All-append (MeetsClause other) f.clauses ((asserted f.vars ∷ asserted (f.vars + 1) ∷ []) ∷ []) stays.clauses
              (All-cons (MeetsClause other) (asserted f.vars ∷ asserted (f.vars + 1) ∷ []) [] clause (All-nil (MeetsClause other)));
          atoms = All-append P f.atoms ((f.vars, reached form) ∷ (f.vars + 1, missed form) ∷ []) stays.atoms
              (All-cons P (f.vars, reached form) ((f.vars + 1, missed form) ∷ []) (λ e. so_first (sym at_first ∙ e))
              (All-cons P (f.vars + 1, missed form) [] (λ e. so_second (sym at_second ∙ e)) (All-nil P)));
        };
        exact = λ h. at_first ∙ exactly h;
      }

  compared : Compared f form assignment values
  compared =
      elim (reaches_or_misses form values) [
        | inl h ↦ compared_by true false (λ e. h) (λ e. absurd (false≢true e)) (inl refl) (λ g. refl)
        | inr h ↦ compared_by false true (λ e. absurd (false≢true e)) (λ e. h.0) (inr refl) (λ g. absurd (h.1 g))
      ]

-- ---- formulas that go on

-- a formula goes on with more variables, clauses and atoms
pub record Prolongs (f g : FormulaParts) : Type 0 where
  pub vars : f.vars ≤ g.vars
  pub clauses : List (List Lit)
  pub clauses_are : g.clauses ≡ f.clauses ++ clauses
  pub atoms : List (ℕ × RowParts)
  pub atoms_are : g.atoms ≡ f.atoms ++ atoms

prolongs_further : (f g h : FormulaParts) → Prolongs f g → Prolongs g h → Prolongs f h
prolongs_further f g h p q = record {
  vars = let a = p.vars in let b = q.vars in omega (arith, a, b);
  clauses = p.clauses ++ q.clauses;
  clauses_are = q.clauses_are ∙ ap (λ cs. cs ++ q.clauses) p.clauses_are ∙ append_assoc f.clauses p.clauses q.clauses;
  atoms = p.atoms ++ q.atoms;
  atoms_are = q.atoms_are ∙ ap (λ as'. as' ++ q.atoms) p.atoms_are ∙ append_assoc f.atoms p.atoms q.atoms;
}

comparison_prolongs : (f : FormulaParts) (form : FormParts) → Prolongs f (with_comparison f form)
comparison_prolongs f form = record { vars = omega arith; clauses = _; clauses_are = refl; atoms = _; atoms_are = refl }

column_prolongs : (f : FormulaParts) (column : ℕ) (form : FormParts) → Prolongs f (with_column f column form)
column_prolongs f column form =
    prolongs_further f (with_comparison f (column_less column form)) (with_column f column form) (comparison_prolongs f (column_less column form))
    (comparison_prolongs (with_comparison f (column_less column form)) (less_column column form))

more_clauses : (f : FormulaParts) (clauses : List (List Lit)) → Prolongs f (record f { clauses = f.clauses ++ clauses })
more_clauses f clauses = record { vars = omega arith; clauses = clauses; clauses_are = refl; atoms = []; atoms_are = sym (append-nil f.atoms) }

definition_prolongs : (f : FormulaParts) (d : Definition) → Prolongs f (with_definition f d)
definition_prolongs f (Comparison form) = comparison_prolongs f form
definition_prolongs f (Cases var first second) =
    let g = with_column f (columns_of f) first in
    let h = with_column g (columns_of f) second in
    prolongs_further f h (with_cases f var first second)
    (prolongs_further f g h (column_prolongs f (columns_of f) first) (column_prolongs g (columns_of f) second))
    (more_clauses h ((denied var ∷ asserted f.vars ∷ []) ∷ (denied var ∷ asserted (f.vars + 2) ∷ []) ∷ (asserted var ∷ asserted (f.vars + 4) ∷ [])
    ∷ (asserted var ∷ asserted (f.vars + 6) ∷ []) ∷ []))
definition_prolongs f (Disjunction lits) = record { vars = omega arith; clauses = _; clauses_are = refl; atoms = []; atoms_are = sym (append-nil f.atoms) }

pub extended_prolongs : (f : FormulaParts) (ds : List Definition) → Prolongs f (extended f ds)
extended_prolongs f [] = record { vars = omega arith; clauses = []; clauses_are = sym (append-nil f.clauses); atoms = []; atoms_are = sym (append-nil f.atoms) }
extended_prolongs f (d ∷ ds) = prolongs_further f (with_definition f d) (extended (with_definition f d) ds) (definition_prolongs f d) (extended_prolongs (with_definition f d) ds)

columns_go_on : (f g : FormulaParts) → Prolongs f g → columns_of f ≤ columns_of g
columns_go_on f g p =
    let R : List (ℕ × RowParts) → List RowParts = map (λ a. a.1) in
    let e : columns_of g ≡ max (columns_of f) (end_of (columns_in (R p.atoms))) =
    ap (λ as'. end_of (columns_in (R as'))) p.atoms_are ∙ ap (λ rs. end_of (columns_in rs)) (map-append (λ a. a.1) f.atoms p.atoms)
    ∙ ap end_of (flat_map-append (λ (r : RowParts). rows.columns_of r.terms) (R f.atoms) (R p.atoms)) ∙ end-append (columns_in (R f.atoms)) (columns_in (R p.atoms)) in
    omega (arith, e)

all_front : {X : Type 0} (P : X → Type 0) (xs ys : List X) → All P (xs ++ ys) → All P xs
all_front P xs ys all = λ k d inside. subst P (get_or_append_left xs ys d k inside) (all k d (let l = length-append xs ys in omega (arith, inside, l)))

-- what meets the formula that goes on meets the formula
front_met : (f g : FormulaParts) (assignment : ℕ → Bool) (values : ℕ → Ratio) → Prolongs f g → Meets g assignment values → Meets f assignment values
front_met f g assignment values p met = record {
  clauses = all_front (MeetsClause assignment) f.clauses p.clauses (subst (All (MeetsClause assignment)) p.clauses_are met.clauses);
  atoms = all_front (λ a. assignment a.0 ≡ true → RowHolds a.1 values) f.atoms p.atoms
      (subst (All (λ a. assignment a.0 ≡ true → RowHolds a.1 values)) p.atoms_are met.atoms);
}

-- ---- columns by cases

-- the values, and from a column on one fraction
with_value : (ℕ → Ratio) → ℕ → Ratio → ℕ → Ratio
with_value values column value c = cond (ltb c column) (values c) value

module _ (values : ℕ → Ratio) (column : ℕ) (value : Ratio) where
  value_below : (c : ℕ) → c < column → with_value values column value c ≡ values c
  unfolding with_value
  value_below c l = ap (λ t. cond t (values c) value) (lt-ltb c column l)

  value_at : with_value values column value column ≡ value
  unfolding with_value
  value_at = ap (λ t. cond t (values column) value) (le-ltb column column (omega arith))

  values_with : AreValues values → 0 < value.under → AreValues (with_value values column value)
  unfolding with_value
  values_with are some c = by (ltb c column)
    where
      by : (t : Bool) → 0 < (cond t (values c) value).under
      by true = are c
      by false = some

sum_positive : (values : ℕ → Ratio) (terms : List (ℕ × Ratio)) → AreValues values → All (λ t. 0 < t.1.under) terms → 0 < (sum_of_products (valued values terms)).under
sum_positive values [] are all = omega arith
sum_positive values (t ∷ terms) are all =
    under_positive (t.1.under * (values t.0).under) (sum_of_products (valued values terms)).under
    (under_positive t.1.under (values t.0).under (All-head (λ u. 0 < u.1.under) t terms all) (are t.0))
    (sum_positive values terms are (All-tail (λ u. 0 < u.1.under) t terms all))

total_positive : (values : ℕ → Ratio) (form : FormParts) → AreValues values → IsForm form → 0 < (total values form).under
total_positive values form are is =
    under_positive form.constant.under (sum_of_products (valued values form.terms)).under is.constant.positive
    (sum_positive values form.terms are (λ k d inside. (is.coefficients k d inside).positive))

module _ (f : FormulaParts) (var : ℕ) (first second : FormParts) (assignment : ℕ → Bool) (values : ℕ → Ratio) (is : IsFormula f)
    (d : IsDefinition f (Cases var first second)) (are : AreValues values) (met : Meets f assignment values) where
  cases_met_by : (b : Bool) (form : FormParts) → assignment var ≡ b → form ≡ cond b first second → 0 < (total values form).under
      → GoesOn f (with_cases f var first second) assignment values
  cases_met_by b form truth form_is some =
      let column = columns_of f in
      let value = total values form in
      let others = with_value values column value in
      let same : (c : ℕ) → c < column → others c ≡ values c = value_below values column value in
      let stays : Meets f assignment others = meets_same f assignment assignment values others is (record { variables = λ v l. refl; columns = same }) met in
      let f1 = with_comparison f (column_less column first) in
      let is1 : IsFormula f1 = comparison_formed f (column_less column first) is (column_less_form column first d.1 d.3) in
      let f2 = with_comparison f1 (less_column column first) in
      let is2 : IsFormula f2 = comparison_formed f1 (less_column column first) is1 (less_column_form column first d.1 d.3) in
      let f3 = with_comparison f2 (column_less column second) in
      let is3 : IsFormula f3 = comparison_formed f2 (column_less column second) is2 (column_less_form column second d.2 d.3) in
      let c1 : Compared f (column_less column first) assignment others = compared f (column_less column first) assignment others is stays in
      let c2 : Compared f1 (less_column column first) c1.other others = compared f1 (less_column column first) c1.other others is1 c1.meets in
      let c3 : Compared f2 (column_less column second) c2.other others = compared f2 (column_less column second) c2.other others is2 c2.meets in
      let c4 : Compared f3 (less_column column second) c3.other others = compared f3 (less_column column second) c3.other others is3 c3.meets in
      let back : (v : ℕ) → v < f.vars → c4.other v ≡ assignment v =
      λ v l. c4.same v (omega (arith, l)) ∙ c3.same v (omega (arith, l)) ∙ c2.same v (omega (arith, l)) ∙ c1.same v l in
      let P = MeetsClause c4.other in
      let choice : P (denied var ∷ asserted f.vars ∷ []) × P (denied var ∷ asserted (f.vars + 2) ∷ [])
      × P (asserted var ∷ asserted (f.vars + 4) ∷ []) × P (asserted var ∷ asserted (f.vars + 6) ∷ []) =
      elim b as (λ t. assignment var ≡ t → form ≡ cond t first second → P (denied var ∷ asserted f.vars ∷ []) × P (denied var ∷ asserted (f.vars + 2) ∷ [])
      × P (asserted var ∷ asserted (f.vars + 4) ∷ []) × P (asserted var ∷ asserted (f.vars + 6) ∷ [])) [
        | true ↦ λ is_true one.
            let at : others column ≡ total values first = value_at values column value ∙ ap (total values) one in
            let on : c4.other var ≡ true = back var d.0 ∙ is_true in
            let one_up : c4.other f.vars ≡ true = c4.same f.vars (omega arith) ∙ c3.same f.vars (omega arith) ∙ c2.same f.vars (omega arith)
            ∙ c1.exact (column_reached values others column first d.1.within same at) in
            let one_down : c4.other (f.vars + 2) ≡ true = c4.same (f.vars + 2) (omega arith) ∙ c3.same (f.vars + 2) (omega arith)
            ∙ c2.exact (column_missed values others column first d.1.within same at) in (
              later_true c4.other (denied var) (asserted f.vars ∷ []) (first_true c4.other (asserted f.vars) [] one_up),
              later_true c4.other (denied var) (asserted (f.vars + 2) ∷ []) (first_true c4.other (asserted (f.vars + 2)) [] one_down),
              first_true c4.other (asserted var) (asserted (f.vars + 4) ∷ []) on,
              first_true c4.other (asserted var) (asserted (f.vars + 6) ∷ []) on,
            )
        | false ↦ λ is_false two.
            let at : others column ≡ total values second = value_at values column value ∙ ap (total values) two in
            let off : c4.other var ≡ false = back var d.0 ∙ is_false in
            let four : f.vars + 2 + 2 ≡ f.vars + 4 = omega arith in
            let six : f.vars + 2 + 2 + 2 ≡ f.vars + 6 = omega arith in
            let two_up : c4.other (f.vars + 4) ≡ true = subst (λ v. c4.other v ≡ true) four
            (c4.same (f.vars + 2 + 2) (omega arith) ∙ c3.exact (column_reached values others column second d.2.within same at)) in
            let two_down : c4.other (f.vars + 6) ≡ true = subst (λ v. c4.other v ≡ true) six
            (c4.exact (column_missed values others column second d.2.within same at)) in (
              first_true c4.other (denied var) (asserted f.vars ∷ []) off,
              first_true c4.other (denied var) (asserted (f.vars + 2) ∷ []) off,
              later_true c4.other (asserted var) (asserted (f.vars + 4) ∷ []) (first_true c4.other (asserted (f.vars + 4)) [] two_up),
              later_true c4.other (asserted var) (asserted (f.vars + 6) ∷ []) (first_true c4.other (asserted (f.vars + 6)) [] two_down),
            )
      ] truth form_is in
      let g = with_column (with_column f column first) column second in
      record {
        other = c4.other;
        others = others;
        are_values = values_with values column value are some;
        same = record { variables = back; columns = same };
        meets = record {
          clauses = All-append P g.clauses ((denied var ∷ asserted f.vars ∷ []) ∷ (denied var ∷ asserted (f.vars + 2) ∷ [])
              ∷ (asserted var ∷ asserted (f.vars + 4) ∷ []) ∷ (asserted var ∷ asserted (f.vars + 6) ∷ []) ∷ []) c4.meets.clauses
              (All-cons P (denied var ∷ asserted f.vars ∷ [])
              ((denied var ∷ asserted (f.vars + 2) ∷ []) ∷ (asserted var ∷ asserted (f.vars + 4) ∷ []) ∷ (asserted var ∷ asserted (f.vars + 6) ∷ []) ∷ []) choice.0
              (All-cons P (denied var ∷ asserted (f.vars + 2) ∷ []) ((asserted var ∷ asserted (f.vars + 4) ∷ []) ∷ (asserted var ∷ asserted (f.vars + 6) ∷ []) ∷ []) choice.1
              (All-cons P (asserted var ∷ asserted (f.vars + 4) ∷ []) ((asserted var ∷ asserted (f.vars + 6) ∷ []) ∷ []) choice.2
              (All-cons P (asserted var ∷ asserted (f.vars + 6) ∷ []) [] choice.3 (All-nil P)))));
          atoms = c4.meets.atoms;
        };
      }

  cases_met : GoesOn f (with_cases f var first second) assignment values
  cases_met = by (assignment var) refl
    where
      by : (b : Bool) → assignment var ≡ b → GoesOn f (with_cases f var first second) assignment values
      by true e = cases_met_by true first e refl (total_positive values first are d.1.is_form)
      by false e = cases_met_by false second e refl (total_positive values second are d.2.is_form)

-- ---- disjunctions

-- one of the literals is true, or each opposite is
some_or_none : (assignment : ℕ → Bool) (lits : List NamedLit) → MeetsClause assignment (map lit_of lits) ⊎ AllByRecursion (λ l. IsTrueUnder assignment (opposite_of l)) lits
some_or_none assignment [] = inr tt
some_or_none assignment (l ∷ lits) =
    elim (true_or (assignment l.var) l.positive) [
      | inl so ↦ inl (first_true assignment (lit_of l) (map lit_of lits) so)
      | inr opposite ↦ elim (some_or_none assignment lits) [ inl some ↦ inl (later_true assignment (lit_of l) (map lit_of lits) some) | inr none ↦ inr (opposite, none) ]
    ]

module _ (f : FormulaParts) (lits : List NamedLit) (assignment : ℕ → Bool) (values : ℕ → Ratio) (is : IsFormula f) (d : IsDefinition f (Disjunction lits))
    (are : AreValues values) (met : Meets f assignment values) where
  disjunction_met_by : (b : Bool) → ((b ≡ true) × MeetsClause assignment (map lit_of lits)) ⊎ ((b ≡ false) × AllByRecursion (λ l. IsTrueUnder assignment (opposite_of l)) lits)
      → GoesOn f (with_disjunction f lits) assignment values
  disjunction_met_by b which =
      let other = chosen assignment f.vars b b in
      let same : (var : ℕ) → var < f.vars → other var ≡ assignment var = chosen_below assignment f.vars b b in
      let stays : Meets f other values = meets_same f assignment other values values is (record { variables = same; columns = λ column l. refl }) met in
      let at = chosen_first assignment f.vars b b in
      let P = MeetsClause other in
      let below : All (λ (l : NamedLit). l.var < f.vars) lits = named_below f.vars 0 lits d.1 in
      let two : NamedLit → List Lit = λ l. asserted f.vars ∷ opposite_of l ∷ [] in
      let clauses : P (denied f.vars ∷ map lit_of lits) × All P (map two lits) =
      elim which [
        | inl h ↦ (
          later_true other (denied f.vars) (map lit_of lits)
              (clause_same assignment other f.vars same (map lit_of lits) (All-map (λ (l : Lit). l.var < f.vars) lit_of lits below) h.1),
          All-map P two lits (λ k e inside. first_true other (asserted f.vars) (opposite_of (get_or lits k e) ∷ []) (at ∙ h.0)),
        )
        | inr h ↦ (
          first_true other (denied f.vars) (map lit_of lits) (at ∙ h.0),
          All-map P two lits (λ k e inside.
              later_true other (asserted f.vars) (opposite_of (get_or lits k e) ∷ [])
              (first_true other (opposite_of (get_or lits k e)) [] (same (get_or lits k e).var (below k e inside)
              ∙ All-from_recursion (λ l. IsTrueUnder assignment (opposite_of l)) lits h.1 k e inside))),
        )
      ] in
      record {
        other = other;
        others = values;
        are_values = are;
        same = record { variables = same; columns = λ column l. refl };
        meets = record {
          clauses = All-append P f.clauses ((denied f.vars ∷ map lit_of lits) ∷ map two lits) stays.clauses
              (All-cons P (denied f.vars ∷ map lit_of lits) (map two lits) clauses.0 clauses.1);
          atoms = stays.atoms;
        };
      }

  disjunction_met : GoesOn f (with_disjunction f lits) assignment values
  disjunction_met =
      elim (some_or_none assignment lits) [ inl some ↦ disjunction_met_by true (inl (refl, some)) | inr none ↦ disjunction_met_by false (inr (refl, none)) ]

-- ---- definitions

definition_met : (f : FormulaParts) (d : Definition) (assignment : ℕ → Bool) (values : ℕ → Ratio) → IsFormula f → IsDefinition f d → AreValues values → Meets f assignment values
    → GoesOn f (with_definition f d) assignment values
definition_met f (Comparison form) assignment values is d are met =
    let c = compared f form assignment values is met in
    record { other = c.other; others = values; are_values = are; same = record { variables = c.same; columns = λ column l. refl }; meets = c.meets }
definition_met f (Cases var first second) assignment values is d are met = cases_met f var first second assignment values is d are met
definition_met f (Disjunction lits) assignment values is d are met = disjunction_met f lits assignment values is d are met

pub meeting_goes_on : MeetingGoesOn
meeting_goes_on f [] assignment values is definitions are met =
    record { other = assignment; others = values; are_values = are; same = record { variables = λ v l. refl; columns = λ c l. refl }; meets = met }
meeting_goes_on f (d ∷ ds) assignment values is definitions are met =
    let g = with_definition f d in
    let one = definition_met f d assignment values is definitions.0 are met in
    let rest = meeting_goes_on g ds one.other one.others (definition_formed f d is definitions.0) definitions.1 one.are_values one.meets in
    let longer = definition_prolongs f d in
    let vars = longer.vars in
    let columns = columns_go_on f g longer in
    record {
      other = rest.other;
      others = rest.others;
      are_values = rest.are_values;
      same = record {
        variables = λ v l. rest.same.variables v (omega (arith, l, vars)) ∙ one.same.variables v l;
        columns = λ c l. rest.same.columns c (omega (arith, l, columns)) ∙ one.same.columns c l;
      };
      meets = rest.meets;
    }

pub cut_meets : CutMeets
cut_meets f ds assignment other values others is met same =
    meets_same f assignment other values others is same (front_met f (extended f ds) assignment values (extended_prolongs f ds) met)

pub definitions_are_conservative : DefinitionsAreConservative
definitions_are_conservative f ds is definitions = (
  λ (assignment, values, are, met). let on = meeting_goes_on f ds assignment values is definitions are met in (on.other, on.others, on.are_values, on.meets),
  λ (assignment, values, are, met).
      (assignment, values, are, cut_meets f ds assignment assignment values values is met (record { variables = λ v l. refl; columns = λ c l. refl })),
)

pub refuted_extension_is_unmet : RefutedExtensionIsUnmet
refuted_extension_is_unmet f ds steps is definitions refutes assignment values are met =
    let on = meeting_goes_on f ds assignment values is definitions are met in
    refuted_is_unmet (extended f ds) steps (extended_is_formula f ds is definitions) refutes on.other on.others on.are_values on.meets
