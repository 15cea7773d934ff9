-- The formula that definitions extend is a formula.
use Rattle.std.proofs.Common.{◌≡◌, ℕ, ◌+◌, ◌-◌, ◌^◌, ◌<◌, ◌≤◌, ℤ, pos, neg_ℤ, ◌-ℤ◌, List, [], ◌∷◌, ◌++◌, get_or, map, ap, sym, refl, subst, arith}
use Rattle.std.specs.List.{All}
use Rattle.std.proofs.lemmas.Int.{ints}
use Rattle.std.proofs.lemmas.List.{map-append}
use Rattle.std.proofs.lemmas.List.Elements.{All-nil, All-cons, All-append, All-map}
use Rattle.bt_frac.specs.Columns.{AreColumnsFrom}
use Rattle.bt_frac.specs.Ratio.{Ratio, IsLowest, negated}
use Rattle.bt_frac.specs.Rows.{IsRow, HaveColumns, columns_of, end_of}
use Rattle.bt_frac.proofs.Gcds.{whole_lowest, negated_lowest}
use Rattle.bt_cnf.specs.Formulas.{FormulaParts, LitsBelow, AscendBelow, IsFormula}
use Rattle.bt_cnf.specs.declared.literal.Lit.{Lit}
use Rattle.bt_extend.specs.Forms.{FormParts, IsForm, IsFormOver, turned, unit, reached, missed, column_less, less_column}
use Rattle.bt_extend.specs.Definitions as formula
use Rattle.bt_extend.specs.Definitions.{IsDefinition}
use Rattle.bt_extend.specs.Extending.{asserted, denied, lit_of, opposite_of, with_comparison, with_column, with_cases, with_disjunction, with_definition}
use Rattle.bt_extend.specs.Laws.{ExtendedIsFormula}
use Rattle.bt_extend.specs.declared.definition.NamedLit.{NamedLit}
use Rattle.bt_extend.specs.declared.definition.Definition.{Definition}
use Rattle.bt_extend.specs.declared.definition.Definition.TheVariants.{Comparison, Cases, Disjunction}

-- ---- forms

pub turned_columns : (terms : List (ℕ × Ratio)) → columns_of (turned terms) ≡ columns_of terms
turned_columns [] = refl
turned_columns (t ∷ terms) = ap (λ cs. t.0 ∷ cs) (turned_columns terms)

neg_is : (z : ℤ) → pos 0 -ℤ z ≡ neg_ℤ z
neg_is z = omega (arith, ints)

turned_lowest : (r : Ratio) → IsLowest r → IsLowest (negated r)
turned_lowest r low = subst (λ z. IsLowest (record { over = z; under = r.under })) (neg_is r.over) (negated_lowest r.over r.under low)

unit_lowest : IsLowest unit
unit_lowest = whole_lowest (pos 1) (omega (arith, ints))

neg_zero : (z : ℤ) → neg_ℤ z ≡ pos 0 → z ≡ pos 0
neg_zero z e = omega (arith, ints)

columns_push : (least column : ℕ) (columns : List ℕ) → AreColumnsFrom least columns → least ≤ column → end_of columns ≤ column → column < 2 ^ 64 - 1
    → AreColumnsFrom least (columns ++ column ∷ [])
columns_push least column [] are from end below = (from, below, tt)
columns_push least column (c ∷ columns) are from end below =
    (are.0, are.1, columns_push (c + 1) column columns are.2 (omega (arith, end)) (omega (arith, end)) below)

have_push : (terms : List (ℕ × Ratio)) (column : ℕ) (coefficient : Ratio) → HaveColumns terms → end_of (columns_of terms) ≤ column → column < 2 ^ 64 - 1
    → HaveColumns (terms ++ (column, coefficient) ∷ [])
have_push terms column coefficient have within below =
    subst (AreColumnsFrom 0) (sym (map-append (λ t. t.0) terms ((column, coefficient) ∷ [])))
    (columns_push 0 column (columns_of terms) have (omega arith) within below)

module _ (column : ℕ) (form : FormParts) (over : IsFormOver column form) (below : column < 2 ^ 64 - 1) where
  -- a column less a form is a form
  pub column_less_form : IsForm (column_less column form)
  column_less_form = record {
    columns = have_push (turned form.terms) column unit (subst (AreColumnsFrom 0) (sym (turned_columns form.terms)) over.is_form.columns)
        (subst (λ cs. end_of cs ≤ column) (sym (turned_columns form.terms)) over.within) below;
    nonzero = All-append (λ t. t.1.over ≡ pos 0 → ⊥) (turned form.terms) ((column, unit) ∷ [])
        (All-map (λ t. t.1.over ≡ pos 0 → ⊥) (λ t. (t.0, negated t.1)) form.terms
        (λ k d inside e. over.is_form.nonzero k d inside (neg_zero (get_or form.terms k d).1.over e)))
        (All-cons (λ t. t.1.over ≡ pos 0 → ⊥) (column, unit) [] (λ e. omega (arith, ints, e)) (All-nil (λ t. t.1.over ≡ pos 0 → ⊥)));
    coefficients = All-append (λ t. IsLowest t.1) (turned form.terms) ((column, unit) ∷ [])
        (All-map (λ t. IsLowest t.1) (λ t. (t.0, negated t.1)) form.terms (λ k d inside. turned_lowest (get_or form.terms k d).1 (over.is_form.coefficients k d inside)))
        (All-cons (λ t. IsLowest t.1) (column, unit) [] unit_lowest (All-nil (λ t. IsLowest t.1)));
    constant = over.is_form.constant;
  }

  -- so is a form less a column
  pub less_column_form : IsForm (less_column column form)
  less_column_form = record {
    columns = have_push form.terms column (negated unit) over.is_form.columns over.within below;
    nonzero = All-append (λ t. t.1.over ≡ pos 0 → ⊥) form.terms ((column, negated unit) ∷ []) over.is_form.nonzero
        (All-cons (λ t. t.1.over ≡ pos 0 → ⊥) (column, negated unit) [] (λ e. omega (arith, ints, neg_zero (pos 1) e)) (All-nil (λ t. t.1.over ≡ pos 0 → ⊥)));
    coefficients = All-append (λ t. IsLowest t.1) form.terms ((column, negated unit) ∷ []) over.is_form.coefficients
        (All-cons (λ t. IsLowest t.1) (column, negated unit) [] (turned_lowest unit unit_lowest) (All-nil (λ t. IsLowest t.1)));
    constant = turned_lowest form.constant over.is_form.constant;
  }

reached_row : (form : FormParts) → IsForm form → IsRow (reached form)
reached_row form is = record { columns = is.columns; coefficients = is.coefficients; bound = is.constant }

missed_row : (form : FormParts) → IsForm form → IsRow (missed form)
missed_row form is = record {
  columns = subst (AreColumnsFrom 0) (sym (turned_columns form.terms)) is.columns;
  coefficients = All-map (λ t. IsLowest t.1) (λ t. (t.0, negated t.1)) form.terms (λ k d inside. turned_lowest (get_or form.terms k d).1 (is.coefficients k d inside));
  bound = turned_lowest form.constant is.constant;
}

-- ---- formulas

wider : (vars more : ℕ) (clauses : List (List Lit)) → vars ≤ more → All (LitsBelow vars) clauses → All (LitsBelow more) clauses
wider vars more clauses l all = λ k d inside j e within. let b = all k d inside j e within in omega (arith, b, l)

two_below : (vars : ℕ) (a b : Lit) → a.var < vars → b.var < vars → LitsBelow vars (a ∷ b ∷ [])
two_below vars a b p q = All-cons (λ (l : Lit). l.var < vars) a (b ∷ []) p (All-cons (λ (l : Lit). l.var < vars) b [] q (All-nil (λ (l : Lit). l.var < vars)))

ascend_two : (least n : ℕ) (ns : List ℕ) → AscendBelow least n ns → least ≤ n → AscendBelow least (n + 2) (ns ++ n ∷ (n + 1) ∷ [])
ascend_two least n [] ascend from = (from, omega arith, (omega arith, omega arith, tt))
ascend_two least n (m ∷ ns) ascend from = (ascend.0, omega (arith, ascend.1), ascend_two (m + 1) n ns ascend.2 (omega (arith, ascend.1)))

ascend_more : (least n end : ℕ) (ns : List ℕ) → n ≤ end → AscendBelow least n ns → AscendBelow least end ns
ascend_more least n end [] l ascend = tt
ascend_more least n end (m ∷ ns) l ascend = (ascend.0, omega (arith, ascend.1, l), ascend_more (m + 1) n end ns l ascend.2)

pub comparison_formed : (f : FormulaParts) (form : FormParts) → IsFormula f → IsForm form → IsFormula (with_comparison f form)
comparison_formed f form is formed = record {
  clauses = All-append (LitsBelow (f.vars + 2)) f.clauses ((asserted f.vars ∷ asserted (f.vars + 1) ∷ []) ∷ [])
      (wider f.vars (f.vars + 2) f.clauses (omega arith) is.clauses)
      (All-cons (LitsBelow (f.vars + 2)) (asserted f.vars ∷ asserted (f.vars + 1) ∷ []) []
      (two_below (f.vars + 2) (asserted f.vars) (asserted (f.vars + 1)) (omega arith) (omega arith)) (All-nil (LitsBelow (f.vars + 2))));
  atoms = subst (AscendBelow 0 (f.vars + 2)) (sym (map-append (λ a. a.0) f.atoms ((f.vars, reached form) ∷ (f.vars + 1, missed form) ∷ [])))
      (ascend_two 0 f.vars (map (λ a. a.0) f.atoms) is.atoms (omega arith));
  rows = All-append (λ a. IsRow a.1) f.atoms ((f.vars, reached form) ∷ (f.vars + 1, missed form) ∷ []) is.rows
      (All-cons (λ a. IsRow a.1) (f.vars, reached form) ((f.vars + 1, missed form) ∷ []) (reached_row form formed)
      (All-cons (λ a. IsRow a.1) (f.vars + 1, missed form) [] (missed_row form formed) (All-nil (λ a. IsRow a.1))));
}

column_formed : (f : FormulaParts) (column : ℕ) (form : FormParts) → IsFormula f → IsFormOver column form → column < 2 ^ 64 - 1 → IsFormula (with_column f column form)
column_formed f column form is over below =
    comparison_formed (with_comparison f (column_less column form)) (less_column column form)
    (comparison_formed f (column_less column form) is (column_less_form column form over below)) (less_column_form column form over below)

cases_formed : (f : FormulaParts) (var : ℕ) (first second : FormParts) → IsFormula f → IsDefinition f (Cases var first second) → IsFormula (with_cases f var first second)
cases_formed f var first second is d =
    let column = formula.columns_of f in
    let g = with_column (with_column f column first) column second in
    let formed : IsFormula g = column_formed (with_column f column first) column second (column_formed f column first is d.1 d.3) d.2 d.3 in
    let P : List Lit → Type 0 = LitsBelow g.vars in
    let a : List Lit = denied var ∷ asserted f.vars ∷ [] in
    let b : List Lit = denied var ∷ asserted (f.vars + 2) ∷ [] in
    let c : List Lit = asserted var ∷ asserted (f.vars + 4) ∷ [] in
    let e : List Lit = asserted var ∷ asserted (f.vars + 6) ∷ [] in
    let small : var < g.vars = omega (arith, d.0) in
    record {
      clauses = All-append P g.clauses (a ∷ b ∷ c ∷ e ∷ []) formed.clauses
          (All-cons P a (b ∷ c ∷ e ∷ []) (two_below g.vars (denied var) (asserted f.vars) small (omega arith))
          (All-cons P b (c ∷ e ∷ []) (two_below g.vars (denied var) (asserted (f.vars + 2)) small (omega arith))
          (All-cons P c (e ∷ []) (two_below g.vars (asserted var) (asserted (f.vars + 4)) small (omega arith))
          (All-cons P e [] (two_below g.vars (asserted var) (asserted (f.vars + 6)) small (omega arith)) (All-nil P)))));
      atoms = formed.atoms;
      rows = formed.rows;
    }

pub named_below : (vars : ℕ) (least : ℕ) (lits : List NamedLit) → AscendBelow least vars (map (λ l. l.var) lits) → All (λ (l : NamedLit). l.var < vars) lits
named_below vars least [] ascend = All-nil (λ (l : NamedLit). l.var < vars)
named_below vars least (l ∷ lits) ascend = All-cons (λ (m : NamedLit). m.var < vars) l lits ascend.1 (named_below vars (l.var + 1) lits ascend.2)

disjunction_formed : (f : FormulaParts) (lits : List NamedLit) → IsFormula f → IsDefinition f (Disjunction lits) → IsFormula (with_disjunction f lits)
disjunction_formed f lits is d =
    let vars = f.vars + 1 in
    let below = named_below f.vars 0 lits d.1 in
    let P : List Lit → Type 0 = LitsBelow vars in
    let L : Lit → Type 0 = λ l. l.var < vars in
    let first : List Lit = denied f.vars ∷ map lit_of lits in
    let others : List (List Lit) = map (λ l. asserted f.vars ∷ opposite_of l ∷ []) lits in
    record {
      clauses = All-append P f.clauses (first ∷ others) (wider f.vars vars f.clauses (omega arith) is.clauses)
          (All-cons P first others
          (All-cons L (denied f.vars) (map lit_of lits) (omega arith) (All-map L lit_of lits (λ k e inside. let b = below k e inside in omega (arith, b))))
          (All-map P (λ l. asserted f.vars ∷ opposite_of l ∷ []) lits
          (λ k e inside. let b = below k e inside in two_below vars (asserted f.vars) (opposite_of (get_or lits k e)) (omega arith) (omega (arith, b)))));
      atoms = ascend_more 0 f.vars vars (map (λ a. a.0) f.atoms) (omega arith) is.atoms;
      rows = is.rows;
    }

pub definition_formed : (f : FormulaParts) (d : Definition) → IsFormula f → IsDefinition f d → IsFormula (with_definition f d)
definition_formed f (Comparison form) is d = comparison_formed f form is d.is_form
definition_formed f (Cases var first second) is d = cases_formed f var first second is d
definition_formed f (Disjunction lits) is d = disjunction_formed f lits is d

pub extended_is_formula : ExtendedIsFormula
extended_is_formula f [] is are = is
extended_is_formula f (d ∷ ds) is are = extended_is_formula (with_definition f d) ds (definition_formed f d is are.0) are.1
