-- What holds of a formula's literals and rows where they are put elsewhere.
use Rattle.std.proofs.Common.{◌≡◌, ℕ, ◌<◌, ◌≤◌, ◌+◌, inl, inr, Bool, true, List, [], ◌∷◌, map, cond, ap, sym, ◌∙◌, refl, subst, arith}
use Rattle.std.specs.List.{AllByRecursion}
use Rattle.std.proofs.lemmas.Bool.{lt-ltb, le-ltb}
use Rattle.bt_frac.specs.Ratio.{Ratio}
use Rattle.bt_frac.specs.Rows.{RowParts}
use Rattle.bt_frac.specs.Values.{RowHolds, Stands, sum_of_products, valued}
use Rattle.bt_cnf.specs.declared.literal.Lit.{Lit}
use Rattle.bt_cnf.specs.Formulas.{FormulaParts, AscendBelow}
use Rattle.bt_cnf.specs.Meeting.{IsTrueUnder, MeetsClause, Meets}
use Rattle.bt_flow_formula.specs.Numbering.{atoms_from}
use Rattle.bt_flow_formula.proofs.Numbers.{all_from}
use Rattle.bt_flow_formula.proofs.Withins.{from_map}
use Rattle.bt_same.specs.declared.shift.Shift.{Shift}
use Rattle.bt_same.specs.SameFormula.{shifted, moved_lits, moved_row, moved_atoms}
use Rattle.bt_same.proofs.Lists.{some_or, none_in, some_here, some_later, each_weaker}

pub near_is : (shift : Shift) (k : ℕ) → k < shift.edges → shifted shift k ≡ k + shift.near
near_is shift k l = ap (λ b. cond b (k + shift.near) (k + shift.far)) (lt-ltb k shift.edges l)

pub far_is : (shift : Shift) (k : ℕ) → shift.edges ≤ k → shifted shift k ≡ k + shift.far
far_is shift k l = ap (λ b. cond b (k + shift.near) (k + shift.far)) (le-ltb k shift.edges l)

pub rows_back : (m : ℕ) (rows : List RowParts) → map (λ a. a.1) (atoms_from m rows) ≡ rows
rows_back m [] = refl
rows_back m (row ∷ rows) = ap (λ l. row ∷ l) (rows_back (m + 1) rows)

-- atoms behind all edges go on as they stand, one after another
pub moved_from : (vars columns : Shift) (m start : ℕ) (rows : List RowParts) → vars.edges ≤ m → start ≡ m + vars.far
    → atoms_from start (map (moved_row columns) rows) ≡ moved_atoms vars columns (atoms_from m rows)
moved_from vars columns m start [] l e = refl
moved_from vars columns m start (row ∷ rows) l e =
    ap (λ k. (k, moved_row columns row) ∷ atoms_from (start + 1) (map (moved_row columns) rows)) (e ∙ sym (far_is vars m l))
    ∙ ap (λ tail. (shifted vars m, moved_row columns row) ∷ tail) (moved_from vars columns (m + 1) (start + 1) rows (omega (arith, l)) (let z : start + 1 ≡ m + 1 + vars.far = omega (arith, e) in z))

module _ (columns : Shift) (v w : ℕ → Ratio) (same : (c : ℕ) → v (shifted columns c) ≡ w c) where
  valued_moved : (terms : List (ℕ × Ratio)) → valued v (map (λ t. (shifted columns t.0, t.1)) terms) ≡ valued w terms
  valued_moved [] = refl
  valued_moved (t ∷ terms) =
      ap (λ x. (t.1, x) ∷ valued v (map (λ t. (shifted columns t.0, t.1)) terms)) (same t.0) ∙ ap (λ l. (t.1, w t.0) ∷ l) (valued_moved terms)

  pub row_back : (row : RowParts) → RowHolds (moved_row columns row) v → RowHolds row w
  row_back row h = subst (λ pairs. Stands row.relation (sum_of_products pairs) row.bound) (valued_moved row.terms) h

  pub row_forth : (row : RowParts) → RowHolds row w → RowHolds (moved_row columns row) v
  row_forth row h = subst (λ pairs. Stands row.relation (sum_of_products pairs) row.bound) (sym (valued_moved row.terms)) h

-- ---- what meets the moved formula meets the formula, by the values and variables where they go

module _ (vars : Shift) (f g : ℕ → Bool) (same : (x : ℕ) → f (shifted vars x) ≡ g x) where
  clause_back : (lits : List Lit) → MeetsClause f (moved_lits vars lits) → MeetsClause g lits
  clause_back [] h = absurd (none_in (IsTrueUnder f) h)
  clause_back (l ∷ lits) h =
      elim (some_or (IsTrueUnder f) (record { var = shifted vars l.var; positive = l.positive }) (moved_lits vars lits) h) [
        | inl t ↦ some_here (IsTrueUnder g) l lits (sym (same l.var) ∙ t)
        | inr r ↦ some_later (IsTrueUnder g) l lits (clause_back lits r)
      ]

  pub meets_back : (columns : Shift) (v w : ℕ → Ratio) → ((c : ℕ) → v (shifted columns c) ≡ w c) → (formula : FormulaParts) → AllByRecursion (MeetsClause f) (map (moved_lits vars) formula.clauses)
      → AllByRecursion (λ a. f a.0 ≡ true → RowHolds a.1 v) (moved_atoms vars columns formula.atoms) → Meets formula g w
  meets_back columns v w same_values formula clauses atoms =
      record {
        clauses = all_from (MeetsClause g) formula.clauses (each_weaker (λ lits. MeetsClause f (moved_lits vars lits)) (MeetsClause g) formula.clauses clause_back (from_map (MeetsClause f) (moved_lits vars) formula.clauses clauses));
        atoms = all_from (λ a. g a.0 ≡ true → RowHolds a.1 w) formula.atoms
            (each_weaker (λ a. f (shifted vars a.0) ≡ true → RowHolds (moved_row columns a.1) v) (λ a. g a.0 ≡ true → RowHolds a.1 w) formula.atoms
            (λ a h t. row_back columns v w same_values a.1 (h (same a.0 ∙ t)))
            (from_map (λ a. f a.0 ≡ true → RowHolds a.1 v) (λ a. (shifted vars a.0, moved_row columns a.1)) formula.atoms atoms));
      }

-- ---- and the other way round, for variables below an end

module _ (vars : Shift) (end : ℕ) (f g : ℕ → Bool) (same : (x : ℕ) → x < end → f (shifted vars x) ≡ g x) where
  clause_forth : (lits : List Lit) → AllByRecursion (λ l. l.var < end) lits → MeetsClause g lits → MeetsClause f (moved_lits vars lits)
  clause_forth [] b h = absurd (none_in (IsTrueUnder g) h)
  clause_forth (l ∷ lits) b h =
      elim (some_or (IsTrueUnder g) l lits h) [
        | inl t ↦ some_here (IsTrueUnder f) (record { var = shifted vars l.var; positive = l.positive }) (moved_lits vars lits) (same l.var b.0 ∙ t)
        | inr r ↦ some_later (IsTrueUnder f) (record { var = shifted vars l.var; positive = l.positive }) (moved_lits vars lits) (clause_forth lits b.1 r)
      ]

  pub clauses_forth : (clauses : List (List Lit)) → AllByRecursion (λ lits. AllByRecursion (λ l. l.var < end) lits) clauses → AllByRecursion (MeetsClause g) clauses → AllByRecursion (MeetsClause f) (map (moved_lits vars) clauses)
  clauses_forth [] b h = tt
  clauses_forth (lits ∷ clauses) b h = (clause_forth lits b.0 h.0, clauses_forth clauses b.1 h.1)

  pub atoms_forth : (columns : Shift) (v w : ℕ → Ratio) → ((c : ℕ) → v (shifted columns c) ≡ w c) → (atoms : List (ℕ × RowParts)) → AllByRecursion (λ a. a.0 < end) atoms
      → AllByRecursion (λ a. g a.0 ≡ true → RowHolds a.1 w) atoms → AllByRecursion (λ a. f a.0 ≡ true → RowHolds a.1 v) (moved_atoms vars columns atoms)
  atoms_forth columns v w same_values [] b h = tt
  atoms_forth columns v w same_values (a ∷ atoms) b h = (
    λ t. row_forth columns v w same_values a.1 (h.0 (sym (same a.0 b.0) ∙ t)),
    atoms_forth columns v w same_values atoms b.1 h.1,
  )

-- the variables of atoms that ascend below an end are below it
pub ascending_below : (least end : ℕ) (atoms : List (ℕ × RowParts)) → AscendBelow least end (map (λ a. a.0) atoms) → AllByRecursion (λ a. a.0 < end) atoms
ascending_below least end [] h = tt
ascending_below least end (a ∷ atoms) h = (h.1, ascending_below (a.0 + 1) end atoms h.2)
