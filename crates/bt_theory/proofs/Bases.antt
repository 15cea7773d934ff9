-- What stands in a formula before its definitions.
use Rattle.std.proofs.Common.{◌≡◌, ℕ, ◌<◌, ◌≤◌, Bool, true, false, List, [], ◌∷◌, length, take, slice_get, Some, ap, sym, ◌∙◌, subst, arith, zero, suc, length-append}
use Rattle.std.specs.Prelude.{Contains}
use Rattle.std.specs.List.{All}
use Rattle.std.proofs.lemmas.Bool.{false≢true}
use Rattle.std.proofs.lemmas.List.{length-map, length-take-le, get_or-take, take-map, take_at}
use Rattle.std.proofs.lemmas.Option.{get_or_from_slice_get}
use Rattle.bt_frac.specs.Rows.{RowParts}
use Rattle.bt_cnf.specs.declared.literal.Lit.{Lit}
use Rattle.bt_cnf.specs.Assignments.{truth_in}
use Rattle.bt_cnf.specs.Formulas.{FormulaParts, IsFormula}
use Rattle.bt_cnf.specs.Meeting.{MeetsClause}
use Rattle.bt_extend.specs.Extending.{extended}
use Rattle.bt_extend.specs.declared.definition.Definition.{Definition}
use Rattle.bt_extend.proofs.Conservative.{Prolongs, extended_prolongs}
use Rattle.bt_extend.proofs.SameOn.{clauses_same}
use Rattle.bt_pivot.specs.Tableaus.{AreOverColumns}
use Rattle.bt_theory.specs.Reaching.{atom_rows, atom_vars, columns_of}
use Rattle.bt_theory.specs.declared.base.Base.{Base}
use Rattle.bt_theory.specs.inner.Bases.{base_in, IsBase, IsWhole}
use Rattle.bt_theory.specs.inner.Scopes.{AreAtoms}
use Rattle.bt_theory.proofs.Columns.{over_end}

module _ (f : FormulaParts) (b : Base) (ds : List Definition) (whole : IsWhole f b) where
  longer : Prolongs f (extended f ds)
  longer = extended_prolongs f ds

  same_clauses : take b.clauses (extended f ds).clauses ≡ f.clauses
  same_clauses = ap (take b.clauses) longer.clauses_are ∙ take_at f.clauses longer.clauses b.clauses (sym whole.clauses)

  count : length b.atoms.items ≡ length f.atoms
  count = ap length whole.atoms ∙ length-map f.atoms (λ a. a.0)

  same_atoms : take (length b.atoms.items) (extended f ds).atoms ≡ f.atoms
  same_atoms = ap (take (length b.atoms.items)) longer.atoms_are ∙ take_at f.atoms longer.atoms (length b.atoms.items) (sym count)

  -- before the definitions stands the formula that they extend
  pub base_extended : base_in b (extended f ds) ≡ f
  base_extended =
      let clauses : List (List Lit) = take b.clauses (extended f ds).clauses in
      let atoms : List (ℕ × RowParts) = take (length b.atoms.items) (extended f ds).atoms in
      let vars_same : base_in b (extended f ds) ≡ record { vars = f.vars; clauses = clauses; atoms = atoms } =
      ap {A = ℕ} {B = FormulaParts} (λ v. record { vars = v; clauses = clauses; atoms = atoms }) whole.vars in
      let clauses_same : record { vars = f.vars; clauses = clauses; atoms = atoms } ≡ record { vars = f.vars; clauses = f.clauses; atoms = atoms } =
      ap {A = List (List Lit)} {B = FormulaParts} (λ c. record { vars = f.vars; clauses = c; atoms = atoms }) same_clauses in
      let atoms_same : record { vars = f.vars; clauses = f.clauses; atoms = atoms } ≡ f =
      ap {A = List (ℕ × RowParts)} {B = FormulaParts} (λ a. record { vars = f.vars; clauses = f.clauses; atoms = a }) same_atoms in
      vars_same ∙ clauses_same ∙ atoms_same

  pub is_base : IsBase b (extended f ds)
  is_base =
      let same = sym base_extended in
      let vars = longer.vars in
      let clauses = ap length longer.clauses_are ∙ length-append f.clauses longer.clauses in
      let atoms = ap length longer.atoms_are ∙ length-append f.atoms longer.atoms in
      record {
        known = subst IsFormula same whole.known;
        atoms = subst (λ g. b.atoms.items ≡ atom_vars g) same whole.atoms;
        columns = subst (λ g. b.columns ≡ columns_of g) same whole.columns;
        vars = (let v = whole.vars in omega (arith, vars, v));
        clauses = (let c = whole.clauses in omega (arith, clauses, c));
        rows = (let c = count in omega (arith, atoms, c));
      }

-- before no definition stands all of a formula
pub base_whole : (f : FormulaParts) (b : Base) → IsWhole f b → base_in b f ≡ f
base_whole f b whole = base_extended f b [] whole

-- what holds of all of a list holds of its front
all_take : {X : Type 0} (P : X → Type 0) (n : ℕ) (xs : List X) → n ≤ length xs → All P xs → All P (take n xs)
all_take P n xs l h = λ k d inside.
    let size = length-take-le n xs l in
    let within : k < n = omega (arith, inside, size) in
    subst P (sym (get_or-take n xs k d within)) (h k d (omega (arith, within, l)))

-- what is found in its front
pub in_front : {X : Type 0} (P : X → Type 0) (n : ℕ) (xs : List X) (i : ℕ) (x : X) → n ≤ length xs → All P (take n xs) → i < n → slice_get xs i ≡ Some x → P x
in_front P n xs i x long h l at =
    let size = length-take-le n xs long in
    subst P (get_or-take n xs i x l ∙ get_or_from_slice_get xs i x x at) (h i x (omega (arith, l, size)))

-- what is in its front is in the list
contains_take : {X : Type 0} (n : ℕ) (xs : List X) (x : X) → n ≤ length xs → Contains (take n xs) x → Contains xs x
contains_take n xs x l (k, inside, at) =
    let size = length-take-le n xs l in
    let within : k < n = omega (arith, inside, size) in
    (k, omega (arith, within, l), sym (get_or-take n xs k x within) ∙ at)

-- below its end the front of an assignment is the assignment
truth_front : (n : ℕ) (model : List Bool) (var : ℕ) → var < n → truth_in (take n model) var ≡ truth_in model var
truth_front n model var l = get_or-take n model var false l

-- and false from there on
pub front_within : (n : ℕ) (model : List Bool) (var : ℕ) → truth_in (take n model) var ≡ true → truth_in model var ≡ true
front_within zero model var h = absurd (false≢true h)
front_within (suc n) [] var h = h
front_within (suc n) (m ∷ model) zero h = h
front_within (suc n) (m ∷ model) (suc var) h = front_within n model var h

module _ (b : Base) (g : FormulaParts) (is : IsBase b g) where
  -- the front of what meets all clauses meets those before the definitions
  pub front_meets : (model : List Bool) → All (MeetsClause (truth_in model)) g.clauses → All (MeetsClause (truth_in (take b.vars model))) (base_in b g).clauses
  front_meets model met =
      clauses_same (truth_in model) (truth_in (take b.vars model)) b.vars (truth_front b.vars model) (base_in b g).clauses is.known.clauses
      (all_take (MeetsClause (truth_in model)) b.clauses g.clauses is.clauses met)

  -- the rows before the definitions
  pub base_rows : take (length b.atoms.items) (atom_rows g) ≡ atom_rows (base_in b g)
  base_rows = take-map (λ a. a.1) (length b.atoms.items) g.atoms

  pub base_over : AreOverColumns b.columns (atom_rows (base_in b g))
  base_over = subst (λ n. AreOverColumns n (atom_rows (base_in b g))) (sym is.columns) (over_end (atom_rows (base_in b g)))

  -- atoms before the definitions are atoms
  pub base_atoms : (atoms : List ℕ) (rows : List RowParts) → AreAtoms (base_in b g) atoms rows → AreAtoms g atoms rows
  base_atoms atoms rows are =
      record { paired = are.paired; have = λ k l. contains_take (length b.atoms.items) g.atoms _ is.rows (are.have k l) }
