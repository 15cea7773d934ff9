-- An assignment that makes each atom true exactly where its row holds.
use Rattle.std.proofs.Common.{◌≡◌, ◌↔◌, ℕ, ℤ, pos, ◌*ℤ◌, ◌<◌, ◌+◌, ◌-◌, ◌⊎◌, ◌≤ℤ◌, ◌<ℤ◌, inl, inr, Bool, true, false, List, [], ◌∷◌, ◌++◌, length, get_or, cond, ap, sym, ◌∙◌, refl, subst, arith, suc, ltb, append_assoc, length-append}
use Rattle.std.specs.List.{Any, AllByRecursion, flat_map}
use Rattle.std.proofs.lemmas.Int.{ints}
use Rattle.std.proofs.lemmas.Bool.{lt-ltb, le-ltb, false≢true}
use Rattle.std.proofs.lemmas.List.{get_or-append-add}
use Rattle.bt_frac.specs.Ratio.{Ratio}
use Rattle.bt_frac.specs.Rows.{RowParts}
use Rattle.bt_frac.specs.Values.{RowHolds, Stands, sum_of_products, valued}
use Rattle.bt_frac.specs.declared.relation.Relation.{Relation}
use Rattle.bt_frac.specs.declared.relation.Relation.TheVariants.{AtLeast, Above, Equal}
use Rattle.bt_cnf.specs.declared.literal.Lit.{Lit}
use Rattle.bt_cnf.specs.Meeting.{IsTrueUnder, MeetsClause}
use Rattle.bt_flow_formula.specs.declared.state_literal.Pair.{Pair}
use Rattle.bt_flow_formula.specs.declared.state_literal.StateLiteral.{StateLiteral}
use Rattle.bt_flow_formula.specs.declared.state_literal.StateLiteral.TheVariants.{Mark, Says, First}
use Rattle.bt_flow_formula.specs.Columns.{zero_row}
use Rattle.bt_flow_formula.specs.Pairs.{first_row}
use Rattle.bt_flow_formula.specs.Numbering.{mentioned, rows_in, literals_from, clauses_from, atoms_from, IsNamed}
use Rattle.bt_flow_formula.specs.Laws.{HasTrue, TrueClaimsMeet}
use Rattle.bt_flow_formula.proofs.Numbers.{all_from, atoms-append, at_variable}
use Rattle.bt_flow_formula.proofs.Withins.{each-left, each-right}
use Rattle.bt_flow_formula.proofs.Orders.{order, at_most_or}

-- ---- whether a row holds

at_most_or_not : (x y : ℤ) → (x ≤ℤ y) ⊎ (x ≤ℤ y → ⊥)
at_most_or_not x y = elim (at_most_or x y) [ inl l ↦ inl l | inr g ↦ inr (λ h. omega (arith, ints, g, h)) ]

less_or_not : (x y : ℤ) → (x <ℤ y) ⊎ (x <ℤ y → ⊥)
less_or_not x y = elim (at_most_or y x) [ inl l ↦ inr (λ h. omega (arith, ints, l, h)) | inr g ↦ inl g ]

same_or_not : (x y : ℤ) → (x ≡ y) ⊎ (x ≡ y → ⊥)
same_or_not x y =
    elim (order x y) [ inl l ↦ inr (λ e. omega (arith, ints, l, e)) | inr h ↦ elim h [ inl e ↦ inl e | inr g ↦ inr (λ e. omega (arith, ints, g, e)) ] ]

stands_or_not : (r : Relation) (sum bound : Ratio) → Stands r sum bound ⊎ (Stands r sum bound → ⊥)
stands_or_not AtLeast sum bound = at_most_or_not (bound.over *ℤ pos sum.under) (sum.over *ℤ pos bound.under)
stands_or_not Above sum bound = less_or_not (bound.over *ℤ pos sum.under) (sum.over *ℤ pos bound.under)
stands_or_not Equal sum bound = same_or_not (sum.over *ℤ pos bound.under) (bound.over *ℤ pos sum.under)

is_so : {P : Type 0} → P ⊎ (P → ⊥) → Bool
is_so (inl p) = true
is_so (inr f) = false

so_exactly : {P : Type 0} (d : P ⊎ (P → ⊥)) → (is_so d ≡ true) ↔ P
unfolding is_so
so_exactly (inl p) = (λ e. p, λ q. refl)
so_exactly (inr f) = (λ e. absurd (false≢true e), λ q. absurd (f q))

module _ (values : ℕ → Ratio) where
  holds : RowParts → Bool
  holds row = is_so (stands_or_not row.relation (sum_of_products (valued values row.terms)) row.bound)

  holds_exactly : (row : RowParts) → (holds row ≡ true) ↔ RowHolds row values
  unfolding holds
  holds_exactly row = so_exactly (stands_or_not row.relation (sum_of_products (valued values row.terms)) row.bound)

-- an atom is true exactly where its row holds
abbrev Exact : (ℕ → Bool) → (ℕ → Ratio) → ℕ × RowParts → Type 0
Exact f values atom = (f atom.0 ≡ true) ↔ RowHolds atom.1 values

no_row : RowParts
no_row = zero_row [] Equal

-- the assignment of marks, and of rows after them
abbrev chosen : ℕ → (ℕ → Bool) → (ℕ → Ratio) → List RowParts → ℕ → Bool
chosen marks mark values rows v = cond (ltb v marks) (mark v) (holds values (get_or rows (v - marks) no_row))

row_chosen : (marks : ℕ) (mark : ℕ → Bool) (values : ℕ → Ratio) (before : List RowParts) (row : RowParts) (after : List RowParts)
    → chosen marks mark values (before ++ row ∷ after) (marks + length before) ≡ holds values row
row_chosen marks mark values before row after =
    let v : ℕ = marks + length before in
    let rows : List RowParts = before ++ row ∷ after in
    ap (λ b. cond b (mark v) (holds values (get_or rows (v - marks) no_row))) (le-ltb v marks (omega arith))
    ∙ ap (λ k. holds values (get_or rows k no_row)) (let e : v - marks ≡ length before + 0 = omega arith in e)
    ∙ ap (holds values) (get_or-append-add before (row ∷ after) 0 no_row)

all_exact : (marks : ℕ) (mark : ℕ → Bool) (values : ℕ → Ratio) (before rows : List RowParts)
    → AllByRecursion (Exact (chosen marks mark values (before ++ rows)) values) (atoms_from (marks + length before) rows)
all_exact marks mark values before [] = tt
all_exact marks mark values before (row ∷ rows) =
    let same = row_chosen marks mark values before row rows in
    let so = holds_exactly values row in
    let again = all_exact marks mark values (before ++ row ∷ []) rows in
    let whole : (before ++ row ∷ []) ++ rows ≡ before ++ row ∷ rows = append_assoc before (row ∷ []) rows in
    let long = length-append before (row ∷ []) in (
      (λ t. so.0 (sym same ∙ t), λ h. same ∙ so.1 h),
      subst (λ k. AllByRecursion (Exact (chosen marks mark values (before ++ row ∷ rows)) values) (atoms_from k rows))
          (let e : marks + length (before ++ row ∷ []) ≡ marks + length before + 1 = omega (arith, long) in e)
          (subst (λ l. AllByRecursion (Exact (chosen marks mark values l) values) (atoms_from (marks + length (before ++ row ∷ [])) rows)) whole again),
    )

module _ (at : Pair → ℕ) (marks : ℕ) (all : List RowParts) (mark : ℕ → Bool) (values : ℕ → Ratio) (f : ℕ → Bool) (begins : (a : ℕ) → a < marks → f a ≡ mark a)
    (whole : AllByRecursion (Exact f values) (atoms_from marks all)) where
  later : (l : Lit) (lits : List Lit) → Any (IsTrueUnder f) lits → Any (IsTrueUnder f) (l ∷ lits)
  later l lits h = (suc h.0, h.1, (let e = h.2 in omega (arith, e)), h.3, h.4)

  clause_true : (next : ℕ) (claims : List StateLiteral) → HasTrue mark values claims → AllByRecursion (IsNamed at marks all) claims
      → AllByRecursion (Exact f values) (atoms_from next (flat_map mentioned claims)) → MeetsClause f (literals_from at next claims)
  clause_true next [] h w g = absurd h
  clause_true next (Mark a b ∷ claims) (inl x) w g = (0, record { var = a; positive = b }, (omega arith), refl, begins a w.0 ∙ x)
  clause_true next (Mark a b ∷ claims) (inr h) w g = later (record { var = a; positive = b }) (literals_from at next claims) (clause_true next claims h w.1 g)
  clause_true next (Says row ∷ claims) (inl x) w g = (0, record { var = next; positive = true }, (omega arith), refl, g.0.1 x)
  clause_true next (Says row ∷ claims) (inr h) w g = later (record { var = next; positive = true }) (literals_from at (next + 1) claims) (clause_true (next + 1) claims h w.1 g.1)
  clause_true next (First pair ∷ claims) (inl x) w g =
      (0, record { var = at pair; positive = true }, (omega arith), refl, (at_variable (Exact f values) marks all (first_row pair) (at pair) whole w.0).1 x)
  clause_true next (First pair ∷ claims) (inr h) w g = later (record { var = at pair; positive = true }) (literals_from at next claims) (clause_true next claims h w.1 g)

  all_clauses : (next : ℕ) (clauses : List (List StateLiteral)) → AllByRecursion (HasTrue mark values) clauses → AllByRecursion (AllByRecursion (IsNamed at marks all)) clauses
      → AllByRecursion (Exact f values) (atoms_from next (rows_in clauses)) → AllByRecursion (MeetsClause f) (clauses_from at next clauses)
  all_clauses next [] h w g = tt
  all_clauses next (claims ∷ clauses) h w g =
      let rows = subst (AllByRecursion (Exact f values)) (atoms-append next (flat_map mentioned claims) (rows_in clauses)) g in
      let front = atoms_from next (flat_map mentioned claims) in
      let back = atoms_from (next + length (flat_map mentioned claims)) (rows_in clauses) in (
        clause_true next claims h.0 w.0 (each-left (Exact f values) front back rows),
        all_clauses (next + length (flat_map mentioned claims)) clauses h.1 w.1 (each-right (Exact f values) front back rows),
      )

each_holds : (f : ℕ → Bool) (values : ℕ → Ratio) (atoms : List (ℕ × RowParts)) → AllByRecursion (Exact f values) atoms → AllByRecursion (λ a. f a.0 ≡ true → RowHolds a.1 values) atoms
each_holds f values [] h = tt
each_holds f values (a ∷ atoms) h = (h.0.0, each_holds f values atoms h.1)

pub true_claims_meet : TrueClaimsMeet
true_claims_meet at marks clauses mark values w h =
    let rows = rows_in clauses in
    let f : ℕ → Bool = chosen marks mark values rows in
    let begins : (a : ℕ) → a < marks → f a ≡ mark a = λ a l. ap (λ b. cond b (mark a) (holds values (get_or rows (a - marks) no_row))) (lt-ltb a marks l) in
    let exact = subst (λ k. AllByRecursion (Exact f values) (atoms_from k rows)) (let e : marks + length {A = RowParts} [] ≡ marks = omega arith in e) (all_exact marks mark values [] rows) in
    record {
      assignment = f;
      begins = begins;
      meets = record {
        clauses = all_from (MeetsClause f) (clauses_from at marks clauses) (all_clauses at marks rows mark values f begins exact marks clauses h w exact);
        atoms = all_from (λ a. f a.0 ≡ true → RowHolds a.1 values) (atoms_from marks rows) (each_holds f values (atoms_from marks rows) exact);
      };
      exact = all_from (Exact f values) (atoms_from marks rows) exact;
    }
