-- Some of a formula's rows, with their variables, and tableaus of them.
use Rattle.std.proofs.Common.{◌≡◌, ℕ, ◌<◌, ◌+◌, inl, inr, Bool, Option, Some, List, [], ◌∷◌, ◌++◌, length, get_or, map, ap, sym, ◌∙◌, refl, subst, arith}
use Rattle.std.specs.Prelude.{Contains, IfSome}
use Rattle.std.specs.List.{All, Any}
use Rattle.std.proofs.Math.ListN.{set}
use Rattle.std.proofs.lemmas.Bool.{cases_lt}
use Rattle.std.proofs.lemmas.List.{length-map, get_or-map, length_push, get_or_append_left, get_or_push, map-set, set-get_or}
use Rattle.std.proofs.lemmas.List.Elements.{Contains-get_or}
use Rattle.std.proofs.lemmas.Option.{IfSome_then}
use Rattle.bt_frac.specs.Ratio.{Ratio}
use Rattle.bt_frac.specs.Rows.{RowParts, IsRowOf}
use Rattle.bt_frac.specs.declared.relation.Relation.{Relation}
use Rattle.bt_farkas.specs.WeightedRows.{empty_row}
use Rattle.bt_cnf.specs.Formulas.{FormulaParts}
use Rattle.bt_theory.specs.Reaching.{atom_rows, atom_vars}
use Rattle.bt_theory.specs.inner.Scopes.{AreAtoms, IsPaired, IsConflictIn, parts_of}
use Rattle.bt_theory.specs.declared.lemma.Conflict.{Conflict}
use Rattle.bt_theory.specs.declared.scope.Scope.{Scope}

pub atoms_none : (f : FormulaParts) → AreAtoms f [] []
atoms_none f = record { paired = refl; have = λ k l. absurd (omega (arith, l)) }

-- one more variable with its row
pub atoms_more : (f : FormulaParts) (atoms : List ℕ) (rows : List RowParts) (v : ℕ) (r : RowParts) → AreAtoms f atoms rows → Contains f.atoms (v, r)
    → AreAtoms f (atoms ++ v ∷ []) (rows ++ r ∷ [])
atoms_more f atoms rows v r are at =
    record {
      paired = length_push atoms v ∙ ap (λ n. n + 1) are.paired ∙ sym (length_push rows r);
      have = λ k l.
          elim (cases_lt k (length atoms)) [
            | inl before ↦
                let within : k < length rows = (let p = are.paired in omega (arith, before, p)) in
                subst (λ x. Contains f.atoms (x, get_or (rows ++ r ∷ []) k empty_row)) (sym (get_or_append_left atoms (v ∷ []) 0 k before))
                (subst (λ y. Contains f.atoms (get_or atoms k 0, y)) (sym (get_or_append_left rows (r ∷ []) empty_row k within)) (are.have k before))
            | inr after ↦
                let long = length_push atoms v in
                let here : length atoms ≡ k = omega (arith, l, long, after) in
                subst (λ x. Contains f.atoms (x, get_or (rows ++ r ∷ []) k empty_row)) (sym (get_or_push atoms v 0 k here))
                (subst (λ y. Contains f.atoms (v, y)) (sym (get_or_push rows r empty_row k (sym are.paired ∙ here))) at)
          ];
    }

-- the parts of a list are the same after one of it is replaced by one of the same part
pub map_same : {A B : Type 0} (g : A → B) (xs : List A) (i : ℕ) (old new : A) → get_or xs i old ≡ old → g new ≡ g old → map g (set xs i new) ≡ map g xs
map_same g xs i old new at same =
    map-set g xs i new ∙ ap (λ y. set (map g xs) i y) same ∙ sym (map-set g xs i old) ∙ ap (map g) (ap (λ y. set xs i y) (sym at) ∙ set-get_or xs i old)

-- a scope among those whose parts are known
module _ (scopes : List Scope) (parts : List (List ℕ × List RowParts)) (i : ℕ) (scope : Scope) (same : map parts_of scopes ≡ parts) (l : i < length scopes) (at : get_or scopes i scope ≡ scope) where
  within : i < length (map parts_of scopes)
  within = let long = length-map scopes parts_of in omega (arith, l, long)

  part_at : get_or (map parts_of scopes) i (parts_of scope) ≡ parts_of scope
  part_at = get_or-map parts_of scopes i scope (parts_of scope) l ∙ ap parts_of at

  pub paired_at : All IsPaired parts → IsPaired (parts_of scope)
  paired_at all = subst IsPaired part_at (subst (All IsPaired) (sym same) all i (parts_of scope) within)

  pub found_among : (assignment : List Bool) (found : Option Conflict) → IfSome found (λ conflict. IsConflictIn assignment conflict (parts_of scope))
      → IfSome found (λ conflict. Any (IsConflictIn assignment conflict) parts)
  found_among assignment found h =
      IfSome_then found h (λ conflict is. subst (Any (IsConflictIn assignment conflict)) same (i, parts_of scope, within, part_at, is))

  pub same_after : (new : Scope) → parts_of new ≡ parts_of scope → map parts_of (set scopes i new) ≡ parts
  same_after new e = map_same parts_of scopes i scope new at e ∙ same

-- the same row, made once more of its parts
pub row_again : (row copy : RowParts) (terms : List (ℕ × Ratio)) (relation : Relation) (bound : Ratio) (made : Option RowParts) → terms ≡ row.terms → relation ≡ row.relation → bound ≡ row.bound
    → made ≡ Some copy → IsRowOf (record { terms = terms; relation = relation; bound = bound }) made → copy ≡ row
row_again row copy terms relation bound made e f g at is =
    let by_terms : List (ℕ × Ratio) → RowParts = λ x. record { terms = x; relation = relation; bound = bound } in
    let by_relation : Relation → RowParts = λ x. record { terms = row.terms; relation = x; bound = bound } in
    let by_bound : Ratio → RowParts = λ x. record { terms = row.terms; relation = row.relation; bound = x } in
    (subst (IsRowOf (record { terms = terms; relation = relation; bound = bound })) at is).1 ∙ ap by_terms e ∙ ap by_relation f ∙ ap by_bound g

-- the variable and the row at one place
pub one_picked : (f : FormulaParts) (all : List RowParts) (atoms : List ℕ) (place : ℕ) (row : RowParts) (v : ℕ) → all ≡ atom_rows f → atoms ≡ atom_vars f → place < length f.atoms
    → row ≡ get_or all place row → v ≡ get_or atoms place v → Contains f.atoms (v, row)
one_picked f all atoms place row v all_are atoms_are l row_at var_at =
    let d : ℕ × RowParts = (v, row) in
    let row_is : row ≡ (get_or f.atoms place d).1 = row_at ∙ ap (λ rows. get_or rows place row) all_are ∙ get_or-map (λ (x : ℕ × RowParts). x.1) f.atoms place d row l in
    let var_is : v ≡ (get_or f.atoms place d).0 = var_at ∙ ap (λ vars. get_or vars place v) atoms_are ∙ get_or-map (λ (x : ℕ × RowParts). x.0) f.atoms place d v l in
    subst (λ x. Contains f.atoms (x, row)) (sym var_is)
    (subst (λ y. Contains f.atoms ((get_or f.atoms place d).0, y)) (sym row_is) (Contains-get_or f.atoms place d l))

pub same_atoms : (f : FormulaParts) (vars now : List ℕ) (rows rows_now : List RowParts) → now ≡ vars → rows_now ≡ rows → AreAtoms f vars rows → AreAtoms f now rows_now
same_atoms f vars now rows rows_now e g are = subst (λ x. AreAtoms f x rows_now) (sym e) (subst (λ y. AreAtoms f vars y) (sym g) are)
