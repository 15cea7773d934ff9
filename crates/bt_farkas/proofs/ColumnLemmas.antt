-- The least column from one on.
use Rattle.std.proofs.Common.{◌≡◌, ℕ, ◌<◌, ◌≤◌, ◌+◌, ◌-◌, ◌^◌, arith, List, [], ◌∷◌, ◌++◌, length, get_or, drop, Option, None, Some, min, subst, sym, refl, ◌⊎◌, inl, inr}
use Rattle.std.specs.Prelude.{Contains}
use Rattle.std.specs.List.{All}
use Rattle.std.proofs.lemmas.List.{drop_all}
use Rattle.std.proofs.lemmas.List.Elements.{All-nil, All-cons, All-append, All-weaker, Contains-append_left, Contains-append_right}
use Rattle.bt_frac.specs.Ratio.{Ratio}
use Rattle.bt_frac.specs.Columns.{AreColumnsFrom}
use Rattle.bt_frac.specs.Rows.{columns_of}
use Rattle.bt_frac.proofs.RowColumns.{left_from}
use Rattle.bt_farkas.specs.inner.Totals.{IsLeastFrom, lesser_of}

-- what is left of columns ascends, and the least column of it is that of all
pub record Looks (least : ℕ) (columns rest : List ℕ) : Type 0 where
  pub from : ℕ
  pub ascend : AreColumnsFrom from rest
  pub back : (o : Option ℕ) → IsLeastFrom least rest o → IsLeastFrom least columns o

pub contains_later : (x y : ℕ) (xs : List ℕ) → Contains xs y → Contains (x ∷ xs) y
contains_later x y xs h = Contains-append_right (x ∷ []) xs y h

pub contains_first : (x : ℕ) (xs : List ℕ) → Contains (x ∷ xs) x
contains_first x xs = (0, omega arith, refl)

pub after_lesser : (least column : ℕ) (columns : List ℕ) (o : Option ℕ) → column < least → IsLeastFrom least columns o → IsLeastFrom least (column ∷ columns) o
after_lesser least column columns None below h = All-cons (λ other. other < least) column columns below h
after_lesser least column columns (Some found) below (from, among, first) =
    (from, contains_later column found columns among, All-cons (λ other. least ≤ other → found ≤ other) column columns (λ h. absurd (omega arith)) first)

pub looks_more : (least : ℕ) (terms : List (ℕ × Ratio)) (i : ℕ) (term : ℕ × Ratio) → i < length terms → term ≡ get_or terms i term → term.0 < least
    → Looks least (columns_of terms) (columns_of (drop i terms)) → Looks least (columns_of terms) (columns_of (drop (i + 1) terms))
looks_more least terms i term inside is below looks =
    let before = subst (λ ts. Looks least (columns_of terms) (columns_of ts)) (left_from terms i term inside is) looks in
    record { from = term.0 + 1; ascend = before.ascend.2; back = λ o h. before.back o (after_lesser least term.0 (columns_of (drop (i + 1) terms)) o below h) }

ascend_above : (from column least : ℕ) (columns : List ℕ) → column < from → AreColumnsFrom from columns → All (λ other. least ≤ other → column ≤ other) columns
ascend_above from column least [] below are = All-nil (λ other. least ≤ other → column ≤ other)
ascend_above from column least (x ∷ columns) below are =
    All-cons (λ other. least ≤ other → column ≤ other) x columns (λ h. omega (arith, are.0)) (ascend_above (x + 1) column least columns (omega (arith, are.0)) are.2)

pub looks_found : (least : ℕ) (terms : List (ℕ × Ratio)) (i : ℕ) (term : ℕ × Ratio) → i < length terms → term ≡ get_or terms i term → least ≤ term.0
    → Looks least (columns_of terms) (columns_of (drop i terms)) → IsLeastFrom least (columns_of terms) (Some term.0) × (term.0 < 2 ^ 64 - 1)
looks_found least terms i term inside is from looks =
    let before = subst (λ ts. Looks least (columns_of terms) (columns_of ts)) (left_from terms i term inside is) looks in
    let rest : List ℕ = columns_of (drop (i + 1) terms) in (
      before.back (Some term.0)
          (from, contains_first term.0 rest, All-cons (λ other. least ≤ other → term.0 ≤ other) term.0 rest (λ h. omega arith) (ascend_above (term.0 + 1) term.0 least rest (omega arith) before.ascend.2)),
      before.ascend.1,
    )

lesser_is : (a b : ℕ) → (min a b ≡ a) ⊎ (min a b ≡ b)
lesser_is a b = grind arith

among_both : (a b : ℕ) (xs ys : List ℕ) → Contains xs a → Contains ys b → Contains (xs ++ ys) (min a b)
among_both a b xs ys p q =
    elim (lesser_is a b) [
      | inl e ↦ subst (Contains (xs ++ ys)) (sym e) (Contains-append_left xs ys a p)
      | inr e ↦ subst (Contains (xs ++ ys)) (sym e) (Contains-append_right xs ys b q)
    ]

-- the lesser of the least columns of two lists is that of both
pub least_of_both : (least : ℕ) (xs ys : List ℕ) (a b : Option ℕ) → IsLeastFrom least xs a → IsLeastFrom least ys b → IsLeastFrom least (xs ++ ys) (lesser_of a b)
least_of_both least xs ys None None p q = All-append (λ other. other < least) xs ys p q
least_of_both least xs ys None (Some b) p (from, among, first) = (
  from,
  Contains-append_right xs ys b among,
  All-append (λ other. least ≤ other → b ≤ other) xs ys (All-weaker (λ other. other < least) (λ other. least ≤ other → b ≤ other) (λ x below h. absurd (omega arith)) xs p) first,
)
least_of_both least xs ys (Some a) None (from, among, first) q = (
  from,
  Contains-append_left xs ys a among,
  All-append (λ other. least ≤ other → a ≤ other) xs ys first (All-weaker (λ other. other < least) (λ other. least ≤ other → a ≤ other) (λ x below h. absurd (omega arith)) ys q),
)
least_of_both least xs ys (Some a) (Some b) (from, among, first) (from', among', first') = (
  omega arith,
  among_both a b xs ys among among',
  All-append (λ other. least ≤ other → min a b ≤ other) xs ys
      (All-weaker (λ other. least ≤ other → a ≤ other) (λ other. least ≤ other → min a b ≤ other) (λ x h l. let k : a ≤ x = h l in omega arith) xs first)
      (All-weaker (λ other. least ≤ other → b ≤ other) (λ other. least ≤ other → min a b ≤ other) (λ x h l. let k : b ≤ x = h l in omega arith) ys first'),
)

pub looks_none : (least : ℕ) (terms : List (ℕ × Ratio)) (i : ℕ) → length terms ≤ i → Looks least (columns_of terms) (columns_of (drop i terms)) → IsLeastFrom least (columns_of terms) None
looks_none least terms i past looks =
    let before = subst (λ ts. Looks least (columns_of terms) (columns_of ts)) (drop_all i terms past) looks in
    before.back None (All-nil (λ other. other < least))
