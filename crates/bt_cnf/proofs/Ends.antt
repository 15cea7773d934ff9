-- The end of a row's columns.
use Rattle.std.proofs.Common.{◌≡◌, ℕ, ◌<◌, ◌≤◌, ◌+◌, ◌-◌, ◌^◌, arith, List, [], ◌∷◌, ◌++◌, length, slice_get, Some, max, ap, ◌∙◌, suc, append-nil}
use Rattle.std.proofs.lemmas.List.Concat.{flat_map-append}
use Rattle.bt_frac.specs.Columns.{AreColumnsFrom}
use Rattle.bt_frac.specs.Ratio.{Ratio}
use Rattle.bt_frac.specs.Rows.{RowParts, columns_of, columns_in, end_of}

-- the last term's column is the greatest
pub record IsLast (least : ℕ) (terms : List (ℕ × Ratio)) (t : ℕ × Ratio) : Type 0 where
  pub end : end_of (columns_of terms) ≡ t.0 + 1
  pub below : t.0 < 2 ^ 64 - 1
  pub from : least ≤ t.0

pub last_is : (from : ℕ) (terms : List (ℕ × Ratio)) (t : ℕ × Ratio) → AreColumnsFrom from (columns_of terms) → slice_get terms (length terms - 1) ≡ Some t → IsLast from terms t
last_is from [] t are is = cc
last_is from (x ∷ []) t are is =
    let same : x.0 ≡ t.0 = ap (λ y. y.0) (only x t is) in
    record { end = omega (arith, same); below = omega (arith, same, are.1); from = omega (arith, same, are.0) }
  where
    only : (x t : ℕ × Ratio) → Some x ≡ Some t → x ≡ t
    only x t e = cc
last_is from (x ∷ y ∷ terms) t are is =
    let e : length (x ∷ y ∷ terms) - 1 ≡ suc (length (y ∷ terms) - 1) = omega arith in
    let rest = last_is (x.0 + 1) (y ∷ terms) t are.2 (rw e at is) in
    record { end = omega (arith, rest.end, rest.from); below = rest.below; from = omega (arith, rest.from, are.0) }

pub end-append : (xs ys : List ℕ) → end_of (xs ++ ys) ≡ max (end_of xs) (end_of ys)
end-append [] ys = omega arith
end-append (x ∷ xs) ys = let rest = end-append xs ys in omega (arith, rest)

-- one more row
pub end_more : (rows : List RowParts) (row : RowParts) → end_of (columns_in (rows ++ row ∷ [])) ≡ max (end_of (columns_in rows)) (end_of (columns_of row.terms))
end_more rows row =
    ap end_of (flat_map-append (λ r. columns_of r.terms) rows (row ∷ []) ∙ ap (λ cs. columns_in rows ++ cs) (append-nil (columns_of row.terms)))
    ∙ end-append (columns_in rows) (columns_of row.terms)
