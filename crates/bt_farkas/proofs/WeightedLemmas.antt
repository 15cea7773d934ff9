-- Weighted rows, place by place.
use Rattle.std.proofs.Common.{◌≡◌, ℕ, ◌<◌, ◌+◌, arith, List, [], ◌∷◌, ◌++◌, length, get_or, take, None, Some, map, ap, sym, ◌∙◌, refl, subst, zero, suc, append-nil, append_assoc, length-append}
use Rattle.std.specs.Option.{option_map}
use Rattle.std.proofs.lemmas.List.{take_more, get_or_default}
use Rattle.std.proofs.lemmas.List.Elements.{filter_map-append}
use Rattle.std.proofs.Math.Seq.{get_or-append_seam}
use Rattle.bt_frac.specs.Ratio.{Ratio}
use Rattle.bt_frac.specs.Rows.{RowParts}
use Rattle.bt_frac.specs.Values.{nothing}
use Rattle.bt_farkas.specs.WeightedRows.{empty_row, picked, weighted, part_of, pairs_at}
use Rattle.bt_farkas.specs.inner.Gathering.{AreGathered, AreEntriesOf, HaveWeights}
use Rattle.bt_farkas.specs.inner.Totals.{ArePicks}
use Rattle.bt_farkas.specs.declared.gathering.Entry.{Entry}
use Rattle.bt_farkas.specs.declared.places.Place.{Place}

pub length-weighted : (rows : List RowParts) (picks : List ℕ) (weights : List Ratio) → length weights ≡ length picks → length (weighted rows picks weights) ≡ length picks
length-weighted rows [] weights same = refl
length-weighted rows (pick ∷ picks) [] same = absurd (omega (arith, same))
length-weighted rows (pick ∷ picks) (weight ∷ weights) same = ap suc (length-weighted rows picks weights (omega (arith, same)))

weighted_at : (rows : List RowParts) (picks : List ℕ) (weights : List Ratio) (i : ℕ) (d : RowParts × Ratio) → length weights ≡ length picks → i < length picks
    → get_or (weighted rows picks weights) i d ≡ (get_or rows (get_or picks i 0) empty_row, get_or weights i nothing)
weighted_at rows [] weights i d same inside = absurd (omega (arith, inside))
weighted_at rows (pick ∷ picks) [] i d same inside = absurd (omega (arith, same))
weighted_at rows (pick ∷ picks) (weight ∷ weights) zero d same inside = refl
weighted_at rows (pick ∷ picks) (weight ∷ weights) (suc i) d same inside = weighted_at rows picks weights i d (omega (arith, same)) (omega (arith, inside))

-- the rows of the sum are the picked ones
pub rows_of_weighted : (rows : List RowParts) (picks : List ℕ) (weights : List Ratio) → length weights ≡ length picks → map (λ r. r.0) (weighted rows picks weights) ≡ picked rows picks
rows_of_weighted rows [] weights same = refl
rows_of_weighted rows (pick ∷ picks) [] same = absurd (omega (arith, same))
rows_of_weighted rows (pick ∷ picks) (weight ∷ weights) same = ap (λ rest. get_or rows pick empty_row ∷ rest) (rows_of_weighted rows picks weights (omega (arith, same)))

pub pairs-append : (place : Place) (xs ys : List (RowParts × Ratio)) → pairs_at place (xs ++ ys) ≡ pairs_at place xs ++ pairs_at place ys
pairs-append place xs ys = filter_map-append (λ r. option_map (λ part. (r.1, part)) (part_of place r.0)) xs ys

pairs_of_one : (place : Place) (r : RowParts × Ratio) (part : Ratio) → part_of place r.0 ≡ Some part → pairs_at place (r ∷ []) ≡ (r.1, part) ∷ []
pairs_of_one place r part is = rw is refl

pairs_of_none : (place : Place) (r : RowParts × Ratio) → part_of place r.0 ≡ None → pairs_at place (r ∷ []) ≡ []
pairs_of_none place r is = rw is refl

-- one more row with something at the place
pub pairs_more : (place : Place) (sum : List (RowParts × Ratio)) (i : ℕ) (r : RowParts × Ratio) (part : Ratio) → i < length sum → get_or sum i r ≡ r
    → part_of place r.0 ≡ Some part → pairs_at place (take (i + 1) sum) ≡ pairs_at place (take i sum) ++ (r.1, part) ∷ []
pairs_more place sum i r part inside here is =
    ap (pairs_at place) (take_more sum i r inside ∙ ap (λ x. take i sum ++ x ∷ []) here) ∙ pairs-append place (take i sum) (r ∷ [])
    ∙ ap (λ ps. pairs_at place (take i sum) ++ ps) (pairs_of_one place r part is)

-- one more row with nothing at the place
pub pairs_stay : (place : Place) (sum : List (RowParts × Ratio)) (i : ℕ) (r : RowParts × Ratio) → i < length sum → get_or sum i r ≡ r
    → part_of place r.0 ≡ None → pairs_at place (take (i + 1) sum) ≡ pairs_at place (take i sum)
pairs_stay place sum i r inside here is =
    ap (pairs_at place) (take_more sum i r inside ∙ ap (λ x. take i sum ++ x ∷ []) here) ∙ pairs-append place (take i sum) (r ∷ [])
    ∙ ap (λ ps. pairs_at place (take i sum) ++ ps) (pairs_of_none place r is) ∙ append-nil (pairs_at place (take i sum))

-- the row and the weight at a place
pub weighted_here : (rows : List RowParts) (picks : List ℕ) (weights : List Ratio) (i : ℕ) (row : RowParts) (weight : Ratio) → length weights ≡ length picks
    → ArePicks rows picks → i < length picks → row ≡ get_or rows (get_or picks i 0) row → weight ≡ get_or weights i weight
    → get_or (weighted rows picks weights) i (row, weight) ≡ (row, weight)
weighted_here rows picks weights i row weight same are inside row_is weight_is =
    let row_at : get_or rows (get_or picks i 0) empty_row ≡ row = get_or_default rows (get_or picks i 0) empty_row row (are i 0 inside) ∙ sym row_is in
    let weight_at : get_or weights i nothing ≡ weight = get_or_default weights i nothing weight (omega arith) ∙ sym weight_is in
    weighted_at rows picks weights i (row, weight) same inside ∙ ap (λ r. (r, get_or weights i nothing)) row_at ∙ ap (λ w. (row, w)) weight_at

front_more : (front : List Ratio) (weight : Ratio) (rest : List Ratio) → (front ++ weight ∷ []) ++ rest ≡ front ++ weight ∷ rest
front_more front weight rest = rw append_assoc refl

have_from : (rows : List RowParts) (picks : List ℕ) (front weights : List Ratio) → HaveWeights (front ++ weights) (length front) (weighted rows picks weights)
have_from rows [] front weights = tt
have_from rows (pick ∷ picks) front [] = tt
have_from rows (pick ∷ picks) front (weight ∷ weights) = (
  get_or-append_seam front weight weights nothing,
  subst (λ n. HaveWeights (front ++ weight ∷ weights) n (weighted rows picks weights)) (length-append front (weight ∷ []))
      (subst (λ ws. HaveWeights ws (length (front ++ weight ∷ [])) (weighted rows picks weights)) (front_more front weight weights) (have_from rows picks (front ++ weight ∷ []) weights)),
)

-- the sum's terms, where they were gathered of the picked rows
pub entries_of_picked : (rows : List RowParts) (picks : List ℕ) (weights : List Ratio) (entries : List Entry) → length weights ≡ length picks → AreGathered (picked rows picks) entries
    → AreEntriesOf (weighted rows picks weights) weights entries
entries_of_picked rows picks weights entries same are = record {
  gathered = subst (λ rs. AreGathered rs entries) (sym (rows_of_weighted rows picks weights same)) are;
  weights_are = have_from rows picks [] weights;
  counted = length-weighted rows picks weights same ∙ sym same;
}
