-- Sums of products in 128 bits, one product and one addition after another.
use Rattle.std.specs.Prelude.{◌≡◌, ◌⊎◌, List, [], ◌∷◌}
use Rattle.bt_frac.specs.Ratio.{Ratio, IsLowest, IsSum, CanAdd, IsWide}
use Rattle.bt_frac.specs.Products.{IsProduct}

-- the product of the pair is added to s, which gives r, and both the product and the addition fit
pub record AddsProduct (s : Ratio) (pair : Ratio × Ratio) (r : Ratio) : Type 0 where
  pub start : IsLowest s
  pub left : IsLowest pair.0
  pub right : IsLowest pair.1
  pub product : Ratio
  pub product_lowest : IsLowest product
  pub is_product : IsProduct pair.0 pair.1 product
  pub sum : IsSum s product r
  pub fits : CanAdd s product
  pub lowest : IsLowest r

-- the product of the pair doesn't fit
abbrev pub IsWideProduct : Ratio × Ratio → Type 0
IsWideProduct pair = (p : Ratio) → IsLowest p → IsProduct pair.0 pair.1 p → ⊥

-- the addition of the pair's product to s doesn't fit
abbrev pub IsWideAddition : Ratio → Ratio × Ratio → Type 0
IsWideAddition s pair = (p : Ratio) × IsLowest p × IsProduct pair.0 pair.1 p × IsWide s p

-- the product of the pair doesn't fit, or its addition to s doesn't
abbrev pub IsWideStep : Ratio → Ratio × Ratio → Type 0
IsWideStep s pair = IsWideProduct pair ⊎ IsWideAddition s pair

-- adding the products of these pairs in order to s leads to t, and every product and addition fits
abbrev pub RunsTo : Ratio → List (Ratio × Ratio) → Ratio → Type 0
RunsTo s [] t = s ≡ t
RunsTo s (pair ∷ pairs) t = (r : Ratio) × AddsProduct s pair r × RunsTo r pairs t
