-- A false sum of rows: no values meet all of them.
use Rattle.std.proofs.Common.{◌≡◌, ◌≢◌, ℕ, ◌<◌, ◌+◌, ◌*◌, ◌/◌, ◌==◌, arith, List, [], ◌∷◌, ◌++◌, length, get_or, zero, suc, Option, None, Some, Bool, true, false, ℤ, pos, ◌+ℤ◌, ◌*ℤ◌, ◌<ℤ◌, ◌≤ℤ◌, map, unsigned_abs, ap, sym, ◌∙◌, refl, subst, ◌⊎◌, inl, inr, if◌then◌else◌}
use Rattle.std.specs.List.{All, Any, AllByRecursion}
use Rattle.std.proofs.lemmas.Bool.Decides.{nat_tests}
use Rattle.std.proofs.lemmas.Int.{ints}
use Rattle.std.proofs.lemmas.List.Elements.{All-head, All-tail, recursion_from_All}
use Rattle.std.proofs.Math.IntN.{zero-*ℤ, *ℤ_comm}
use Rattle.bt_frac.specs.Columns.{AreColumnsFrom}
use Rattle.bt_frac.specs.Ratio.{Ratio, IsLowest, IsOver}
use Rattle.bt_frac.specs.Rows.{RowParts, columns_of, columns_in, end_of}
use Rattle.bt_frac.specs.Values.{AreValues, valued, sum_of_products, Stands, RowHolds}
use Rattle.bt_frac.specs.declared.relation.Relation.{Relation}
use Rattle.bt_frac.specs.declared.relation.Relation.TheVariants.{AtLeast, Above, Equal}
use Rattle.bt_frac.proofs.Gcds.{quotient_positive}
use Rattle.bt_frac.proofs.Order.{mul_cancel, mul_le, mul_lt, lt_from_mul}
use Rattle.bt_frac.proofs.Over.{over_scaled, over_at_most, over_less, over_same, under_positive}
use Rattle.bt_frac.proofs.Ring.{mul_assoc, mul_distrib_right}
use Rattle.bt_farkas.specs.FalseSums.{MayHave, MayWeigh, IsStrict, IsFalseSum}
use Rattle.bt_farkas.specs.Laws.{IsWeighted, FalseSumsFail}
use Rattle.bt_farkas.specs.WeightedRows.{coefficient_at, part_of, pairs_at}
use Rattle.bt_farkas.specs.declared.places.Place.{Place}
use Rattle.bt_farkas.specs.declared.places.Place.TheVariants.{Column, Bound}
use Rattle.bt_farkas.proofs.FarkasLemmas.{below_end}
use Rattle.bt_farkas.proofs.Lens.{Divides, DividesBoth, whole_over, whole_sum, over_by, sum_over, ArePositive, common_divided}
use Rattle.bt_farkas.proofs.Ranges.{range_sum, range_zero, range_point, range_linear}

-- a number over a denominator is 0 where the fraction is
zero_over : (r : Ratio) (w : ℤ) (d : ℕ) → 0 < r.under → IsOver r w d → r.over ≡ pos 0 → w ≡ pos 0
zero_over r w d some over is =
    mul_cancel w (pos 0) r.under some (sym over ∙ ap (λ t. t *ℤ pos d) is ∙ zero-*ℤ (pos d) ∙ sym (zero-*ℤ (pos r.under)))

above_over : (r : Ratio) (w : ℤ) (d : ℕ) → 0 < d → IsOver r w d → pos 0 <ℤ r.over → pos 0 <ℤ w
above_over r w d some over h =
    lt_from_mul (pos 0) w r.under
    (subst (λ t. t <ℤ (w *ℤ pos r.under)) (zero-*ℤ (pos d) ∙ sym (zero-*ℤ (pos r.under)))
    (subst (λ t. (pos 0 *ℤ pos d) <ℤ t) over (mul_lt (pos 0) r.over d some h)))

-- the sign of a fraction's whole number
not_below : (d : ℕ) (r : Ratio) → pos 0 ≤ℤ r.over → pos 0 ≤ℤ whole_over d r
unfolding whole_over
not_below d r h = subst (λ t. t ≤ℤ (r.over *ℤ pos (d / r.under))) (zero-*ℤ (pos (d / r.under))) (mul_le (pos 0) r.over (d / r.under) h)

above : (d : ℕ) (r : Ratio) → 0 < d → Divides d r → pos 0 <ℤ r.over → pos 0 <ℤ whole_over d r
unfolding whole_over
above d r some h p =
    subst (λ t. t <ℤ (r.over *ℤ pos (d / r.under))) (zero-*ℤ (pos (d / r.under))) (mul_lt (pos 0) r.over (d / r.under) (quotient_positive d r.under some h.divides) p)

size_is : (w : ℤ) → pos 0 ≤ℤ w → pos (unsigned_abs w) ≡ w
size_is w h = omega (arith, ints)

size_some : (w : ℤ) → pos 0 <ℤ w → 0 < unsigned_abs w
size_some w h = omega (arith, ints)

at_least : (w : ℤ) → pos 0 <ℤ w → pos 0 ≤ℤ w
at_least w h = omega (arith, ints)

same_at_most : (x y : ℤ) → x ≡ y → x ≤ℤ y
same_at_most x y e = omega (arith, ints)

times_le : (w x y : ℤ) → pos 0 ≤ℤ w → x ≤ℤ y → (w *ℤ x) ≤ℤ (w *ℤ y)
times_le w x y h l =
    subst (λ t. t ≤ℤ (w *ℤ y)) (*ℤ_comm x w)
    (subst (λ t. (x *ℤ w) ≤ℤ t) (*ℤ_comm y w) (subst (λ v. (x *ℤ v) ≤ℤ (y *ℤ v)) (size_is w h) (mul_le x y (unsigned_abs w) l)))

times_lt : (w x y : ℤ) → pos 0 <ℤ w → x <ℤ y → (w *ℤ x) <ℤ (w *ℤ y)
times_lt w x y h l =
    subst (λ t. t <ℤ (w *ℤ y)) (*ℤ_comm x w)
    (subst (λ t. (x *ℤ w) <ℤ t) (*ℤ_comm y w) (subst (λ v. (x *ℤ v) <ℤ (y *ℤ v)) (size_is w (at_least w h)) (mul_lt x y (unsigned_abs w) (size_some w h) l)))

less_at_most : (x y : ℤ) → x <ℤ y → x ≤ℤ y
less_at_most x y h = omega (arith, ints)

-- the weight, the bound, the coefficients and the values of a row have denominators that divide d
record Divided (d : ℕ) (values : ℕ → Ratio) (r : RowParts × Ratio) : Type 0 where
  weight : Divides d r.1
  bound : Divides d r.0.bound
  terms : AllByRecursion (DividesBoth d) (valued values r.0.terms)

all_pairs : (ℕ → Ratio) → List (RowParts × Ratio) → List (Ratio × Ratio)
all_pairs values [] = []
all_pairs values (r ∷ sum) = (r.1, r.0.bound) ∷ (valued values r.0.terms ++ all_pairs values sum)

all_append : {X : Type 0} (P : X → Type 0) (xs ys : List X) → AllByRecursion P xs → AllByRecursion P ys → AllByRecursion P (xs ++ ys)
all_append P [] ys p q = q
all_append P (x ∷ xs) ys p q = (p.0, all_append P xs ys p.1 q)

all_front : {X : Type 0} (P : X → Type 0) (xs ys : List X) → AllByRecursion P (xs ++ ys) → AllByRecursion P xs
all_front P [] ys p = tt
all_front P (x ∷ xs) ys p = (p.0, all_front P xs ys p.1)

all_back : {X : Type 0} (P : X → Type 0) (xs ys : List X) → AllByRecursion P (xs ++ ys) → AllByRecursion P ys
all_back P [] ys p = p
all_back P (x ∷ xs) ys p = all_back P xs ys p.1

valued_positive : (values : ℕ → Ratio) (terms : List (ℕ × Ratio)) → AreValues values → All (λ t. IsLowest t.1) terms → AllByRecursion ArePositive (valued values terms)
valued_positive values [] are all = tt
valued_positive values (t ∷ terms) are all =
    let first : IsLowest t.1 = All-head (λ x. IsLowest x.1) t terms all in
    (record { left = first.positive; right = are t.0 }, valued_positive values terms are (All-tail (λ x. IsLowest x.1) t terms all))

pairs_positive : (values : ℕ → Ratio) (sum : List (RowParts × Ratio)) → AreValues values → AllByRecursion IsWeighted sum → AllByRecursion ArePositive (all_pairs values sum)
unfolding all_pairs
pairs_positive values [] are all = tt
pairs_positive values (r ∷ sum) are all = (
  record { left = all.0.weight; right = all.0.row.bound.positive },
  all_append ArePositive (valued values r.0.terms) (all_pairs values sum) (valued_positive values r.0.terms are all.0.row.coefficients) (pairs_positive values sum are all.1),
)

rows_divided : (d : ℕ) (values : ℕ → Ratio) (sum : List (RowParts × Ratio)) → AllByRecursion (DividesBoth d) (all_pairs values sum) → AllByRecursion (Divided d values) sum
unfolding all_pairs
rows_divided d values [] all = tt
rows_divided d values (r ∷ sum) all = (
  record { weight = all.0.left; bound = all.0.right; terms = all_front (DividesBoth d) (valued values r.0.terms) (all_pairs values sum) all.1 },
  rows_divided d values sum (all_back (DividesBoth d) (valued values r.0.terms) (all_pairs values sum) all.1),
)

-- what a row says of its sum, times its weight, in whole numbers
weighed : (relation : Relation) (bound total weight : Ratio) (b t : ℤ) (d e : ℕ) → 0 < e → 0 < bound.under → 0 < total.under → IsOver bound b e → IsOver total t e
    → Stands relation total bound → MayHave relation weight → (whole_over d weight *ℤ b) ≤ℤ (whole_over d weight *ℤ t)
weighed AtLeast bound total weight b t d e some bound_some total_some p q h (inl no_equation) = cc
weighed AtLeast bound total weight b t d e some bound_some total_some p q h (inr may) =
    times_le (whole_over d weight) b t (not_below d weight may) ((over_at_most bound total b t e some bound_some total_some p q).0 h)
weighed Above bound total weight b t d e some bound_some total_some p q h (inl no_equation) = cc
weighed Above bound total weight b t d e some bound_some total_some p q h (inr may) =
    times_le (whole_over d weight) b t (not_below d weight may) (less_at_most b t ((over_less bound total b t e some bound_some total_some p q).0 h))
weighed Equal bound total weight b t d e some bound_some total_some p q h may =
    same_at_most (whole_over d weight *ℤ b) (whole_over d weight *ℤ t) (ap (λ x. whole_over d weight *ℤ x) (sym ((over_same total bound t b e some total_some bound_some q p).0 h)))

weighed_strict : (relation : Relation) (bound total weight : Ratio) (b t : ℤ) (d e : ℕ) → 0 < d → 0 < e → 0 < bound.under → 0 < total.under → Divides d weight → IsOver bound b e → IsOver total t e
    → Stands relation total bound → relation ≡ Above → pos 0 <ℤ weight.over → (whole_over d weight *ℤ b) <ℤ (whole_over d weight *ℤ t)
weighed_strict Above bound total weight b t d e d_some some bound_some total_some divides p q h is positive =
    times_lt (whole_over d weight) b t (above d weight d_some divides positive) ((over_less bound total b t e some bound_some total_some p q).0 h)
weighed_strict AtLeast bound total weight b t d e d_some some bound_some total_some divides p q h is positive = cc
weighed_strict Equal bound total weight b t d e d_some some bound_some total_some divides p q h is positive = cc

-- the weighted bounds and sums of all rows, in whole numbers
unfoldable bounds_sum : ℕ → List (RowParts × Ratio) → ℤ
bounds_sum d [] = pos 0
bounds_sum d (r ∷ sum) = whole_over d r.1 *ℤ (whole_over d r.0.bound *ℤ pos d) +ℤ bounds_sum d sum

unfoldable sums_sum : ℕ → (ℕ → Ratio) → List (RowParts × Ratio) → ℤ
sums_sum d values [] = pos 0
sums_sum d values (r ∷ sum) = whole_over d r.1 *ℤ whole_sum d (valued values r.0.terms) +ℤ sums_sum d values sum

add_le : (a b x y : ℤ) → a ≤ℤ b → x ≤ℤ y → (a +ℤ x) ≤ℤ (b +ℤ y)
add_le a b x y p q = omega (arith, ints)

add_lt : (a b x y : ℤ) → a <ℤ b → x ≤ℤ y → (a +ℤ x) <ℤ (b +ℤ y)
add_lt a b x y p q = omega (arith, ints)

add_lt_right : (a b x y : ℤ) → a ≤ℤ b → x <ℤ y → (a +ℤ x) <ℤ (b +ℤ y)
add_lt_right a b x y p q = omega (arith, ints)

row_weighed : (d : ℕ) (values : ℕ → Ratio) (r : RowParts × Ratio) → 0 < d → Divided d values r → RowHolds r.0 values → MayWeigh r
    → (whole_over d r.1 *ℤ (whole_over d r.0.bound *ℤ pos d)) ≤ℤ (whole_over d r.1 *ℤ whole_sum d (valued values r.0.terms))
row_weighed d values r some divided holds may =
    let sum = sum_over d (valued values r.0.terms) divided.terms in
    let bound = over_scaled r.0.bound (whole_over d r.0.bound) d d (over_by d r.0.bound divided.bound) in
    weighed r.0.relation r.0.bound (sum_of_products (valued values r.0.terms)) r.1 (whole_over d r.0.bound *ℤ pos d) (whole_sum d (valued values r.0.terms)) d (d * d)
    (under_positive d d some some) divided.bound.positive sum.1 bound sum.0 holds may

row_strict : (d : ℕ) (values : ℕ → Ratio) (r : RowParts × Ratio) → 0 < d → Divided d values r → RowHolds r.0 values → IsStrict r
    → (whole_over d r.1 *ℤ (whole_over d r.0.bound *ℤ pos d)) <ℤ (whole_over d r.1 *ℤ whole_sum d (valued values r.0.terms))
row_strict d values r some divided holds strict =
    let sum = sum_over d (valued values r.0.terms) divided.terms in
    let bound = over_scaled r.0.bound (whole_over d r.0.bound) d d (over_by d r.0.bound divided.bound) in
    weighed_strict r.0.relation r.0.bound (sum_of_products (valued values r.0.terms)) r.1 (whole_over d r.0.bound *ℤ pos d) (whole_sum d (valued values r.0.terms)) d (d * d)
    some (under_positive d d some some) divided.bound.positive sum.1 divided.weight bound sum.0 holds strict.0 strict.1

all_weighed : (d : ℕ) (values : ℕ → Ratio) (sum : List (RowParts × Ratio)) → 0 < d → AllByRecursion (Divided d values) sum → AllByRecursion (λ r. RowHolds r.0 values) sum
    → AllByRecursion MayWeigh sum → bounds_sum d sum ≤ℤ sums_sum d values sum
unfolding bounds_sum sums_sum
all_weighed d values [] some divided holds may = same_at_most (pos 0) (pos 0) refl
all_weighed d values (r ∷ sum) some divided holds may =
    add_le (whole_over d r.1 *ℤ (whole_over d r.0.bound *ℤ pos d)) (whole_over d r.1 *ℤ whole_sum d (valued values r.0.terms)) (bounds_sum d sum) (sums_sum d values sum)
    (row_weighed d values r some divided.0 holds.0 may.0) (all_weighed d values sum some divided.1 holds.1 may.1)

-- a strict row by recursion
HasStrict : List (RowParts × Ratio) → Type 0
HasStrict [] = ⊥
HasStrict (r ∷ sum) = IsStrict r ⊎ HasStrict sum

has_strict : (sum : List (RowParts × Ratio)) (k : ℕ) (x : RowParts × Ratio) → k < length sum → get_or sum k x ≡ x → IsStrict x → HasStrict sum
unfolding HasStrict
has_strict [] k x inside is strict = absurd (omega (arith, inside))
has_strict (r ∷ sum) zero x inside is strict = inl (subst IsStrict (sym is) strict)
has_strict (r ∷ sum) (suc k) x inside is strict = inr (has_strict sum k x (omega (arith, inside)) is strict)

all_strict : (d : ℕ) (values : ℕ → Ratio) (sum : List (RowParts × Ratio)) → 0 < d → AllByRecursion (Divided d values) sum → AllByRecursion (λ r. RowHolds r.0 values) sum
    → AllByRecursion MayWeigh sum → HasStrict sum → bounds_sum d sum <ℤ sums_sum d values sum
unfolding bounds_sum sums_sum HasStrict
all_strict d values [] some divided holds may strict = absurd strict
all_strict d values (r ∷ sum) some divided holds may (inl strict) =
    add_lt (whole_over d r.1 *ℤ (whole_over d r.0.bound *ℤ pos d)) (whole_over d r.1 *ℤ whole_sum d (valued values r.0.terms)) (bounds_sum d sum) (sums_sum d values sum)
    (row_strict d values r some divided.0 holds.0 strict) (all_weighed d values sum some divided.1 holds.1 may.1)
all_strict d values (r ∷ sum) some divided holds may (inr strict) =
    add_lt_right (whole_over d r.1 *ℤ (whole_over d r.0.bound *ℤ pos d)) (whole_over d r.1 *ℤ whole_sum d (valued values r.0.terms)) (bounds_sum d sum) (sums_sum d values sum)
    (row_weighed d values r some divided.0 holds.0 may.0) (all_strict d values sum some divided.1 holds.1 may.1 strict)

-- the weighted bounds add up to what the sum of the bounds is
bounds_are : (d : ℕ) (sum : List (RowParts × Ratio)) → bounds_sum d sum ≡ whole_sum d (pairs_at Bound sum) *ℤ pos d
unfolding bounds_sum whole_sum
bounds_are d [] = sym (zero-*ℤ (pos d))
bounds_are d (r ∷ sum) =
    ap (λ x. x +ℤ bounds_sum d sum) (sym (mul_assoc (whole_over d r.1) (whole_over d r.0.bound) (pos d)))
    ∙ ap (λ y. whole_over d r.1 *ℤ whole_over d r.0.bound *ℤ pos d +ℤ y) (bounds_are d sum)
    ∙ sym (mul_distrib_right (whole_over d r.1 *ℤ whole_over d r.0.bound) (whole_sum d (pairs_at Bound sum)) (pos d))

-- the whole number of a column's coefficient, or 0 where it has none
abbrev part_number : ℕ → Option Ratio → ℤ
part_number d None = pos 0
part_number d (Some r) = whole_over d r

unfoldable number_at : ℕ → ℕ → List (ℕ × Ratio) → ℤ
number_at d column terms = part_number d (coefficient_at column terms)

eq_true : (n : ℕ) → (n == n) ≡ true
eq_true n = grind (arith, nat_tests)

ne_false : (m n : ℕ) → m ≢ n → (m == n) ≡ false
ne_false m n h = grind (arith, nat_tests)

number_first : (d : ℕ) (t : ℕ × Ratio) (terms : List (ℕ × Ratio)) → number_at d t.0 (t ∷ terms) ≡ whole_over d t.1
unfolding number_at
number_first d t terms = ap (λ b. part_number d (if b then Some t.1 else coefficient_at t.0 terms)) (eq_true t.0)

number_later : (d column : ℕ) (t : ℕ × Ratio) (terms : List (ℕ × Ratio)) → t.0 ≢ column → number_at d column (t ∷ terms) ≡ number_at d column terms
unfolding number_at
number_later d column t terms other = ap (λ b. part_number d (if b then Some t.1 else coefficient_at column terms)) (ne_false t.0 column other)

number_past : (d column from : ℕ) (terms : List (ℕ × Ratio)) → column < from → AreColumnsFrom from (columns_of terms) → number_at d column terms ≡ pos 0
unfolding number_at
number_past d column from [] below are = refl
number_past d column from (t ∷ terms) below are =
    let order = are.0 in
    let other : t.0 ≢ column = λ e. omega (arith, order) in
    ap (λ b. part_number d (if b then Some t.1 else coefficient_at column terms)) (ne_false t.0 column other) ∙ number_past d column (t.0 + 1) terms (omega (arith, order)) are.2

-- the sum of a row is the sum over all columns
row_range : (d n from : ℕ) (values : ℕ → Ratio) (terms : List (ℕ × Ratio)) → AreColumnsFrom from (columns_of terms) → AllByRecursion (λ c. c < n) (columns_of terms)
    → whole_sum d (valued values terms) ≡ range_sum n (λ j. number_at d j terms *ℤ whole_over d (values j))
unfolding whole_sum number_at
row_range d n from values [] are below = sym (range_zero n (λ j. number_at d j [] *ℤ whole_over d (values j)) (λ j h. no_number d j values))
  where
    no_number : (d j : ℕ) (values : ℕ → Ratio) → number_at d j [] *ℤ whole_over d (values j) ≡ pos 0
    no_number d j values = zero-*ℤ (whole_over d (values j))
row_range d n from values (t ∷ terms) are below =
    ap (λ x. whole_over d t.1 *ℤ whole_over d (values t.0) +ℤ x) (row_range d n (t.0 + 1) values terms are.2 below.1)
    ∙ sym (range_point (λ j. number_at d j (t ∷ terms) *ℤ whole_over d (values j)) (λ j. number_at d j terms *ℤ whole_over d (values j)) t.0
    (whole_over d t.1 *ℤ whole_over d (values t.0))
    (λ j other. ap (λ x. x *ℤ whole_over d (values j)) (number_later d j t terms (λ e. other (sym e))))
    (ap (λ x. x *ℤ whole_over d (values t.0)) (number_first d t terms))
    (ap (λ x. x *ℤ whole_over d (values t.0)) (number_past d t.0 (t.0 + 1) terms (omega arith) are.2) ∙ zero-*ℤ (whole_over d (values t.0)))
    n below.0)

column_step : (d j : ℕ) (r : RowParts × Ratio) (sum : List (RowParts × Ratio)) (o : Option Ratio) → coefficient_at j r.0.terms ≡ o
    → whole_sum d (pairs_at (Column j) (r ∷ sum)) ≡ whole_over d r.1 *ℤ part_number d o +ℤ whole_sum d (pairs_at (Column j) sum)
unfolding whole_sum
column_step d j r sum None is = rw is (none_added (whole_over d r.1) (whole_sum d (pairs_at (Column j) sum)))
  where
    none_added : (w s : ℤ) → s ≡ w *ℤ pos 0 +ℤ s
    none_added w s = let e : w *ℤ pos 0 ≡ pos 0 = *ℤ_comm w (pos 0) ∙ zero-*ℤ w in omega (arith, ints, e)
column_step d j r sum (Some c) is = rw is refl

distributed : (w c s x : ℤ) → (w *ℤ c +ℤ s) *ℤ x ≡ w *ℤ (c *ℤ x) +ℤ s *ℤ x
distributed w c s x = mul_distrib_right (w *ℤ c) s x ∙ ap (λ y. y +ℤ s *ℤ x) (mul_assoc w c x)

-- all rows' weighted sums are a sum over all columns of what each column adds up to
sums_range : (d n : ℕ) (values : ℕ → Ratio) (sum : List (RowParts × Ratio)) → AllByRecursion IsWeighted sum → AllByRecursion (λ c. c < n) (columns_in (map (λ r. r.0) sum))
    → sums_sum d values sum ≡ range_sum n (λ j. whole_sum d (pairs_at (Column j) sum) *ℤ whole_over d (values j))
unfolding sums_sum whole_sum number_at
sums_range d n values [] all below = sym (range_zero n (λ j. whole_sum d (pairs_at (Column j) []) *ℤ whole_over d (values j)) (λ j h. no_pairs d j values))
  where
    no_pairs : (d j : ℕ) (values : ℕ → Ratio) → whole_sum d (pairs_at (Column j) []) *ℤ whole_over d (values j) ≡ pos 0
    no_pairs d j values = zero-*ℤ (whole_over d (values j))
sums_range d n values (r ∷ sum) all below =
    ap (λ x. whole_over d r.1 *ℤ x +ℤ sums_sum d values sum)
    (row_range d n 0 values r.0.terms all.0.row.columns (all_front (λ c. c < n) (columns_of r.0.terms) (columns_in (map (λ x. x.0) sum)) below))
    ∙ ap (λ x. whole_over d r.1 *ℤ range_sum n (λ j. number_at d j r.0.terms *ℤ whole_over d (values j)) +ℤ x)
    (sums_range d n values sum all.1 (all_back (λ c. c < n) (columns_of r.0.terms) (columns_in (map (λ x. x.0) sum)) below))
    ∙ sym (range_linear n (whole_over d r.1) (λ j. number_at d j r.0.terms *ℤ whole_over d (values j))
    (λ j. whole_sum d (pairs_at (Column j) sum) *ℤ whole_over d (values j)) (λ j. whole_sum d (pairs_at (Column j) (r ∷ sum)) *ℤ whole_over d (values j))
    (λ j. stepped d j values r sum))
  where
    stepped : (d j : ℕ) (values : ℕ → Ratio) (r : RowParts × Ratio) (sum : List (RowParts × Ratio))
        → whole_sum d (pairs_at (Column j) (r ∷ sum)) *ℤ whole_over d (values j)
        ≡ whole_over d r.1 *ℤ (number_at d j r.0.terms *ℤ whole_over d (values j)) +ℤ whole_sum d (pairs_at (Column j) sum) *ℤ whole_over d (values j)
    stepped d j values r sum =
        ap (λ x. x *ℤ whole_over d (values j)) (column_step d j r sum (coefficient_at j r.0.terms) refl)
        ∙ distributed (whole_over d r.1) (part_number d (coefficient_at j r.0.terms)) (whole_sum d (pairs_at (Column j) sum)) (whole_over d (values j))

divided_by : (d : ℕ) (first c : Ratio) (others : Option Ratio) (test : Bool) → Divides d first → (others ≡ Some c → Divides d c) → (if test then Some first else others) ≡ Some c → Divides d c
divided_by d first c others true here later e = let same : first ≡ c = cc in subst (Divides d) same here
divided_by d first c others false here later e = later e

coefficient_divided : (d column : ℕ) (values : ℕ → Ratio) (terms : List (ℕ × Ratio)) (c : Ratio) → AllByRecursion (DividesBoth d) (valued values terms)
    → coefficient_at column terms ≡ Some c → Divides d c
coefficient_divided d column values [] c all is = cc
coefficient_divided d column values (t ∷ terms) c all is =
    divided_by d t.1 c (coefficient_at column terms) (t.0 == column) all.0.left (coefficient_divided d column values terms c all.1) is

pairs_with : (d : ℕ) (place : Place) (r : RowParts × Ratio) (sum : List (RowParts × Ratio)) (o : Option Ratio) → part_of place r.0 ≡ o → Divides d r.1
    → ((c : Ratio) → o ≡ Some c → Divides d c) → AllByRecursion (DividesBoth d) (pairs_at place sum) → AllByRecursion (DividesBoth d) (pairs_at place (r ∷ sum))
pairs_with d place r sum None is weight parts rest = rw is rest
pairs_with d place r sum (Some c) is weight parts rest = rw is (record { left = weight; right = parts c refl }, rest)

part_divided : (d : ℕ) (values : ℕ → Ratio) (place : Place) (r : RowParts × Ratio) → Divided d values r → (c : Ratio) → part_of place r.0 ≡ Some c → Divides d c
part_divided d values (Column j) r divided c is = coefficient_divided d j values r.0.terms c divided.terms is
part_divided d values Bound r divided c is = let same : r.0.bound ≡ c = cc in subst (Divides d) same divided.bound

pairs_divided : (d : ℕ) (values : ℕ → Ratio) (place : Place) (sum : List (RowParts × Ratio)) → AllByRecursion (Divided d values) sum → AllByRecursion (DividesBoth d) (pairs_at place sum)
pairs_divided d values place [] all = tt
pairs_divided d values place (r ∷ sum) all =
    pairs_with d place r sum (part_of place r.0) refl all.0.weight (part_divided d values place r all.0) (pairs_divided d values place sum all.1)

recursion_below : (columns : List ℕ) (n : ℕ) → All (λ c. c < n) columns → AllByRecursion (λ c. c < n) columns
recursion_below columns n all = recursion_from_All (λ c. c < n) columns all

not_both : (x y : ℤ) → x ≤ℤ y → y ≡ pos 0 → pos 0 <ℤ x → ⊥
not_both x y l e p = omega (arith, ints)

not_less : (x y : ℤ) → x <ℤ y → y ≡ pos 0 → x ≡ pos 0 → ⊥
not_less x y l e p = omega (arith, ints)

times_above : (x : ℤ) (d : ℕ) → 0 < d → pos 0 <ℤ x → pos 0 <ℤ (x *ℤ pos d)
times_above x d some h = subst (λ t. t <ℤ (x *ℤ pos d)) (zero-*ℤ (pos d)) (mul_lt (pos 0) x d some h)

-- no values meet all rows of a false sum
pub false_sum_fails : (sum : List (RowParts × Ratio)) → AllByRecursion IsWeighted sum → IsFalseSum sum → (values : ℕ → Ratio) → AreValues values
    → AllByRecursion (λ r. RowHolds r.0 values) sum → ⊥
false_sum_fails sum all false_sum values are holds =
    let common = common_divided (all_pairs values sum) (pairs_positive values sum are all) in
    let d : ℕ = common.0 in
    let some : 0 < d = common.1 in
    let divided = rows_divided d values sum common.2 in
    let may = recursion_from_All MayWeigh sum false_sum.weights in
    let columns : List ℕ = columns_in (map (λ r. r.0) sum) in
    let n : ℕ = end_of columns in
    let zero_at : (j : ℕ) → j < n → whole_sum d (pairs_at (Column j) sum) *ℤ whole_over d (values j) ≡ pos 0 =
    λ j h. let total = sum_over d (pairs_at (Column j) sum) (pairs_divided d values (Column j) sum divided) in
    ap (λ x. x *ℤ whole_over d (values j)) (zero_over (sum_of_products (pairs_at (Column j) sum)) (whole_sum d (pairs_at (Column j) sum)) (d * d) total.1 total.0 (false_sum.columns j))
    ∙ zero-*ℤ (whole_over d (values j)) in
    let none : sums_sum d values sum ≡ pos 0 =
    sums_range d n values sum all (recursion_below columns n (below_end columns)) ∙ range_zero n (λ j. whole_sum d (pairs_at (Column j) sum) *ℤ whole_over d (values j)) zero_at in
    let bound = sum_over d (pairs_at Bound sum) (pairs_divided d values Bound sum divided) in
    let whole : ℤ = whole_sum d (pairs_at Bound sum) in
    elim false_sum.bounds [
      | inl more ↦
          not_both (bounds_sum d sum) (sums_sum d values sum) (all_weighed d values sum some divided holds may) none
          (subst (λ x. pos 0 <ℤ x) (sym (bounds_are d sum))
          (times_above whole d some (above_over (sum_of_products (pairs_at Bound sum)) whole (d * d) (under_positive d d some some) bound.0 more)))
      | inr strict ↦
          not_less (bounds_sum d sum) (sums_sum d values sum) (all_strict d values sum some divided holds may (strict_at strict.1)) none
          (bounds_are d sum ∙ ap (λ x. x *ℤ pos d) (zero_over (sum_of_products (pairs_at Bound sum)) whole (d * d) bound.1 bound.0 strict.0) ∙ zero-*ℤ (pos d))
    ]
  where
    strict_at : Any IsStrict sum → HasStrict sum
    strict_at (k, x, inside, is, strict) = has_strict sum k x inside is strict

pub false_sums_fail : FalseSumsFail
false_sums_fail sum weighted is values are hold =
    false_sum_fails sum (recursion_from_All IsWeighted sum weighted) is values are (recursion_from_All (λ r. RowHolds r.0 values) sum hold)
