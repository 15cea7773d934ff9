-- A column that has the value of a form, number included, reaches the number of what is compared of both.
use Rattle.std.proofs.Common.{◌≡◌, ℕ, ◌*◌, ◌<◌, ◌≤◌, ℤ, pos, ◌+ℤ◌, ◌*ℤ◌, neg_ℤ, ◌≤ℤ◌, List, [], ◌∷◌, ◌++◌, ap, sym, ◌∙◌, refl, subst, arith}
use Rattle.std.proofs.lemmas.Int.{ints}
use Rattle.std.proofs.lemmas.List.{map-append}
use Rattle.std.proofs.Math.IntN.{*ℤ_comm, *ℤ-one, pos-*ℤ-pos, neg_ℤ-neg_ℤ}
use Rattle.bt_frac.specs.Ratio.{Ratio, SameRatio, IsAtMost, negated}
use Rattle.bt_frac.specs.Rows.{columns_of, end_of}
use Rattle.bt_frac.specs.Values.{nothing, plus, times, sum_of_products, valued, RowHolds}
use Rattle.bt_frac.proofs.Ring.{neg_mul, mul_assoc, mul_distrib_right, products, sums, add_comm}
use Rattle.bt_extend.specs.Forms.{FormParts, turned, unit, reached, column_less, less_column}
use Rattle.bt_extend.proofs.Opposites.{same_parts, sum_turned}
use Rattle.bt_extend.proofs.SameOn.{valued_same}

one_times : (x : ℤ) → pos 1 *ℤ x ≡ x
unfolding lib.IntN.one
one_times x = *ℤ_comm (pos 1) x ∙ *ℤ-one x

unit_times : (r : Ratio) → times unit r ≡ r
unit_times r = same_parts (times unit r) r (one_times r.over) (omega arith)

swapped : (a b : ℤ) (m n : ℕ) → a *ℤ pos n +ℤ b *ℤ pos m ≡ b *ℤ pos m +ℤ a *ℤ pos n
swapped a b m n = add_comm (a *ℤ pos n) (b *ℤ pos m)

plus_comm : (a b : Ratio) → plus a b ≡ plus b a
plus_comm a b = same_parts (plus a b) (plus b a) (swapped a.over b.over a.under b.under) (omega arith)

thirds : (a b c x y z : ℤ) → a *ℤ (y *ℤ z) +ℤ (b *ℤ z +ℤ c *ℤ y) *ℤ x ≡ (a *ℤ y +ℤ b *ℤ x) *ℤ z +ℤ c *ℤ (x *ℤ y)
thirds a b c x y z = simp (products, sums)

plus_assoc : (a b c : Ratio) → plus a (plus b c) ≡ plus (plus a b) c
plus_assoc a b c =
    let x = pos a.under in
    let y = pos b.under in
    let z = pos c.under in
    same_parts (plus a (plus b c)) (plus (plus a b) c)
    (ap (λ t. a.over *ℤ t +ℤ (b.over *ℤ z +ℤ c.over *ℤ y) *ℤ x) (sym (pos-*ℤ-pos b.under c.under))
    ∙ thirds a.over b.over c.over x y z
    ∙ ap (λ t. (a.over *ℤ y +ℤ b.over *ℤ x) *ℤ z +ℤ c.over *ℤ t) (pos-*ℤ-pos a.under b.under))
    (omega arith)

-- one more term
sum_push : (values : ℕ → Ratio) (terms : List (ℕ × Ratio)) (column : ℕ) (coefficient : Ratio)
    → sum_of_products (valued values (terms ++ (column, coefficient) ∷ [])) ≡ plus (sum_of_products (valued values terms)) (times coefficient (values column))
sum_push values [] column coefficient = plus_comm (times coefficient (values column)) nothing
sum_push values (t ∷ terms) column coefficient =
    ap (plus (times t.1 (values t.0))) (sum_push values terms column coefficient)
    ∙ plus_assoc (times t.1 (values t.0)) (sum_of_products (valued values terms)) (times coefficient (values column))

cancel : (x y z : ℤ) → x ≡ z → neg_ℤ x +ℤ (y +ℤ z) ≡ y
cancel x y z e = omega (arith, ints)

-- a fraction and a sum, less the sum, is the fraction
sum_back : (a s : Ratio) → SameRatio (plus (negated s) (plus a s)) a
sum_back a s =
    let u = pos a.under in
    let v = pos s.under in
    let over : neg_ℤ s.over *ℤ pos (a.under * s.under) +ℤ (a.over *ℤ v +ℤ s.over *ℤ u) *ℤ v ≡ a.over *ℤ v *ℤ v =
    ap (λ z. z +ℤ (a.over *ℤ v +ℤ s.over *ℤ u) *ℤ v) (neg_mul s.over (pos (a.under * s.under)))
    ∙ ap (λ z. neg_ℤ (s.over *ℤ pos (a.under * s.under)) +ℤ z) (mul_distrib_right (a.over *ℤ v) (s.over *ℤ u) v)
    ∙ cancel (s.over *ℤ pos (a.under * s.under)) (a.over *ℤ v *ℤ v) (s.over *ℤ u *ℤ v)
    (ap (λ z. s.over *ℤ z) (sym (pos-*ℤ-pos a.under s.under)) ∙ sym (mul_assoc s.over u v)) in
    ap (λ z. z *ℤ u) over ∙ turned_product a.over u v
    ∙ ap (λ z. a.over *ℤ z) (ap (λ t. v *ℤ t) (pos-*ℤ-pos a.under s.under) ∙ pos-*ℤ-pos s.under (a.under * s.under))
  where
    turned_product : (a u v : ℤ) → a *ℤ v *ℤ v *ℤ u ≡ a *ℤ (v *ℤ (u *ℤ v))
    turned_product a u v = simp products

same_at_most : (x y : ℤ) → x ≡ y → y ≤ℤ x
same_at_most x y e = omega (arith, ints)

turned_twice : (terms : List (ℕ × Ratio)) → turned (turned terms) ≡ terms
turned_twice [] = refl
turned_twice (t ∷ terms) =
    ap (λ z. (t.0, record { over = z; under = t.1.under }) ∷ turned (turned terms)) (neg_ℤ-neg_ℤ t.1.over)
    ∙ ap (λ ts. t ∷ ts) (turned_twice terms)

-- a form, number included
abbrev pub total : (ℕ → Ratio) → FormParts → Ratio
total values form = plus form.constant (sum_of_products (valued values form.terms))

module _ (values others : ℕ → Ratio) (column : ℕ) (form : FormParts) (within : end_of (columns_of form.terms) ≤ column)
    (same : (c : ℕ) → c < column → others c ≡ values c) (is : others column ≡ total values form) where
  same_sum : sum_of_products (valued others form.terms) ≡ sum_of_products (valued values form.terms)
  same_sum = ap sum_of_products (valued_same values others column form.terms same within)

  -- the column less the terms is the number
  less_sum : SameRatio (sum_of_products (valued others (column_less column form).terms)) form.constant
  less_sum =
      let s = sum_of_products (valued values form.terms) in
      let sum_is : sum_of_products (valued others (column_less column form).terms) ≡ plus (negated s) (plus form.constant s) =
      sum_push others (turned form.terms) column unit
      ∙ ap (λ r. plus r (times unit (others column))) (sum_turned others form.terms ∙ ap negated same_sum)
      ∙ ap (plus (negated s)) (unit_times (others column) ∙ is) in
      subst (λ r. SameRatio r form.constant) (sym sum_is) (sum_back form.constant s)

  pub column_reached : RowHolds (reached (column_less column form)) others
  column_reached =
      let sum = sum_of_products (valued others (column_less column form).terms) in
      same_at_most (sum.over *ℤ pos form.constant.under) (form.constant.over *ℤ pos sum.under) less_sum

  turned_is : turned (column_less column form).terms ≡ (less_column column form).terms
  turned_is = map-append (λ t. (t.0, negated t.1)) (turned form.terms) ((column, unit) ∷ []) ∙ ap (λ ts. ts ++ (column, negated unit) ∷ []) (turned_twice form.terms)

  pub column_missed : RowHolds (reached (less_column column form)) others
  column_missed =
      let sum = sum_of_products (valued others (column_less column form).terms) in
      let bound = form.constant in
      let sum_is : sum_of_products (valued others (less_column column form).terms) ≡ negated sum =
      ap (λ ts. sum_of_products (valued others ts)) (sym turned_is) ∙ sum_turned others (column_less column form).terms in
      subst (λ r. IsAtMost (negated bound) r) (sym sum_is)
      (same_at_most (neg_ℤ sum.over *ℤ pos bound.under) (neg_ℤ bound.over *ℤ pos sum.under)
      (neg_mul sum.over (pos bound.under) ∙ ap neg_ℤ less_sum ∙ sym (neg_mul bound.over (pos sum.under))))
