-- Signs of fractions, of their sums and of their products.
use Rattle.std.proofs.Math.IntN.{zero-*ℤ, pos-*ℤ-pos}
use Rattle.std.proofs.Common.{◌≡◌, ◌⊎◌, ◌*◌, ◌<◌, arith, pos, negsuc, neg_ℤ, ◌+ℤ◌, ◌*ℤ◌, ◌<ℤ◌, ◌≤ℤ◌, ap, sym, ◌∙◌, subst, inl, inr, ℕ, ℤ}
use Rattle.std.proofs.lemmas.Int.{ints}
use Rattle.std.specs.Ordering.{MatchOrdering, int_cmp}
use Rattle.std.specs.Cmp.{int_ranks}
use Rattle.std.specs.declared.cmp.Ordering.{Ordering}
use Rattle.std.specs.declared.cmp.Ordering.TheVariants.{Less, Equal, Greater}
use Rattle.bt_frac.specs.Ratio.{Ratio, SameRatio, IsLess, IsAtMost, negated}
use Rattle.bt_frac.specs.Values.{plus, times}
use Rattle.bt_frac.proofs.Order.{mul_lt, mul_le, lt_from_mul, le_from_mul, mul_cancel}
use Rattle.bt_frac.proofs.Ring.{neg_mul, products, turn_last}
use Rattle.bt_farkas.proofs.SameNumbers.{above_same}
use Rattle.bt_linear_forms.proofs.Numbers.{Positive, Alike, alike}

-- the number is above 0, and it isn't below 0
abbrev pub IsAbove : Ratio → Type 0
IsAbove a = pos 0 <ℤ a.over

abbrev pub IsNotBelow : Ratio → Type 0
IsNotBelow a = pos 0 ≤ℤ a.over

-- an integer times a positive one
scaled_above : (x : ℤ) (n : ℕ) → 0 < n → pos 0 <ℤ x → pos 0 <ℤ (x *ℤ pos n)
scaled_above x n some h = subst (λ z. z <ℤ (x *ℤ pos n)) (zero-*ℤ (pos n)) (mul_lt (pos 0) x n some h)

scaled_not_below : (x : ℤ) (n : ℕ) → pos 0 ≤ℤ x → pos 0 ≤ℤ (x *ℤ pos n)
scaled_not_below x n h = subst (λ z. z ≤ℤ (x *ℤ pos n)) (zero-*ℤ (pos n)) (mul_le (pos 0) x n h)

pub above_plus : (a b : Ratio) → Positive a → Positive b → IsAbove a → IsNotBelow b → IsAbove (plus a b)
above_plus a b p q h k = sum (a.over *ℤ pos b.under) (b.over *ℤ pos a.under) (scaled_above a.over b.under q h) (scaled_not_below b.over a.under k)
  where
    sum : (x y : ℤ) → pos 0 <ℤ x → pos 0 ≤ℤ y → pos 0 <ℤ (x +ℤ y)
    sum x y h k = omega (arith, ints)

pub not_below_plus : (a b : Ratio) → Positive a → Positive b → IsNotBelow a → IsNotBelow b → IsNotBelow (plus a b)
not_below_plus a b p q h k = sum (a.over *ℤ pos b.under) (b.over *ℤ pos a.under) (scaled_not_below a.over b.under h) (scaled_not_below b.over a.under k)
  where
    sum : (x y : ℤ) → pos 0 ≤ℤ x → pos 0 ≤ℤ y → pos 0 ≤ℤ (x +ℤ y)
    sum x y h k = omega (arith, ints)

-- a product of numbers above 0
pub above_times : (a b : Ratio) → IsAbove a → IsAbove b → IsAbove (times a b)
above_times a b h k = product a.over b.over h k
  where
    product : (x y : ℤ) → pos 0 <ℤ x → pos 0 <ℤ y → pos 0 <ℤ (x *ℤ y)
    product x (pos n) h k = scaled_above x n (omega (arith, ints)) h
    product x (negsuc n) h k = absurd (omega (arith, ints))

pub not_below_times : (a b : Ratio) → IsAbove a → IsNotBelow b → IsNotBelow (times a b)
not_below_times a b h k = product a.over b.over h k
  where
    product : (x y : ℤ) → pos 0 <ℤ x → pos 0 ≤ℤ y → pos 0 ≤ℤ (x *ℤ y)
    product x (pos n) h k = scaled_not_below x n (omega (arith, ints))
    product x (negsuc n) h k = absurd (omega (arith, ints))

-- the other factor of a product above 0
pub above_factor : (a b : Ratio) → IsAbove (times a b) → IsAbove b → IsAbove a
above_factor a b h k = factor a.over b.over h k
  where
    factor : (x y : ℤ) → pos 0 <ℤ (x *ℤ y) → pos 0 <ℤ y → pos 0 <ℤ x
    factor x (pos n) h k = lt_from_mul (pos 0) x n (subst (λ z. z <ℤ (x *ℤ pos n)) (sym (zero-*ℤ (pos n))) h)
    factor x (negsuc n) h k = absurd (omega (arith, ints))

-- a factor above 0 is cancelled
pub times_cancel : (a b k : Ratio) → Positive a → Positive b → Positive k → IsAbove k → Alike (times a k) (times b k) → Alike a b
times_cancel a b k p q r above same = alike a b p q (parts k.over above same.same)
  where
    moved : (x n u v : ℤ) → x *ℤ n *ℤ (u *ℤ v) ≡ x *ℤ u *ℤ n *ℤ v
    moved x n u v = simp products

    opened : (x : ℤ) (n : ℤ) (u v : ℕ) → x *ℤ n *ℤ pos (u * v) ≡ x *ℤ pos u *ℤ n *ℤ pos v
    opened x n u v = ap (λ t. x *ℤ n *ℤ t) (sym (pos-*ℤ-pos u v)) ∙ moved x n (pos u) (pos v)

    parts : (z : ℤ) → pos 0 <ℤ z → a.over *ℤ z *ℤ pos (b.under * k.under) ≡ b.over *ℤ z *ℤ pos (a.under * k.under) → a.over *ℤ pos b.under ≡ b.over *ℤ pos a.under
    parts (pos n) h e =
        let first = sym (opened a.over (pos n) b.under k.under) ∙ e ∙ opened b.over (pos n) a.under k.under in
        mul_cancel (a.over *ℤ pos b.under) (b.over *ℤ pos a.under) n (omega (arith, ints))
        (mul_cancel (a.over *ℤ pos b.under *ℤ pos n) (b.over *ℤ pos a.under *ℤ pos n) k.under r first)
    parts (negsuc n) h e = absurd (omega (arith, ints))

-- the order of two numbers is the sign of their difference
pub less_of : (a b : Ratio) → IsAbove (plus b (negated a)) → IsLess a b
less_of a b h = order (a.over *ℤ pos b.under) (b.over *ℤ pos a.under) (subst (λ t. pos 0 <ℤ (b.over *ℤ pos a.under +ℤ t)) (neg_mul a.over (pos b.under)) h)
  where
    order : (x y : ℤ) → pos 0 <ℤ (y +ℤ neg_ℤ x) → x <ℤ y
    order x y h = omega (arith, ints)

pub of_less : (a b : Ratio) → IsLess a b → IsAbove (plus b (negated a))
of_less a b h = subst (λ t. pos 0 <ℤ (b.over *ℤ pos a.under +ℤ t)) (sym (neg_mul a.over (pos b.under))) (order (a.over *ℤ pos b.under) (b.over *ℤ pos a.under) h)
  where
    order : (x y : ℤ) → x <ℤ y → pos 0 <ℤ (y +ℤ neg_ℤ x)
    order x y h = omega (arith, ints)

pub at_most_of : (a b : Ratio) → IsNotBelow (plus b (negated a)) → IsAtMost a b
at_most_of a b h = order (a.over *ℤ pos b.under) (b.over *ℤ pos a.under) (subst (λ t. pos 0 ≤ℤ (b.over *ℤ pos a.under +ℤ t)) (neg_mul a.over (pos b.under)) h)
  where
    order : (x y : ℤ) → pos 0 ≤ℤ (y +ℤ neg_ℤ x) → x ≤ℤ y
    order x y h = omega (arith, ints)

pub of_at_most : (a b : Ratio) → IsAtMost a b → IsNotBelow (plus b (negated a))
of_at_most a b h = subst (λ t. pos 0 ≤ℤ (b.over *ℤ pos a.under +ℤ t)) (sym (neg_mul a.over (pos b.under))) (order (a.over *ℤ pos b.under) (b.over *ℤ pos a.under) h)
  where
    order : (x y : ℤ) → x ≤ℤ y → pos 0 ≤ℤ (y +ℤ neg_ℤ x)
    order x y h = omega (arith, ints)

-- the same number has the same sign
pub above_by : {a b : Ratio} → Alike a b → IsAbove a → IsAbove b
above_by {a} {b} h above = (above_same a b h.left h.right h.same).0 above

pub not_below_by : {a b : Ratio} → Alike a b → IsNotBelow a → IsNotBelow b
not_below_by {a} {b} h k = from b.over (λ low. against a.over k ((above_same (negated b) (negated a) h.right h.left (flip h.same)).0 low))
  where
    from : (z : ℤ) → (pos 0 <ℤ neg_ℤ z → ⊥) → pos 0 ≤ℤ z
    from (pos n) h = omega (arith, ints)
    from (negsuc n) h = absurd (h (omega (arith, ints)))

    against : (z : ℤ) → pos 0 ≤ℤ z → pos 0 <ℤ neg_ℤ z → ⊥
    against z h k = omega (arith, ints)

    flip : SameRatio a b → SameRatio (negated b) (negated a)
    flip e = neg_mul b.over (pos a.under) ∙ ap neg_ℤ (sym e) ∙ sym (neg_mul a.over (pos b.under))

pub at_most_trans : (a b c : Ratio) → Positive b → IsAtMost a b → IsAtMost b c → IsAtMost a c
at_most_trans a b c some h k =
    le_from_mul (a.over *ℤ pos c.under) (c.over *ℤ pos a.under) b.under some
    (both (a.over *ℤ pos c.under *ℤ pos b.under) (b.over *ℤ pos a.under *ℤ pos c.under) (c.over *ℤ pos a.under *ℤ pos b.under)
    (subst (λ t. t ≤ℤ (b.over *ℤ pos a.under *ℤ pos c.under)) (turn_last a.over (pos b.under) (pos c.under)) (mul_le (a.over *ℤ pos b.under) (b.over *ℤ pos a.under) c.under h))
    (subst (λ t. t ≤ℤ (c.over *ℤ pos a.under *ℤ pos b.under)) (turn_last b.over (pos c.under) (pos a.under))
    (subst (λ t. (b.over *ℤ pos c.under *ℤ pos a.under) ≤ℤ t) (turn_last c.over (pos b.under) (pos a.under)) (mul_le (b.over *ℤ pos c.under) (c.over *ℤ pos b.under) a.under k))))
  where
    both : (x y z : ℤ) → x ≤ℤ y → y ≤ℤ z → x ≤ℤ z
    both x y z h k = omega (arith, ints)

pub less_at_most : (a b : Ratio) → IsLess a b → IsAtMost a b
less_at_most a b h = order (a.over *ℤ pos b.under) (b.over *ℤ pos a.under) h
  where
    order : (x y : ℤ) → x <ℤ y → x ≤ℤ y
    order x y h = omega (arith, ints)

-- two numbers are less, the same or greater
pub compared : (a b : Ratio) → IsLess a b ⊎ (SameRatio a b ⊎ IsLess b a)
compared a b = order (a.over *ℤ pos b.under) (b.over *ℤ pos a.under)
  where
    order : (x y : ℤ) → (x <ℤ y) ⊎ ((x ≡ y) ⊎ (y <ℤ x))
    order x y = at (int_cmp x y) (int_ranks x y)
      where
        at : (o : Ordering) → MatchOrdering o (x <ℤ y) (x ≡ y) (y <ℤ x) → (x <ℤ y) ⊎ ((x ≡ y) ⊎ (y <ℤ x))
        at Less h = inl h
        at Equal h = inr (inl h)
        at Greater h = inr (inr h)
