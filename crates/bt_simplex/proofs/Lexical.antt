-- Sums of products that stand at 0 or above it, by value and then by the infinitesimal.
use Rattle.std.proofs.Math.IntN.{zero-*ℤ}
use Rattle.std.proofs.Common.{◌≡◌, ◌⊎◌, inl, inr, zero, suc, ◌*◌, arith, pos, negsuc, neg_ℤ, ◌<ℤ◌, ◌≤ℤ◌, ◌+ℤ◌, ◌*ℤ◌, ◌∷◌, ap, sym, ◌∙◌, refl, subst, ℕ, ℤ, []}
use Rattle.std.specs.List.{All}
use Rattle.std.proofs.lemmas.Int.{ints}
use Rattle.std.proofs.lemmas.List.Elements.{All-head, All-tail}
use Rattle.bt_frac.proofs.Order.{mul_lt, lt_from_mul}
use Rattle.bt_frac.proofs.Ring.{neg_mul, mul_neg, turn_last}
use Rattle.bt_frac.specs.Deltas.{IsLessDelta, SameDelta}
use Rattle.bt_frac.specs.Ratio.{Ratio, SameRatio, IsLess, negated}
use Rattle.bt_frac.specs.Values.{AreValues, nothing, plus, times}
use Rattle.bt_frac.specs.declared.delta.Delta.{Delta}
use Rattle.bt_farkas.proofs.SameNumbers.{same_trans}
use Rattle.bt_linear_forms.specs.Lines.{Terms, HasNumber, total}
use Rattle.bt_pivot.proofs.Failing.{less_left, less_right, less_delta_right}
use Rattle.bt_linear_forms.proofs.Indicators.{over_zero_of}
use Rattle.bt_linear_forms.proofs.Numbers.{negated_plus, Positive, Alike, back, next, both_plus, swap_plus, pair_plus, plus_positive, times_positive, times_zero, spread, nothing_some, differ_none, none_differ, drop_zero}
use Rattle.bt_simplex.proofs.Signs.{IsAbove, IsNotBelow, above_plus, above_times, not_below_plus, not_below_times, above_by, not_below_by, less_of, of_less, at_most_of, compared}
use Rattle.bt_linear_forms.proofs.Totals.{total_positive}

-- the first number is above 0, or it is 0 and the second isn't below 0
abbrev pub IsUp : Ratio → Ratio → Type 0
IsUp x y = IsAbove x ⊎ ((x.over ≡ pos 0) × IsNotBelow y)

above_not_below : (a : Ratio) → IsAbove a → IsNotBelow a
above_not_below a h = at a.over h
  where
    at : (x : ℤ) → pos 0 <ℤ x → pos 0 ≤ℤ x
    at x h = omega (arith, ints)

zero_not_below : (a : Ratio) → a.over ≡ pos 0 → IsNotBelow a
zero_not_below a h = at a.over h
  where
    at : (x : ℤ) → x ≡ pos 0 → pos 0 ≤ℤ x
    at x h = omega (arith, ints)

zero_plus_zero : (a b : Ratio) → a.over ≡ pos 0 → b.over ≡ pos 0 → (plus a b).over ≡ pos 0
zero_plus_zero a b h k = ap (λ z. z *ℤ pos b.under +ℤ b.over *ℤ pos a.under) h ∙ ap (λ z. pos 0 *ℤ pos b.under +ℤ z *ℤ pos a.under) k ∙ ap (λ z. z +ℤ pos 0 *ℤ pos a.under) (zero-*ℤ (pos b.under)) ∙ ap (λ z. pos 0 +ℤ z) (zero-*ℤ (pos a.under)) ∙ none
  where
    none : pos 0 +ℤ pos 0 ≡ pos 0
    none = omega (arith, ints)

-- sums of such
up_plus : (x y x' y' : Ratio) → Positive x → Positive y → Positive x' → Positive y' → IsUp x y → IsUp x' y' → IsUp (plus x x') (plus y y')
up_plus x y x' y' p q p' q' (inl h) (inl k) = inl (above_plus x x' p p' h (above_not_below x' k))
up_plus x y x' y' p q p' q' (inl h) (inr (e, k)) = inl (above_plus x x' p p' h (zero_not_below x' e))
up_plus x y x' y' p q p' q' (inr (e, h)) (inl k) = inl (above_by (swap_plus x' x p' p) (above_plus x' x p' p k (zero_not_below x e)))
up_plus x y x' y' p q p' q' (inr (e, h)) (inr (f, k)) = inr (zero_plus_zero x x' e f, not_below_plus y y' q q' h k)

pub up_total : (at at' : ℕ → Ratio) → AreValues at → AreValues at' → (terms : Terms) → All HasNumber terms → All (λ t. IsUp (times t.1 (at t.0)) (times t.1 (at' t.0))) terms → IsUp (total at terms) (total at' terms)
up_total at at' some some' [] all up = inr (refl, omega (arith, ints))
up_total at at' some some' (t ∷ terms) all up =
    let here = (All-head HasNumber t terms all).0.positive in
    let more = All-tail HasNumber t terms all in
    up_plus (times t.1 (at t.0)) (times t.1 (at' t.0)) (total at terms) (total at' terms) (times_positive t.1 (at t.0) here (some t.0)) (times_positive t.1 (at' t.0) here (some' t.0))
    (total_positive at some terms more) (total_positive at' some' terms more) (All-head (λ u. IsUp (times u.1 (at u.0)) (times u.1 (at' u.0))) t terms up)
    (up_total at at' some some' terms more (All-tail (λ u. IsUp (times u.1 (at u.0)) (times u.1 (at' u.0))) t terms up))

-- the difference of two numbers
abbrev pub less : Ratio → Ratio → Ratio
less a b = plus a (negated b)

pub less_some : (a b : Ratio) → Positive a → Positive b → Positive (less a b)
less_some a b p q = plus_positive a (negated b) p q

times_negated : (a b : Ratio) → times a (negated b) ≡ negated (times a b)
times_negated a b = ap (λ z. make z (a.under * b.under)) (mul_neg a.over b.over)
  where
    make : ℤ → ℕ → Ratio
    make z n = record { over = z; under = n }

-- the sum of differences is the difference of the sums
pub total_less : (at at' : ℕ → Ratio) → AreValues at → AreValues at' → (terms : Terms) → All HasNumber terms → Alike (total (λ q. less (at q) (at' q)) terms) (less (total at terms) (total at' terms))
total_less at at' some some' [] all = back (drop_zero nothing (negated nothing) nothing_some nothing_some refl)
total_less at at' some some' (t ∷ terms) all =
    let here = (All-head HasNumber t terms all).0.positive in
    let more = All-tail HasNumber t terms all in
    let a : Ratio = at t.0 in
    let b : Ratio = at' t.0 in
    let ta = times_positive t.1 (at t.0) here (some t.0) in
    let tb = times_positive t.1 (at' t.0) here (some' t.0) in
    let sa = total_positive at some terms more in
    let sb = total_positive at' some' terms more in
    let first : Alike (times t.1 (less (at t.0) (at' t.0))) (plus (times t.1 (at t.0)) (negated (times t.1 (at' t.0)))) =
    subst (λ r. Alike (times t.1 (less (at t.0) (at' t.0))) (plus (times t.1 (at t.0)) r)) (times_negated t.1 (at' t.0)) (spread t.1 (at t.0) (negated (at' t.0)) here (some t.0) (some' t.0)) in
    let sum = next (both_plus first (total_less at at' some some' terms more)) (pair_plus (times t.1 (at t.0)) (negated (times t.1 (at' t.0))) (total at terms) (negated (total at' terms)) ta tb sa sb) in
    subst (λ r. Alike (plus (times t.1 (less (at t.0) (at' t.0))) (total (λ q. less (at q) (at' q)) terms)) (plus (plus (times t.1 (at t.0)) (total at terms)) r)) (sym (negated_plus (times t.1 (at' t.0)) (total at' terms))) sum

pub up_by : {x y x' y' : Ratio} → Alike x x' → Alike y y' → IsUp x y → IsUp x' y'
up_by {x} {y} {x'} {y'} h k (inl above) = inl (above_by h above)
up_by {x} {y} {x'} {y'} h k (inr (none, up)) = inr (zero_by none, not_below_by k up)
  where
    zero_by : x.over ≡ pos 0 → x'.over ≡ pos 0
    zero_by e = over_zero_of x' x (back h) e

-- a point that isn't less than another, part by part
pub not_less_of : (a b : Delta) → IsUp (less a.value b.value) (less a.tiny b.tiny) → IsLessDelta a b → ⊥
not_less_of a b (inl above) (inl h) = never (a.value.over *ℤ pos b.value.under) (b.value.over *ℤ pos a.value.under) h (less_of b.value a.value above)
  where
    never : (x y : ℤ) → x <ℤ y → y <ℤ x → ⊥
    never x y h k = omega (arith, ints)
not_less_of a b (inl above) (inr (e, h)) = never (a.value.over *ℤ pos b.value.under) (b.value.over *ℤ pos a.value.under) e (less_of b.value a.value above)
  where
    never : (x y : ℤ) → x ≡ y → y <ℤ x → ⊥
    never x y h k = omega (arith, ints)
not_less_of a b (inr (none, up)) (inl h) = never (a.value.over *ℤ pos b.value.under) (b.value.over *ℤ pos a.value.under) (none_differ a.value b.value none) h
  where
    never : (x y : ℤ) → x ≡ y → x <ℤ y → ⊥
    never x y h k = omega (arith, ints)
not_less_of a b (inr (none, up)) (inr (e, h)) = never (a.tiny.over *ℤ pos b.tiny.under) (b.tiny.over *ℤ pos a.tiny.under) (at_most_of b.tiny a.tiny up) h
  where
    never : (x y : ℤ) → y ≤ℤ x → x <ℤ y → ⊥
    never x y h k = omega (arith, ints)

-- a point that is less than another
up_of : (a b : Delta) → IsLessDelta b a → IsUp (less a.value b.value) (less a.tiny b.tiny)
up_of a b (inl h) = inl (of_less b.value a.value h)
up_of a b (inr (e, h)) = inr (differ_none a.value b.value (sym e), above_not_below (less a.tiny b.tiny) (of_less b.tiny a.tiny h))

-- two points are less, the same or greater
compared_deltas : (a b : Delta) → IsLessDelta a b ⊎ (SameDelta a b ⊎ IsLessDelta b a)
compared_deltas a b = by (compared a.value b.value) (compared a.tiny b.tiny)
  where
    by : IsLess a.value b.value ⊎ (SameRatio a.value b.value ⊎ IsLess b.value a.value) → IsLess a.tiny b.tiny ⊎ (SameRatio a.tiny b.tiny ⊎ IsLess b.tiny a.tiny)
        → IsLessDelta a b ⊎ (SameDelta a b ⊎ IsLessDelta b a)
    by (inl h) k = inl (inl h)
    by (inr (inr h)) k = inr (inr (inl h))
    by (inr (inl e)) (inl k) = inl (inr (e, k))
    by (inr (inl e)) (inr (inl f)) = inr (inl (e, f))
    by (inr (inl e)) (inr (inr k)) = inr (inr (inr (sym e, k)))

less_trans : (a b c : Ratio) → Positive a → Positive c → IsLess a b → IsLess b c → IsLess a c
less_trans a b c p r h k =
    lt_from_mul (a.over *ℤ pos c.under) (c.over *ℤ pos a.under) b.under
    (both (a.over *ℤ pos c.under *ℤ pos b.under) (b.over *ℤ pos a.under *ℤ pos c.under) (c.over *ℤ pos a.under *ℤ pos b.under)
    (subst (λ t. t <ℤ (b.over *ℤ pos a.under *ℤ pos c.under)) (turn_last a.over (pos b.under) (pos c.under)) (mul_lt (a.over *ℤ pos b.under) (b.over *ℤ pos a.under) c.under r h))
    (subst (λ t. t <ℤ (c.over *ℤ pos a.under *ℤ pos b.under)) (turn_last b.over (pos c.under) (pos a.under))
    (subst (λ t. (b.over *ℤ pos c.under *ℤ pos a.under) <ℤ t) (turn_last c.over (pos b.under) (pos a.under)) (mul_lt (b.over *ℤ pos c.under) (c.over *ℤ pos b.under) a.under p k))))
  where
    both : (x y z : ℤ) → x <ℤ y → y <ℤ z → x <ℤ z
    both x y z h k = omega (arith, ints)

-- a point with positive denominators
pub record HasSome (a : Delta) : Type 0 where
  pub value : Positive a.value
  pub tiny : Positive a.tiny

less_delta_trans : (a b c : Delta) → HasSome a → HasSome b → HasSome c → IsLessDelta a b → IsLessDelta b c → IsLessDelta a c
less_delta_trans a b c p q r (inl h) (inl k) = inl (less_trans a.value b.value c.value p.value r.value h k)
less_delta_trans a b c p q r (inl h) (inr (e, k)) = inl (less_right b.value c.value a.value q.value r.value e h)
less_delta_trans a b c p q r (inr (e, h)) (inl k) = inl (less_left b.value a.value c.value q.value p.value (sym e) k)
less_delta_trans a b c p q r (inr (e, h)) (inr (f, k)) = inr (same_trans a.value b.value c.value q.value e f, less_trans a.tiny b.tiny c.tiny p.tiny r.tiny h k)

-- what is less than a point is less than one that isn't less than that
pub less_than : (a b c : Delta) → HasSome a → HasSome b → HasSome c → IsLessDelta a b → (IsLessDelta c b → ⊥) → IsLessDelta a c
less_than a b c p q r h not_less = by (compared_deltas c b)
  where
    by : IsLessDelta c b ⊎ (SameDelta c b ⊎ IsLessDelta b c) → IsLessDelta a c
    by (inl k) = absurd (not_less k)
    by (inr (inl same)) =
        less_delta_right b c a (record { left_value = q.value; left_tiny = q.tiny; right_value = r.value; right_tiny = r.tiny; same = (sym same.0, sym same.1) }) h
    by (inr (inr k)) = less_delta_trans a b c p q r h k

zero_times : (a b : Ratio) → a.over ≡ pos 0 → (times a b).over ≡ pos 0
zero_times a b e = ap (λ z. z *ℤ b.over) e ∙ zero-*ℤ b.over

-- where both are the same nothing is added
pub still_up : (a : Ratio) (r c : Delta) → SameRatio r.value c.value → SameRatio r.tiny c.tiny → IsUp (times a (less r.value c.value)) (times a (less r.tiny c.tiny))
still_up a r c e f =
    inr (times_zero a (less r.value c.value) (differ_none r.value c.value e), zero_not_below (times a (less r.tiny c.tiny)) (times_zero a (less r.tiny c.tiny) (differ_none r.tiny c.tiny f)))

below_of : (a b : Ratio) → IsLess a b → IsAbove (negated (less a b))
below_of a b h = subst (λ t. pos 0 <ℤ neg_ℤ (a.over *ℤ pos b.under +ℤ t)) (sym (neg_mul b.over (pos a.under))) (order (a.over *ℤ pos b.under) (b.over *ℤ pos a.under) h)
  where
    order : (x y : ℤ) → x <ℤ y → pos 0 <ℤ neg_ℤ (x +ℤ neg_ℤ y)
    order x y h = omega (arith, ints)

twice : (a b : Ratio) → times (negated a) (negated b) ≡ times a b
twice a b = ap (λ z. make z (a.under * b.under)) (neg_mul a.over (neg_ℤ b.over) ∙ ap neg_ℤ (mul_neg a.over b.over) ∙ back_again (a.over *ℤ b.over))
  where
    make : ℤ → ℕ → Ratio
    make z n = record { over = z; under = n }

    back_again : (z : ℤ) → neg_ℤ (neg_ℤ z) ≡ z
    back_again z = omega (arith, ints)

-- a product of numbers that aren't above 0
below_times : (a b : Ratio) → IsAbove (negated a) → IsAbove (negated b) → IsAbove (times a b)
below_times a b h k = subst (λ r. IsAbove r) (twice a b) (above_times (negated a) (negated b) h k)

not_above_times : (a b : Ratio) → IsAbove (negated a) → IsNotBelow (negated b) → IsNotBelow (times a b)
not_above_times a b h k = subst (λ r. IsNotBelow r) (twice a b) (not_below_times (negated a) (negated b) h k)

-- times a number that isn't above 0, where the point isn't less
pub falls_up : (a : Ratio) (r c : Delta) → (IsAbove a → ⊥) → (IsLessDelta c r → ⊥) → IsUp (times a (less r.value c.value)) (times a (less r.tiny c.tiny))
falls_up a r c not_above not_less = by (signed a.over) (compared_deltas c r)
  where
    signed : (z : ℤ) → (pos 0 <ℤ z) ⊎ ((z ≡ pos 0) ⊎ (pos 0 <ℤ neg_ℤ z))
    signed (pos zero) = inr (inl refl)
    signed (pos (suc n)) = inl (omega (arith, ints))
    signed (negsuc n) = inr (inr (omega (arith, ints)))

    by : IsAbove a ⊎ ((a.over ≡ pos 0) ⊎ IsAbove (negated a)) → IsLessDelta c r ⊎ (SameDelta c r ⊎ IsLessDelta r c) → IsUp (times a (less r.value c.value)) (times a (less r.tiny c.tiny))
    by (inl above) k = absurd (not_above above)
    by (inr s) (inl k) = absurd (not_less k)
    by (inr (inl zero_a)) k = inr (zero_times a (less r.value c.value) zero_a, zero_not_below (times a (less r.tiny c.tiny)) (zero_times a (less r.tiny c.tiny) zero_a))
    by (inr (inr below)) (inr (inl same)) = still_up a r c (sym same.0) (sym same.1)
    by (inr (inr below)) (inr (inr (inl h))) = inl (below_times a (less r.value c.value) below (below_of r.value c.value h))
    by (inr (inr below)) (inr (inr (inr (e, h)))) =
        inr (times_zero a (less r.value c.value) (differ_none r.value c.value e), not_above_times a (less r.tiny c.tiny) below (above_not_below (negated (less r.tiny c.tiny)) (below_of r.tiny c.tiny h)))

-- times a number above 0, where the point is less
pub rises_up : (a : Ratio) (r c : Delta) → IsAbove a → IsLessDelta c r → IsUp (times a (less r.value c.value)) (times a (less r.tiny c.tiny))
rises_up a r c above h = by (up_of r c h)
  where
    by : IsUp (less r.value c.value) (less r.tiny c.tiny) → IsUp (times a (less r.value c.value)) (times a (less r.tiny c.tiny))
    by (inl up) = inl (above_times a (less r.value c.value) above up)
    by (inr (none, up)) = inr (times_zero a (less r.value c.value) none, not_below_times a (less r.tiny c.tiny) above up)
