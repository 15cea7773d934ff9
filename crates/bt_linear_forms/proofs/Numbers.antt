-- Sums and products of fractions that are the same numbers.
use Rattle.std.proofs.Common.{◌≡◌, ℕ, ◌*◌, ◌<◌, arith, ℤ, pos, neg_ℤ, ◌+ℤ◌, ◌*ℤ◌, ap, sym, ◌∙◌, refl}
use Rattle.std.proofs.Math.IntN.{pos-*ℤ-pos, zero-*ℤ, *ℤ_comm}
use Rattle.std.proofs.lemmas.Int.{ints}
use Rattle.bt_frac.specs.Ratio.{Ratio, SameRatio, negated}
use Rattle.bt_frac.specs.Values.{nothing, plus, times}
use Rattle.bt_frac.proofs.Over.{under_positive}
use Rattle.bt_frac.proofs.Ring.{products, sums, mul_distrib_right, neg_mul}
use Rattle.bt_frac.proofs.Order.{mul_cancel}
use Rattle.bt_farkas.proofs.SameNumbers.{same_trans}

-- the denominator is positive
abbrev pub Positive : Ratio → Type 0
Positive r = 0 < r.under

pub plus_positive : (a b : Ratio) → Positive a → Positive b → Positive (plus a b)
plus_positive a b p q = under_positive a.under b.under p q

pub times_positive : (a b : Ratio) → Positive a → Positive b → Positive (times a b)
times_positive a b p q = under_positive a.under b.under p q

comm_parts_ints : (x y m n : ℤ) → (x *ℤ n +ℤ y *ℤ m) *ℤ (n *ℤ m) ≡ (y *ℤ m +ℤ x *ℤ n) *ℤ (m *ℤ n)
comm_parts_ints x y m n = simp (products, sums)

comm_parts : (x y : ℤ) (m n : ℕ) → (x *ℤ pos n +ℤ y *ℤ pos m) *ℤ pos (n * m) ≡ (y *ℤ pos m +ℤ x *ℤ pos n) *ℤ pos (m * n)
comm_parts x y m n = simp pos-*ℤ-pos at (comm_parts_ints x y (pos m) (pos n))

pub plus_comm : (a b : Ratio) → SameRatio (plus a b) (plus b a)
plus_comm a b = comm_parts a.over b.over a.under b.under

assoc_parts_ints : (x y z m n k : ℤ) → ((x *ℤ n +ℤ y *ℤ m) *ℤ k +ℤ z *ℤ (m *ℤ n)) *ℤ (m *ℤ (n *ℤ k)) ≡ (x *ℤ (n *ℤ k) +ℤ (y *ℤ k +ℤ z *ℤ n) *ℤ m) *ℤ (m *ℤ n *ℤ k)
assoc_parts_ints x y z m n k = simp (products, sums)

assoc_parts : (x y z : ℤ) (m n k : ℕ) → ((x *ℤ pos n +ℤ y *ℤ pos m) *ℤ pos k +ℤ z *ℤ pos (m * n)) *ℤ pos (m * (n * k)) ≡ (x *ℤ pos (n * k) +ℤ (y *ℤ pos k +ℤ z *ℤ pos n) *ℤ pos m) *ℤ pos (m * n * k)
assoc_parts x y z m n k = simp pos-*ℤ-pos at (assoc_parts_ints x y z (pos m) (pos n) (pos k))

pub plus_assoc : (a b c : Ratio) → SameRatio (plus (plus a b) c) (plus a (plus b c))
plus_assoc a b c = assoc_parts a.over b.over c.over a.under b.under c.under

times_comm_parts_ints : (x y m n : ℤ) → x *ℤ y *ℤ (n *ℤ m) ≡ y *ℤ x *ℤ (m *ℤ n)
times_comm_parts_ints x y m n = simp products

times_comm_parts : (x y : ℤ) (m n : ℕ) → x *ℤ y *ℤ pos (n * m) ≡ y *ℤ x *ℤ pos (m * n)
times_comm_parts x y m n = simp pos-*ℤ-pos at (times_comm_parts_ints x y (pos m) (pos n))

times_comm : (a b : Ratio) → SameRatio (times a b) (times b a)
times_comm a b = times_comm_parts a.over b.over a.under b.under

times_assoc_parts_ints : (x y z m n k : ℤ) → x *ℤ y *ℤ z *ℤ (m *ℤ (n *ℤ k)) ≡ x *ℤ (y *ℤ z) *ℤ (m *ℤ n *ℤ k)
times_assoc_parts_ints x y z m n k = simp products

times_assoc_parts : (x y z : ℤ) (m n k : ℕ) → x *ℤ y *ℤ z *ℤ pos (m * (n * k)) ≡ x *ℤ (y *ℤ z) *ℤ pos (m * n * k)
times_assoc_parts x y z m n k = simp pos-*ℤ-pos at (times_assoc_parts_ints x y z (pos m) (pos n) (pos k))

times_assoc : (a b c : Ratio) → SameRatio (times (times a b) c) (times a (times b c))
times_assoc a b c = times_assoc_parts a.over b.over c.over a.under b.under c.under

times_plus_parts_ints : (x y z m n k : ℤ) → x *ℤ (y *ℤ k +ℤ z *ℤ n) *ℤ (m *ℤ n *ℤ (m *ℤ k)) ≡ (x *ℤ y *ℤ (m *ℤ k) +ℤ x *ℤ z *ℤ (m *ℤ n)) *ℤ (m *ℤ (n *ℤ k))
times_plus_parts_ints x y z m n k = simp (products, sums)

times_plus_parts : (x y z : ℤ) (m n k : ℕ) → x *ℤ (y *ℤ pos k +ℤ z *ℤ pos n) *ℤ pos (m * n * (m * k)) ≡ (x *ℤ y *ℤ pos (m * k) +ℤ x *ℤ z *ℤ pos (m * n)) *ℤ pos (m * (n * k))
times_plus_parts x y z m n k = simp pos-*ℤ-pos at (times_plus_parts_ints x y z (pos m) (pos n) (pos k))

times_plus : (a b c : Ratio) → SameRatio (times a (plus b c)) (plus (times a b) (times a c))
times_plus a b c = times_plus_parts a.over b.over c.over a.under b.under c.under

plus_left_parts : (x y z : ℤ) (m q k : ℕ) → x *ℤ pos q ≡ y *ℤ pos m → (x *ℤ pos k +ℤ z *ℤ pos m) *ℤ pos (q * k) ≡ (y *ℤ pos k +ℤ z *ℤ pos q) *ℤ pos (m * k)
plus_left_parts x y z m q k e = opened x z m q k ∙ ap (λ t. t *ℤ pos k *ℤ pos k +ℤ z *ℤ pos m *ℤ pos q *ℤ pos k) e ∙ closed y z m q k
  where
    opened_ints : (x z m q k : ℤ) → (x *ℤ k +ℤ z *ℤ m) *ℤ (q *ℤ k) ≡ x *ℤ q *ℤ k *ℤ k +ℤ z *ℤ m *ℤ q *ℤ k
    opened_ints x z m q k = simp (products, sums)

    opened : (x z : ℤ) (m q k : ℕ) → (x *ℤ pos k +ℤ z *ℤ pos m) *ℤ pos (q * k) ≡ x *ℤ pos q *ℤ pos k *ℤ pos k +ℤ z *ℤ pos m *ℤ pos q *ℤ pos k
    opened x z m q k = simp pos-*ℤ-pos at (opened_ints x z (pos m) (pos q) (pos k))

    closed_ints : (y z m q k : ℤ) → y *ℤ m *ℤ k *ℤ k +ℤ z *ℤ m *ℤ q *ℤ k ≡ (y *ℤ k +ℤ z *ℤ q) *ℤ (m *ℤ k)
    closed_ints y z m q k = simp (products, sums)

    closed : (y z : ℤ) (m q k : ℕ) → y *ℤ pos m *ℤ pos k *ℤ pos k +ℤ z *ℤ pos m *ℤ pos q *ℤ pos k ≡ (y *ℤ pos k +ℤ z *ℤ pos q) *ℤ pos (m * k)
    closed y z m q k = simp pos-*ℤ-pos at (closed_ints y z (pos m) (pos q) (pos k))

plus_same_left : (a b c : Ratio) → SameRatio a b → SameRatio (plus a c) (plus b c)
plus_same_left a b c e = plus_left_parts a.over b.over c.over a.under b.under c.under e

plus_right_parts : (x y z : ℤ) (m q k : ℕ) → x *ℤ pos q ≡ y *ℤ pos m → (z *ℤ pos m +ℤ x *ℤ pos k) *ℤ pos (k * q) ≡ (z *ℤ pos q +ℤ y *ℤ pos k) *ℤ pos (k * m)
plus_right_parts x y z m q k e = opened x z m q k ∙ ap (λ t. z *ℤ pos m *ℤ pos q *ℤ pos k +ℤ t *ℤ pos k *ℤ pos k) e ∙ closed y z m q k
  where
    opened_ints : (x z m q k : ℤ) → (z *ℤ m +ℤ x *ℤ k) *ℤ (k *ℤ q) ≡ z *ℤ m *ℤ q *ℤ k +ℤ x *ℤ q *ℤ k *ℤ k
    opened_ints x z m q k = simp (products, sums)

    opened : (x z : ℤ) (m q k : ℕ) → (z *ℤ pos m +ℤ x *ℤ pos k) *ℤ pos (k * q) ≡ z *ℤ pos m *ℤ pos q *ℤ pos k +ℤ x *ℤ pos q *ℤ pos k *ℤ pos k
    opened x z m q k = simp pos-*ℤ-pos at (opened_ints x z (pos m) (pos q) (pos k))

    closed_ints : (y z m q k : ℤ) → z *ℤ m *ℤ q *ℤ k +ℤ y *ℤ m *ℤ k *ℤ k ≡ (z *ℤ q +ℤ y *ℤ k) *ℤ (k *ℤ m)
    closed_ints y z m q k = simp (products, sums)

    closed : (y z : ℤ) (m q k : ℕ) → z *ℤ pos m *ℤ pos q *ℤ pos k +ℤ y *ℤ pos m *ℤ pos k *ℤ pos k ≡ (z *ℤ pos q +ℤ y *ℤ pos k) *ℤ pos (k * m)
    closed y z m q k = simp pos-*ℤ-pos at (closed_ints y z (pos m) (pos q) (pos k))

plus_same_right : (a b c : Ratio) → SameRatio a b → SameRatio (plus c a) (plus c b)
plus_same_right a b c e = plus_right_parts a.over b.over c.over a.under b.under c.under e

times_left_parts : (x y z : ℤ) (m q k : ℕ) → x *ℤ pos q ≡ y *ℤ pos m → x *ℤ z *ℤ pos (q * k) ≡ y *ℤ z *ℤ pos (m * k)
times_left_parts x y z m q k e = opened x z q k ∙ ap (λ t. t *ℤ z *ℤ pos k) e ∙ sym (opened y z m k)
  where
    opened_ints : (x z q k : ℤ) → x *ℤ z *ℤ (q *ℤ k) ≡ x *ℤ q *ℤ z *ℤ k
    opened_ints x z q k = simp products

    opened : (x z : ℤ) (q k : ℕ) → x *ℤ z *ℤ pos (q * k) ≡ x *ℤ pos q *ℤ z *ℤ pos k
    opened x z q k = simp pos-*ℤ-pos at (opened_ints x z (pos q) (pos k))

times_same_left : (a b c : Ratio) → SameRatio a b → SameRatio (times a c) (times b c)
times_same_left a b c e = times_left_parts a.over b.over c.over a.under b.under c.under e

times_right_parts : (x y z : ℤ) (m q k : ℕ) → x *ℤ pos q ≡ y *ℤ pos m → z *ℤ x *ℤ pos (k * q) ≡ z *ℤ y *ℤ pos (k * m)
times_right_parts x y z m q k e = opened x z q k ∙ ap (λ t. t *ℤ z *ℤ pos k) e ∙ sym (opened y z m k)
  where
    opened_ints : (x z q k : ℤ) → z *ℤ x *ℤ (k *ℤ q) ≡ x *ℤ q *ℤ z *ℤ k
    opened_ints x z q k = simp products

    opened : (x z : ℤ) (q k : ℕ) → z *ℤ x *ℤ pos (k * q) ≡ x *ℤ pos q *ℤ z *ℤ pos k
    opened x z q k = simp pos-*ℤ-pos at (opened_ints x z (pos q) (pos k))

times_same_right : (a b c : Ratio) → SameRatio a b → SameRatio (times c a) (times c b)
times_same_right a b c e = times_right_parts a.over b.over c.over a.under b.under c.under e

zero_parts : (y : ℤ) (m n : ℕ) → (pos 0 *ℤ pos n +ℤ y *ℤ pos m) *ℤ pos n ≡ y *ℤ pos (m * n)
zero_parts y m n = ap (λ t. (t +ℤ y *ℤ pos m) *ℤ pos n) (zero-*ℤ (pos n)) ∙ ap (λ t. t *ℤ pos n) (none (y *ℤ pos m)) ∙ joined y m n
  where
    none : (z : ℤ) → pos 0 +ℤ z ≡ z
    none z = omega (arith, ints)

    joined_ints : (y m n : ℤ) → y *ℤ m *ℤ n ≡ y *ℤ (m *ℤ n)
    joined_ints y m n = simp products

    joined : (y : ℤ) (m n : ℕ) → y *ℤ pos m *ℤ pos n ≡ y *ℤ pos (m * n)
    joined y m n = simp pos-*ℤ-pos at (joined_ints y (pos m) (pos n))

-- 0 adds nothing
zero_plus : (a b : Ratio) → a.over ≡ pos 0 → SameRatio (plus a b) b
zero_plus a b e = ap (λ t. (t *ℤ pos b.under +ℤ b.over *ℤ pos a.under) *ℤ pos b.under) e ∙ zero_parts b.over a.under b.under

pub times_zero : (a b : Ratio) → b.over ≡ pos 0 → (times a b).over ≡ pos 0
times_zero a b e = ap (λ t. a.over *ℤ t) e ∙ *ℤ_comm a.over (pos 0) ∙ zero-*ℤ a.over

-- two fractions with positive denominators are the same number
pub record Alike (a b : Ratio) : Type 0 where
  pub left : Positive a
  pub right : Positive b
  pub same : SameRatio a b

pub alike : (a b : Ratio) → Positive a → Positive b → SameRatio a b → Alike a b
alike a b p q e = record { left = p; right = q; same = e }

pub itself : (a : Ratio) → Positive a → Alike a a
itself a p = alike a a p p refl

pub back : {a b : Ratio} → Alike a b → Alike b a
back {a} {b} h = alike b a h.right h.left (sym h.same)

pub next : {a b c : Ratio} → Alike a b → Alike b c → Alike a c
next {a} {b} {c} h k = alike a c h.left k.right (same_trans a b c h.right h.same k.same)

pub both_plus : {a b c d : Ratio} → Alike a b → Alike c d → Alike (plus a c) (plus b d)
both_plus {a} {b} {c} {d} h k =
    next (alike (plus a c) (plus b c) (plus_positive a c h.left k.left) (plus_positive b c h.right k.left) (plus_same_left a b c h.same))
    (alike (plus b c) (plus b d) (plus_positive b c h.right k.left) (plus_positive b d h.right k.right) (plus_same_right c d b k.same))

pub both_times : {a b c d : Ratio} → Alike a b → Alike c d → Alike (times a c) (times b d)
both_times {a} {b} {c} {d} h k =
    next (alike (times a c) (times b c) (times_positive a c h.left k.left) (times_positive b c h.right k.left) (times_same_left a b c h.same))
    (alike (times b c) (times b d) (times_positive b c h.right k.left) (times_positive b d h.right k.right) (times_same_right c d b k.same))

pub swap_plus : (a b : Ratio) → Positive a → Positive b → Alike (plus a b) (plus b a)
swap_plus a b p q = alike (plus a b) (plus b a) (plus_positive a b p q) (plus_positive b a q p) (plus_comm a b)

pub swap_times : (a b : Ratio) → Positive a → Positive b → Alike (times a b) (times b a)
swap_times a b p q = alike (times a b) (times b a) (times_positive a b p q) (times_positive b a q p) (times_comm a b)

pub group_plus : (a b c : Ratio) → Positive a → Positive b → Positive c → Alike (plus (plus a b) c) (plus a (plus b c))
group_plus a b c p q r =
    alike (plus (plus a b) c) (plus a (plus b c)) (plus_positive (plus a b) c (plus_positive a b p q) r) (plus_positive a (plus b c) p (plus_positive b c q r)) (plus_assoc a b c)

pub group_times : (a b c : Ratio) → Positive a → Positive b → Positive c → Alike (times (times a b) c) (times a (times b c))
group_times a b c p q r =
    alike (times (times a b) c) (times a (times b c)) (times_positive (times a b) c (times_positive a b p q) r) (times_positive a (times b c) p (times_positive b c q r)) (times_assoc a b c)

pub spread : (a b c : Ratio) → Positive a → Positive b → Positive c → Alike (times a (plus b c)) (plus (times a b) (times a c))
spread a b c p q r =
    alike (times a (plus b c)) (plus (times a b) (times a c)) (times_positive a (plus b c) p (plus_positive b c q r))
    (plus_positive (times a b) (times a c) (times_positive a b p q) (times_positive a c p r)) (times_plus a b c)

pub spread_right : (a b c : Ratio) → Positive a → Positive b → Positive c → Alike (times (plus a b) c) (plus (times a c) (times b c))
spread_right a b c p q r =
    next (swap_times (plus a b) c (plus_positive a b p q) r) (next (spread c a b r p q) (both_plus (swap_times c a r p) (swap_times c b r q)))

pub drop_zero : (a b : Ratio) → Positive a → Positive b → a.over ≡ pos 0 → Alike (plus a b) b
drop_zero a b p q e = alike (plus a b) b (plus_positive a b p q) q (zero_plus a b e)

-- the first of three summands and the second change places
pub turn_plus : (a b c : Ratio) → Positive a → Positive b → Positive c → Alike (plus a (plus b c)) (plus b (plus a c))
turn_plus a b c p q r = next (back (group_plus a b c p q r)) (next (both_plus (swap_plus a b p q) (itself c r)) (group_plus b a c q p r))

-- two sums added, first parts with first parts
pub pair_plus : (a b c d : Ratio) → Positive a → Positive b → Positive c → Positive d → Alike (plus (plus a b) (plus c d)) (plus (plus a c) (plus b d))
pair_plus a b c d p q r s =
    next (group_plus a b (plus c d) p q (plus_positive c d r s))
    (next (both_plus (itself a p) (turn_plus b c d q r s)) (back (group_plus a c (plus b d) p r (plus_positive b d q s))))

-- a number and the negated second cancel where both are the same
pub differ_none : (a b : Ratio) → SameRatio a b → (plus a (negated b)).over ≡ pos 0
differ_none a b e = ap (λ t. t +ℤ neg_ℤ b.over *ℤ pos a.under) e ∙ ap (λ t. b.over *ℤ pos a.under +ℤ t) (neg_mul b.over (pos a.under)) ∙ none (b.over *ℤ pos a.under)
  where
    none : (x : ℤ) → x +ℤ neg_ℤ x ≡ pos 0
    none x = omega (arith, ints)

-- and only there
pub none_differ : (a b : Ratio) → (plus a (negated b)).over ≡ pos 0 → SameRatio a b
none_differ a b e = same (a.over *ℤ pos b.under) (b.over *ℤ pos a.under) (sym (ap (λ t. a.over *ℤ pos b.under +ℤ t) (neg_mul b.over (pos a.under))) ∙ e)
  where
    same : (x y : ℤ) → x +ℤ neg_ℤ y ≡ pos 0 → x ≡ y
    same x y h = omega (arith, ints)

-- the sign of a factor is that of the product
pub negated_times : (a b : Ratio) → times (negated a) b ≡ negated (times a b)
negated_times a b = ap (λ z. make z (a.under * b.under)) (neg_mul a.over b.over)
  where
    make : ℤ → ℕ → Ratio
    make z n = record { over = z; under = n }

-- what is added to a number and leaves it is 0
pub adds_none : (a b : Ratio) → Positive a → SameRatio (plus a b) a → b.over ≡ pos 0
adds_none a b some e =
    mul_cancel b.over (pos 0) a.under some
    (mul_cancel (b.over *ℤ pos a.under) (pos 0 *ℤ pos a.under) a.under some
    (zero_left (a.over *ℤ pos b.under *ℤ pos a.under) (b.over *ℤ pos a.under *ℤ pos a.under)
    (sym (mul_distrib_right (a.over *ℤ pos b.under) (b.over *ℤ pos a.under) (pos a.under)) ∙ e ∙ parted a.over a.under b.under)
    ∙ sym (ap (λ t. t *ℤ pos a.under) (zero-*ℤ (pos a.under)) ∙ zero-*ℤ (pos a.under))))
  where
    parted : (x : ℤ) (m n : ℕ) → x *ℤ pos (m * n) ≡ x *ℤ pos n *ℤ pos m
    parted x m n = ap (λ t. x *ℤ t) (sym (pos-*ℤ-pos m n)) ∙ turned x (pos m) (pos n)
      where
        turned : (x m n : ℤ) → x *ℤ (m *ℤ n) ≡ x *ℤ n *ℤ m
        turned x m n = simp products

    zero_left : (x y : ℤ) → x +ℤ y ≡ x → y ≡ pos 0
    zero_left x y h = omega (arith, ints)

pub nothing_some : Positive nothing
nothing_some = omega arith

pub zero_alike : (a : Ratio) → Positive a → a.over ≡ pos 0 → Alike a nothing
zero_alike a some e = alike a nothing some nothing_some (ap (λ z. z *ℤ pos 1) e ∙ zero-*ℤ (pos 1) ∙ sym (zero-*ℤ (pos a.under)))

pub negated_plus : (a b : Ratio) → negated (plus a b) ≡ plus (negated a) (negated b)
negated_plus a b =
    ap (λ z. make z (a.under * b.under))
    (spread_neg (a.over *ℤ pos b.under) (b.over *ℤ pos a.under) ∙ ap (λ z. z +ℤ neg_ℤ (b.over *ℤ pos a.under)) (sym (neg_mul a.over (pos b.under)))
    ∙ ap (λ z. neg_ℤ a.over *ℤ pos b.under +ℤ z) (sym (neg_mul b.over (pos a.under))))
  where
    make : ℤ → ℕ → Ratio
    make z n = record { over = z; under = n }

    spread_neg : (x y : ℤ) → neg_ℤ (x +ℤ y) ≡ neg_ℤ x +ℤ neg_ℤ y
    spread_neg x y = omega (arith, ints)
