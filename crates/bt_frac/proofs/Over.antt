-- Fractions as whole numbers over one denominator.
use Rattle.std.proofs.Common.{◌≡◌, ℕ, ◌*◌, ◌<◌, arith, ℤ, pos, ◌*ℤ◌, ◌+ℤ◌, ◌<ℤ◌, ◌≤ℤ◌, ◌↔◌, List, [], ◌∷◌, ◌++◌, ap, sym, ◌∙◌, refl, subst, map}
use Rattle.std.specs.List.{All}
use Rattle.std.proofs.lemmas.List.Elements.{All-head, All-tail}
use Rattle.std.proofs.Math.IntN.{*ℤ_comm, zero-*ℤ, *ℤ-one}
use Rattle.bt_frac.specs.Ratio.{Ratio, IsSum, SameRatio, IsOver, AreOver, IsLess, IsAtMost}
use Rattle.bt_frac.proofs.Ring.{mul_assoc, turn_last, sum_of_thirds, sum_of_parts}
use Rattle.bt_frac.proofs.Order.{mul_cancel, mul_le, le_from_mul, mul_lt, lt_from_mul}

-- a fraction over a denominator, times another number
over_times : (r : Ratio) (w : ℤ) (d n : ℕ) → IsOver r w d → r.over *ℤ pos n *ℤ pos d ≡ w *ℤ pos n *ℤ pos r.under
over_times r w d n e =
    turn_last r.over (pos n) (pos d) ∙ ap (λ t. t *ℤ pos n) e ∙ turn_last w (pos r.under) (pos n)

-- a fraction over a denominator, times the other's
crossed : (a b : Ratio) (x : ℤ) (d : ℕ) → IsOver a x d → a.over *ℤ pos b.under *ℤ pos d ≡ x *ℤ pos (a.under * b.under)
crossed a b x d e =
    over_times a x d b.under e ∙ turn_last x (pos b.under) (pos a.under) ∙ mul_assoc x (pos a.under) (pos b.under)

crossed_back : (a b : Ratio) (x : ℤ) (d : ℕ) → IsOver a x d → a.over *ℤ pos b.under *ℤ pos d ≡ x *ℤ pos (b.under * a.under)
crossed_back a b x d e = over_times a x d b.under e ∙ mul_assoc x (pos b.under) (pos a.under)

pub under_positive : (m n : ℕ) → 0 < m → 0 < n → 0 < m * n
under_positive m n p q = grind arith

-- a sum of fractions is the sum of their whole numbers
pub over_sum : (a b r : Ratio) (x y : ℤ) (d : ℕ) → 0 < a.under → 0 < b.under → IsOver a x d → IsOver b y d → IsSum a b r → IsOver r (x +ℤ y) d
over_sum a b r x y d a_some b_some ea eb sum =
    let p : ℕ = a.under * b.under in
    let total = turn_last r.over (pos d) (pos p) ∙ ap (λ t. t *ℤ pos d) sum ∙ sum_of_thirds a.over b.over (pos a.under) (pos b.under) (pos r.under) (pos d)
    ∙ ap (λ t. (t +ℤ b.over *ℤ pos a.under *ℤ pos d) *ℤ pos r.under) (crossed a b x d ea)
    ∙ ap (λ t. (x *ℤ pos p +ℤ t) *ℤ pos r.under) (crossed_back b a y d eb) ∙ sum_of_parts x y (pos p) (pos r.under) in
    mul_cancel (r.over *ℤ pos d) ((x +ℤ y) *ℤ pos r.under) p (under_positive a.under b.under a_some b_some) total

-- the order of fractions over one denominator is that of their whole numbers
pub over_at_most : (a b : Ratio) (x y : ℤ) (d : ℕ) → 0 < d → 0 < a.under → 0 < b.under → IsOver a x d → IsOver b y d
    → IsAtMost a b ↔ (x ≤ℤ y)
over_at_most a b x y d some a_some b_some ea eb =
    let p : ℕ = a.under * b.under in
    let p_some : 0 < p = under_positive a.under b.under a_some b_some in
    let ca = crossed a b x d ea in
    let cb = crossed_back b a y d eb in (
      λ h. let l = mul_le (a.over *ℤ pos b.under) (b.over *ℤ pos a.under) d h in
          le_from_mul x y p p_some (subst (λ t. t ≤ℤ (y *ℤ pos p)) ca (subst (λ t. (a.over *ℤ pos b.under *ℤ pos d) ≤ℤ t) cb l)),
      λ h. let l = mul_le x y p h in
          le_from_mul (a.over *ℤ pos b.under) (b.over *ℤ pos a.under) d some
          (subst (λ t. t ≤ℤ (b.over *ℤ pos a.under *ℤ pos d)) (sym ca) (subst (λ t. (x *ℤ pos p) ≤ℤ t) (sym cb) l)),
    )

pub over_less : (a b : Ratio) (x y : ℤ) (d : ℕ) → 0 < d → 0 < a.under → 0 < b.under → IsOver a x d → IsOver b y d
    → IsLess a b ↔ (x <ℤ y)
over_less a b x y d some a_some b_some ea eb =
    let p : ℕ = a.under * b.under in
    let p_some : 0 < p = under_positive a.under b.under a_some b_some in
    let ca = crossed a b x d ea in
    let cb = crossed_back b a y d eb in (
      λ h. let l = mul_lt (a.over *ℤ pos b.under) (b.over *ℤ pos a.under) d some h in
          lt_from_mul x y p (subst (λ t. t <ℤ (y *ℤ pos p)) ca (subst (λ t. (a.over *ℤ pos b.under *ℤ pos d) <ℤ t) cb l)),
      λ h. let l = mul_lt x y p p_some h in
          lt_from_mul (a.over *ℤ pos b.under) (b.over *ℤ pos a.under) d
          (subst (λ t. t <ℤ (b.over *ℤ pos a.under *ℤ pos d)) (sym ca) (subst (λ t. (x *ℤ pos p) <ℤ t) (sym cb) l)),
    )

-- two fractions over one denominator are the same number where their whole numbers are
pub over_same : (a b : Ratio) (x y : ℤ) (d : ℕ) → 0 < d → 0 < a.under → 0 < b.under → IsOver a x d → IsOver b y d
    → SameRatio a b ↔ (x ≡ y)
over_same a b x y d some a_some b_some ea eb =
    let p : ℕ = a.under * b.under in
    let p_some : 0 < p = under_positive a.under b.under a_some b_some in
    let ca = crossed a b x d ea in
    let cb = crossed_back b a y d eb in (
      λ e. mul_cancel x y p p_some (sym ca ∙ ap (λ t. t *ℤ pos d) e ∙ cb),
      λ e. mul_cancel (a.over *ℤ pos b.under) (b.over *ℤ pos a.under) d some (ca ∙ ap (λ t. t *ℤ pos p) e ∙ sym cb),
    )

-- a whole number
pub over_whole : (n : ℤ) (d : ℕ) → IsOver (record { over = n; under = 1 }) (n *ℤ pos d) d
unfolding lib.IntN.one
over_whole n d = sym (*ℤ-one (n *ℤ pos d))

pub over_zero : (r : Ratio) (d : ℕ) → r.over ≡ pos 0 → IsOver r (pos 0) d
over_zero r d e = ap (λ t. t *ℤ pos d) e ∙ zero-*ℤ (pos d) ∙ sym (zero-*ℤ (pos r.under))

-- a greater denominator
pub over_scaled : (r : Ratio) (w : ℤ) (d k : ℕ) → IsOver r w d → IsOver r (w *ℤ pos k) (k * d)
over_scaled r w d k e =
    ap (λ t. r.over *ℤ t) (*ℤ_comm (pos k) (pos d)) ∙ sym (mul_assoc r.over (pos d) (pos k)) ∙ ap (λ t. t *ℤ pos k) e
    ∙ turn_last w (pos r.under) (pos k)

are_over_scaled : (rs : List Ratio) (ws : List ℤ) (d k : ℕ) → AreOver rs ws d → AreOver rs (map (λ w. w *ℤ pos k) ws) (k * d)
are_over_scaled [] [] d k e = tt
are_over_scaled [] (w ∷ ws) d k e = e
are_over_scaled (r ∷ rs) [] d k e = e
are_over_scaled (r ∷ rs) (w ∷ ws) d k e = (over_scaled r w d k e.0, are_over_scaled rs ws d k e.1)

-- fractions with positive denominators have a common one
pub common_denominator : (rs : List Ratio) → All (λ r. 0 < r.under) rs → (d : ℕ) × (0 < d) × ((ws : List ℤ) × AreOver rs ws d)
common_denominator [] some = (1, omega arith, ([], tt))
common_denominator (r ∷ rs) some =
    let rest = common_denominator rs (All-tail (λ q. 0 < q.under) r rs some) in
    let r_some : 0 < r.under = All-head (λ q. 0 < q.under) r rs some in
    let own : r.over *ℤ pos (r.under * rest.0) ≡ r.over *ℤ pos rest.0 *ℤ pos r.under =
    ap (λ t. r.over *ℤ t) (*ℤ_comm (pos r.under) (pos rest.0)) ∙ sym (mul_assoc r.over (pos rest.0) (pos r.under)) in (
      r.under * rest.0,
      under_positive r.under rest.0 r_some rest.1,
      ((r.over *ℤ pos rest.0) ∷ map (λ w. w *ℤ pos r.under) rest.2.0, (own, are_over_scaled rs rest.2.0 rest.0 r.under rest.2.1)),
    )

-- the whole numbers of two lists appended are those of the first and then those of the second
pub are_over_split : (rs ss : List Ratio) (ws : List ℤ) (d : ℕ) → AreOver (rs ++ ss) ws d
    → (us : List ℤ) × ((vs : List ℤ) × (ws ≡ us ++ vs) × AreOver rs us d × AreOver ss vs d)
are_over_split [] ss ws d e = ([], (ws, refl, tt, e))
are_over_split (r ∷ rs) ss [] d e = absurd e
are_over_split (r ∷ rs) ss (w ∷ ws) d e =
    let rest = are_over_split rs ss ws d e.1 in
    (w ∷ rest.0, (rest.1.0, ap (λ l. w ∷ l) rest.1.1, (e.0, rest.1.2), rest.1.3))
