-- The least line that is refused, while a list is gone through.
use Rattle.std.proofs.Common.{◌≡◌, ℕ, ◌+◌, ◌<◌, ◌≤◌, ◌⊎◌, max, min, List, length, Option, Some, None, refl, sym, ◌∙◌, ap, subst, inl, inr, ⊎_elim, arith}
use Rattle.std.specs.Prelude.{slice_get}
use Rattle.std.proofs.lemmas.Option.{same_Some, slice_get_within}
use Rattle.std.proofs.lemmas.Bool.{cases_lt}
use Rattle.bt_model.specs.RequestFaults.{IsLineOfBad, IsLaterOfTwo}
use Rattle.bt_model.specs.inner.Least.{IsLeastIfAny, lesser, MayPrecede, IsLaterHere, IsRefusedHere, IsRefusedBelow}

-- below the next number is below this one or at it
below_or_at : (n k : ℕ) → n < k + 1 → (n < k) ⊎ (n ≡ k)
below_or_at n k h = ⊎_elim inl (λ le. inr (omega arith)) (cases_lt n k)

-- what has the least of P has that of Q, where the two say the same
same_least : (P Q : ℕ → Type 0) (o : Option ℕ) → ((n : ℕ) → P n → Q n) → ((n : ℕ) → Q n → P n) → IsLeastIfAny P o → IsLeastIfAny Q o
same_least P Q None to from none = λ n q. none n (from n q)
same_least P Q (Some l) to from least = (to l least.0, λ m q. least.1 m (from m q))

-- the lesser one of two least numbers is the least that has either property
lesser_least : (P Q : ℕ → Type 0) (a b : Option ℕ) → IsLeastIfAny P a → IsLeastIfAny Q b → IsLeastIfAny (λ n. P n ⊎ Q n) (lesser a b)
lesser_least P Q None None p q = λ n h. ⊎_elim (p n) (q n) h
lesser_least P Q None (Some n) p q = (inr q.0, λ m h. ⊎_elim (λ x. absurd (p m x)) (q.1 m) h)
lesser_least P Q (Some m) None p q = (inl p.0, λ n h. ⊎_elim (p.1 n) (λ x. absurd (q n x)) h)
lesser_least P Q (Some m) (Some n) p q = (
  ⊎_elim (λ le. inl (subst P (sym (min_left m n le)) p.0)) (λ lt. inr (subst Q (sym (min_right m n lt)) q.0)) (le_or_lt (cases_lt n m)),
  λ k h. ⊎_elim (λ x. let le = p.1 k x in omega arith) (λ x. let le = q.1 k x in omega arith) h,
)
  where
    min_left : (a b : ℕ) → a ≤ b → min a b ≡ a
    min_left a b le = omega arith

    min_right : (a b : ℕ) → b < a → min a b ≡ b
    min_right a b lt = omega arith

    le_or_lt : (n < m) ⊎ (m ≤ n) → (m ≤ n) ⊎ (n < m)
    le_or_lt h = ⊎_elim inr inl h

-- what is added is no less than the least so far
kept_least : (P Q : ℕ → Type 0) (a : Option ℕ) (line : ℕ) → (MayPrecede line a → ⊥) → ((n : ℕ) → Q n → line ≤ n) → IsLeastIfAny P a → IsLeastIfAny (λ n. P n ⊎ Q n) a
kept_least P Q None line late above p = absurd (late tt)
kept_least P Q (Some l) line late above p = (inl p.0, λ n h. ⊎_elim (p.1 n) (λ q. let le = above n q in omega (arith, late)) h)

module _ {X : Type 0} (IsBad : X → Type 0) (Clash : X → X → Type 0) (line_of : X → ℕ) (xs : List X) where
  -- one that isn't bad refuses a line only for an earlier one with which it clashes
  pub good_least : (place : ℕ) (x : X) (o : Option ℕ) → slice_get xs place ≡ Some x → (IsBad x → ⊥) → IsLeastIfAny (IsLaterHere Clash line_of xs place place) o → IsLeastIfAny (IsRefusedHere IsBad Clash line_of xs place) o
  good_least place x o is good least = same_least _ _ o (λ line later. inr later)
      (λ line refused. ⊎_elim (λ here. absurd (good (subst IsBad (same_Some here.0 x (sym here.1 ∙ is)) here.2))) (λ later. later) refused) least

  module _ (place k : ℕ) (x y : X) (is_x : slice_get xs place ≡ Some x) (is_y : slice_get xs k ≡ Some y) where
    later_cases : (line : ℕ) → IsLaterHere Clash line_of xs place (k + 1) line
        → IsLaterHere Clash line_of xs place k line ⊎ ((Clash y x) × (line ≡ max (line_of y) (line_of x)))
    later_cases line later = ⊎_elim
        (λ lt. inl (record { first_place = later.first_place; apart = lt; one = later.one; is_one = later.is_one; other = later.other; is_other = later.is_other; clash = later.clash; line_is = later.line_is }))
        (λ eq.
        let one = same_Some later.one y (sym later.is_one ∙ ap (slice_get xs) eq ∙ is_y) in
        let other = same_Some later.other x (sym later.is_other ∙ is_x) in
        inr (subst (λ a. Clash a x) one (subst (Clash later.one) other later.clash), later.line_is ∙ ap (λ a. max (line_of a) (line_of later.other)) one ∙ ap (λ b. max (line_of y) (line_of b)) other))
        (below_or_at later.first_place k later.apart)

    later_more : (line : ℕ) → IsLaterHere Clash line_of xs place k line → IsLaterHere Clash line_of xs place (k + 1) line
    later_more line later = record { first_place = later.first_place; apart = omega (arith, later.apart); one = later.one; is_one = later.is_one; other = later.other; is_other = later.is_other; clash = later.clash; line_is = later.line_is }

    -- beside one more that clashes
    pub later_same : (o : Option ℕ) → Clash y x → IsLeastIfAny (IsLaterHere Clash line_of xs place k) o
        → IsLeastIfAny (IsLaterHere Clash line_of xs place (k + 1)) (lesser o (Some (max (line_of y) (line_of x))))
    later_same o same least = same_least _ _ (lesser o (Some (max (line_of y) (line_of x))))
        (λ line h. ⊎_elim (later_more line) (λ e. record { first_place = k; apart = omega arith; one = y; is_one = is_y; other = x; is_other = is_x; clash = same; line_is = e }) h)
        (λ line later. ⊎_elim inl (λ both. inr both.1) (later_cases line later))
        (lesser_least _ (λ line. line ≡ max (line_of y) (line_of x)) o (Some (max (line_of y) (line_of x))) least (refl, λ m e. omega (arith, e)))

    -- beside one more that doesn't
    pub later_other : (o : Option ℕ) → (Clash y x → ⊥) → IsLeastIfAny (IsLaterHere Clash line_of xs place k) o
        → IsLeastIfAny (IsLaterHere Clash line_of xs place (k + 1)) o
    later_other o apart least = same_least _ _ o later_more (λ line later. ⊎_elim (λ l. l) (λ both. absurd (apart both.0)) (later_cases line later)) least

  here_above : (k : ℕ) (x : X) → slice_get xs k ≡ Some x → (line : ℕ) → IsRefusedHere IsBad Clash line_of xs k line → line_of x ≤ line
  here_above k x is line refused = ⊎_elim
      (λ here. omega (arith, here.3, ap line_of (same_Some x here.0 (sym is ∙ here.1))))
      (λ later. omega (arith, later.line_is, ap line_of (same_Some x later.other (sym is ∙ later.is_other)))) refused

  below_cases : (k line : ℕ) → IsRefusedBelow IsBad Clash line_of xs (k + 1) line → IsRefusedBelow IsBad Clash line_of xs k line ⊎ IsRefusedHere IsBad Clash line_of xs k line
  below_cases k line refused = ⊎_elim (λ lt. inl (refused.0, lt, refused.2)) (λ eq. inr (subst (λ n. IsRefusedHere IsBad Clash line_of xs n line) eq refused.2)) (below_or_at refused.0 k refused.1)

  below_both : (k line : ℕ) → IsRefusedBelow IsBad Clash line_of xs k line ⊎ IsRefusedHere IsBad Clash line_of xs k line → IsRefusedBelow IsBad Clash line_of xs (k + 1) line
  below_both k line refused = ⊎_elim (λ below. (below.0, omega (arith, below.1), below.2)) (λ here. (k, omega arith, here)) refused

  -- the one at the next place too
  pub below_step : (k : ℕ) (a b : Option ℕ) → IsLeastIfAny (IsRefusedBelow IsBad Clash line_of xs k) a → IsLeastIfAny (IsRefusedHere IsBad Clash line_of xs k) b
      → IsLeastIfAny (IsRefusedBelow IsBad Clash line_of xs (k + 1)) (lesser a b)
  below_step k a b p q = same_least _ _ (lesser a b) (below_both k) (below_cases k) (lesser_least _ _ a b p q)

  -- the one at the next place doesn't come before the least line so far
  pub below_skip : (k : ℕ) (x : X) (a : Option ℕ) → slice_get xs k ≡ Some x → (MayPrecede (line_of x) a → ⊥) → IsLeastIfAny (IsRefusedBelow IsBad Clash line_of xs k) a
      → IsLeastIfAny (IsRefusedBelow IsBad Clash line_of xs (k + 1)) a
  below_skip k x a is late p = same_least _ _ a (below_both k) (below_cases k) (kept_least _ _ a (line_of x) late (here_above k x is) p)

  -- all of the list
  pub below_all : (o : Option ℕ) → IsLeastIfAny (IsRefusedBelow IsBad Clash line_of xs (length xs)) o
      → IsLeastIfAny (λ line. IsLineOfBad IsBad line_of xs line ⊎ IsLaterOfTwo Clash line_of xs line) o
  below_all o least = same_least _ _ o
      (λ line refused. ⊎_elim
      (λ here. inl (record { place = refused.0; one = here.0; is_one = here.1; bad = here.2; line_is = here.3 }))
      (λ later. inr (record { first_place = later.first_place; second_place = refused.0; apart = later.apart; one = later.one; is_one = later.is_one; other = later.other; is_other = later.is_other; clash = later.clash; line_is = later.line_is }))
      refused.2)
      (λ line h. ⊎_elim
      (λ bad. (bad.place, slice_get_within xs bad.place bad.one bad.is_one, inl (bad.one, bad.is_one, bad.bad, bad.line_is)))
      (λ two. (two.second_place, slice_get_within xs two.second_place two.other two.is_other, inr (record { first_place = two.first_place; apart = two.apart; one = two.one; is_one = two.is_one; other = two.other; is_other = two.is_other; clash = two.clash; line_is = two.line_is })))
      h)
      least
