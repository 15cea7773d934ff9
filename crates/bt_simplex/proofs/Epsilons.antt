-- The number that takes the place of the infinitesimal.
use Rattle.std.proofs.Common.{◌≡◌, ◌≢◌, ◌⊎◌, ◌+◌, ◌<◌, ◌≤◌, arith, pos, neg_ℤ, ◌<ℤ◌, length, Some, below_more, sym, refl, subst, inl, inr, ℕ, ℤ, lit<}
use Rattle.std.proofs.Math.Nat.{one-dvd}
use Rattle.std.proofs.lemmas.Int.{ints}
use Rattle.bt_frac.specs.Ratio.{Ratio, SameRatio, IsLowest, IsLess, IsAtMost, IsSum, negated}
use Rattle.bt_frac.specs.Products.{IsProduct, IsDivision}
use Rattle.bt_frac.specs.Rows.{RowParts}
use Rattle.bt_frac.specs.Values.{plus, times}
use Rattle.bt_frac.specs.declared.delta.Delta.{Delta}
use Rattle.bt_farkas.proofs.SameNumbers.{stands_same}
use Rattle.bt_frac.specs.declared.relation.Relation.TheVariants.{AtLeast}
use Rattle.bt_linear_forms.specs.Lines.{one}
use Rattle.bt_pivot.specs.Tableaus.{TableauParts, IsTableau}
use Rattle.bt_pivot.specs.Points.{bound_row, point_at, IsSamePoint}
use Rattle.bt_linear_forms.specs.Unfits.{IsNone}
use Rattle.bt_simplex.specs.Causes.{IsNumber, IsFalling, IsHalfRoom, IsEpsilon, IsRoomStep, IsStepAt, IsCause, gap}
use Rattle.bt_simplex.specs.Pivots.{IsMet}
use Rattle.bt_linear_forms.specs.declared.unfit.Operation.{Operation}
use Rattle.bt_linear_forms.specs.declared.unfit.Operation.TheVariants.{Add, Mul, Div}
use Rattle.bt_pivot.specs.declared.causes.WidePlace.TheVariants.{Settle}
use Rattle.bt_pivot.specs.declared.causes.Cause.{Cause}
use Rattle.bt_simplex.specs.inner.Settling.{IsSettled, IsFallingFrom, gap_of, IsRoom, IsRoomNumbers, IsUnfitRoom, IsLesser}
use Rattle.bt_pivot.proofs.Failing.{less_right, row_is}
use Rattle.bt_linear_forms.proofs.Numbers.{Positive, Alike, alike, itself, back, next, both_plus, both_times, swap_times, group_times, plus_positive, times_positive}
use Rattle.bt_pivot.proofs.Resting.{point_some, bound_some_of, bound_within}
use Rattle.bt_linear_forms.proofs.Shares.{negated_low}
use Rattle.bt_simplex.proofs.Signs.{IsAbove, above_by, above_times, times_cancel, at_most_trans}
use Rattle.bt_linear_forms.proofs.Zeros.{one_some, negated_alike}
use Rattle.bt_linear_forms.proofs.Indicators.{times_one}

-- the number 1/2
abbrev half_ratio : Ratio
half_ratio = record { over = pos 1; under = 2 }

pub half_lowest : IsLowest (record { over = pos 1; under = 2 })
half_lowest = record { positive = omega arith; coprime = (one-dvd 1, one-dvd 2, λ d p q. p); over_fits = lit< tt; under_fits = lit< tt }

half_some : Positive (record { over = pos 1; under = 2 })
half_some = omega arith

-- half of a number, times 2 and another number
doubled : (q h f : Ratio) → Positive q → Positive h → Positive f → IsProduct q (record { over = pos 1; under = 2 }) h
    → Alike (times h (times (record { over = pos 2; under = 1 }) f)) (times q f)
doubled q h f q_some h_some f_some is =
    let second : Ratio = record { over = pos 2; under = 1 } in
    let second_some : Positive second = omega arith in
    let two_f = times_positive second f second_some f_some in
    let whole : Alike (times half_ratio second) one = alike (times half_ratio second) one (omega arith) one_some refl in
    next (both_times (alike h (times q half_ratio) h_some (times_positive q half_ratio q_some half_some) is) (itself (times second f) two_f))
    (next (group_times q half_ratio (times second f) q_some half_some two_f)
    (both_times (itself q q_some)
    (next (back (group_times half_ratio second f half_some second_some f_some))
    (next (both_times whole (itself f f_some)) (next (swap_times one f one_some f_some) (times_one f f_some))))))

-- what is formed of a falling row
pub room_formed : (row : RowParts) (point : Delta) (bound fall gap quotient room : Ratio) → IsLowest point.value → IsLowest row.bound → IsLowest point.tiny → bound ≡ negated row.bound → fall ≡ negated point.tiny
    → IsLowest gap → IsSum point.value bound gap → IsLowest quotient → IsDivision gap fall quotient → (half : Ratio) → half ≡ record { over = pos 1; under = 2 } → IsLowest room → IsProduct quotient half room
    → IsRoom row point room
room_formed row point bound fall gap quotient room v_low b_low t_low bound_is fall_is gap_low is_gap q_low is_quotient half half_is low is_room =
    let f : Positive (negated point.tiny) = t_low.positive in
    let sum : Alike gap (plus point.value (negated row.bound)) =
    alike gap (plus point.value (negated row.bound)) gap_low.positive (plus_positive point.value (negated row.bound) v_low.positive b_low.positive) (subst (λ b. IsSum point.value b gap) bound_is is_gap) in
    let share : Alike (times quotient (negated point.tiny)) gap =
    alike (times quotient (negated point.tiny)) gap (times_positive quotient (negated point.tiny) q_low.positive f) gap_low.positive (sym (subst (λ d. IsDivision gap d quotient) fall_is is_quotient)) in
    record {
      lowest = low;
      share = (next (doubled quotient room (negated point.tiny) q_low.positive low.positive f (subst (λ h. IsProduct quotient h room) half_is is_room)) (next share sum)).same;
    }

-- the gap and the quotient, as numbers
pub gap_number : (row : RowParts) (point : Delta) (bound gap : Ratio) → bound ≡ negated row.bound → IsLowest gap → IsSum point.value bound gap → IsNumber gap (gap_of row point)
gap_number row point bound gap is low sum = (low, subst (λ b. IsSum point.value b gap) is sum)

pub quotient_number : (row : RowParts) (point : Delta) (bound fall gap quotient : Ratio) → IsLowest point.value → IsLowest row.bound → IsLowest point.tiny → bound ≡ negated row.bound → fall ≡ negated point.tiny
    → IsLowest gap → IsSum point.value bound gap → IsLowest quotient → IsDivision gap fall quotient → SameRatio (times quotient (negated point.tiny)) (gap_of row point)
quotient_number row point bound fall gap quotient v_low b_low t_low bound_is fall_is gap_low is_gap q_low is_quotient =
    (next (alike (times quotient (negated point.tiny)) gap (times_positive quotient (negated point.tiny) q_low.positive t_low.positive) gap_low.positive (sym (subst (λ d. IsDivision gap d quotient) fall_is is_quotient)))
    (alike gap (plus point.value (negated row.bound)) gap_low.positive (plus_positive point.value (negated row.bound) v_low.positive b_low.positive) (subst (λ b. IsSum point.value b gap) bound_is is_gap))).same

-- the causes of a room
module _ (position : ℕ) (row : RowParts) (point : Delta) (cause : Cause) (low : IsLowest point.value × IsLowest point.tiny) where
  caused : (operation : Operation) (left right : Ratio) → cause ≡ record { place = Settle; row = position; column = 0; operation = operation; left = left; right = right }
      → IsNone operation left right → IsRoomNumbers row point operation left right → IsUnfitRoom position row point cause
  caused operation left right is none numbers =
      subst (λ c. IsUnfitRoom position row point c) (sym is) (record { lowest = low; place = refl; row_is = refl; column = refl; none = none; numbers = numbers })

  pub room_add : (left right : Ratio) → cause ≡ record { place = Settle; row = position; column = 0; operation = Add; left = left; right = right } → IsNone Add left right → left ≡ point.value
      → right ≡ negated row.bound → IsUnfitRoom position row point cause
  room_add left right is none left_is right_is = caused Add left right is none (left_is, right_is)

  pub room_div : (left right : Ratio) → cause ≡ record { place = Settle; row = position; column = 0; operation = Div; left = left; right = right } → IsNone Div left right → IsNumber left (gap_of row point)
      → right ≡ negated point.tiny → IsUnfitRoom position row point cause
  room_div left right is none left_is right_is = caused Div left right is none (left_is, right_is)

  pub room_mul : (left right : Ratio) → cause ≡ record { place = Settle; row = position; column = 0; operation = Mul; left = left; right = right } → IsNone Mul left right → IsLowest left
      → SameRatio (times left (negated point.tiny)) (gap_of row point) → right ≡ record { over = pos 1; under = 2 } → IsUnfitRoom position row point cause
  room_mul left right is none lowest left_is right_is = caused Mul left right is none (lowest, left_is, right_is)

-- a number with the other sign isn't 0 either
pub negated_some : (a : Ratio) → a.over <ℤ pos 0 → (negated a).over ≢ pos 0
negated_some a h e = none a.over h e
  where
    none : (z : ℤ) → z <ℤ pos 0 → neg_ℤ z ≡ pos 0 → ⊥
    none z h e = omega (arith, ints)

below_by : {a b : Ratio} → Alike a b → a.over <ℤ pos 0 → b.over <ℤ pos 0
below_by {a} {b} h low = from b.over (above_by (negated_alike h) (to a.over low))
  where
    to : (z : ℤ) → z <ℤ pos 0 → pos 0 <ℤ neg_ℤ z
    to z h = omega (arith, ints)

    from : (z : ℤ) → pos 0 <ℤ neg_ℤ z → z <ℤ pos 0
    from z h = omega (arith, ints)

-- the rooms of a position, told at the same point
module _ (t : TableauParts) (position : ℕ) (row : RowParts) (point : Delta) (is_bound : bound_row t position ≡ Some row) (same : IsSamePoint point (point_at t position)) where
  value : Alike point.value (point_at t position).value
  value = alike point.value (point_at t position).value same.left_value same.right_value same.same.0

  tiny : Alike point.tiny (point_at t position).tiny
  tiny = alike point.tiny (point_at t position).tiny same.left_tiny same.right_tiny same.same.1

  pub falls_at : IsFallingFrom row point → IsFalling t position
  falls_at falls = record {
    row = row;
    is_bound = is_bound;
    above = less_right point.value (point_at t position).value row.bound same.left_value same.right_value same.same.0 falls.above;
    below = below_by tiny falls.below;
  }

  pub falls_from : IsFalling t position → IsFallingFrom row point
  falls_from falls = record {
    above =
        less_right (point_at t position).value point.value row.bound same.right_value same.left_value (sym same.same.0)
        (subst (λ (r : RowParts). IsLess r.bound (point_at t position).value) (row_is falls.row row (bound_row t position) falls.is_bound is_bound) falls.above);
    below = below_by (back tiny) falls.below;
  }

  gaps : Positive row.bound → Alike (gap_of row point) (plus (point_at t position).value (negated row.bound))
  gaps some = both_plus value (itself (negated row.bound) some)

  pub half_at : (half : Ratio) → Positive row.bound → IsFallingFrom row point → IsRoom row point half → IsHalfRoom t position half
  unfolding falls_at
  half_at half some falls room =
      let second : Ratio = record { over = pos 2; under = 1 } in
      let second_some : Positive second = omega arith in
      let fall = negated_alike tiny in
      let moved : Alike (times half (times second (negated point.tiny))) (times half (times second (negated (point_at t position).tiny))) =
      both_times (itself half room.lowest.positive) (both_times (itself second second_some) fall) in
      let there = gaps some in (
        falls_at falls,
        (next (back moved) (next (alike (times half (times second (negated point.tiny))) (gap_of row point) moved.left there.left room.share) there)).same,
      )

  pub room_cause : (cause : Cause) → IsMet t → Positive row.bound → IsFallingFrom row point → IsUnfitRoom position row point cause → IsCause t cause
  unfolding falls_at
  room_cause cause met some falls unfit = (
    unfit.none,
    subst (λ place. IsStepAt t place cause.row cause.column cause.operation cause.left cause.right) (sym unfit.place)
        (met, unfit.column, inl (subst (λ p. IsRoomStep t p cause.operation cause.left cause.right) (sym unfit.row_is) (at cause.operation cause.left cause.right unfit.numbers))),
  )
    where
      at : (operation : Operation) (left right : Ratio) → IsRoomNumbers row point operation left right → IsRoomStep t position operation left right
      at Add left right numbers = (
        falls_at falls,
        subst (λ l. IsNumber l (point_at t position).value) (sym numbers.0) (unfit.lowest.0, same.same.0),
        numbers.1,
      )
      at Div left right numbers =
          let there = gaps some in (
            falls_at falls,
            (numbers.0.0, (next (alike left (gap_of row point) numbers.0.0.positive there.left numbers.0.1) there).same),
            subst (λ r. IsNumber r (negated (point_at t position).tiny)) (sym numbers.1) (negated_low point.tiny unfit.lowest.1, (negated_alike tiny).same),
          )
      at Mul left right numbers =
          let there = gaps some in
          let fall = both_times (itself left numbers.0.positive) (negated_alike tiny) in (
            falls_at falls,
            numbers.0,
            (next (back fall) (next (alike (times left (negated point.tiny)) (gap_of row point) fall.left there.left numbers.1) there)).same,
            numbers.2,
          )

-- what falls is below 0
pub fall_above : (t : TableauParts) (position : ℕ) → IsFalling t position → IsAbove (negated (point_at t position).tiny)
fall_above t position falls = to (point_at t position).tiny.over falls.below
  where
    to : (z : ℤ) → z <ℤ pos 0 → pos 0 <ℤ neg_ℤ z
    to z h = omega (arith, ints)

-- twice how much a position falls
abbrev pub twice_fall : TableauParts → ℕ → Ratio
twice_fall t position = times (record { over = pos 2; under = 1 }) (negated (point_at t position).tiny)

pub twice_some : (t : TableauParts) (position : ℕ) → IsTableau t → Positive (twice_fall t position)
twice_some t position tableau = times_positive (record { over = pos 2; under = 1 }) (negated (point_at t position).tiny) (omega arith) (point_some t tableau position).1

pub twice_above : (t : TableauParts) (position : ℕ) → IsFalling t position → IsAbove (twice_fall t position)
twice_above t position falls = above_times (record { over = pos 2; under = 1 }) (negated (point_at t position).tiny) (omega (arith, ints)) (fall_above t position falls)

pub gap_some : (t : TableauParts) (position : ℕ) → IsTableau t → (falls : IsFalling t position) → Positive (gap falls)
gap_some t position tableau falls =
    plus_positive (point_at t position).value (negated falls.row.bound) (point_some t tableau position).0 (bound_some_of t tableau.rows position falls.row falls.is_bound)

-- two halves of what one position lets be are the same
same_half : (t : TableauParts) (position : ℕ) (half half' : Ratio) → IsTableau t → Positive half → Positive half' → IsHalfRoom t position half → IsHalfRoom t position half' → Alike half half'
same_half t position half half' tableau some some' (falls, is) (falls', is') =
    let k = twice_fall t position in
    let k_some = twice_some t position tableau in
    let gap_is = gap_some t position tableau falls in
    times_cancel half half' (twice_fall t position) some some' k_some (twice_above t position falls)
    (next (alike (times half (twice_fall t position)) (gap falls) (times_positive half (twice_fall t position) some k_some) gap_is is)
    (back (alike (times half' (twice_fall t position)) (gap falls) (times_positive half' (twice_fall t position) some' k_some) gap_is
    (subst (λ (r : RowParts). SameRatio (times half' (twice_fall t position)) (plus (point_at t position).value (negated r.bound)))
    (row_is falls'.row falls.row (bound_row t position) falls'.is_bound falls.is_bound) is'))))

-- the least so far of 1 and of half of what the positions before this one let be
pub record IsLeastRoom (t : TableauParts) (done : ℕ) (epsilon : Ratio) : Type 0 where
  pub lowest : IsLowest epsilon
  pub is : (epsilon ≡ one) ⊎ ((position : ℕ) × IsHalfRoom t position epsilon)
  pub at_most_one : IsAtMost epsilon one
  pub least : (position : ℕ) (half : Ratio) → position < done → 0 < half.under → IsHalfRoom t position half → IsAtMost epsilon half

-- a position that doesn't fall
pub least_stays : (t : TableauParts) (done : ℕ) (epsilon : Ratio) → IsLeastRoom t done epsilon → (IsFalling t done → ⊥) → IsLeastRoom t (done + 1) epsilon
least_stays t done epsilon so_far none = record {
  lowest = so_far.lowest;
  is = so_far.is;
  at_most_one = so_far.at_most_one;
  least = λ p half h some room.
      below_more (λ p. (half : Ratio) → 0 < half.under → IsHalfRoom t p half → IsAtMost epsilon half) done (λ p h half. so_far.least p half h) (λ half some room. absurd (none room.0)) p h half some room;
}

-- and one that does
pub least_more : (t : TableauParts) (done : ℕ) (epsilon room epsilon' : Ratio) → IsTableau t → IsLeastRoom t done epsilon → IsLowest room × IsHalfRoom t done room → IsLesser epsilon room epsilon'
    → IsLeastRoom t (done + 1) epsilon'
least_more t done epsilon room epsilon' tableau so_far (room_low, is_room) lesser = record {
  lowest = low lesser.is;
  is = was lesser.is;
  at_most_one = at_most_trans epsilon' epsilon one so_far.lowest.positive lesser.at_most_first so_far.at_most_one;
  least = λ p half h some half_room. least_at p h half some half_room;
}
  where
    low : (epsilon' ≡ epsilon) ⊎ (epsilon' ≡ room) → IsLowest epsilon'
    low (inl e) = subst IsLowest (sym e) so_far.lowest
    low (inr e) = subst IsLowest (sym e) room_low

    was : (epsilon' ≡ epsilon) ⊎ (epsilon' ≡ room) → (epsilon' ≡ one) ⊎ ((position : ℕ) × IsHalfRoom t position epsilon')
    was (inl e) = subst (λ r. (r ≡ one) ⊎ ((position : ℕ) × IsHalfRoom t position r)) (sym e) so_far.is
    was (inr e) = inr (done, subst (λ r. IsHalfRoom t done r) (sym e) is_room)

    least_at : (p : ℕ) → p < done + 1 → (half : Ratio) → 0 < half.under → IsHalfRoom t p half → IsAtMost epsilon' half
    least_at =
        below_more (λ p. (half : Ratio) → 0 < half.under → IsHalfRoom t p half → IsAtMost epsilon' half) done
        (λ p h half some half_room. at_most_trans epsilon' epsilon half so_far.lowest.positive lesser.at_most_first (so_far.least p half h some half_room))
        (λ half some half_room.
        let same = same_half t done room half tableau room_low.positive some is_room half_room in
        (stands_same AtLeast epsilon' room half room_low.positive some same.same).0 lesser.at_most_second)

-- at the end
pub least_ends : (t : TableauParts) (done : ℕ) (epsilon : Ratio) → IsTableau t → length t.slots ≤ done → IsLeastRoom t done epsilon → IsEpsilon t epsilon
least_ends t done epsilon tableau past so_far = record {
  lowest = so_far.lowest;
  is = so_far.is;
  at_most_one = so_far.at_most_one;
  least = λ p half some half_room.
      let within = bound_within t tableau p half_room.0.row half_room.0.is_bound in
      so_far.least p half (omega arith) some half_room;
}

-- the value of a column
module _ (t : TableauParts) (column : ℕ) (epsilon : Ratio) (point : Delta) (product : Ratio) (same : IsSamePoint point (point_at t column)) (low : IsLowest epsilon) (product_low : IsLowest product)
    (is_product : IsProduct epsilon point.tiny product) where
  product_is : Alike product (times epsilon (point_at t column).tiny)
  product_is =
      next (alike product (times epsilon point.tiny) product_low.positive (times_positive epsilon point.tiny low.positive same.left_tiny) is_product)
      (both_times (itself epsilon low.positive) (alike point.tiny (point_at t column).tiny same.left_tiny same.right_tiny same.same.1))

  pub column_settled : (settled : Ratio) → IsLowest settled → IsSum point.value product settled → IsSettled t epsilon column settled
  column_settled settled settled_low sum = record {
    lowest = settled_low;
    same =
        (next (alike settled (plus point.value product) settled_low.positive (plus_positive point.value product same.left_value product_low.positive) sum)
        (both_plus (alike point.value (point_at t column).value same.left_value same.right_value same.same.0) product_is)).same;
  }

  pub column_add : (cause : Cause) → IsMet t → column < t.columns → IsEpsilon t epsilon → IsLowest point.value → IsNone Add point.value product
      → cause ≡ record { place = Settle; row = column; column = 0; operation = Add; left = point.value; right = product } → IsCause t cause
  column_add cause met within is_epsilon value_low none is =
      subst (λ c. IsCause t c) (sym is)
      (none, (met, refl, inr (within, (value_low, same.same.0), (epsilon, is_epsilon, (product_low, product_is.same)))))
