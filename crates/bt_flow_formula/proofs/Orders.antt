-- The order of whole numbers is total.
use Rattle.std.proofs.Common.{◌≡◌, ◌⊎◌, inl, inr, ◌+◌, ℤ, ◌≤ℤ◌, ◌<ℤ◌, arith}
use Rattle.std.proofs.lemmas.Int.{ints}
use Rattle.std.proofs.lemmas.Bool.{cases_lt}
use borrow.Author.Differences.{up, down}

-- a whole number is below another, the same or above it
pub order : (x y : ℤ) → (x <ℤ y) ⊎ ((x ≡ y) ⊎ (y <ℤ x))
order x y =
    elim (cases_lt (up x + down y) (up y + down x)) [
      | inl l ↦ inl (omega (arith, ints, l))
      | inr l ↦ elim (cases_lt (up y + down x) (up x + down y)) [ inl m ↦ inr (inr (omega (arith, ints, m))) | inr m ↦ inr (inl (omega (arith, ints, l, m))) ]
    ]

-- a whole number is at most another, or above it
pub at_most_or : (x y : ℤ) → (x ≤ℤ y) ⊎ (y <ℤ x)
at_most_or x y = elim (order x y) [ inl l ↦ inl (omega (arith, ints, l)) | inr h ↦ elim h [ inl e ↦ inl (omega (arith, ints, e)) | inr g ↦ inr g ] ]
