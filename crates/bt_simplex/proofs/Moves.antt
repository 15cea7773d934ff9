-- Where a number of a sign moves a row.
use Rattle.std.proofs.Common.{◌≡◌, arith, pos, ◌<ℤ◌, ◌↔◌, Ordering, Less, Equal, Greater, sym, refl, subst, inl, inr, ℤ}
use Rattle.std.proofs.lemmas.Int.{ints}
use Rattle.bt_frac.specs.Ratio.{Ratio}
use Rattle.bt_frac.specs.Rows.{RowParts}
use Rattle.bt_frac.specs.Deltas.{IsLessDelta, SameDelta}
use Rattle.bt_frac.specs.declared.delta.Delta.{Delta}
use Rattle.bt_pivot.specs.Points.{bound_value}
use Rattle.bt_simplex.specs.Pivots.{MovesTowards}
use Rattle.bt_linear_forms.specs.TermSigns.{IsSign}

both_ways : {x y : ℤ} → x <ℤ y → y <ℤ x → ⊥
both_ways {x} {y} p q = omega (arith, ints)

less_even : {x y : ℤ} → x <ℤ y → x ≡ y → ⊥
less_even {x} {y} p q = omega (arith, ints)

opposed : (a b : Delta) → IsLessDelta a b → IsLessDelta b a → ⊥
opposed a b (inl p) (inl q) = both_ways p q
opposed a b (inl p) (inr (s, q)) = less_even p (sym s)
opposed a b (inr (s, p)) (inl q) = less_even q (sym s)
opposed a b (inr (s, p)) (inr (r, q)) = both_ways p q

even : (a b : Delta) → SameDelta a b → IsLessDelta a b → ⊥
even a b same (inl h) = less_even h same.0
even a b same (inr (s, h)) = less_even h same.1

up_is : (o : Ordering) (z : ℤ) → IsSign o z → pos 0 <ℤ z → o ≡ Greater
up_is Less z sign up = absurd (omega (arith, ints))
up_is Equal z sign up = absurd (omega (arith, ints))
up_is Greater z sign up = refl

-- below its bound value a row is moved towards it by a number above 0
pub moves_up : (row : RowParts) (point : Delta) (number : Ratio) (o : Ordering) → IsLessDelta point (bound_value row) → IsSign o number.over → (o ≡ Greater) ↔ MovesTowards row point number
moves_up row point number o below sign = (λ e. inl (below, subst (λ s. IsSign s number.over) e sign), λ moves. told moves)
  where
    told : MovesTowards row point number → o ≡ Greater
    told (inl (less, up)) = up_is o number.over sign up
    told (inr (more, down)) = absurd (opposed point (bound_value row) below more)
