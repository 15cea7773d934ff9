-- Fractions that are the same number stand alike to others.
use Rattle.std.proofs.Common.{◌≡◌, ◌<◌, pos, ◌*ℤ◌, ◌<ℤ◌, ◌≤ℤ◌, ◌↔◌, ap, sym, ◌∙◌, subst}
use Rattle.std.proofs.Math.IntN.{zero-*ℤ}
use Rattle.bt_frac.specs.Ratio.{Ratio, SameRatio, IsLess, IsAtMost}
use Rattle.bt_frac.specs.Values.{Stands}
use Rattle.bt_frac.specs.declared.relation.Relation.{Relation}
use Rattle.bt_frac.specs.declared.relation.Relation.TheVariants.{AtLeast, Above, Equal}
use Rattle.bt_frac.proofs.Order.{mul_cancel, mul_le, le_from_mul, mul_lt, lt_from_mul}
use Rattle.bt_frac.proofs.Ring.{turn_last}

pub same_trans : (a b c : Ratio) → 0 < b.under → SameRatio a b → SameRatio b c → SameRatio a c
same_trans a b c some p q =
    mul_cancel (a.over *ℤ pos c.under) (c.over *ℤ pos a.under) b.under some
    (turn_last a.over (pos c.under) (pos b.under) ∙ ap (λ t. t *ℤ pos c.under) p ∙ turn_last b.over (pos a.under) (pos c.under)
    ∙ ap (λ t. t *ℤ pos a.under) q ∙ turn_last c.over (pos b.under) (pos a.under))

-- a number times the other's denominator, and times its own
crossed : (a b c : Ratio) → SameRatio a b → a.over *ℤ pos c.under *ℤ pos b.under ≡ b.over *ℤ pos c.under *ℤ pos a.under
crossed a b c e = turn_last a.over (pos c.under) (pos b.under) ∙ ap (λ t. t *ℤ pos c.under) e ∙ turn_last b.over (pos a.under) (pos c.under)

at_most_same : (x a b : Ratio) → 0 < a.under → SameRatio a b → IsAtMost x a → IsAtMost x b
at_most_same x a b some e h =
    le_from_mul (x.over *ℤ pos b.under) (b.over *ℤ pos x.under) a.under some
    (subst (λ t. (x.over *ℤ pos b.under *ℤ pos a.under) ≤ℤ t) (crossed a b x e)
    (subst (λ t. t ≤ℤ (a.over *ℤ pos x.under *ℤ pos b.under)) (turn_last x.over (pos a.under) (pos b.under)) (mul_le (x.over *ℤ pos a.under) (a.over *ℤ pos x.under) b.under h)))

less_same : (x a b : Ratio) → 0 < b.under → SameRatio a b → IsLess x a → IsLess x b
less_same x a b some e h =
    lt_from_mul (x.over *ℤ pos b.under) (b.over *ℤ pos x.under) a.under
    (subst (λ t. (x.over *ℤ pos b.under *ℤ pos a.under) <ℤ t) (crossed a b x e)
    (subst (λ t. t <ℤ (a.over *ℤ pos x.under *ℤ pos b.under)) (turn_last x.over (pos a.under) (pos b.under)) (mul_lt (x.over *ℤ pos a.under) (a.over *ℤ pos x.under) b.under some h)))

stands_by : (relation : Relation) (bound a b : Ratio) → 0 < a.under → 0 < b.under → SameRatio a b → Stands relation a bound → Stands relation b bound
stands_by AtLeast bound a b a_some b_some e h = at_most_same bound a b a_some e h
stands_by Above bound a b a_some b_some e h = less_same bound a b b_some e h
stands_by Equal bound a b a_some b_some e h = same_trans b a bound a_some (sym e) h

-- the same number stands to a bound alike
pub stands_same : (relation : Relation) (bound a b : Ratio) → 0 < a.under → 0 < b.under → SameRatio a b → Stands relation a bound ↔ Stands relation b bound
stands_same relation bound a b a_some b_some e =
    (stands_by relation bound a b a_some b_some e, stands_by relation bound b a b_some a_some (sym e))

-- the same number is 0, and is above 0, alike
zero_by : (a b : Ratio) → 0 < a.under → SameRatio a b → a.over ≡ pos 0 → b.over ≡ pos 0
zero_by a b some e h =
    mul_cancel b.over (pos 0) a.under some (sym e ∙ ap (λ t. t *ℤ pos b.under) h ∙ zero-*ℤ (pos b.under) ∙ sym (zero-*ℤ (pos a.under)))

pub zero_same : (a b : Ratio) → 0 < a.under → 0 < b.under → SameRatio a b → (a.over ≡ pos 0) ↔ (b.over ≡ pos 0)
zero_same a b a_some b_some e = (zero_by a b a_some e, zero_by b a b_some (sym e))

above_by : (a b : Ratio) → 0 < b.under → SameRatio a b → pos 0 <ℤ a.over → pos 0 <ℤ b.over
above_by a b some e h =
    lt_from_mul (pos 0) b.over a.under
    (subst (λ t. t <ℤ (b.over *ℤ pos a.under)) (zero-*ℤ (pos b.under) ∙ sym (zero-*ℤ (pos a.under)))
    (subst (λ t. (pos 0 *ℤ pos b.under) <ℤ t) e (mul_lt (pos 0) a.over b.under some h)))

pub above_same : (a b : Ratio) → 0 < a.under → 0 < b.under → SameRatio a b → (pos 0 <ℤ a.over) ↔ (pos 0 <ℤ b.over)
above_same a b a_some b_some e = (above_by a b b_some e, above_by b a a_some (sym e))
