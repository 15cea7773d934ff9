use Rattle.std.proofs.Common.{◌+◌, inl, inr, ℤ, ◌≤ℤ◌, ◌<ℤ◌, sym, ◌∙◌, arith}
use Rattle.std.proofs.lemmas.Bool.{false≢true, cases_lt}
use Rattle.std.proofs.lemmas.Int.{ints}
use borrow.Author.Differences.{up, down}
use Rattle.bt_flow.proofs.compare.reaches_one.Goals as goal

not_less : (x y : ℤ) → y ≤ℤ x → x <ℤ y → ⊥
not_less x y l m = omega (arith, ints, l, m)

below : (x y : ℤ) → (y ≤ℤ x → ⊥) → x <ℤ y
below x y o = elim (cases_lt (up x + down y) (up y + down x)) [ inl l ↦ omega (arith, ints, l) | inr l ↦ absurd (o (omega (arith, ints, l))) ]

pub returns-then-is_at_most : goal.returns-then-is_at_most
returns-then-is_at_most c = λ x y z d some ex ey ez.
    let l = (c.is_at_most.ensures y x d some ey ex).0 c.if-is_at_most.true in
    (λ t m. absurd (not_less x y l m), λ f. c.if-is_at_most.true)

pub returns-else-is_at_most : goal.returns-else-is_at_most
returns-else-is_at_most c = λ x y z d some ex ey ez.
    let second = c.is_at_most-else-is_at_most.ensures z x d some ez ex in
    let less : x <ℤ y = below x y (λ l. false≢true (sym c.if-is_at_most.false ∙ (c.is_at_most.ensures y x d some ey ex).1 l)) in
    (λ t m. second.0 t, λ f. second.1 (f less))
