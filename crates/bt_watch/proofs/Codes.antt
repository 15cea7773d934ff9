-- Literals and their numbers.
use Rattle.std.proofs.Common.{◌≡◌, ℕ, ◌+◌, ◌*◌, ◌<◌, arith, Bool, true, false, refl, ap₂}
use Rattle.std.specs.Prelude.{cond}
use Rattle.bt_cnf.specs.declared.literal.Lit.{Lit}
use Rattle.bt_cnf.specs.Codes.{code_of}

made : (a b : Lit) → a.var ≡ b.var → a.positive ≡ b.positive → a ≡ b
made a b var sign = let make : ℕ → Bool → Lit = λ v p. record { var = v; positive = p } in ap₂ make var sign

-- literals with the same number are the same
pub code_same : (m l : Lit) → code_of m ≡ code_of l → m ≡ l
code_same m l same = made m l (halves m.positive l.positive m.var l.var same).0 (halves m.positive l.positive m.var l.var same).1
  where
    halves : (a b : Bool) (i j : ℕ) → 2 * i + cond a 0 1 ≡ 2 * j + cond b 0 1 → (i ≡ j) × (a ≡ b)
    halves true true i j e = (omega (arith, e), refl)
    halves false false i j e = (omega (arith, e), refl)
    halves true false i j e = absurd (omega (arith, e))
    halves false true i j e = absurd (omega (arith, e))

-- the number of a literal is below twice the variables
pub code_below : (l : Lit) (vars size : ℕ) → l.var < vars → size ≡ 2 * vars → code_of l < size
code_below l vars size below is = by_sign l.positive
  where
    by_sign : (b : Bool) → 2 * l.var + cond b 0 1 < size
    by_sign true = omega (arith, below, is)
    by_sign false = omega (arith, below, is)
