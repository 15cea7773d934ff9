-- The literal that has a number.
use Rattle.std.specs.Prelude.{◌≡◌, ◌+◌, ◌*◌, ◌/◌, ◌%◌, ◌==◌, ℕ, Bool, true, false, cond}
use Rattle.std.proofs.Common.{arith, refl}
use Rattle.std.proofs.lemmas.Bool.Decides.{nat_tests}
use Rattle.bt_cnf.specs.declared.literal.Lit.{Lit}
use Rattle.bt_cnf.specs.Codes.{code_of}

-- the literal that has a number
abbrev pub lit_of : ℕ → Lit
lit_of code = record { var = code / 2; positive = code % 2 == 0 }

-- a number is that of the literal that has it
pub code_back : (code : ℕ) → code_of (lit_of code) ≡ code
code_back code = by_sign (code % 2 == 0) refl
  where
    by_sign : (even : Bool) → (code % 2 == 0) ≡ even → 2 * (code / 2) + cond even 0 1 ≡ code
    by_sign true is = grind (arith, nat_tests)
    by_sign false is = grind (arith, nat_tests)
