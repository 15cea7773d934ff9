use Rattle.std.proofs.Common.{◌≡◌, ℕ, ◌-◌, ◌^◌, ◌<◌, ◌≤◌, min, List, subst, arith}
use Rattle.std.specs.Prelude.{decimal}
use Rattle.bt_frac.specs.Numbers.{Spells}
use Rattle.bt_frac.proofs.Numerals.{Spells-decimal, Spells-unique, decimal-from_spells}
use Rattle.bt_words.proofs.number.number_up_to.Goals as goal

-- a number that is read and is small is the one that the word spells
small_number : (w : List ℕ) (v n : ℕ) → Spells w n → v ≡ min n (2 ^ 128 - 1) → v < 2 ^ 64 → w ≡ decimal v
small_number w v n s is small = let same : n ≡ v = omega arith in subst (λ m. w ≡ decimal m) same (decimal-from_spells w n s (omega arith))

-- a number that is read and is past this one is none up to it
large_number : (w : List ℕ) (v n m most : ℕ) → Spells w n → v ≡ min n (2 ^ 128 - 1) → most < v → most < 2 ^ 64 → m ≤ most → w ≡ decimal m → ⊥
large_number w v n m most s is large fits small e =
    let same = Spells-unique (rw e at s) (Spells-decimal m (omega arith)) in omega arith

pub returns-in_err-number : goal.returns-in_err-number
returns-in_err-number c =
    rw c.from_residual.ensures (λ n small is. c.in_err-number.ensures.none n (rw (← is) at (Spells-decimal n (omega (arith, c.ranges.most.fits)))))

pub returns-then-number-from : goal.returns-then-number-from
returns-then-number-from c =
    let spelled = c.in_ok-number.ensures.some in
    (omega arith, small_number c.args.word.now c.in_ok-number.number spelled.0 spelled.1 spelled.2 (omega (arith, c.ranges.most.fits)))

pub returns-else-number-from : goal.returns-else-number-from
returns-else-number-from c = λ n small is.
    let spelled = c.in_ok-number.ensures.some in
    large_number c.args.word.now c.in_ok-number.number spelled.0 n c.args.most spelled.1 spelled.2 (omega arith) (omega (arith, c.ranges.most.fits)) small is
