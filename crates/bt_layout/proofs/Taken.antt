-- Steps that searches took.
use Rattle.std.proofs.Common.{◌≡◌, ℕ, ◌+◌, ◌≤◌, ◌^◌, arith}
use Rattle.std.specs.Prelude.{min}
use Rattle.bt_layout.specs.inner.Progressing.{ArePaid}

-- steps that are paid are added, where no greater number than this one can be told
pub paid : (learnt taken steps total most : ℕ) → total ≡ min (taken + steps) most → 2 ^ 64 ≤ most + 1 → ArePaid learnt taken steps → (total ≡ taken + steps) × (total ≤ learnt)
paid learnt taken steps total most is large are =
    let few = are.few in
    let limit = are.limit in
    let whole : total ≡ taken + steps = omega (arith, is, large, few, limit) in
    (whole, omega (arith, whole, few))
