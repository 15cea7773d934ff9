-- The signs of literals.
use Rattle.std.proofs.Common.{◌≡◌, Bool, true, false, not, refl}

-- a sign that is turned twice
pub twice : (b : Bool) → not (not b) ≡ b
twice true = refl
twice false = refl
