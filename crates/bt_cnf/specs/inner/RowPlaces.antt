-- Places that are kept by their ends.
use Rattle.std.specs.Prelude.{ℕ, zero, suc, Option, None, Some}

-- the place that ends so, or none where the end is 0
abbrev pub place_before : ℕ → Option ℕ
place_before zero = None
place_before (suc place) = Some place
