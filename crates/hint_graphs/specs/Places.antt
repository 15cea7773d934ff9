-- Places in a list.
use Rattle.std.specs.Prelude.{ℕ, ◌<◌, List}
use Rattle.std.specs.List.{All}

-- the numbers are below an end
abbrev pub AreBelow : ℕ → List ℕ → Type 0
AreBelow end numbers = All (λ number. number < end) numbers
