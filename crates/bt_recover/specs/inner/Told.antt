-- What is told of the parts of a kind.
use Rattle.std.specs.Prelude.{ℕ, Option, MatchOption}
use Rattle.bt_model.specs.Orderly.{Never}
use Rattle.bt_recover.specs.Recovered.{IsFirst}

-- one of this kind is told, or there is none
abbrev pub TellsOne : (ℕ → Type 0) → Option ℕ → Type 0
TellsOne P told = MatchOption told (Never P) P

-- the first of this kind is told, or there is none
abbrev pub TellsFirst : (ℕ → Type 0) → Option ℕ → Type 0
TellsFirst P told = MatchOption told (Never P) (IsFirst P)
