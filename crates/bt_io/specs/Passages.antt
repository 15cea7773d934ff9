-- What a source or a sink tells before and after a call.
use Rattle.std.specs.Prelude.{ℕ, List}
use Rattle.std.specs.declared.option.Option.{Option}
use Rattle.bt_io.specs.Causes.{Rose}

-- the bytes that a source has left or a sink holds, where it tells them, before a call and after it, and its counts of
-- faults
pub record Passage : Type 0 where
  pub before : Option (List ℕ)
  pub after : Option (List ℕ)
  pub faults : ℕ
  pub faults_after : ℕ

-- the passage from an old state to a new one, where `bytes` and `faults` tell what a state has and how often it failed
abbrev pub passage : {S : Type 0} → (S → Option (List ℕ)) → (S → ℕ) → S → S → Passage
passage bytes faults old new = record { before = bytes old; after = bytes new; faults = faults old; faults_after = faults new }

-- the count of faults rose
abbrev pub HasFault : Passage → Type 0
HasFault p = Rose p.faults p.faults_after
