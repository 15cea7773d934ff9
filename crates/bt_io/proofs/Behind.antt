-- Reading a source in two passages, one behind the other.
use Rattle.std.proofs.Common.{◌≡◌, ℕ, ◌+◌, ◌≤◌, List, ◌++◌, length, Ok, Err, arith, length-append}
use Rattle.std.specs.declared.option.Option.{Option}
use Rattle.std.specs.Io.KnownBytes.{Consumes}
use Rattle.std.proofs.KnownBytes.{Consumes-trans}
use Rattle.bt_io.specs.Bytes.{ReadsAll, TakesAtMost}
use Rattle.bt_io.specs.Causes.{Rose}
use Rattle.bt_io.specs.Passages.{passage}
use Rattle.bt_io.specs.declared.fault.ReadAll.TheVariants.{ReadFault, TooLong, Memory}

-- a count that rose from a later value rose from an earlier one
rose_before : (a b c : ℕ) → a ≤ b → Rose b c → Rose a c
rose_before a b c le rose = let risen = rose.risen in record { risen = omega arith; fits = rose.fits }

module _ {S : Type 0} (left : S → Option (List ℕ)) (faults : S → ℕ) (first second third : S) (bytes : List ℕ) (limit rest : ℕ)
    (taken : Consumes (left first) (left second) bytes) (few : length bytes + rest ≤ limit) (count : faults first ≤ faults second) where
  -- all that was left after these bytes, within what may be left, is all that was left, within the limit
  pub all_behind : (more : List ℕ) → ReadsAll rest (passage left faults second third) (Ok more) → ReadsAll limit (passage left faults first third) (Ok (bytes ++ more))
  all_behind more r = record {
    read = ((Consumes-trans (left first) (left second) (left third) bytes more taken r.read.0.0, r.read.0.1), omega (arith, length-append bytes more, r.read.1));
    count = omega (arith, r.count, count);
  }

  at_most_behind : TakesAtMost (passage left faults second third) rest → TakesAtMost (passage left faults first third) limit
  at_most_behind t = (bytes ++ t.0, Consumes-trans (left first) (left second) (left third) bytes t.0 taken t.1, omega (arith, length-append bytes t.0, t.2))

  -- the source failed after these bytes
  pub fault_behind : ReadsAll rest (passage left faults second third) (Err ReadFault) → ReadsAll limit (passage left faults first third) (Err ReadFault)
  fault_behind r = record {
    read = (rose_before (faults first) (faults second) (faults third) count r.read.0, at_most_behind r.read.1);
    count = omega (arith, r.count, count);
  }

  -- memory ran out after these bytes
  pub memory_behind : ReadsAll rest (passage left faults second third) (Err Memory) → ReadsAll limit (passage left faults first third) (Err Memory)
  memory_behind r = record { read = at_most_behind r.read; count = omega (arith, r.count, count) }

  -- one byte past the limit was taken
  pub long_behind : length bytes + rest ≡ limit → ReadsAll rest (passage left faults second third) (Err TooLong) → ReadsAll limit (passage left faults first third) (Err TooLong)
  long_behind full r = record {
    read = (bytes ++ r.read.0, Consumes-trans (left first) (left second) (left third) bytes r.read.0 taken r.read.1, omega (arith, length-append bytes r.read.0, r.read.2, full));
    count = omega (arith, r.count, count);
  }
