-- Nothing to write.
use Rattle.std.proofs.Common.{ℕ, List, [], Some, None, Ok, sym, arith}
use Rattle.std.proofs.lemmas.List.{append-nil}
use Rattle.std.specs.declared.option.Option.{Option}
use Rattle.std.specs.Io.KnownBytes.{Appends}
use Rattle.bt_io.specs.Bytes.{WritesText}
use Rattle.bt_io.specs.Passages.{passage}
use Rattle.bt_io.specs.declared.fault.WriteFault.{WriteFault}

appends_none : (bytes : Option (List ℕ)) → Appends bytes bytes []
appends_none None = tt
appends_none (Some bytes) = sym (append-nil bytes)

-- a text without bytes is written where the sink stays
pub nothing_written : {K : Type 0} (held : K → Option (List ℕ)) (faults : K → ℕ) (sink : K) → WritesText {T = Unit {0}} {E = WriteFault} (passage held faults sink sink) [] (Ok tt)
nothing_written held faults sink = record { whole = appends_none (held sink); part = tt; fault = tt; count = omega arith }
