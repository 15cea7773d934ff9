-- What is told of a design behind blanks: what is told of the design, so many bytes later.
use Rattle.std.specs.Prelude.{ℕ, ◌+◌, ◌≤◌, Result, Ok, Err}
use Rattle.bt_json.specs.Json.{Json}
use Rattle.bt_json.specs.declared.fault.JsonFault.{JsonFault}
use Rattle.bt_json.specs.declared.fault.JsonFault.TheVariants as json
use Rattle.bt_designs.specs.declared.fault.DesignFault.{DesignFault}
use Rattle.bt_designs.specs.declared.fault.DesignFault.TheVariants as design
use Rattle.bt_designs.specs.declared.refusal.Refusal.{Refusal}
use Rattle.bt_designs.specs.declared.refusal.Refusal.TheVariants as refusal

-- the fault of JSON text, so many bytes later
abbrev pub moved_fault : ℕ → JsonFault → JsonFault
moved_fault n (json.Json at) = json.Json (n + at)
moved_fault n (json.Deep at) = json.Deep (n + at)
moved_fault n (json.DuplicateKey at) = json.DuplicateKey (n + at)
moved_fault n json.Memory = json.Memory

-- what is read of JSON text, so many bytes later
abbrev pub moved_read : ℕ → Result (Json × ℕ) JsonFault → Result (Json × ℕ) JsonFault
moved_read n (Ok read) = Ok (read.0, n + read.1)
moved_read n (Err fault) = Err (moved_fault n fault)

-- the refusal, so many bytes later: of an offset in JSON text
abbrev pub moved_refusal : ℕ → Refusal → Refusal
moved_refusal n (refusal.Json at) = refusal.Json (n + at)
moved_refusal n (refusal.Deep at) = refusal.Deep (n + at)
moved_refusal n (refusal.DuplicateKey at) = refusal.DuplicateKey (n + at)
moved_refusal n other = other

-- why there is no design, so many bytes later
abbrev pub moved_told : ℕ → DesignFault → DesignFault
moved_told n (design.Refused r) = design.Refused (moved_refusal n r)
moved_told n design.Memory = design.Memory

-- what stands at the front, so many bytes later
abbrev pub moved : {X : Type 0} → ℕ → Result (X × ℕ) DesignFault → Result (X × ℕ) DesignFault
moved n (Ok found) = Ok (found.0, n + found.1)
moved n (Err fault) = Err (moved_told n fault)

-- an offset that is refused is at most this
abbrev pub IsOffsetWithin : ℕ → Refusal → Type 0
IsOffsetWithin n (refusal.Json at) = at ≤ n
IsOffsetWithin n (refusal.Deep at) = at ≤ n
IsOffsetWithin n (refusal.DuplicateKey at) = at ≤ n
IsOffsetWithin n other = Unit {0}

-- and so it is where a design is refused
abbrev pub IsFaultWithin : ℕ → DesignFault → Type 0
IsFaultWithin n (design.Refused r) = IsOffsetWithin n r
IsFaultWithin n design.Memory = Unit {0}
