-- What a number as far as it is written shows of the reader's own.
use Rattle.std.specs.Prelude.{◌≡◌, ℕ, List, Result}
use Rattle.bt_json.specs.Json.{number}
use Rattle.bt_json.specs.Stands.{number_of}
use Rattle.bt_json.specs.inner.Reading.{Numeral, numeral_value, InNumber, goes_on, ends, wrong, step_number, in_number, deliver}
use Rattle.bt_json.specs.inner.Bytes.{mark_of}
use Rattle.bt_json.specs.inner.Running.{ReadsOn}
use Rattle.bt_json.specs.declared.decimal.Decimal.{Decimal}
use Rattle.bt_json.specs.declared.kind.Phase.{Phase}
use Rattle.bt_json.specs.declared.fault.JsonFault.{JsonFault}
use Rattle.bt_json.specs.declared.number.Numeral.{Numeral as Held}
use Rattle.bt_json.specs.declared.number.Next.{Next}
use Rattle.bt_json.specs.declared.number.Next.TheVariants.{GoesOn, Ends, Wrong}

-- the number as far as the reader holds it
abbrev pub view : Held → Numeral
view n = record { negative = n.negative; digits = n.digits.items; places = n.places; below = n.below; power = n.power }

-- how the number goes on, or that it has ended or can't go on
abbrev pub shown : Next → Numeral → InNumber
shown (GoesOn phase) n = goes_on phase n
shown Ends n = ends n
shown Wrong n = wrong

-- how the number goes on at a byte
abbrev pub TakesByte : Phase → Held → ℕ → Held → Next → Type 0
TakesByte phase old byte new next = shown next (view new) ≡ step_number phase (view old) (mark_of byte)

-- the number as far as it is written, and the same where it ends
abbrev pub TakesRest : List ℕ → ℕ → Phase → Numeral → Numeral → Result ℕ JsonFault → Type 0
TakesRest bytes start phase old new = ReadsOn bytes start (in_number phase old) (λ end. end) (λ end k. deliver (number (numeral_value new)) k end)

-- the rest of a number that is written so far, and its value
abbrev pub ReadsNumber : List ℕ → ℕ → Phase → Numeral → Result (Decimal × ℕ) JsonFault → Type 0
ReadsNumber bytes start phase n = ReadsOn bytes start (in_number phase n) (λ read. read.1) (λ read k. deliver (number (number_of read.0)) k read.1)
