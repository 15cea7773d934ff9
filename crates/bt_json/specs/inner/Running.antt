-- What the parts of the reader give, told by how reading goes on.
use Rattle.std.specs.Prelude.{◌≡◌, ℕ, ◌≤◌, Bool, true, List, ◌++◌, [], ◌∷◌, drop, length, slice_range, ◌+◌, Option, None, ◌&&◌, ◌==◌, not, nat_le, nat_lt, Result, Ok, Err}
use Rattle.bt_json.specs.Json.{Json}
use Rattle.bt_json.specs.Grammar.{is_blank}
use Rattle.bt_json.specs.inner.Reading.{State, Step, go, Stop, found, bad, deep, twice, step, after_step, run, Role, Frame, Place, between, hex, InText, in_text, step_in_text, flushed, with_unit, finish_text}
use Rattle.bt_json.specs.declared.fault.JsonFault.{JsonFault}
use Rattle.bt_json.specs.declared.fault.JsonFault.TheVariants.{Json as JsonAt, Deep, DuplicateKey, Memory}

-- blanks leave it as it is
pub record SkipsBlanks (strict : Bool) (s : State) : Type 0 where
  pub skips : (at b : ℕ) → is_blank b ≡ true → step strict at b s ≡ go s

-- how reading of the bytes ends, from a place and a state on
abbrev pub rest_of : List ℕ → ℕ → State → Stop
rest_of bytes at s = run true at s (drop at bytes)

-- in any state that blanks leave as it is, reading goes on from the second place as from the first
abbrev pub SkipsTo : List ℕ → ℕ → ℕ → Type 0
SkipsTo bytes start end = (s : State) → SkipsBlanks true s → rest_of bytes start s ≡ rest_of bytes end s

-- the same from a step on
abbrev pub rest_after : List ℕ → ℕ → Step → Stop
rest_after bytes at next = after_step next (λ s. rest_of bytes at s)

-- a place of the bytes that is no earlier
abbrev pub IsLater : List ℕ → ℕ → ℕ → Type 0
IsLater bytes at later = (at ≤ later) × (later ≤ length bytes)

-- the value and the place, or the fault, that reading ends with
abbrev pub ends_as : Stop → Result (Json × ℕ) JsonFault
ends_as (found v at) = Ok (v, at)
ends_as (bad at) = Err (JsonAt at)
ends_as (deep at) = Err (Deep at)
ends_as (twice from close) = Err (DuplicateKey from)

-- the fault is how reading ends, unless memory ran out
abbrev pub Faults : JsonFault → Stop → Type 0
Faults (JsonAt k) e = e ≡ bad k
Faults (Deep o) e = e ≡ deep o
Faults (DuplicateKey o) e = (close : ℕ) × (e ≡ twice o close)
Faults Memory e = Unit {0}

-- What was read, with the place behind it, is how reading goes on from there; or the fault is how it ends, unless
-- memory ran out.
abbrev pub ReadsOn : {X K : Type 0} → List ℕ → ℕ → (K → State) → (X → ℕ) → (X → K → Step) → Result X JsonFault → Type 0
ReadsOn {X} {K} bytes start from place next (Ok x) = IsLater bytes start (place x) × ((k : K) → rest_of bytes start (from k) ≡ rest_after bytes (place x) (next x k))
ReadsOn {X} {K} bytes start from place next (Err f) = (k : K) → Faults f (rest_of bytes start (from k))

-- ---- texts

-- around a place in a text: what it has, the high surrogate that waits, what the text is, and the open frames
pub record Around : Type 0 where
  pub out : List ℕ
  pub high : Option ℕ
  pub role : Role
  pub frames : List Frame

-- the state at that place
abbrev pub within : Around → Place → State
within t place = in_text t.out t.high place t.role t.frames

-- the step to what the text has come to
abbrev pub step_within : ℕ → Around → InText → Step
step_within at t next = step_in_text true at t.role t.frames next

-- characters that stand for themselves come behind what the text has
abbrev pub with_plain : Around → List ℕ → Around
with_plain t plain = record t { out = flushed t.out t.high ++ plain; high = None }

-- a character of one byte that stands for itself
abbrev pub is_plain : ℕ → Bool
is_plain b = nat_le 32 b && nat_lt b 128 && not (b == 34) && not (b == 92)

-- plain characters, or none
abbrev pub after_plain : Around → List ℕ → Around
after_plain t [] = t
after_plain t (b ∷ plain) = with_plain t (b ∷ plain)

-- four hexadecimal digits write these sixteen bits
abbrev pub WritesUnit : List ℕ → ℕ → ℕ → Type 0
WritesUnit bytes start unit = (t : Around) → rest_of bytes start (within t (hex 3 0)) ≡ rest_after bytes (start + 4) (step_within 0 t (with_unit t.out t.high unit))

-- the bytes up to a place are one character that stands for itself
abbrev pub IsCharacter : List ℕ → ℕ → ℕ → Type 0
IsCharacter bytes start end = (t : Around) → rest_of bytes start (within t between) ≡ rest_of bytes end (within (with_plain t (slice_range bytes start end)) between)

-- the bytes up to a place are characters that stand for themselves, or none
abbrev pub ArePlain : List ℕ → ℕ → ℕ → Type 0
ArePlain bytes start end = (t : Around) → rest_of bytes start (within t between) ≡ rest_of bytes end (within (after_plain t (slice_range bytes start end)) between)

-- any text ends with the fault from that place on, unless memory ran out
abbrev pub EndsWithin : List ℕ → ℕ → Place → JsonFault → Type 0
EndsWithin bytes start place f = (t : Around) → Faults f (rest_of bytes start (within t place))

-- a text goes on from one place to the other, whatever it is and whatever is open around it
abbrev pub GoesOnTo : List ℕ → ℕ → (Role → List Frame → State) → (Role → List Frame → State) → ℕ → Type 0
GoesOnTo bytes start from to end = (role : Role) (k : List Frame) → rest_of bytes start (from role k) ≡ rest_of bytes end (to role k)

-- a text ends with the fault, whatever it is and whatever is open around it, unless memory ran out
abbrev pub EndsText : List ℕ → ℕ → (Role → List Frame → State) → JsonFault → Type 0
EndsText bytes start from f = (role : Role) (k : List Frame) → Faults f (rest_of bytes start (from role k))

-- behind an opening quote stands this text, up to the quote at a place, behind which reading goes on
abbrev pub ReadsUpTo : List ℕ → ℕ → ℕ → ℕ → List ℕ → Type 0
ReadsUpTo bytes start close end text = (role : Role) (k : List Frame) → rest_of bytes start (in_text [] None between role k) ≡ rest_after bytes end (finish_text true close text role k)
