use Rattle.std.proofs.Common.{◌≡◌, ◌-◌, ◌^◌, min, take}
use Rattle.std.specs.Str.Parse.{AllDigits, digits_value}
use Rattle.bt_frac.proofs.whole.read_digits.Given as goal

-- the bytes so far are digits, and this is their value, or the limit
abbrev pub invariant-loop-digit : goal.invariant-loop-digit
invariant-loop-digit l = record {
  digits : AllDigits 10 (take l.digit-index l.word);
  value : l.value ≡ min (digits_value 10 (take l.digit-index l.word)) (2 ^ 128 - 1);
}
