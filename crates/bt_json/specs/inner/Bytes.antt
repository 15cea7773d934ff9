-- What a byte may be in a text.
use Rattle.std.specs.Prelude.{◌≡◌, ◌≢◌, ℕ, ◌<◌, ◌≤◌, true, List, length, slice_index, ◌-◌, ◌||◌, ◌&&◌, ◌==◌, nat_le, if◌then◌else◌}
use Rattle.std.specs.Char.{is_digit, digit_value}
use Rattle.bt_json.specs.Grammar.{is_blank}
use Rattle.bt_json.specs.declared.kind.Kind.{Kind}
use Rattle.bt_json.specs.declared.kind.Kind.TheVariants.{Blank, ListOpens, ListCloses, ObjectOpens, ObjectCloses, Comma, Colon, Quote, Minus, Digit, LetterT, LetterF, LetterN, Other}
use Rattle.bt_json.specs.declared.kind.Mark.{Mark}
use Rattle.bt_json.specs.declared.kind.Mark.TheVariants.{Figure, Point, LetterE, PlusSign, MinusSign, Over}

-- what a byte may be between the tokens of a text, or at a token's front
unfoldable pub kind_of : ℕ → Kind
kind_of b =
    if is_blank b then Blank else (if b == 91 then ListOpens else (if b == 93 then ListCloses else (if b == 123 then ObjectOpens else (if b == 125 then ObjectCloses else (if b == 44 then Comma else (if b == 58 then Colon else (if b == 34 then Quote else (if b == 45 then Minus else (if nat_le 48 b && nat_le b 57 then Digit else (if b == 116 then LetterT else (if b == 102 then LetterF else (if b == 110 then LetterN else Other))))))))))))

-- what a byte may be in a number
unfoldable pub mark_of : ℕ → Mark
mark_of b =
    if nat_le 48 b && nat_le b 57 then Figure (b - 48) else (if b == 46 then Point else (if (b == 101) || (b == 69) then LetterE else (if b == 43 then PlusSign else (if b == 45 then MinusSign else Over))))

-- the digit of a mark, and 0 where it is none
abbrev pub figure_in : Mark → ℕ
figure_in (Figure d) = d
figure_in Point = 0
figure_in LetterE = 0
figure_in PlusSign = 0
figure_in MinusSign = 0
figure_in Over = 0

-- this byte stands there
abbrev pub HasByte : List ℕ → ℕ → ℕ → Type 0
HasByte bytes at byte = (at < length bytes) × (slice_index bytes at ≡ byte)

-- another byte stands there, or none
abbrev pub LacksByte : List ℕ → ℕ → ℕ → Type 0
LacksByte bytes at byte = at < length bytes → slice_index bytes at ≢ byte

-- a byte of this range stands there
abbrev pub HasByteIn : List ℕ → ℕ → ℕ → ℕ → Type 0
HasByteIn bytes at low top = (at < length bytes) × (low ≤ slice_index bytes at) × (slice_index bytes at ≤ top)

-- a byte outside this range stands there, or none
abbrev pub LacksByteIn : List ℕ → ℕ → ℕ → ℕ → Type 0
LacksByteIn bytes at low top = at < length bytes → low ≤ slice_index bytes at → slice_index bytes at ≤ top → ⊥

-- the byte is a hexadecimal digit of that value
abbrev pub IsHexDigit : ℕ → ℕ → Type 0
IsHexDigit byte d = (is_digit byte 16 ≡ true) × (d ≡ digit_value byte) × (d < 16)
