-- Reading a JSON text byte by byte: where the text has come to, and where it stops.
use Rattle.std.specs.Prelude.{ℕ, zero, suc, ◌+◌, ◌-◌, ◌*◌, pos, ◌-ℤ◌, min, Bool, true, false, ◌&&◌, ◌==◌, nat_lt, nat_le, List, [], ◌∷◌, ◌++◌, length, Option, Some, None, if◌then◌else◌}
use Rattle.std.specs.List.{list_any}
use Rattle.std.specs.Str.{bytes_eq}
use Rattle.std.specs.Char.{encode_utf8, is_digit, digit_value}
use Rattle.std.specs.Char.Utf16.{is_high_surrogate, is_low_surrogate, surrogate_pair_char}
use Rattle.bt_json.specs.Json.{Number, Json, null, boolean, number, text, list, object}
use Rattle.bt_json.specs.Stands.{items_of, members_of}
use Rattle.bt_json.specs.Grammar.{short_escape, alone}
use Rattle.bt_json.specs.Value.{signed}
pub use Rattle.bt_json.specs.Places.{Frame, in_list, in_object}
use Rattle.bt_json.specs.inner.Bytes.{kind_of, mark_of}
use Rattle.bt_json.specs.declared.kind.Kind.{Kind}
use Rattle.bt_json.specs.declared.kind.Kind.TheVariants.{Blank, ListOpens, ListCloses, ObjectOpens, ObjectCloses, Comma, Colon, Quote, Minus, Digit, LetterT, LetterF, LetterN}
use Rattle.bt_json.specs.declared.kind.Mark.{Mark}
use Rattle.bt_json.specs.declared.kind.Mark.TheVariants.{Figure, Point, LetterE, PlusSign, MinusSign, Over}
use Rattle.bt_json.specs.declared.kind.Phase.{Phase}
use Rattle.bt_json.specs.declared.kind.Phase.TheVariants.{BeforeWhole, AfterZero, InWhole, AfterPoint, InFraction, AfterLetter, AfterSign, InPower}
use Rattle.bt_json.specs.declared.limits.TheConstants.{MOST_LEVELS, MOST_EXPONENT}

-- ---- numbers

-- a number as far as it is written: its sign, its digits and how many of them are the fraction's, the sign of its
-- exponent and that exponent
pub record Numeral : Type 0 where
  pub negative : Bool
  pub digits : List ℕ
  pub places : ℕ
  pub below : Bool
  pub power : ℕ

-- its value, where it ends there
abbrev pub numeral_value : Numeral → Number
numeral_value n = record { negative = n.negative; digits = n.digits; exponent = signed n.below n.power -ℤ pos n.places }

-- one more digit of the whole part
abbrev pub with_whole : Numeral → ℕ → Numeral
with_whole n d = record n { digits = n.digits ++ d ∷ [] }

-- one more digit of the fraction
abbrev pub with_fraction : Numeral → ℕ → Numeral
with_fraction n d = record n { digits = n.digits ++ d ∷ []; places = n.places + 1 }

-- one more digit of the exponent, which stays at its limit
abbrev pub with_power : Numeral → ℕ → Numeral
with_power n d = record n { power = min (n.power * 10 + d) MOST_EXPONENT }

-- the number goes on; it ends before this byte; or this byte can't stand there
pub data InNumber : Type 0 where
  goes_on : Phase → Numeral → InNumber
  ends : Numeral → InNumber
  wrong : InNumber

-- no digit stands behind a zero in front
abbrev pub first_phase : ℕ → Phase
first_phase d = if d == 0 then AfterZero else InWhole

-- a digit
abbrev pub step_digit : Phase → Numeral → ℕ → InNumber
step_digit BeforeWhole n d = goes_on (first_phase d) (with_whole n d)
step_digit AfterZero n d = wrong
step_digit InWhole n d = goes_on InWhole (with_whole n d)
step_digit AfterPoint n d = goes_on InFraction (with_fraction n d)
step_digit InFraction n d = goes_on InFraction (with_fraction n d)
step_digit AfterLetter n d = goes_on InPower (with_power n d)
step_digit AfterSign n d = goes_on InPower (with_power n d)
step_digit InPower n d = goes_on InPower (with_power n d)

-- a decimal point
abbrev pub step_point : Phase → Numeral → InNumber
step_point AfterZero n = goes_on AfterPoint n
step_point InWhole n = goes_on AfterPoint n
step_point _ n = wrong

-- the letter before an exponent
abbrev pub step_letter : Phase → Numeral → InNumber
step_letter AfterZero n = goes_on AfterLetter n
step_letter InWhole n = goes_on AfterLetter n
step_letter InFraction n = goes_on AfterLetter n
step_letter _ n = wrong

-- the sign of an exponent
abbrev pub step_sign : Bool → Phase → Numeral → InNumber
step_sign minus AfterLetter n = goes_on AfterSign (record n { below = minus })
step_sign minus _ n = wrong

-- a number may end there
abbrev pub may_end : Phase → Bool
may_end BeforeWhole = false
may_end AfterZero = true
may_end InWhole = true
may_end AfterPoint = false
may_end InFraction = true
may_end AfterLetter = false
may_end AfterSign = false
may_end InPower = true

-- a byte that goes on no number, which may end there or not
abbrev pub step_over : Bool → Numeral → InNumber
step_over true n = ends n
step_over false n = wrong

-- any byte, by what it may be in a number
abbrev pub step_number : Phase → Numeral → Mark → InNumber
step_number phase n (Figure d) = step_digit phase n d
step_number phase n Point = step_point phase n
step_number phase n LetterE = step_letter phase n
step_number phase n PlusSign = step_sign false phase n
step_number phase n MinusSign = step_sign true phase n
step_number phase n Over = step_over (may_end phase) n

-- a number of these digits, with no fraction and no exponent so far
abbrev pub numeral : Bool → List ℕ → Numeral
numeral negative digits = record { negative = negative; digits = digits; places = 0; below = false; power = 0 }

-- ---- texts

-- between two pieces; behind a backslash; before so many further digits of an escape and one more, whose value so far
-- it is; inside a character, whose next byte lies between these, with so many more behind it
pub data Place : Type 0 where
  between : Place
  escape : Place
  hex : ℕ → ℕ → Place
  tail : ℕ → ℕ → ℕ → Place

-- a text so far, a high surrogate that waits for a low one, and the place
pub data InText : Type 0 where
  reads : List ℕ → Option ℕ → Place → InText
  closes : List ℕ → InText
  no_text : InText

-- the first byte of a character of several bytes: what may come, and how many more
unfoldable pub lead_of : ℕ → Option Place
lead_of b =
    if nat_lt b 194 then None else (if nat_lt b 224 then Some (tail 128 191 0) else (if b == 224 then Some (tail 160 191 1) else (if b == 237 then Some (tail 128 159 1) else (if nat_lt b 240 then Some (tail 128 191 1) else (if b == 240 then Some (tail 144 191 2) else (if nat_lt b 244 then Some (tail 128 191 2) else (if b == 244 then Some (tail 128 143 2) else None)))))))

-- a high surrogate that no low one follows
abbrev pub flushed : List ℕ → Option ℕ → List ℕ
flushed out None = out
flushed out (Some h) = out ++ alone h

-- the text goes on with a unit
abbrev pub with_unit : List ℕ → Option ℕ → ℕ → InText
with_unit out None u = if is_high_surrogate u then reads out (Some u) between else reads (out ++ alone u) None between
with_unit out (Some h) u =
    if is_low_surrogate u then reads (out ++ encode_utf8 (surrogate_pair_char h u)) None between
    else (if is_high_surrogate u then reads (out ++ alone h) (Some u) between else reads ((out ++ alone h) ++ alone u) None between)

-- the first byte of a character of several bytes, with the place behind it if it may be one
abbrev pub step_lead : List ℕ → ℕ → Option Place → InText
step_lead out b None = no_text
step_lead out b (Some place) = reads (out ++ b ∷ []) None place

-- a byte between two pieces of a text
abbrev pub step_between : List ℕ → Option ℕ → ℕ → InText
step_between out high b =
    if b == 34 then closes (flushed out high) else (if b == 92 then reads out high escape else (if nat_lt b 32 then no_text
    else (if nat_lt b 128 then reads (flushed out high ++ b ∷ []) None between else step_lead (flushed out high) b (lead_of b))))

-- the letter of a short escape, with its unit if it is one
abbrev pub step_short : List ℕ → Option ℕ → Option ℕ → InText
step_short out high None = no_text
step_short out high (Some u) = with_unit out high u

-- a hexadecimal digit with so many more behind it; the digits so far write this unit
abbrev pub step_hex : List ℕ → Option ℕ → ℕ → ℕ → InText
step_hex out high zero u = with_unit out high u
step_hex out high (suc more) u = reads out high (hex more u)

-- behind a byte of a character that has so many more
abbrev pub behind_tail : ℕ → Place
behind_tail zero = between
behind_tail (suc more) = tail 128 191 more

-- a byte at a place in a text
abbrev pub step_text : List ℕ → Option ℕ → Place → ℕ → InText
step_text out high between b = step_between out high b
step_text out high escape b = if b == 117 then reads out high (hex 3 0) else step_short out high (short_escape b)
step_text out high (hex more u) b = if is_digit b 16 then step_hex out high more (u * 16 + digit_value b) else no_text
step_text out high (tail low top more) b = if nat_le low b && nat_le b top then reads (out ++ b ∷ []) high (behind_tail more) else no_text

-- ---- values

-- what a text between quotes is: a value, or a name behind these members, with the place of its opening quote
pub data Role : Type 0 where
  as_value : Role
  as_name : List (List ℕ) → List Json → ℕ → Role

-- what the text has come to, within the open frames, the innermost first
pub data State : Type 0 where
  -- before a value
  due : List Frame → State
  -- behind the bracket that opens a list
  opened_list : List Frame → State
  -- behind a value in a frame
  behind : Json → Frame → List Frame → State
  -- behind the brace that opens an object
  opened_object : List Frame → State
  -- behind a comma in an object
  name_due : List (List ℕ) → List Json → List Frame → State
  -- behind a name
  colon_due : List (List ℕ) → List Json → List ℕ → List Frame → State
  in_text : List ℕ → Option ℕ → Place → Role → List Frame → State
  in_number : Phase → Numeral → List Frame → State
  -- in one of the words null, true and false, before these letters
  in_word : List ℕ → Json → List Frame → State

-- how reading ends: a value, with the place after it; a byte or an end that can't stand there; a bracket that opens a
-- level too many; a name that is there already: its opening and its closing quote
pub data Stop : Type 0 where
  found : Json → ℕ → Stop
  bad : ℕ → Stop
  deep : ℕ → Stop
  twice : ℕ → ℕ → Stop

-- behind a byte reading goes on in a state, or stops
pub data Step : Type 0 where
  go : State → Step
  stop : Stop → Step

-- after a value, with the place after it
abbrev pub deliver : Json → List Frame → ℕ → Step
deliver v [] at = stop (found v at)
deliver v (f ∷ frames) at = go (behind v f frames)

-- a level more, unless there are as many as may be
abbrev pub opens_level : Bool → List Frame → ℕ → State → Step
opens_level strict frames at inside = if strict && (length frames == MOST_LEVELS) then stop (deep at) else go inside

-- the name is among these
abbrev pub has_name : List (List ℕ) → List ℕ → Bool
has_name names n = list_any (bytes_eq n) names

-- a byte where a value is due
abbrev pub step_due : Bool → ℕ → List Frame → ℕ → Kind → Step
step_due strict at k b Blank = go (due k)
step_due strict at k b ListOpens = opens_level strict k at (opened_list k)
step_due strict at k b ObjectOpens = opens_level strict k at (opened_object k)
step_due strict at k b Quote = go (in_text [] None between as_value k)
step_due strict at k b Minus = go (in_number BeforeWhole (numeral true []) k)
step_due strict at k b Digit = go (in_number (first_phase (b - 48)) (numeral false ((b - 48) ∷ [])) k)
step_due strict at k b LetterT = go (in_word (114 ∷ 117 ∷ 101 ∷ []) (boolean true) k)
step_due strict at k b LetterF = go (in_word (97 ∷ 108 ∷ 115 ∷ 101 ∷ []) (boolean false) k)
step_due strict at k b LetterN = go (in_word (117 ∷ 108 ∷ 108 ∷ []) null k)
step_due strict at k b _ = stop (bad at)

-- a byte behind the bracket that opens a list
abbrev pub step_opened_list : Bool → ℕ → List Frame → ℕ → Kind → Step
step_opened_list strict at k b Blank = go (opened_list k)
step_opened_list strict at k b ListCloses = deliver (list (items_of [])) k (at + 1)
step_opened_list strict at k b kind = step_due strict at (in_list [] ∷ k) b kind

-- a byte behind a value in a list or an object
abbrev pub step_behind : ℕ → Json → Frame → List Frame → Kind → Step
step_behind at v f k Blank = go (behind v f k)
step_behind at v (in_list vs) k Comma = go (due (in_list (vs ++ v ∷ []) ∷ k))
step_behind at v (in_list vs) k ListCloses = deliver (list (items_of (vs ++ v ∷ []))) k (at + 1)
step_behind at v (in_object names vs) k Comma = go (name_due names (vs ++ v ∷ []) k)
step_behind at v (in_object names vs) k ObjectCloses = deliver (object (members_of names (vs ++ v ∷ []))) k (at + 1)
step_behind at v f k _ = stop (bad at)

-- a byte behind the brace that opens an object
abbrev pub step_opened_object : ℕ → List Frame → Kind → Step
step_opened_object at k Blank = go (opened_object k)
step_opened_object at k ObjectCloses = deliver (object (members_of [] [])) k (at + 1)
step_opened_object at k Quote = go (in_text [] None between (as_name [] [] at) k)
step_opened_object at k _ = stop (bad at)

-- a byte where a name is due
abbrev pub step_name_due : ℕ → List (List ℕ) → List Json → List Frame → Kind → Step
step_name_due at names vs k Blank = go (name_due names vs k)
step_name_due at names vs k Quote = go (in_text [] None between (as_name names vs at) k)
step_name_due at names vs k _ = stop (bad at)

-- a byte behind a name
abbrev pub step_colon_due : ℕ → List (List ℕ) → List Json → List ℕ → List Frame → Kind → Step
step_colon_due at names vs n k Blank = go (colon_due names vs n k)
step_colon_due at names vs n k Colon = go (due (in_object (names ++ n ∷ []) vs ∷ k))
step_colon_due at names vs n k _ = stop (bad at)

-- behind the closing quote of a text
abbrev pub finish_text : Bool → ℕ → List ℕ → Role → List Frame → Step
finish_text strict at bytes as_value k = deliver (text bytes) k (at + 1)
finish_text strict at bytes (as_name names vs from) k = if strict && has_name names bytes then stop (twice from at) else go (colon_due names vs bytes k)

-- a byte within a text: the text goes on, closes, or can't go on so
abbrev pub step_in_text : Bool → ℕ → Role → List Frame → InText → Step
step_in_text strict at role k (reads out high place) = go (in_text out high place role k)
step_in_text strict at role k (closes bytes) = finish_text strict at bytes role k
step_in_text strict at role k no_text = stop (bad at)

-- a number that has ended before this byte
abbrev pub step_past : ℕ → Json → List Frame → Kind → Step
step_past at v [] kind = stop (found v at)
step_past at v (f ∷ k) kind = step_behind at v f k kind

-- a byte within a number: the number goes on, has ended before it, or can't go on so
abbrev pub step_in_number : ℕ → List Frame → Kind → InNumber → Step
step_in_number at k kind (goes_on phase m) = go (in_number phase m k)
step_in_number at k kind (ends n) = step_past at (number (numeral_value n)) k kind
step_in_number at k kind wrong = stop (bad at)

-- before these letters of a word, or behind it
abbrev pub word_left : List ℕ → Json → List Frame → ℕ → Step
word_left [] v k at = deliver v k at
word_left (c ∷ left) v k at = go (in_word (c ∷ left) v k)

-- a byte within one of the words null, true and false
abbrev pub step_in_word : ℕ → List ℕ → Json → List Frame → ℕ → Step
step_in_word at [] v k b = stop (bad at)
step_in_word at (c ∷ left) v k b = if b == c then word_left left v k (at + 1) else stop (bad at)

-- the byte b at a place. Only where it is strict it refuses a level too many and a name that comes twice
unfoldable pub step : Bool → ℕ → ℕ → State → Step
step strict at b (due k) = step_due strict at k b (kind_of b)
step strict at b (opened_list k) = step_opened_list strict at k b (kind_of b)
step strict at b (behind v f k) = step_behind at v f k (kind_of b)
step strict at b (opened_object k) = step_opened_object at k (kind_of b)
step strict at b (name_due names vs k) = step_name_due at names vs k (kind_of b)
step strict at b (colon_due names vs n k) = step_colon_due at names vs n k (kind_of b)
step strict at b (in_text out high place role k) = step_in_text strict at role k (step_text out high place b)
step strict at b (in_number phase n k) = step_in_number at k (kind_of b) (step_number phase n (mark_of b))
step strict at b (in_word left v k) = step_in_word at left v k b

-- the end of the bytes
abbrev pub finish_number : ℕ → Numeral → List Frame → Bool → Stop
finish_number at n [] true = found (number (numeral_value n)) at
finish_number at n [] false = bad at
finish_number at n (f ∷ k) b = bad at

-- the end of the bytes in a state: only a number may have ended there
abbrev pub finish : ℕ → State → Stop
finish at (in_number phase n k) = finish_number at n k (may_end phase)
finish at _ = bad at

-- what a step comes to, where it goes on too
abbrev pub after_step : Step → (State → Stop) → Stop
after_step (go s) more = more s
after_step (stop e) more = e

-- how reading ends, from a place and a state on
unfoldable pub run : Bool → ℕ → State → List ℕ → Stop
run strict at s [] = finish at s
run strict at s (b ∷ bytes) = after_step (step strict at b s) (λ next. run strict (at + 1) next bytes)

-- how reading from the first byte on ends
abbrev pub reading : List ℕ → Stop
reading bytes = run true 0 (due []) bytes
