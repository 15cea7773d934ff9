-- JSON text by the grammar of RFC 8259: which bytes write which value.
use Rattle.std.specs.Prelude.{◌≡◌, ◌≢◌, ℕ, ◌+◌, ◌*◌, ◌<◌, ◌≤◌, pos, ◌-ℤ◌, min, Bool, true, false, ◌||◌, ◌&&◌, ◌==◌, List, [], ◌∷◌, ◌++◌, map, length, Option, Some, None, ◌⊎◌, IsTrue, if◌then◌else◌, codes}
use Rattle.std.specs.List.{AllByRecursion}
use Rattle.std.specs.Char.{IsScalar, encode_utf8, is_digit, digit_value}
use Rattle.std.specs.Char.Utf16.{is_high_surrogate, is_low_surrogate, surrogate_pair_char}
use Rattle.std.specs.Int.Digits.{number_from_digits}
use Rattle.bt_json.specs.Value.{signed}
use Rattle.bt_json.specs.Json.{Number, Json, null, boolean, number, text, list, object, Items, no_items, item, Members, no_members, member}
use Rattle.bt_json.specs.declared.limits.TheConstants.{MOST_EXPONENT}

-- a set of texts
abbrev pub Texts : Type 1
Texts = List ℕ → Type 0

-- a text of the first set, and right behind it one of the second
pub record Joined (First Second : Texts) (t : List ℕ) : Type 0 where
  pub front : List ℕ
  pub back : List ℕ
  pub first : First front
  pub second : Second back
  pub whole : t ≡ front ++ back

-- the same, written between the two sets
infixr 5 ◌▸◌
abbrev pub ◌▸◌ : Texts → Texts → Texts
First ▸ Second = Joined First Second

-- the one byte
abbrev pub Byte : ℕ → Texts
Byte b t = t ≡ b ∷ []

-- space, tab, line feed, carriage return
abbrev pub is_blank : ℕ → Bool
is_blank b = (b == 32) || (b == 9) || (b == 10) || (b == 13)

-- any number of these, none too
abbrev pub Blanks : Texts
Blanks t = AllByRecursion (λ b. IsTrue (is_blank b)) t

-- ---- numbers

-- these digits, each as its character
abbrev pub Digits : List ℕ → Texts
Digits ds t = AllByRecursion (λ d. d < 10) ds × (t ≡ map (λ d. d + 48) ds)

-- a minus sign, or nothing
abbrev pub Sign : Bool → Texts
Sign true t = t ≡ 45 ∷ []
Sign false t = t ≡ []

-- at least one digit, and no zero before another digit
abbrev pub Whole : List ℕ → Texts
Whole [] t = ⊥
Whole (d ∷ []) t = Digits (d ∷ []) t
Whole (d ∷ e ∷ ds) t = (d ≢ 0) × Digits (d ∷ e ∷ ds) t

-- a point and at least one digit, or nothing
abbrev pub Fraction : List ℕ → Texts
Fraction [] t = t ≡ []
Fraction (d ∷ ds) t = (Byte 46 ▸ Digits (d ∷ ds)) t

-- a plus or minus sign or none, before the digits of an exponent
abbrev pub ExponentSign : Bool → Texts
ExponentSign true t = t ≡ 45 ∷ []
ExponentSign false t = (t ≡ []) ⊎ (t ≡ 43 ∷ [])

-- the letter before an exponent
abbrev pub Letter : Texts
Letter t = (t ≡ 101 ∷ []) ⊎ (t ≡ 69 ∷ [])

-- an e, a sign and at least one digit, or nothing
abbrev pub Exponent : Bool → List ℕ → Texts
Exponent below [] t = (below ≡ false) × (t ≡ [])
Exponent below (d ∷ ds) t = (Letter ▸ ExponentSign below ▸ Digits (d ∷ ds)) t

-- a sign, a whole part, a fraction and an exponent; the exponent that is kept is lowered by the number of digits of the
-- fraction
pub record IsNumber (n : Number) (t : List ℕ) : Type 0 where
  pub whole : List ℕ
  pub fraction : List ℕ
  pub below : Bool
  pub power : List ℕ
  pub spelled : (Sign n.negative ▸ Whole whole ▸ Fraction fraction ▸ Exponent below power) t
  pub digits : n.digits ≡ whole ++ fraction
  pub exponent : n.exponent ≡ signed below (min (number_from_digits 10 power) MOST_EXPONENT) -ℤ pos (length fraction)

-- ---- texts

-- a character that is written as itself, or sixteen bits that an escape writes
pub data Piece : Type 0 where
  plain : ℕ → Piece
  unit : ℕ → Piece

-- what a backslash and the byte stand for
abbrev pub short_escape : ℕ → Option ℕ
short_escape b =
    if b == 34 then Some 34 else (if b == 92 then Some 92 else (if b == 47 then Some 47 else (if b == 98 then Some 8 else (if b == 102 then Some 12 else (if b == 110 then Some 10 else (if b == 114 then Some 13 else (if b == 116 then Some 9 else None)))))))

-- a backslash, a u and four hexadecimal digits
pub record IsHexEscape (u : ℕ) (t : List ℕ) : Type 0 where
  pub a : ℕ
  pub b : ℕ
  pub c : ℕ
  pub d : ℕ
  pub spelled : t ≡ 92 ∷ 117 ∷ a ∷ b ∷ c ∷ d ∷ []
  pub are_digits : IsTrue (is_digit a 16) × IsTrue (is_digit b 16) × IsTrue (is_digit c 16) × IsTrue (is_digit d 16)
  pub value : u ≡ ((digit_value a * 16 + digit_value b) * 16 + digit_value c) * 16 + digit_value d

-- Any character stands for itself but a control character, a quote and a backslash.
abbrev pub IsPiece : Piece → Texts
IsPiece (plain c) t = IsScalar c × (32 ≤ c) × (c ≢ 34) × (c ≢ 92) × (t ≡ encode_utf8 c)
IsPiece (unit u) t = ((b : ℕ) × (t ≡ 92 ∷ b ∷ []) × (short_escape b ≡ Some u)) ⊎ IsHexEscape u t

-- the texts of the pieces, one behind the other
abbrev pub Pieces : List Piece → Texts
Pieces [] t = t ≡ []
Pieces (p ∷ ps) t = (IsPiece p ▸ Pieces ps) t

-- a unit alone is its character, and a single surrogate is U+FFFD
abbrev pub alone : ℕ → List ℕ
alone u = encode_utf8 (if is_high_surrogate u || is_low_surrogate u then 65533 else u)

-- the bytes of the text: a high surrogate with a low one right behind it is one character
abbrev pub text_of : List Piece → List ℕ
text_of [] = []
text_of (plain c ∷ ps) = encode_utf8 c ++ text_of ps
text_of (unit u ∷ []) = alone u
text_of (unit u ∷ plain c ∷ ps) = alone u ++ (encode_utf8 c ++ text_of ps)
text_of (unit u ∷ unit v ∷ ps) = if is_high_surrogate u && is_low_surrogate v then encode_utf8 (surrogate_pair_char u v) ++ text_of ps else alone u ++ text_of (unit v ∷ ps)

-- pieces between quotes
pub record IsText (bytes t : List ℕ) : Type 0 where
  pub pieces : List Piece
  pub spelled : (Byte 34 ▸ Pieces pieces ▸ Byte 34) t
  pub value : bytes ≡ text_of pieces

-- ---- values

abbrev mutual
  -- the text of a value
  pub IsValue : Json → Texts
  IsValue null t = t ≡ codes "null"
  IsValue (boolean true) t = t ≡ codes "true"
  IsValue (boolean false) t = t ≡ codes "false"
  IsValue (number n) t = IsNumber n t
  IsValue (text bytes) t = IsText bytes t
  IsValue (list no_items) t = (Byte 91 ▸ Blanks ▸ Byte 93) t
  IsValue (list (item v rest)) t = (Byte 91 ▸ Blanks ▸ IsValue v ▸ MoreItems rest) t
  IsValue (object no_members) t = (Byte 123 ▸ Blanks ▸ Byte 125) t
  IsValue (object (member n v rest)) t = (Byte 123 ▸ Blanks ▸ IsText n ▸ Blanks ▸ Byte 58 ▸ Blanks ▸ IsValue v ▸ MoreMembers rest) t

  -- what follows an item: each further one behind a comma, and the bracket that closes
  pub MoreItems : Items → Texts
  MoreItems no_items t = (Blanks ▸ Byte 93) t
  MoreItems (item v rest) t = (Blanks ▸ Byte 44 ▸ Blanks ▸ IsValue v ▸ MoreItems rest) t

  -- what follows a member: each further one behind a comma, and the brace that closes
  pub MoreMembers : Members → Texts
  MoreMembers no_members t = (Blanks ▸ Byte 125) t
  MoreMembers (member n v rest) t = (Blanks ▸ Byte 44 ▸ Blanks ▸ IsText n ▸ Blanks ▸ Byte 58 ▸ Blanks ▸ IsValue v ▸ MoreMembers rest) t
