-- How far a text has come into lists and objects.
use Rattle.std.specs.Prelude.{◌≡◌, ℕ, ◌+◌, List, [], ◌∷◌, length}
use Rattle.bt_json.specs.Json.{Json}
use Rattle.bt_json.specs.Grammar.{Texts, ◌▸◌, Byte, Blanks, IsText, IsValue}

-- A list or an object that is open where a value is due: the values that it has, and the names, of which the last one
-- is the due value's.
pub data Frame : Type 0 where
  in_list : List Json → Frame
  in_object : List (List ℕ) → List Json → Frame

-- items, each with a comma behind it
abbrev pub Items : List Json → Texts
Items [] t = Blanks t
Items (v ∷ vs) t = (Blanks ▸ IsValue v ▸ Blanks ▸ Byte 44 ▸ Items vs) t

-- a name with its colon, and no other name
abbrev pub OnlyName : List (List ℕ) → List ℕ → Texts
OnlyName [] n t = (Blanks ▸ IsText n ▸ Blanks ▸ Byte 58 ▸ Blanks) t
OnlyName (m ∷ names) n t = ⊥

-- members, each with a comma behind it; and where there is one name more, that name with its colon
abbrev pub Named : List (List ℕ) → List Json → Texts
Named [] [] t = Blanks t
Named [] (v ∷ vs) t = ⊥
Named (n ∷ names) [] t = OnlyName names n t
Named (n ∷ names) (v ∷ vs) t = (Blanks ▸ IsText n ▸ Blanks ▸ Byte 58 ▸ Blanks ▸ IsValue v ▸ Blanks ▸ Byte 44 ▸ Named names vs) t

-- an open list or object up to where a value is due
abbrev pub Begun : Frame → Texts
Begun (in_list vs) t = (Byte 91 ▸ Items vs) t
Begun (in_object names vs) t = (length names ≡ length vs + 1) × (Byte 123 ▸ Named names vs) t

-- a value is due behind the text, within these open lists and objects, the innermost first
abbrev pub Due : List Frame → Texts
Due [] t = Blanks t
Due (f ∷ frames) t = (Due frames ▸ Begun f) t

-- a name is due behind the text, in an object with these members, within the open lists and objects around it
abbrev pub NameDue : List (List ℕ) → List Json → List Frame → Texts
NameDue names vs frames t = (length names ≡ length vs) × (Due frames ▸ Byte 123 ▸ Named names vs) t
