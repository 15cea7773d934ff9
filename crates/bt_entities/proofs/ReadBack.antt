-- What is written of parts is JSON text of a value that is a blueprint of these parts.
use Rattle.std.proofs.Common.{◌≡◌, ◌≢◌, ℕ, zero, suc, ◌+◌, ◌*◌, ◌/◌, ◌%◌, ◌^◌, ◌<◌, ◌≤◌, Bool, true, false, List, [], ◌∷◌, ◌++◌, length, drop, map, refl, sym, ◌∙◌, ap, subst, inl, inr, lit<, arith, append_assoc, length-append, All}
use Rattle.std.specs.Prelude.{ℤ, pos, negsuc, ◌+ℤ◌, ◌-ℤ◌, ◌*ℤ◌, unsigned_abs, ◌==◌, if◌then◌else◌, codes, decimal, min, slice_get, Option, Some, None, Ok, Contains}
use Rattle.std.specs.List.{enumerate_from, join_with_byte, list_all}
use Rattle.std.specs.Int.Digits.{number_from_digits}
use Rattle.std.proofs.lemmas.Bool.{false≢true}
use Rattle.std.proofs.Math.Seq.{take-append_seam, drop-append_seam}
use Rattle.std.proofs.lemmas.Bool.Decides.{nat_tests}
use Rattle.std.proofs.lemmas.Int.{ints}
use Rattle.std.proofs.lemmas.List.{append-nil, length-map}
use Rattle.std.proofs.lemmas.List.Elements.{All-head, All-tail}
use Rattle.std.proofs.lemmas.List.FromFn.{length-enumerate_from}
use Rattle.std.proofs.lemmas.Option.{none-some, same_Some, slice_get_within, get_or_from_slice_get}
use Rattle.bt_frac.specs.Numbers.{Spells}
use Rattle.bt_frac.proofs.Numerals.{Spells-decimal}
use Rattle.bt_json.specs.declared.limits.TheConstants.{MOST_EXPONENT, MOST_HALVES}
use Rattle.bt_json.specs.Json.{Number, Json, number, text, list, object, Members, no_members, member, value_at}
use Rattle.bt_json.specs.Stands.{items_of}
use Rattle.bt_json.specs.Value.{IsScaled, IsTimes, signed}
use Rattle.bt_json.specs.Grammar.{◌▸◌, Blanks, Sign, Fraction, IsNumber, IsValue, MoreItems, MoreMembers}
use Rattle.bt_json.specs.Answers.{depth_of, items_depth, members_depth, HasDistinctNames, ItemsHaveDistinctNames, AreNew, IsRead}
use Rattle.bt_json.specs.inner.Reading.{has_name}
use Rattle.bt_json.proofs.Joins.{join}
use Rattle.bt_json.proofs.Digits.{number_append}
use Rattle.bt_json.proofs.Kept.{named_there}
use Rattle.bt_parts.specs.declared.hand.Hand.{Hand}
use Rattle.bt_parts.specs.declared.hand.Hand.TheVariants.{Left, Right}
use Rattle.bt_parts.specs.declared.hand.Priority.{Priority}
use Rattle.bt_parts.specs.Hands.{no_priority, priority_of}
use Rattle.bt_parts.specs.declared.part.Dir.{Dir}
use Rattle.bt_parts.specs.declared.part.Dir.TheVariants.{North, East, South, West}
use Rattle.bt_parts.specs.declared.part.Kind.{Kind}
use Rattle.bt_parts.specs.declared.part.Kind.TheVariants.{Belt, Entrance, Exit, Splitter}
use Rattle.bt_parts.specs.declared.part.Part.{Part}
use Rattle.bt_parts.specs.declared.part.Tier.{Tier}
use Rattle.bt_parts.specs.declared.part.Tier.TheVariants.{Basic, Fast, Express, Turbo}
use Rattle.bt_entities.specs.declared.name.EntityFamily.{EntityFamily}
use Rattle.bt_entities.specs.declared.name.EntityFamily.TheVariants.{Belts, Undergrounds, Splitters}
use Rattle.bt_entities.specs.declared.blueprint.TheConstants.{MOST_ENTITIES}
use Rattle.bt_entities.specs.Members.{IsWhole, Lacks}
use Rattle.bt_entities.specs.Names.{name_of}
use Rattle.bt_entities.specs.Places.{width_of, height_of, IsMiddle}
use Rattle.bt_entities.specs.Entities.{HasKind, HasDirection, direction_value, IsHalves, IsPlaced, HasPriority, IsPlain, IsEntity, special_in_designs, Prefers, HasFamily}
use Rattle.bt_entities.specs.Blueprints.{AreParts, ArePriorities, IsBlueprint, IsBlueprintOf, HavePriorities, IsVersion}
use Rattle.bt_entities.proofs.Unique.{lacks_or_has}
use Rattle.bt_entities.proofs.Whole.{all_in_range}
use Rattle.bt_entities.specs.declared.version.Version.{Version}
use Rattle.bt_entities.specs.declared.version.Version.TheVariants.{Older, Newer}
use Rattle.bt_entities.specs.Written.{number_member, name_member, position_member, direction_member, hand_text, hand_member, priority_members, family_of, half_text, halves_text, twice_middle, end_text, entity_text, blueprint_text, major_of, type_member, version_digits, version_for}
use Rattle.bt_entities.specs.ReadBack.{HasCentreInRange, SplittersPrefer, all_priorities, WrittenIsRead}
use Rattle.bt_entities.proofs.CompactJson.{is_simple, quoted, simple_text, values, value_after, number_by, number_spelled, no_more_members, more_member, first_member, no_more_items, more_item, first_item, empty_list}

-- ---- numbers

-- a whole number
abbrev natural : ℕ → Number
natural n = number_by false (decimal n) []

natural_spelled : (n : ℕ) → n < 10 ^ 64 → IsNumber (natural n) (decimal n)
natural_spelled n small = subst (IsNumber (natural n)) (append-nil (decimal n)) (number_spelled false (decimal n) n [] [] [] (Spells-decimal n small) refl refl)

natural_value : (n : ℕ) → n < 10 ^ 64 → number_from_digits 10 (values (decimal n)) ≡ n
natural_value n small = value_after 0 (decimal n) ∙ (Spells-decimal n small).value

natural_is : (n : ℕ) → n < 10 ^ 64 → IsWhole (number (natural n)) n
natural_is n small = (natural n, refl, (n, omega (arith, natural_value n small, ap (number_from_digits 10) (append-nil (values (decimal n)))), refl))

-- a number of halves
abbrev half_digits : Bool → List ℕ
half_digits even = if even then [] else 5 ∷ []

abbrev half_number : Bool → ℕ → Number
half_number negative n = number_by negative (decimal (n / 2)) (half_digits (n % 2 == 0))

half_tail : (even : Bool) → Fraction (half_digits even) (if even then [] else codes ".5")
half_tail true = refl
half_tail false = join (46 ∷ []) (53 ∷ []) refl ((omega arith, tt), refl)

half_spelled : (negative : Bool) (sign : List ℕ) (n : ℕ) → n < 10 ^ 64 → Sign negative sign → IsNumber (half_number negative n) (sign ++ half_text n)
half_spelled negative sign n small is = number_spelled negative (decimal (n / 2)) (n / 2) (half_digits (n % 2 == 0)) sign (if n % 2 == 0 then [] else codes ".5") (Spells-decimal (n / 2) (omega arith)) is (half_tail (n % 2 == 0))

half_scaled : (even : Bool) (n k : ℕ) (w : List ℕ) → number_from_digits 10 (values w) ≡ k → (even ≡ true → n ≡ 2 * k) → (even ≡ false → n ≡ 2 * k + 1)
    → IsScaled n (2 * number_from_digits 10 (values w ++ half_digits even)) (signed false (min (number_from_digits 10 []) MOST_EXPONENT) -ℤ pos (length (half_digits even)))
half_scaled true n k w is twice more = omega (arith, is, twice refl, ap (number_from_digits 10) (append-nil (values w)))
half_scaled false n k w is twice more = omega (arith, is, more refl, number_append (values w) (5 ∷ []))

half_is : (negative : Bool) (n : ℕ) → n < 10 ^ 64 → IsTimes 2 (half_number negative n) (signed negative n)
half_is negative n small = (n, half_scaled (n % 2 == 0) n (n / 2) (decimal (n / 2)) (natural_value (n / 2) (omega arith)) even odd, refl)
  where
    even : (n % 2 == 0) ≡ true → n ≡ 2 * (n / 2)
    even e = grind (arith, nat_tests)

    odd : (n % 2 == 0) ≡ false → n ≡ 2 * (n / 2) + 1
    odd e = grind (arith, nat_tests)

abbrev halves_number : ℤ → Number
halves_number (pos n) = half_number false n
halves_number (negsuc n) = half_number true (n + 1)

halves_spelled : (z : ℤ) → unsigned_abs z ≤ MOST_HALVES → IsNumber (halves_number z) (halves_text z)
halves_spelled (pos n) near = half_spelled false [] n (omega (arith, near)) refl
halves_spelled (negsuc n) near = half_spelled true (45 ∷ []) (n + 1) (omega (arith, ints, near)) refl

halves_are : (z : ℤ) → unsigned_abs z ≤ MOST_HALVES → IsHalves (halves_number z) z
halves_are (pos n) near = (half_is false n (omega (arith, near)), near)
halves_are (negsuc n) near = (subst (IsTimes 2 (half_number true (n + 1))) (omega (arith, ints)) (half_is true (n + 1) (omega (arith, ints, near))), near)

-- ---- what is the same in each version

abbrev type_members : Kind → Members
type_members Belt = no_members
type_members Entrance = member (codes "type") (text (codes "input")) no_members
type_members Exit = member (codes "type") (text (codes "output")) no_members
type_members Splitter = no_members

-- a member of this name for the hand that is preferred, where one is
abbrev hand_members : List ℕ → Option Hand → Members → Members
hand_members name None rest = rest
hand_members name (Some hand) rest = member name (text (hand_text hand)) rest

-- of a splitter what it prefers, and of an underground piece its type
abbrev tail_members : Kind → Priority → Members
tail_members Belt priority = no_members
tail_members Entrance priority = type_members Entrance
tail_members Exit priority = type_members Exit
tail_members Splitter priority = hand_members (codes "input_priority") priority.take (hand_members (codes "output_priority") priority.give no_members)

abbrev tail_text : Kind → Priority → List ℕ
tail_text kind priority = priority_members kind priority ++ type_member kind

abbrev position_json : Part → Json
position_json p = object (member (codes "x") (number (halves_number (twice_middle p.cell.x (width_of p.kind p.dir)))) (member (codes "y") (number (halves_number (twice_middle p.cell.y (height_of p.kind p.dir)))) no_members))

name_simple : (f : EntityFamily) (t : Tier) → list_all is_simple (name_of f t) ≡ true
name_simple Belts Basic = refl
name_simple Belts Fast = refl
name_simple Belts Express = refl
name_simple Belts Turbo = refl
name_simple Undergrounds Basic = refl
name_simple Undergrounds Fast = refl
name_simple Undergrounds Express = refl
name_simple Undergrounds Turbo = refl
name_simple Splitters Basic = refl
name_simple Splitters Fast = refl
name_simple Splitters Express = refl
name_simple Splitters Turbo = refl

type_spelled : (k : Kind) → MoreMembers (type_members k) (type_member k)
type_spelled Belt = no_more_members
type_spelled Entrance = more_member (codes "type") (text (codes "input")) no_members (quoted (codes "type")) (quoted (codes "input")) (125 ∷ []) (simple_text (codes "type") refl) (simple_text (codes "input") refl) no_more_members
type_spelled Exit = more_member (codes "type") (text (codes "output")) no_members (quoted (codes "type")) (quoted (codes "output")) (125 ∷ []) (simple_text (codes "type") refl) (simple_text (codes "output") refl) no_more_members
type_spelled Splitter = no_more_members

input_spelled : (hand : Option Hand) (rest : Members) (t : List ℕ) → MoreMembers rest t → MoreMembers (hand_members (codes "input_priority") hand rest) (hand_member (codes "input_priority") hand ++ t)
input_spelled None rest t more = more
input_spelled (Some Left) rest t more = more_member (codes "input_priority") (text (codes "left")) rest (quoted (codes "input_priority")) (quoted (codes "left")) t (simple_text (codes "input_priority") refl) (simple_text (codes "left") refl) more
input_spelled (Some Right) rest t more = more_member (codes "input_priority") (text (codes "right")) rest (quoted (codes "input_priority")) (quoted (codes "right")) t (simple_text (codes "input_priority") refl) (simple_text (codes "right") refl) more

output_spelled : (hand : Option Hand) (rest : Members) (t : List ℕ) → MoreMembers rest t → MoreMembers (hand_members (codes "output_priority") hand rest) (hand_member (codes "output_priority") hand ++ t)
output_spelled None rest t more = more
output_spelled (Some Left) rest t more = more_member (codes "output_priority") (text (codes "left")) rest (quoted (codes "output_priority")) (quoted (codes "left")) t (simple_text (codes "output_priority") refl) (simple_text (codes "left") refl) more
output_spelled (Some Right) rest t more = more_member (codes "output_priority") (text (codes "right")) rest (quoted (codes "output_priority")) (quoted (codes "right")) t (simple_text (codes "output_priority") refl) (simple_text (codes "right") refl) more

tail_spelled : (k : Kind) (priority : Priority) → MoreMembers (tail_members k priority) (tail_text k priority)
tail_spelled Belt priority = type_spelled Belt
tail_spelled Entrance priority = type_spelled Entrance
tail_spelled Exit priority = type_spelled Exit
tail_spelled Splitter priority =
    let takes = hand_member (codes "input_priority") priority.take in
    let gives = hand_member (codes "output_priority") priority.give in
    subst (MoreMembers (tail_members Splitter priority)) (sym (append_assoc takes gives (codes "}")))
    (input_spelled priority.take (hand_members (codes "output_priority") priority.give no_members) (gives ++ codes "}") (output_spelled priority.give no_members (codes "}") no_more_members))

abbrev position_text : List ℕ → List ℕ → List ℕ
position_text x y = 123 ∷ (quoted (codes "x") ++ 58 ∷ (x ++ 44 ∷ (quoted (codes "y") ++ 58 ∷ (y ++ 125 ∷ []))))

position_spelled : (a b : Number) (x y : List ℕ) → IsNumber a x → IsNumber b y → IsValue (object (member (codes "x") (number a) (member (codes "y") (number b) no_members))) (position_text x y)
position_spelled a b x y is_x is_y =
    first_member (codes "x") (number a) (member (codes "y") (number b) no_members) (quoted (codes "x")) x (44 ∷ (quoted (codes "y") ++ 58 ∷ (y ++ 125 ∷ []))) (simple_text (codes "x") refl) is_x
    (more_member (codes "y") (number b) no_members (quoted (codes "y")) y (125 ∷ []) (simple_text (codes "y") refl) is_y no_more_members)

-- the text of a position, by its pieces
five_pieces : (a x b y c : List ℕ) → a ++ (x ++ (b ++ (y ++ c))) ≡ a ++ x ++ b ++ y ++ c
five_pieces a x b y c = sym (simp append_assoc)

-- the text of an entity, by its pieces
nine_pieces : (a d b n c p e k t : List ℕ) → a ++ (d ++ (b ++ (n ++ (c ++ (p ++ (e ++ (k ++ t))))))) ≡ a ++ d ++ (b ++ n) ++ (c ++ p) ++ (e ++ k) ++ t
nine_pieces a d b n c p e k t = sym (simp append_assoc)

abbrev entity_by : List ℕ → List ℕ → List ℕ → List ℕ → List ℕ → List ℕ → List ℕ
entity_by d m x y k t = codes "{\"entity_number\":" ++ d ++ (codes ",\"name\":\"" ++ m ++ codes "\"") ++ (codes ",\"position\":{\"x\":" ++ x ++ codes ",\"y\":" ++ y ++ codes "}") ++ (codes ",\"direction\":" ++ k) ++ t

entity_pieces : (d m x y k t : List ℕ)
    → codes "{\"entity_number\":" ++ (d ++ (codes ",\"name\":" ++ (quoted m ++ (codes ",\"position\":" ++ (position_text x y ++ (codes ",\"direction\":" ++ (k ++ t))))))) ≡ entity_by d m x y k t
entity_pieces d m x y k t =
    nine_pieces (codes "{\"entity_number\":") d (codes ",\"name\":") (quoted m) (codes ",\"position\":") (position_text x y) (codes ",\"direction\":") k t
    ∙ ap (λ p. codes "{\"entity_number\":" ++ d ++ (codes ",\"name\":\"" ++ m ++ codes "\"") ++ (codes ",\"position\":" ++ p) ++ (codes ",\"direction\":" ++ k) ++ t) (five_pieces (codes "{\"x\":") x (codes ",\"y\":") y (codes "}"))

-- an entity of these members
entity_of : (number_is direction : Number) (name : List ℕ) (position : Json) (types : Members) (d x y k t : List ℕ) → IsNumber number_is d → list_all is_simple name ≡ true → IsValue position (position_text x y) → IsNumber direction k → MoreMembers types t
    → IsValue (object (member (codes "entity_number") (number number_is) (member (codes "name") (text name) (member (codes "position") position (member (codes "direction") (number direction) types))))) (entity_by d name x y k t)
entity_of number_is direction name position types d x y k t is_number simple is_position is_direction more =
    let direction_text : List ℕ = 44 ∷ (quoted (codes "direction") ++ 58 ∷ (k ++ t)) in
    let position_member_text : List ℕ = 44 ∷ (quoted (codes "position") ++ 58 ∷ (position_text x y ++ direction_text)) in
    let name_text : List ℕ = 44 ∷ (quoted (codes "name") ++ 58 ∷ (quoted name ++ position_member_text)) in
    let with_direction : Members = member (codes "direction") (number direction) types in
    let with_position : Members = member (codes "position") position with_direction in
    let with_name : Members = member (codes "name") (text name) with_position in
    subst (IsValue (object (member (codes "entity_number") (number number_is) with_name))) (entity_pieces d name x y k t)
    (first_member (codes "entity_number") (number number_is) with_name (quoted (codes "entity_number")) d name_text (simple_text (codes "entity_number") refl) is_number
    (more_member (codes "name") (text name) with_position (quoted (codes "name")) (quoted name) position_member_text (simple_text (codes "name") refl) (simple_text name simple)
    (more_member (codes "position") position with_direction (quoted (codes "position")) (position_text x y) direction_text (simple_text (codes "position") refl) is_position
    (more_member (codes "direction") (number direction) types (quoted (codes "direction")) k t (simple_text (codes "direction") refl) is_direction more))))

abbrev Numbered : Type 0
Numbered = ℕ × Part

-- splitters alone prefer anything
abbrev MayPrefer : Part → Priority → Type 0
MayPrefer p priority = p.kind ≢ Splitter → priority ≡ no_priority

-- each has a number that can be written and a centre in range
abbrev CanBeWritten : List Numbered → Type 0
CanBeWritten [] = Unit {0}
CanBeWritten (x ∷ xs) = (x.0 + 1 < 10 ^ 64) × HasCentreInRange x.1 × CanBeWritten xs

can_all : (n : ℕ) (parts : List Part) → n + length parts < 10 ^ 64 → All HasCentreInRange parts → CanBeWritten (enumerate_from n parts)
can_all n [] small near = tt
can_all n (p ∷ ps) small near = (omega arith, All-head HasCentreInRange p ps near, can_all (n + 1) ps (omega arith) (All-tail HasCentreInRange p ps near))

hands_flat : (takes gives : Option Hand) → members_depth (hand_members (codes "input_priority") takes (hand_members (codes "output_priority") gives no_members)) ≡ 0
hands_flat None None = refl
hands_flat None (Some gives) = refl
hands_flat (Some takes) None = refl
hands_flat (Some takes) (Some gives) = refl

tail_flat : (k : Kind) (priority : Priority) → members_depth (tail_members k priority) ≡ 0
tail_flat Belt priority = refl
tail_flat Entrance priority = refl
tail_flat Exit priority = refl
tail_flat Splitter priority = hands_flat priority.take priority.give

unnamed : (names : List (List ℕ)) (n : List ℕ) → has_name names n ≡ false → Contains names n → ⊥
unnamed names n e c = false≢true (sym e ∙ named_there names n c)

abbrev first_names : List (List ℕ)
first_names = codes "entity_number" ∷ codes "name" ∷ codes "position" ∷ codes "direction" ∷ []

hands_names : (takes gives : Option Hand) → AreNew first_names (hand_members (codes "input_priority") takes (hand_members (codes "output_priority") gives no_members))
hands_names None None = tt
hands_names None (Some gives) = (unnamed first_names (codes "output_priority") refl, tt, tt)
hands_names (Some takes) None = (unnamed first_names (codes "input_priority") refl, tt, tt)
hands_names (Some takes) (Some gives) = (unnamed first_names (codes "input_priority") refl, tt, (unnamed (first_names ++ codes "input_priority" ∷ []) (codes "output_priority") refl, tt, tt))

tail_names : (k : Kind) (priority : Priority) → AreNew first_names (tail_members k priority)
tail_names Belt priority = tt
tail_names Entrance priority = (unnamed first_names (codes "type") refl, tt, tt)
tail_names Exit priority = (unnamed first_names (codes "type") refl, tt, tt)
tail_names Splitter priority = hands_names priority.take priority.give

middle : (z : ℤ) (size : ℕ) → IsMiddle (twice_middle z size) size 0 z
middle z size = ap (λ s. (pos 2 *ℤ z) +ℤ pos s) (omega arith)

-- an entity that has neither of the members that may not be special in a design is plain there
plain_design : (v : Json) → Lacks v (codes "control_behavior") → Lacks v (codes "filter") → IsPlain special_in_designs v
plain_design v a b m (inl h) = let has = h.0 in lacks_or_has v (codes "control_behavior") has.0 a has.1
plain_design v a b m (inr (first_fails, inl h)) = let has = h.0 in lacks_or_has v (codes "filter") has.0 b has.1
plain_design v a b m (inr (first_fails, inr (none, h))) = h

-- the members have the one of this name exactly where a hand is preferred
abbrev Holds : Members → List ℕ → Option Hand → Type 0
Holds members name None = value_at members name ≡ None
Holds members name (Some hand) = value_at members name ≡ Some (text (hand_text hand))

-- an entity has what it prefers, and no member that no design has
record Tells (members : Members) (priority : Priority) : Type 0 where
  input : Holds members (codes "input_priority") priority.take
  output : Holds members (codes "output_priority") priority.give
  condition : value_at members (codes "control_behavior") ≡ None
  filter : value_at members (codes "filter") ≡ None

hands_tell : (takes gives : Option Hand) → Tells (tail_members Splitter (record { give = gives; take = takes })) (record { give = gives; take = takes })
hands_tell None None = record { input = refl; output = refl; condition = refl; filter = refl }
hands_tell None (Some gives) = record { input = refl; output = refl; condition = refl; filter = refl }
hands_tell (Some takes) None = record { input = refl; output = refl; condition = refl; filter = refl }
hands_tell (Some takes) (Some gives) = record { input = refl; output = refl; condition = refl; filter = refl }

none_tells : (k : Kind) → (k ≡ Splitter → ⊥) → Tells (tail_members k no_priority) no_priority
none_tells Belt other = record { input = refl; output = refl; condition = refl; filter = refl }
none_tells Entrance other = record { input = refl; output = refl; condition = refl; filter = refl }
none_tells Exit other = record { input = refl; output = refl; condition = refl; filter = refl }
none_tells Splitter other = absurd (other refl)

-- that of a splitter, or of a part that prefers nothing
tail_tells : (k : Kind) (priority : Priority) → (k ≢ Splitter → priority ≡ no_priority) → Tells (tail_members k priority) priority
tail_tells Belt priority may = let other : Belt ≢ Splitter = λ e. cc in subst (λ q. Tells (tail_members Belt q) q) (sym (may other)) (none_tells Belt other)
tail_tells Entrance priority may = let other : Entrance ≢ Splitter = λ e. cc in subst (λ q. Tells (tail_members Entrance q) q) (sym (may other)) (none_tells Entrance other)
tail_tells Exit priority may = let other : Exit ≢ Splitter = λ e. cc in subst (λ q. Tells (tail_members Exit q) q) (sym (may other)) (none_tells Exit other)
tail_tells Splitter priority may = hands_tell priority.take priority.give

-- ---- versions

-- the version of a blueprint
abbrev version_number : Version → Number
version_number version = number_by false (version_digits version) []

older_spells : Spells (codes "281479271677952") 281479271677952
older_spells = record {
  some_digit = lit< tt;
  digits = (lit< tt, (lit< tt, (lit< tt, (lit< tt, (lit< tt, (lit< tt, (lit< tt, (lit< tt, (lit< tt, (lit< tt, (lit< tt, (lit< tt, (lit< tt, (lit< tt, (lit< tt, tt)))))))))))))));
  no_zero = λ e. absurd (omega (arith, e));
  value = refl;
}

newer_spells : Spells (codes "562949953421312") 562949953421312
newer_spells = record {
  some_digit = lit< tt;
  digits = (lit< tt, (lit< tt, (lit< tt, (lit< tt, (lit< tt, (lit< tt, (lit< tt, (lit< tt, (lit< tt, (lit< tt, (lit< tt, (lit< tt, (lit< tt, (lit< tt, (lit< tt, tt)))))))))))))));
  no_zero = λ e. absurd (omega (arith, e));
  value = refl;
}

version_spelled : (version : Version) → IsNumber (version_number version) (version_digits version)
version_spelled Older =
    subst (IsNumber (version_number Older)) (append-nil (version_digits Older)) (number_spelled false (version_digits Older) 281479271677952 [] [] [] older_spells refl refl)
version_spelled Newer =
    subst (IsNumber (version_number Newer)) (append-nil (version_digits Newer)) (number_spelled false (version_digits Newer) 562949953421312 [] [] [] newer_spells refl refl)

has_version : (version : Version) → IsVersion (number (version_number version)) (major_of version)
has_version Older = (281479271677952, omega arith, (version_number Older, refl, (281479271677952, refl, refl)), refl)
has_version Newer = (562949953421312, omega arith, (version_number Newer, refl, (562949953421312, refl, refl)), refl)

direction_small : (version : Version) (d : Dir) → direction_value (major_of version) d < 10 ^ 64
direction_small Older North = omega arith
direction_small Older East = omega arith
direction_small Older South = omega arith
direction_small Older West = omega arith
direction_small Newer North = omega arith
direction_small Newer East = omega arith
direction_small Newer South = omega arith
direction_small Newer West = omega arith

abbrev text_of_version : Version → List ℕ → List ℕ
text_of_version version all = 123 ∷ (quoted (codes "blueprint") ++ 58 ∷ ((123 ∷ (quoted (codes "item") ++ 58 ∷ (quoted (codes "blueprint") ++ 44 ∷ (quoted (codes "entities") ++ 58 ∷ ((91 ∷ (all ++ 93 ∷ [])) ++ 44 ∷ (quoted (codes "version") ++ 58 ∷ (version_digits version ++ 125 ∷ []))))))) ++ 125 ∷ []))

-- ---- entities, and the whole

module _ (version : Version) (priorities : List Priority) where
  abbrev entity_json : ℕ → Part → Priority → Json
  entity_json n p priority = object (member (codes "entity_number") (number (natural n)) (member (codes "name") (text (name_of (family_of p.kind) p.tier)) (member (codes "position") (position_json p)
      (member (codes "direction") (number (natural (direction_value (major_of version) p.dir))) (tail_members p.kind priority)))))

  entity_spelled : (n : ℕ) (p : Part) (priority : Priority) → n < 10 ^ 64 → HasCentreInRange p → IsValue (entity_json n p priority) (entity_text version n p priority)
  entity_spelled n p priority small near =
      let x = twice_middle p.cell.x (width_of p.kind p.dir) in
      let y = twice_middle p.cell.y (height_of p.kind p.dir) in
      subst (IsValue (entity_json n p priority)) (sym (append_assoc (number_member n ++ name_member p ++ position_member p ++ direction_member version p) (priority_members p.kind priority) (type_member p.kind)))
      (entity_of (natural n) (natural (direction_value (major_of version) p.dir)) (name_of (family_of p.kind) p.tier) (position_json p) (tail_members p.kind priority) (decimal n) (halves_text x) (halves_text y) (decimal (direction_value (major_of version) p.dir)) (tail_text p.kind priority)
      (natural_spelled n small) (name_simple (family_of p.kind) p.tier) (position_spelled (halves_number x) (halves_number y) (halves_text x) (halves_text y) (halves_spelled x near.0) (halves_spelled y near.1))
      (natural_spelled (direction_value (major_of version) p.dir) (direction_small version p.dir)) (tail_spelled p.kind priority))

  abbrev numbered_text : Numbered → List ℕ
  numbered_text numbered = entity_text version (numbered.0 + 1) numbered.1 (priority_of priorities numbered.0)

  abbrev numbered_json : Numbered → Json
  numbered_json numbered = entity_json (numbered.0 + 1) numbered.1 (priority_of priorities numbered.0)

  abbrev more_text : List Numbered → List ℕ
  more_text [] = 93 ∷ []
  more_text (x ∷ xs) = 44 ∷ (numbered_text x ++ more_text xs)

  joined : (x : Numbered) (xs : List Numbered) → join_with_byte 44 (map numbered_text (x ∷ xs)) ++ 93 ∷ [] ≡ numbered_text x ++ more_text xs
  joined x [] = refl
  joined x (y ∷ ys) = append_assoc (numbered_text x) (44 ∷ join_with_byte 44 (map numbered_text (y ∷ ys))) (93 ∷ []) ∙ ap (λ t. numbered_text x ++ 44 ∷ t) (joined y ys)

  more_spelled : (xs : List Numbered) → CanBeWritten xs → MoreItems (items_of (map numbered_json xs)) (more_text xs)
  more_spelled [] can = no_more_items
  more_spelled (x ∷ xs) can = more_item (numbered_json x) (items_of (map numbered_json xs)) (numbered_text x) (more_text xs) (entity_spelled (x.0 + 1) x.1 (priority_of priorities x.0) can.0 can.1) (more_spelled xs can.2)

  list_spelled : (xs : List Numbered) → CanBeWritten xs → IsValue (list (items_of (map numbered_json xs))) (91 ∷ (join_with_byte 44 (map numbered_text xs) ++ 93 ∷ []))
  list_spelled [] can = empty_list
  list_spelled (x ∷ xs) can = subst (λ t. IsValue (list (items_of (map numbered_json (x ∷ xs)))) (91 ∷ t)) (sym (joined x xs))
      (first_item (numbered_json x) (items_of (map numbered_json xs)) (numbered_text x) (more_text xs) (entity_spelled (x.0 + 1) x.1 (priority_of priorities x.0) can.0 can.1) (more_spelled xs can.2))

  abbrev blueprint_json : List Json → Json
  blueprint_json entities = object (member (codes "item") (text (codes "blueprint")) (member (codes "entities") (list (items_of entities)) (member (codes "version") (number (version_number version)) no_members)))

  abbrev root_json : List Json → Json
  root_json entities = object (member (codes "blueprint") (blueprint_json entities) no_members)

  abbrev root_text : List ℕ → List ℕ
  root_text all = text_of_version version all

  root_spelled : (entities : List Json) (all : List ℕ) → IsValue (list (items_of entities)) (91 ∷ (all ++ 93 ∷ [])) → IsValue (root_json entities) (root_text all)
  root_spelled entities all is_list =
      let version_member : Members = member (codes "version") (number (version_number version)) no_members in
      let version_text : List ℕ = 44 ∷ (quoted (codes "version") ++ 58 ∷ (version_digits version ++ 125 ∷ [])) in
      let list_member : Members = member (codes "entities") (list (items_of entities)) version_member in
      let list_text : List ℕ = 44 ∷ (quoted (codes "entities") ++ 58 ∷ ((91 ∷ (all ++ 93 ∷ [])) ++ version_text)) in
      first_member (codes "blueprint") (blueprint_json entities) no_members (quoted (codes "blueprint")) (123 ∷ (quoted (codes "item") ++ 58 ∷ (quoted (codes "blueprint") ++ list_text))) (125 ∷ []) (simple_text (codes "blueprint") refl)
      (first_member (codes "item") (text (codes "blueprint")) list_member (quoted (codes "item")) (quoted (codes "blueprint")) list_text (simple_text (codes "item") refl) (simple_text (codes "blueprint") refl)
      (more_member (codes "entities") (list (items_of entities)) version_member (quoted (codes "entities")) (91 ∷ (all ++ 93 ∷ [])) version_text (simple_text (codes "entities") refl) is_list
      (more_member (codes "version") (number (version_number version)) no_members (quoted (codes "version")) (version_digits version) (125 ∷ []) (simple_text (codes "version") refl)
      (version_spelled version) no_more_members)))
      no_more_members

  whole_text : (all : List ℕ) → codes "{\"blueprint\":{\"item\":\"blueprint\",\"entities\":[" ++ all ++ end_text version ≡ root_text all ++ 10 ∷ []
  whole_text all = by version
    where
      by : (v : Version) → codes "{\"blueprint\":{\"item\":\"blueprint\",\"entities\":[" ++ all ++ end_text v ≡ text_of_version v all ++ 10 ∷ []
      by Older = simp append_assoc
      by Newer = simp append_assoc

  entity_depth : (n : ℕ) (p : Part) (priority : Priority) → depth_of (entity_json n p priority) ≤ 2
  entity_depth n p priority = omega (arith, tail_flat p.kind priority)

  entities_depth : (xs : List Numbered) → items_depth (items_of (map numbered_json xs)) ≤ 2
  entities_depth [] = omega arith
  entities_depth (x ∷ xs) = omega (arith, entity_depth (x.0 + 1) x.1 (priority_of priorities x.0), entities_depth xs)

  entity_names : (n : ℕ) (p : Part) (priority : Priority) → HasDistinctNames (entity_json n p priority)
  entity_names n p priority = (
    unnamed [] (codes "entity_number") refl,
    tt,
    (
      unnamed (codes "entity_number" ∷ []) (codes "name") refl,
      tt,
      (
        unnamed (codes "entity_number" ∷ codes "name" ∷ []) (codes "position") refl,
        (unnamed [] (codes "x") refl, tt, (unnamed (codes "x" ∷ []) (codes "y") refl, tt, tt)),
        (unnamed (codes "entity_number" ∷ codes "name" ∷ codes "position" ∷ []) (codes "direction") refl, tt, tail_names p.kind priority),
      ),
    ),
  )

  entities_names : (xs : List Numbered) → ItemsHaveDistinctNames (items_of (map numbered_json xs))
  entities_names [] = tt
  entities_names (x ∷ xs) = (entity_names (x.0 + 1) x.1 (priority_of priorities x.0), entities_names xs)

  root_names : (xs : List Numbered) → HasDistinctNames (root_json (map numbered_json xs))
  root_names xs = (unnamed [] (codes "blueprint") refl, (unnamed [] (codes "item") refl, tt, (unnamed (codes "item" ∷ []) (codes "entities") refl, entities_names xs, (unnamed (codes "item" ∷ codes "entities" ∷ []) (codes "version") refl, tt, tt))), tt)

  family_kind : (n : ℕ) (p : Part) (priority : Priority) (k : Kind) → p.kind ≡ k → HasKind (entity_json n p priority) k
  family_kind n p priority Belt is = (p.tier, ap (λ k. Some (text (name_of (family_of k) p.tier))) is)
  family_kind n p priority Entrance is = ((p.tier, ap (λ k. Some (text (name_of (family_of k) p.tier))) is), ap (λ k. value_at (tail_members k priority) (codes "type")) is)
  family_kind n p priority Exit is = ((p.tier, ap (λ k. Some (text (name_of (family_of k) p.tier))) is), ap (λ k. value_at (tail_members k priority) (codes "type")) is)
  family_kind n p priority Splitter is = (p.tier, ap (λ k. Some (text (name_of (family_of k) p.tier))) is)

  entity_dir : (n : ℕ) (p : Part) (priority : Priority) → HasDirection (major_of version) (entity_json n p priority) p.dir
  entity_dir n p priority = inr (number (natural (direction_value (major_of version) p.dir)), refl, natural_is (direction_value (major_of version) p.dir) (direction_small version p.dir))

  entity_placed : (n : ℕ) (p : Part) (priority : Priority) → HasCentreInRange p → IsPlaced (major_of version) (record { x = 0; y = 0 }) (entity_json n p priority) p.cell
  entity_placed n p priority near = record {
    kind = p.kind;
    has_kind = family_kind n p priority p.kind refl;
    dir = p.dir;
    has_dir = entity_dir n p priority;
    x = halves_number (twice_middle p.cell.x (width_of p.kind p.dir));
    y = halves_number (twice_middle p.cell.y (height_of p.kind p.dir));
    has_position = record { position = position_json p; is_there = refl; has_x = refl; has_y = refl };
    twice_x = twice_middle p.cell.x (width_of p.kind p.dir);
    halves_x = halves_are _ near.0;
    middle_x = middle p.cell.x (width_of p.kind p.dir);
    twice_y = twice_middle p.cell.y (height_of p.kind p.dir);
    halves_y = halves_are _ near.1;
    middle_y = middle p.cell.y (height_of p.kind p.dir);
  }

  -- a part that prefers something is a splitter
  is_splitter : (n : ℕ) (p : Part) (priority : Priority) (k : Kind) → p.kind ≡ k → (k ≢ Splitter → ⊥) → HasFamily (entity_json n p priority) Splitters
  is_splitter n p priority Belt is never = absurd (never (λ e. cc))
  is_splitter n p priority Entrance is never = absurd (never (λ e. cc))
  is_splitter n p priority Exit is never = absurd (never (λ e. cc))
  is_splitter n p priority Splitter is never = family_kind n p priority Splitter is

  gives_of : (n : ℕ) (p : Part) (priority : Priority) (give : Option Hand) → priority.give ≡ give → MayPrefer p priority → Holds (tail_members p.kind priority) (codes "output_priority") give → Prefers (entity_json n p priority) (codes "output_priority") give
  gives_of n p priority None is may holds = λ family. inl holds
  gives_of n p priority (Some hand) is may holds =
      (is_splitter n p priority p.kind refl (λ other. none-some hand (sym (ap (λ (q : Priority). q.give) (may other)) ∙ is)), holds)

  takes_of : (n : ℕ) (p : Part) (priority : Priority) (take : Option Hand) → priority.take ≡ take → MayPrefer p priority → Holds (tail_members p.kind priority) (codes "input_priority") take → Prefers (entity_json n p priority) (codes "input_priority") take
  takes_of n p priority None is may holds = λ family. inl holds
  takes_of n p priority (Some hand) is may holds =
      (is_splitter n p priority p.kind refl (λ other. none-some hand (sym (ap (λ (q : Priority). q.take) (may other)) ∙ is)), holds)

  entity_prefers : (n : ℕ) (p : Part) (priority : Priority) → MayPrefer p priority → HasPriority (entity_json n p priority) priority
  entity_prefers n p priority may =
      let tells = tail_tells p.kind priority may in
      record { gives = gives_of n p priority priority.give refl may tells.output; takes = takes_of n p priority priority.take refl may tells.input }

  entity_plain : (n : ℕ) (p : Part) (priority : Priority) → MayPrefer p priority → IsPlain special_in_designs (entity_json n p priority)
  entity_plain n p priority may = let tells = tail_tells p.kind priority may in plain_design (entity_json n p priority) tells.condition tells.filter

  entity_is : (m n : ℕ) (first p : Part) (before priority : Priority) → HasCentreInRange first → HasCentreInRange p → MayPrefer p priority → IsEntity special_in_designs (major_of version) (entity_json m first before) (entity_json n p priority) p
  entity_is m n first p before priority near_first near may = record {
    has_kind = family_kind n p priority p.kind refl;
    has_tier = (family_of p.kind, refl);
    has_dir = entity_dir n p priority;
    in_cell = record {
      shift = record { x = 0; y = 0 };
      sets = record { small_x = omega arith; small_y = omega arith; cell = first.cell; placed = entity_placed m first before near_first };
      placed = entity_placed n p priority near;
    };
    priority = priority;
    has_priority = entity_prefers n p priority may;
    plain = entity_plain n p priority may;
  }

  entity_there : (n : ℕ) (parts : List Part) (i : ℕ) (v : Json) → slice_get (map numbered_json (enumerate_from n parts)) i ≡ Some v → (p : Part) × (slice_get parts i ≡ Some p) × (v ≡ numbered_json (n + i, p))
  entity_there n [] i v is = absurd (none-some v is)
  entity_there n (p ∷ ps) zero v is = (p, refl, sym (same_Some (numbered_json (n, p)) v is) ∙ ap (λ k. numbered_json (k, p)) (omega arith))
  entity_there n (p ∷ ps) (suc i) v is =
      let on = entity_there (n + 1) ps i v is in
      (on.0, on.1, on.2 ∙ ap (λ k. numbered_json (k, on.0)) (omega arith))

  abbrev priority_at : Numbered → Priority
  priority_at numbered = priority_of priorities numbered.0

  priority_there : (n : ℕ) (parts : List Part) (i : ℕ) (q : Priority) → slice_get (map priority_at (enumerate_from n parts)) i ≡ Some q → q ≡ priority_of priorities (n + i)
  priority_there n [] i q is = absurd (none-some q is)
  priority_there n (p ∷ ps) zero q is = sym (same_Some (priority_of priorities n) q is) ∙ ap (priority_of priorities) (omega arith)
  priority_there n (p ∷ ps) (suc i) q is = priority_there (n + 1) ps i q is ∙ ap (priority_of priorities) (omega arith)

  module _ (parts : List Part) (near : All HasCentreInRange parts) (may : SplittersPrefer parts priorities) where
    abbrev entities : List Json
    entities = map numbered_json (enumerate_from 0 parts)

    near_of : (j : ℕ) (p : Part) → slice_get parts j ≡ Some p → HasCentreInRange p
    near_of j p h = subst HasCentreInRange (get_or_from_slice_get parts j p p h) (near j p (slice_get_within parts j p h))

    -- what the part with this index prefers
    may_of : (i : ℕ) (p : Part) → slice_get parts i ≡ Some p → MayPrefer p (priority_of priorities (0 + i))
    may_of i p h = subst (λ k. MayPrefer p (priority_of priorities k)) (let counted : i ≡ 0 + i = omega arith in counted) (may i p h)

    parts_are : AreParts special_in_designs (major_of version) entities parts
    parts_are = record {
      same_length = sym (length-map (enumerate_from 0 parts) numbered_json ∙ length-enumerate_from 0 parts);
      each = λ first v part i is_first is_v is_part.
          let a = entity_there 0 parts 0 first is_first in
          let b = entity_there 0 parts i v is_v in
          let same = same_Some b.0 part (sym b.1 ∙ is_part) in
          subst (λ p. IsEntity special_in_designs (major_of version) first v p) same (subst (λ w. IsEntity special_in_designs (major_of version) first w b.0) (sym b.2) (subst (λ w. IsEntity special_in_designs (major_of version) w (numbered_json (0 + i, b.0)) b.0) (sym a.2)
          (entity_is (0 + 0 + 1) (0 + i + 1) a.0 b.0 (priority_of priorities (0 + 0)) (priority_of priorities (0 + i)) (near_of 0 a.0 a.1) (near_of i b.0 b.1) (may_of i b.0 b.1))));
    }

    priorities_are : ArePriorities entities (all_priorities parts priorities)
    priorities_are = record {
      same_length = length-map (enumerate_from 0 parts) priority_at ∙ sym (length-map (enumerate_from 0 parts) numbered_json);
      each = λ v priority i is_v is_priority.
          let b = entity_there 0 parts i v is_v in
          subst (λ q. HasPriority v q) (sym (priority_there 0 parts i priority is_priority)) (subst (λ w. HasPriority w (priority_of priorities (0 + i))) (sym b.2)
          (entity_prefers (0 + i + 1) b.0 (priority_of priorities (0 + i)) (may_of i b.0 b.1)));
    }

    is_blueprint : IsBlueprint (root_json entities) (major_of version) entities
    is_blueprint = record {
      blueprint = blueprint_json entities;
      is_there = refl;
      is_object = (_, refl);
      has_major = inr (number (version_number version), refl, has_version version);
      has_entities = inr refl;
    }

    blueprint_of : length parts ≤ MOST_ENTITIES → IsBlueprintOf special_in_designs (root_json entities) parts
    blueprint_of few = record {
      major = major_of version;
      entities = entities;
      is_blueprint = is_blueprint;
      few = omega (arith, few, length-map (enumerate_from 0 parts) numbered_json, length-enumerate_from 0 parts);
      are_parts = parts_are;
    }

    has_priorities : HavePriorities (root_json entities) (all_priorities parts priorities)
    has_priorities = record { major = major_of version; entities = entities; is_blueprint = is_blueprint; are_priorities = priorities_are }

pub written_read : WrittenIsRead
written_read parts priorities few near may =
    let version = version_for parts in
    let xs = enumerate_from 0 parts in
    let all = join_with_byte 44 (map (numbered_text version priorities) xs) in
    let root = root_json version priorities (map (numbered_json version priorities) xs) in
    let whole = root_text version priorities all in
    let is : blueprint_text parts priorities ≡ whole ++ 10 ∷ [] = whole_text version priorities all in
    let blueprint = blueprint_of version priorities parts near may few in
    record {
      root = root;
      used = length whole;
      is_json = subst (λ t. IsRead t (Ok (root, length whole))) (sym is) (record {
        front = record {
          within = omega (arith, length-append whole (10 ∷ []));
          spelled = subst (Blanks ▸ IsValue root) (sym (take-append_seam whole (10 ∷ [])))
              (join [] whole tt (root_spelled version priorities (map (numbered_json version priorities) xs) all (list_spelled version priorities xs (can_all 0 parts (omega (arith, few)) near))));
          ends = tt;
        };
        shallow = omega (arith, entities_depth version priorities xs);
        distinct = root_names version priorities xs;
      });
      line_feed = ap (drop (length whole)) is ∙ drop-append_seam whole (10 ∷ []);
      is_parts = (blueprint, has_priorities version priorities parts near may, all_in_range special_in_designs _ parts blueprint);
    }
