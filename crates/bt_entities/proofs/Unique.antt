-- An entity has one name, kind, tier, direction and position at most.
use Rattle.std.proofs.Common.{◌≡◌, ◌≢◌, ℕ, ◌*◌, ◌<◌, ◌^◌, ℤ, pos, Bool, true, false, List, length, Option, Some, None, refl, ap, ◌∙◌, sym, arith, inl, inr, cond}
use Rattle.std.specs.Prelude.{codes, nat_lt, MatchOption}
use Rattle.std.specs.Str.{bytes_eq}
use Rattle.std.proofs.lemmas.Option.{same_Some}
use Rattle.bt_json.specs.Json.{Json, Number, null, boolean, number, text, list, object}
use Rattle.bt_json.specs.Value.{IsTimes, signed}
use Rattle.bt_json.proofs.Scaled.{scaled_same}
use Rattle.bt_parts.specs.declared.part.Dir.{Dir}
use Rattle.bt_parts.specs.declared.part.Dir.TheVariants.{North, East, South, West}
use Rattle.bt_parts.specs.declared.part.Kind.{Kind}
use Rattle.bt_parts.specs.declared.part.Kind.TheVariants.{Belt, Entrance, Exit, Splitter}
use Rattle.bt_parts.specs.declared.part.Tier.{Tier}
use Rattle.bt_parts.specs.declared.part.Tier.TheVariants.{Basic, Fast, Express, Turbo}
use Rattle.bt_entities.specs.declared.name.EntityFamily.{EntityFamily}
use Rattle.bt_entities.specs.declared.name.EntityFamily.TheVariants.{Belts, Undergrounds, Splitters}
use Rattle.bt_entities.specs.Members.{HasMember, Lacks, HasText, HasNumber, IsObject, IsWhole}
use Rattle.bt_entities.specs.Names.{name_of}
use Rattle.bt_entities.specs.Entities.{HasFamily, HasTier, HasKind, HasDirection, HasPosition, quarters_of, direction_value}

-- only an object has members
pub object_of : (v : Json) (name : List ℕ) (m : Json) → HasMember v name m → IsObject v
object_of null name m h = absurd cc
object_of (boolean b) name m h = absurd cc
object_of (number n) name m h = absurd cc
object_of (text t) name m h = absurd cc
object_of (list items) name m h = absurd cc
object_of (object members) name m h = (members, refl)

abbrev pair : EntityFamily → Tier → EntityFamily × Tier
pair family tier = (family, tier)

abbrev told : EntityFamily → Tier → Option (EntityFamily × Tier)
told family tier = Some (pair family tier)

-- the family and the tier that a name tells
unfoldable found : List ℕ → Option (EntityFamily × Tier)
found n =
    cond (bytes_eq n (name_of Belts Basic)) (told Belts Basic) (
    cond (bytes_eq n (name_of Belts Fast)) (told Belts Fast) (
    cond (bytes_eq n (name_of Belts Express)) (told Belts Express) (
    cond (bytes_eq n (name_of Belts Turbo)) (told Belts Turbo) (
    cond (bytes_eq n (name_of Undergrounds Basic)) (told Undergrounds Basic) (
    cond (bytes_eq n (name_of Undergrounds Fast)) (told Undergrounds Fast) (
    cond (bytes_eq n (name_of Undergrounds Express)) (told Undergrounds Express) (
    cond (bytes_eq n (name_of Undergrounds Turbo)) (told Undergrounds Turbo) (
    cond (bytes_eq n (name_of Splitters Basic)) (told Splitters Basic) (
    cond (bytes_eq n (name_of Splitters Fast)) (told Splitters Fast) (
    cond (bytes_eq n (name_of Splitters Express)) (told Splitters Express) (
    cond (bytes_eq n (name_of Splitters Turbo)) (told Splitters Turbo) None)))))))))))

found_name : (family : EntityFamily) (tier : Tier) → found (name_of family tier) ≡ told family tier
unfolding found
found_name Belts Basic = refl
found_name Belts Fast = refl
found_name Belts Express = refl
found_name Belts Turbo = refl
found_name Undergrounds Basic = refl
found_name Undergrounds Fast = refl
found_name Undergrounds Express = refl
found_name Undergrounds Turbo = refl
found_name Splitters Basic = refl
found_name Splitters Fast = refl
found_name Splitters Express = refl
found_name Splitters Turbo = refl

same_pair : (f g : EntityFamily) (t u : Tier) → told f t ≡ told g u → (f ≡ g) × (t ≡ u)
same_pair f g t u h =
    let e : pair f t ≡ pair g u = same_Some (pair f t) (pair g u) h in
    (ap (λ (p : EntityFamily × Tier). p.0) e, ap (λ (p : EntityFamily × Tier). p.1) e)

same_name : (f g : EntityFamily) (t u : Tier) → name_of f t ≡ name_of g u → (f ≡ g) × (t ≡ u)
same_name f g t u e = same_pair f g t u (sym (found_name f t) ∙ ap found e ∙ found_name g u)

pub same_text : (v : Json) (name s t : List ℕ) → HasText v name s → HasText v name t → s ≡ t
same_text v name s t a b = let e : Some (text s) ≡ Some (text t) = sym a ∙ b in cc

pub same_family : (v : Json) (f g : EntityFamily) → HasFamily v f → HasFamily v g → f ≡ g
same_family v f g a b = (same_name f g a.0 b.0 (same_text v (codes "name") _ _ a.1 b.1)).0

pub same_tier : (v : Json) (t u : Tier) → HasTier v t → HasTier v u → t ≡ u
same_tier v t u a b = (same_name a.0 b.0 t u (same_text v (codes "name") _ _ a.1 b.1)).1

input_or_output : (v : Json) → HasText v (codes "type") (codes "input") → HasText v (codes "type") (codes "output") → ⊥
input_or_output v a b = let e : length (codes "input") ≡ length (codes "output") = ap length (same_text v (codes "type") _ _ a b) in absurd (omega arith)

-- the family of a kind
abbrev family_of : Kind → EntityFamily
family_of Belt = Belts
family_of Entrance = Undergrounds
family_of Exit = Undergrounds
family_of Splitter = Splitters

kind_family : (v : Json) (kind : Kind) → HasKind v kind → HasFamily v (family_of kind)
kind_family v Belt h = h
kind_family v Entrance h = h.0
kind_family v Exit h = h.0
kind_family v Splitter h = h

one_kind : (v : Json) (k l : Kind) → HasKind v k → HasKind v l → family_of k ≡ family_of l → k ≡ l
one_kind v Belt Belt a b e = refl
one_kind v Entrance Entrance a b e = refl
one_kind v Entrance Exit a b e = absurd (input_or_output v a.1 b.1)
one_kind v Exit Entrance a b e = absurd (input_or_output v b.1 a.1)
one_kind v Exit Exit a b e = refl
one_kind v Splitter Splitter a b e = refl
one_kind v k l a b e = absurd cc

-- an entity has one kind
pub same_kind : (v : Json) (k l : Kind) → HasKind v k → HasKind v l → k ≡ l
same_kind v k l a b = one_kind v k l a b (same_family v _ _ (kind_family v k a) (kind_family v l b))

same_quarters : (c : ℕ) (d e : Dir) → 0 < c → quarters_of d * c ≡ quarters_of e * c → d ≡ e
same_quarters c North North lt h = refl
same_quarters c East East lt h = refl
same_quarters c South South lt h = refl
same_quarters c West West lt h = refl
same_quarters c d e lt h = absurd (omega arith)

scale_positive : (b : Bool) → 0 < cond b 2 4
scale_positive true = omega arith
scale_positive false = omega arith

scale_small : (b : Bool) (d : Dir) → quarters_of d * cond b 2 4 < 2 ^ 64
scale_small true North = omega arith
scale_small false North = omega arith
scale_small b d = omega arith

direction_value_fits : (major : ℕ) (d : Dir) → direction_value major d < 2 ^ 64
direction_value_fits major d = scale_small (nat_lt major 2) d

same_direction_value : (major : ℕ) (d e : Dir) → direction_value major d ≡ direction_value major e → d ≡ e
same_direction_value major d e h = same_quarters (cond (nat_lt major 2) 2 4) d e (scale_positive (nat_lt major 2)) h

-- a number's value has one whole multiple by a number at most
pub same_times : (k : ℕ) (n : Number) (y z : ℤ) → IsTimes k n y → IsTimes k n z → y ≡ z
same_times k n y z a b = a.2 ∙ ap (signed n.negative) (scaled_same a.0 b.0 _ n.exponent a.1 b.1) ∙ sym b.2

same_pos : (m n : ℕ) → pos m ≡ pos n → m ≡ n
same_pos m n e = cc

pub same_number : (v : Json) (name : List ℕ) (m n : Number) → HasNumber v name m → HasNumber v name n → m ≡ n
same_number v name m n a b = let e : Some (number m) ≡ Some (number n) = sym a ∙ b in cc

pub same_member : (v : Json) (name : List ℕ) (m n : Json) → HasMember v name m → HasMember v name n → m ≡ n
same_member v name m n a b = let e : Some m ≡ Some n = sym a ∙ b in cc

pub lacks_or_has : (v : Json) (name : List ℕ) (m : Json) → Lacks v name → HasMember v name m → ⊥
lacks_or_has v name m a b = let e : None ≡ Some m = sym a ∙ b in absurd cc

pub same_whole : (v : Json) (m n : ℕ) → IsWhole v m → IsWhole v n → m ≡ n
same_whole v m n a b =
    let e : number a.0 ≡ number b.0 = sym a.1 ∙ b.1 in
    let w : a.0 ≡ b.0 = cc in
    same_pos m n (same_times 1 b.0 (pos m) (pos n) (rw w at a.2) b.2)

-- the number's value is what the direction's member has to be
whole_direction : (major : ℕ) (v m : Json) (d : Dir) → HasMember v (codes "direction") m → HasDirection major v d → IsWhole m (direction_value major d)
whole_direction major v m d at h = elim h [
  | inl none ↦ absurd (lacks_or_has v (codes "direction") m none.0 at)
  | inr there ↦ rw (same_member v (codes "direction") m there.0 at there.1) there.2
]

-- an entity has one direction
pub same_dir : (major : ℕ) (v : Json) (d e : Dir) → HasDirection major v d → HasDirection major v e → d ≡ e
same_dir major v d e a b = elim a [
  | inl none ↦ elim b [
    | inl also ↦ none.1 ∙ sym also.1
    | inr there ↦ absurd (lacks_or_has v (codes "direction") there.0 none.0 there.1)
  ]
  | inr there ↦ same_direction_value major d e (same_whole there.0 _ _ there.2 (whole_direction major v there.0 e there.1 b))
]

pub record SamePosition (x y p q : Number) : Type 0 where
  pub same_x : x ≡ p
  pub same_y : y ≡ q

-- an entity has one position
pub same_position : (v : Json) (x y p q : Number) → HasPosition v x y → HasPosition v p q → SamePosition x y p q
same_position v x y p q a b =
    let e : a.position ≡ b.position = same_member v (codes "position") _ _ a.is_there b.is_there in
    record {
      same_x = same_number b.position (codes "x") x p (rw e at a.has_x) b.has_x;
      same_y = same_number b.position (codes "y") y q (rw e at a.has_y) b.has_y;
    }

-- a number that is written has no whole value
pub no_whole : (m : Json) (n : Number) (k : ℕ) → m ≡ number n → ((j : ℕ) → j < 2 ^ 64 → IsTimes 1 n (pos j) → ⊥) → k < 2 ^ 64 → ¬ IsWhole m k
no_whole m n k is none fits w =
    let e : number n ≡ number w.0 = sym is ∙ w.1 in
    let same : n ≡ w.0 = cc in
    none k fits (rw same w.2)

pub no_whole_direction : (major : ℕ) (v m : Json) (n : Number) → HasMember v (codes "direction") m → m ≡ number n
    → ((k : ℕ) → k < 2 ^ 64 → IsTimes 1 n (pos k) → ⊥) → (d : Dir) → ¬ HasDirection major v d
no_whole_direction major v m n at is none d h =
    no_whole m n (direction_value major d) is none (direction_value_fits major d) (whole_direction major v m d at h)

pub direction_found : (major : ℕ) (v m : Json) (n : Number) (k : ℕ) (o : Option Dir) → HasMember v (codes "direction") m → m ≡ number n → IsTimes 1 n (pos k)
    → MatchOption o ((d : Dir) → k ≢ direction_value major d) (λ d. k ≡ direction_value major d)
    → MatchOption o ((d : Dir) → ¬ HasDirection major v d) (HasDirection major v)
direction_found major v m n k None at is times none = λ d h. none d (same_whole m k (direction_value major d) (n, is, times) (whole_direction major v m d at h))
direction_found major v m n k (Some d) at is times e = inr (m, at, (n, is, rw (← e) times))
