-- What a JSON text says.
use Rattle.std.specs.Prelude.{ℕ, ℤ, Bool, List, Option, Some, None, if◌then◌else◌}
use Rattle.std.specs.Str.{bytes_eq}

-- a number as it is written: its sign, the digits of its whole part and its fraction, and the power of ten that they
-- are multiplied by
pub record Number : Type 0 where
  pub negative : Bool
  pub digits : List ℕ
  pub exponent : ℤ

mutual
  -- a JSON value; a text is the bytes of its UTF-8, with every escape replaced by what it stands for
  pub data Json : Type 0 where
    null : Json
    boolean : Bool → Json
    number : Number → Json
    text : List ℕ → Json
    list : Items → Json
    object : Members → Json

  -- the items of a list, in their order
  pub data Items : Type 0 where
    no_items : Items
    item : Json → Items → Items

  -- the members of an object, each a name and its value, in their order
  pub data Members : Type 0 where
    no_members : Members
    member : List ℕ → Json → Members → Members

-- the value of the first member of that name
abbrev pub value_at : Members → List ℕ → Option Json
value_at no_members name = None
value_at (member n v rest) name = if bytes_eq name n then Some v else value_at rest name

-- the member of a name, where the value is an object that has one
abbrev pub member_of : Json → List ℕ → Option Json
member_of null name = None
member_of (boolean b) name = None
member_of (number n) name = None
member_of (text t) name = None
member_of (list items) name = None
member_of (object members) name = value_at members name
