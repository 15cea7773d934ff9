-- In which other rectangles a network that has a layout has one.
use Rattle.std.specs.Prelude.{◌≡◌, ◌≤◌, ◌⊎◌, List, []}
use Rattle.bt_parts.specs.declared.part.Part.{Part}
use Rattle.bt_parts.specs.declared.part.Rect.{Rect}
use Rattle.bt_model.specs.Laying.{Lays}
use Rattle.bt_model.specs.Requests.{LayoutRequest, request_of}

-- neither pins, sides, rows nor blocks are asked
pub record AsksNothing (request : LayoutRequest) : Type 0 where
  pub demands : request.demands ≡ []
  pub blocks : request.blocks ≡ []

-- the same request in another rectangle
abbrev pub in_rect : Rect → LayoutRequest → LayoutRequest
in_rect rect r = request_of r.net rect r.tier r.demands r.blocks

-- some parts lay the request
abbrev pub HasLayout : LayoutRequest → Type 0
HasLayout request = (parts : List Part) × Lays parts request

-- a request that has a layout has one in every rectangle that is as wide and as high, or more
abbrev pub Extends : Type 0
Extends = (request : LayoutRequest) (rect : Rect) → AsksNothing request → request.rect.width ≤ rect.width → request.rect.height ≤ rect.height
    → HasLayout request → HasLayout (in_rect rect request)

-- the rectangle that is as wide as this one is high, and as high as it is wide
abbrev pub exchanged : Rect → Rect
exchanged rect = record { width = rect.height; height = rect.width }

-- a request that has a layout has one in the rectangle with width and height exchanged
abbrev pub ExtendsExchanged : Type 0
ExtendsExchanged = (request : LayoutRequest) → AsksNothing request → HasLayout request → HasLayout (in_rect (exchanged request.rect) request)

-- the one rectangle fits into the other, as it is or turned
abbrev pub FitsInto : Rect → Rect → Type 0
FitsInto small great = ((small.width ≤ great.width) × (small.height ≤ great.height)) ⊎ ((small.width ≤ great.height) × (small.height ≤ great.width))

-- a request that has no layout has none in any rectangle that fits into its own
abbrev pub HasNoneInside : Type 0
HasNoneInside = (request : LayoutRequest) (rect : Rect) → AsksNothing request → FitsInto rect request.rect
    → (HasLayout request → ⊥) → HasLayout (in_rect rect request) → ⊥
