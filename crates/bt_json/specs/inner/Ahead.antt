-- What comes behind an opening bracket and behind a value, and how a list or an object goes on with it.
use Rattle.std.specs.Prelude.{◌≡◌, ℕ, List, Result}
use Rattle.bt_json.specs.Json.{Json}
use Rattle.bt_json.specs.Places.{Frame}
use Rattle.bt_json.specs.inner.Reading.{State, Step, go, behind, deliver}
use Rattle.bt_json.specs.inner.Running.{IsLater, rest_of, rest_after, ReadsOn}
use Rattle.bt_json.specs.inner.Frames.{IsFresh, closing_of, opened, item_due, with_value, closed}
use Rattle.bt_json.specs.declared.fault.JsonFault.{JsonFault}
use Rattle.bt_json.specs.declared.nested.Ahead.{Ahead}
use Rattle.bt_json.specs.declared.nested.Ahead.TheVariants.{Item, End}

-- the place from which reading goes on
abbrev pub place_of : Ahead → ℕ
place_of (Item at) = at
place_of (End at) = at

-- what comes of it in the frame
abbrev pub step_ahead : Ahead → Frame → List Frame → Step
step_ahead (Item at) f k = go (item_due f k)
step_ahead (End at) f k = deliver (closed f) k at

-- what comes behind the byte that opens a list or an object
pub record ComesFirst (bytes : List ℕ) (start closing : ℕ) (ahead : Ahead) : Type 0 where
  pub later : IsLater bytes start (place_of ahead)
  pub read : (f : Frame) (k : List Frame) → IsFresh f → closing_of f ≡ closing → rest_of bytes start (opened f k) ≡ rest_after bytes (place_of ahead) (step_ahead ahead f k)

-- the values of lists and objects with that closing byte, each with its own and those around
pub record Within (closing : ℕ) : Type 0 where
  pub value : Json
  pub frame : Frame
  pub around : List Frame
  pub closes : closing_of frame ≡ closing

-- the state behind such a value
abbrev pub behind_value : {closing : ℕ} → Within closing → State
behind_value w = behind w.value w.frame w.around

-- the step that what comes is behind it
abbrev pub comes_next : {closing : ℕ} → Ahead → Within closing → Step
comes_next ahead w = step_ahead ahead (with_value w.frame w.value) w.around

-- what comes behind a value, in whatever list or object with that closing byte
abbrev pub ComesNext : List ℕ → ℕ → ℕ → Result Ahead JsonFault → Type 0
ComesNext bytes start closing = ReadsOn {K = Within closing} bytes start behind_value place_of comes_next
