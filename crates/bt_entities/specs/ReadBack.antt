-- That what is written of parts and their priorities is read as the same.
use Rattle.std.specs.Prelude.{◌≡◌, ◌≢◌, ℕ, ◌≤◌, List, [], ◌∷◌, length, drop, map, All, unsigned_abs, Ok}
use Rattle.std.specs.List.{enumerate_from}
use Rattle.bt_json.specs.declared.limits.TheConstants.{MOST_HALVES}
use Rattle.bt_json.specs.Json.{Json}
use Rattle.bt_json.specs.Answers.{IsRead}
use Rattle.bt_parts.specs.declared.hand.Priority.{Priority}
use Rattle.bt_parts.specs.Hands.{no_priority, priority_of}
use Rattle.bt_parts.specs.declared.part.Kind.TheVariants.{Splitter}
use Rattle.bt_parts.specs.declared.part.Part.{Part}
use Rattle.bt_parts.specs.Layouts.{HasPart}
use Rattle.bt_entities.specs.declared.blueprint.TheConstants.{MOST_ENTITIES}
use Rattle.bt_entities.specs.Answers.{IsPrioritisedOf}
use Rattle.bt_entities.specs.Places.{width_of, height_of}
use Rattle.bt_entities.specs.Written.{twice_middle, blueprint_text}

-- twice each coordinate of the part's centre is of a magnitude that is read
abbrev pub HasCentreInRange : Part → Type 0
HasCentreInRange part = (unsigned_abs (twice_middle part.cell.x (width_of part.kind part.dir)) ≤ MOST_HALVES)
    × (unsigned_abs (twice_middle part.cell.y (height_of part.kind part.dir)) ≤ MOST_HALVES)

-- the priority of each part, none where there are fewer priorities
abbrev pub all_priorities : List Part → List Priority → List Priority
all_priorities parts priorities = map (λ numbered. priority_of priorities numbered.0) (enumerate_from 0 parts)

-- splitters alone prefer anything
abbrev pub SplittersPrefer : List Part → List Priority → Type 0
SplittersPrefer parts priorities = (i : ℕ) (part : Part) → HasPart parts i part → part.kind ≢ Splitter → priority_of priorities i ≡ no_priority

-- the text that is written of the parts with these priorities is JSON, behind which its line feed alone follows, and
-- the value that it says is a blueprint of these parts with these priorities
pub record IsReadBack (parts : List Part) (priorities : List Priority) : Type 0 where
  pub root : Json
  pub used : ℕ
  pub is_json : IsRead (blueprint_text parts priorities) (Ok (root, used))
  pub line_feed : drop used (blueprint_text parts priorities) ≡ 10 ∷ []
  pub is_parts : IsPrioritisedOf root (Ok (parts, all_priorities parts priorities))

-- what is written of no more parts than a blueprint may have, with centres in range, of which splitters alone prefer
-- anything, is read as the same parts with the same priorities
abbrev pub WrittenIsRead : Type 0
WrittenIsRead = (parts : List Part) (priorities : List Priority) → length parts ≤ MOST_ENTITIES → All HasCentreInRange parts → SplittersPrefer parts priorities → IsReadBack parts priorities
