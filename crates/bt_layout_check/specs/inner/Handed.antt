-- What the splitters of a layout are to prefer, told from the marks of its own network and of another.
use Rattle.std.specs.Prelude.{◌≡◌, ◌≢◌, ℕ, ◌<◌, Bool, true, false, IsTrue, List, length, get_or, map, Option, Some, MatchOption, IsPermutation}
use Rattle.bt_parts.specs.declared.hand.Hand.{Hand}
use Rattle.bt_parts.specs.declared.hand.Hand.TheVariants.{Left, Right}
use Rattle.bt_parts.specs.declared.hand.Priority.{Priority}
use Rattle.bt_parts.specs.Hands.{no_priority}
use Rattle.bt_parts.specs.declared.part.Kind.{Kind}
use Rattle.bt_parts.specs.declared.part.Kind.TheVariants.{Splitter}
use Rattle.bt_parts.specs.declared.part.Part.{Part}
use Rattle.bt_parts.specs.Layouts.{HasPart}
use Rattle.bt_net.specs.Network.{Network}
use Rattle.bt_model.specs.Shown.{Naming}
use Rattle.bt_layout_check.specs.declared.joins.Join.{Join}
use Rattle.bt_layout_check.specs.declared.preferring.Marked.{Marked}
use Rattle.bt_layout_check.specs.inner.Marks.{AreMarks, no_mark}

-- each splitter prefers its left half, to give to and to take from
abbrev pub to_left : Priority
to_left = record { give = Some Left; take = Some Left }

-- the hand of a half that is the left one, or isn't
abbrev pub hand_told : Bool → Hand
hand_told true = Left
hand_told false = Right

-- the parts that an edge with this mark joins
abbrev pub join_in : Marked → Join
join_in mark = record { start = mark.start; target = mark.target; cap = mark.cap }

-- the mark at this place
abbrev pub mark_at : List Marked → ℕ → Marked
mark_at marks k = get_or marks k no_mark

-- the hand on which this splitter is to give first: that of the half at which the edge starts that it is wished to give
-- to, where it is wished so of one
abbrev pub TellsGive : List Marked → List Marked → ℕ → Option Hand → Type 0
TellsGive halves wishes s told = MatchOption told
    ((k : ℕ) → k < length wishes → IsTrue (mark_at wishes k).given → (mark_at wishes k).start ≡ s → ⊥)
    (λ hand. (k : ℕ) × (k < length wishes) × IsTrue (mark_at wishes k).given × ((mark_at wishes k).start ≡ s)
    × (hand ≡ hand_told (mark_at halves k).given))

-- the hand on which it is to take first, likewise
abbrev pub TellsTake : List Marked → List Marked → ℕ → Option Hand → Type 0
TellsTake halves wishes s told = MatchOption told
    ((k : ℕ) → k < length wishes → IsTrue (mark_at wishes k).taken → (mark_at wishes k).target ≡ s → ⊥)
    (λ hand. (k : ℕ) × (k < length wishes) × IsTrue (mark_at wishes k).taken × ((mark_at wishes k).target ≡ s)
    × (hand ≡ hand_told (mark_at halves k).taken))

-- what the part with this index and of this kind is to prefer: nothing, where it is no splitter
pub record IsTold (halves wishes : List Marked) (s : ℕ) (kind : Kind) (priority : Priority) : Type 0 where
  pub give : kind ≡ Splitter → TellsGive halves wishes s priority.give
  pub take : kind ≡ Splitter → TellsTake halves wishes s priority.take
  pub none : kind ≢ Splitter → priority ≡ no_priority

-- what each part is to prefer
pub record AreTold (parts : List Part) (halves wishes : List Marked) (priorities : List Priority) : Type 0 where
  pub count : length priorities ≡ length parts
  pub each : (k : ℕ) (d : Priority) → k < length priorities → (part : Part) → HasPart parts k part → IsTold halves wishes k part.kind (get_or priorities k d)

-- both lists of marks in an order in which those at each place join the same parts
pub record AreMatched (first second halves wishes : List Marked) : Type 0 where
  pub halves_moved : IsPermutation first halves
  pub wishes_moved : IsPermutation second wishes
  pub same : map join_in halves ≡ map join_in wishes

-- each part is to prefer what the marks of the two networks tell, of which the first has those of the halves
pub record AreHanded (parts : List Part) (one : Naming) (own : Network) (other : Naming) (net : Network) (priorities : List Priority) : Type 0 where
  pub first : List Marked
  pub second : List Marked
  pub halves : List Marked
  pub wishes : List Marked
  pub are_first : AreMarks one own first
  pub are_second : AreMarks other net second
  pub matched : AreMatched first second halves wishes
  pub told : AreTold parts halves wishes priorities
