-- Chains of belts and underground pieces, with where they start and end.
use Rattle.std.specs.Prelude.{◌≡◌, ◌≢◌, ℕ, List, [], ◌∷◌, ◌⊎◌}
use Rattle.bt_parts.specs.declared.part.Cell.{Cell}
use Rattle.bt_parts.specs.declared.part.Kind.TheVariants.{Belt, Entrance, Exit, Splitter}
use Rattle.bt_parts.specs.declared.part.Part.{Part}
use Rattle.bt_parts.specs.Cells.{step}
use Rattle.bt_parts.specs.Layouts.{HasPart, IsAt}
use Rattle.bt_model.specs.Handing.{FeedsFrom, Feeds, Hands}

-- the part with this index is a splitter
abbrev pub IsSplitter : List Part → ℕ → Type 0
IsSplitter parts i = (part : Part) × HasPart parts i part × (part.kind ≡ Splitter)

-- the part with this index is a belt or an underground piece
abbrev pub IsLink : List Part → ℕ → Type 0
IsLink parts i = (part : Part) × HasPart parts i part × (part.kind ≢ Splitter)

-- both are belts or underground pieces, and i hands to j
abbrev pub LinksTo : List Part → ℕ → ℕ → Type 0
LinksTo parts i j = IsLink parts i × IsLink parts j × Hands parts i j

-- a list of belts and underground pieces from the first to the last, each handing to the next
pub data Path (parts : List Part) : ℕ → ℕ → List ℕ → Type 0 where
  one : (i : ℕ) → IsLink parts i → Path parts i i (i ∷ [])
  more : (i j last : ℕ) (rest : List ℕ) → IsLink parts i → Hands parts i j → Path parts j last rest
      → Path parts i last (i ∷ rest)

-- the part with this index is a belt or an entrance, and has no feeder
pub record IsInput (parts : List Part) (i : ℕ) : Type 0 where
  pub part : Part
  pub is_i : HasPart parts i part
  pub kind : (part.kind ≡ Belt) ⊎ (part.kind ≡ Entrance)
  pub unfed : (p : ℕ) → Feeds parts p i → ⊥

-- the part with this index is a belt or an exit, and no part is on the cell in front of it
pub record IsOutput (parts : List Part) (i : ℕ) : Type 0 where
  pub part : Part
  pub is_i : HasPart parts i part
  pub kind : (part.kind ≡ Belt) ⊎ (part.kind ≡ Exit)
  pub clear : (q : ℕ) → IsAt parts q (step part.dir part.cell) → ⊥

-- a chain starts as an input, given by its first part and the cell of that, or at a half of a splitter
pub data Source : Type 0 where
  begins : ℕ → Cell → Source
  leaves : ℕ → Cell → Source

-- a chain ends as an output, given by its last part, or at a splitter
pub data Sink : Type 0 where
  ends : ℕ → Sink
  enters : ℕ → Sink

-- the parts of a chain in their order, and where it starts and ends
pub record Chain : Type 0 where
  pub source : Source
  pub links : List ℕ
  pub sink : Sink

-- a chain with this first part starts there
abbrev pub StartsAs : List Part → Source → ℕ → Type 0
StartsAs parts (begins i cell) first = (first ≡ i) × IsInput parts i × IsAt parts i cell
StartsAs parts (leaves s half) first = IsSplitter parts s × FeedsFrom parts s half first

-- a chain with this last part ends there
abbrev pub EndsAs : List Part → Sink → ℕ → Type 0
EndsAs parts (ends i) last = (last ≡ i) × IsOutput parts i
EndsAs parts (enters s) last = IsSplitter parts s × Hands parts last s

-- a path of belts and underground pieces that starts and ends so, and that no other of them can be put before or after
pub record IsLongest (parts : List Part) (chain : Chain) : Type 0 where
  pub first : ℕ
  pub last : ℕ
  pub path : Path parts first last chain.links
  pub starts : StartsAs parts chain.source first
  pub ends : EndsAs parts chain.sink last
  pub none_before : (i : ℕ) → IsLink parts i → Hands parts i first → ⊥
  pub none_after : (i : ℕ) → IsLink parts i → Hands parts last i → ⊥

-- the chain from a half of a splitter that hands to a splitter at once, with no part between
pub record IsEmptyChain (parts : List Part) (chain : Chain) : Type 0 where
  pub from : ℕ
  pub half : Cell
  pub to : ℕ
  pub is_from : IsSplitter parts from
  pub is_to : IsSplitter parts to
  pub feeds : FeedsFrom parts from half to
  pub source : chain.source ≡ leaves from half
  pub no_link : chain.links ≡ []
  pub sink : chain.sink ≡ enters to

-- a chain of the layout
abbrev pub IsChain : List Part → Chain → Type 0
IsChain parts chain = IsLongest parts chain ⊎ IsEmptyChain parts chain
