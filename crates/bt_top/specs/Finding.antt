-- What `smallest --found` answers.
use Rattle.std.specs.Prelude.{◌≡◌, ℕ, ◌⊎◌, List, [], unwrap_or, Option, Some, None, Result, Ok}
use Rattle.std.specs.Global.{Vec}
use Rattle.bt_parts.specs.declared.hand.Priority.{Priority}
use Rattle.bt_parts.specs.declared.part.Part.{Part}
use Rattle.bt_parts.specs.declared.part.Rect.{Rect}
use Rattle.bt_parts.specs.declared.part.Tier.{Tier}
use Rattle.bt_model.specs.Laying.{LaysPreferring}
use Rattle.bt_model.specs.Requests.{LayoutRequest}
use Rattle.bt_entities.specs.ReadBack.{IsReadBack}
use Rattle.bt_grids.specs.declared.outcome.Small.{Small}
use Rattle.bt_grids.specs.declared.outcome.Small.TheVariants.{Found, Spent}
use Rattle.bt_grids.specs.Spanned.{IsSpanned}
use Rattle.bt_layout.specs.Small.{IsBeyond, IsSmall}
use Rattle.bt_grids.specs.Asked.{request_on}
use Rattle.bt_model.specs.declared.request.TheConstants.{MOST_ACROSS}
use Rattle.bt_words.specs.Commands.{usual_grid}
use Rattle.bt_words.specs.declared.command.AskedSides.{AskedSides}
use Rattle.bt_words.specs.declared.command.AskedSides.TheVariants.{Any, Kept}
use Rattle.bt_print.specs.declared.answer.Answer.TheVariants as answer
use Rattle.bt_designs.specs.declared.fault.DesignFault.{DesignFault}
use Rattle.bt_designs.specs.Designs.{IsJsonText}
use Rattle.bt_print.specs.Replies.{Reply, design_told}
use Rattle.bt_designs.specs.Kept.{AreDrawn, IsKeptRequest}
use Rattle.bt_designs.specs.Requested.{IsLoneRequest, IsSidedRequest}
use Rattle.bt_designs.specs.Steps.{InTurn}

-- the greatest grid of all
abbrev pub greatest_grid : Rect
greatest_grid = record { width = MOST_ACROSS; height = MOST_ACROSS }

-- what comes of bytes that are to be a blueprint alone, whose ends are asked to stand at these sides
abbrev pub IsDrawnRequest : AskedSides → Rect → Option Tier → List ℕ → Result LayoutRequest DesignFault → Type 0
IsDrawnRequest Any rect tier bytes = IsLoneRequest rect tier bytes
IsDrawnRequest Kept rect tier bytes = IsKeptRequest rect tier bytes

-- what comes of bytes that are to be a design alone, for parts of a tier on the greatest grid, which is, where none is
-- given, the greatest of all for a blueprint and the usual one for a network text: what `layout` takes or refuses of a
-- blueprint, whose ends are asked to stand at these sides, and what `smallest` does of a network text
abbrev pub IsDesignRequest : AskedSides → Option Rect → Option Tier → List ℕ → Result LayoutRequest DesignFault → Type 0
IsDesignRequest sides most tier bytes answer = (IsJsonText bytes × IsDrawnRequest sides (unwrap_or most greatest_grid) tier bytes answer)
    ⊎ ((IsJsonText bytes → ⊥) × IsSidedRequest (unwrap_or most usual_grid) tier bytes answer)

-- how many cells a grid has to have fewer of: of a blueprint, those of its least rectangle; of a network text there is
-- no such number
abbrev pub IsOwn : List ℕ → Option ℕ → Type 0
IsOwn bytes None = IsJsonText bytes → ⊥
IsOwn bytes (Some cells) = (parts : List Part) × AreDrawn bytes parts × IsSpanned cells parts

-- the blueprint that is written of the parts is read as these parts with these priorities
abbrev pub IsSmallFoundAgain : Small → List Priority → Type 0
IsSmallFoundAgain (Found grid parts) priorities = IsReadBack parts.items priorities
IsSmallFoundAgain (Spent steps) priorities = Unit {0}

-- the parts lay the request on their grid with these priorities, and so with what its splitters prefer; where none are
-- found there are no priorities
abbrev pub IsSmallPreferred : LayoutRequest → Small → List Priority → Type 0
IsSmallPreferred r (Found grid parts) priorities = LaysPreferring parts.items priorities (request_on r grid)
IsSmallPreferred r (Spent steps) priorities = priorities ≡ []

-- what is answered to what looking for small grids comes to: it, with priorities of the parts that are found
abbrev pub IsSmallTold : LayoutRequest → Small → Reply → Type 0
IsSmallTold r small reply =
    (priorities : Vec Priority) × IsSmallPreferred r small priorities.items × IsSmallFoundAgain small priorities.items × (reply ≡ Ok (answer.Small small priorities))

-- what is answered to a request on the greatest grid, where the number of cells of a design that is laid out is given: a
-- grid that may be asked, which is within that one and has fewer, and parts that lay the request there, whose blueprint
-- is read as these parts; or that none was found; and this with nothing more, where the network or the grids are beyond
-- those of which formulas are written
abbrev pub IsSmallFound : Option ℕ → ℕ → LayoutRequest → Reply → Type 0
IsSmallFound own learnt r reply = ((small : Small) × IsSmall r own learnt small × IsSmallTold r small reply) ⊎ (IsBeyond r own × (reply ≡ Ok answer.NotFound))

-- what is answered to a request on the greatest grid, where the bytes are the design
abbrev pub IsFound : List ℕ → ℕ → LayoutRequest → Reply → Type 0
IsFound bytes learnt r reply = (own : Option ℕ) × IsOwn bytes own × IsSmallFound own learnt r reply

-- what `smallest --found` answers to bytes: what is answered to the request that they are, or the first refusal
abbrev pub IsFoundFrom : Option Rect → Option Tier → AskedSides → ℕ → List ℕ → Reply → Type 0
IsFoundFrom most tier sides learnt bytes = InTurn (IsDesignRequest sides most tier bytes) design_told (IsFound bytes learnt)
