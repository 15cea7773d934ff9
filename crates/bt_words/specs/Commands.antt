-- The words of commands.
use Rattle.std.specs.Prelude.{◌≡◌, ◌≤◌, ◌*◌, ℕ, Bool, true, false, List, [], ◌∷◌, IfSome, Some, None, unwrap_or}
use Rattle.std.specs.Option.{option_to_list}
use Rattle.std.specs.List.{filter_map}
use Rattle.std.specs.declared.option.Option.{Option}
use Rattle.bt_flow.specs.declared.property.Property.{Property}
use Rattle.bt_model.specs.declared.request.TheConstants.{MOST_CELLS}
use Rattle.bt_parts.specs.declared.part.Rect.{Rect}
use Rattle.bt_parts.specs.declared.part.Tier.{Tier}
use Rattle.bt_words.specs.declared.argument.Argument.{Argument}
use Rattle.bt_words.specs.declared.argument.Argument.TheVariants.{Wished, Number, Chain, Learnt, Pivots, Grid, OfTier, Most, From, Found, Sides, Request}
use Rattle.bt_gen.specs.declared.wish.Wish.{Wish}
use Rattle.bt_gen.specs.Wishes.{only}
use Rattle.bt_words.specs.declared.given.Given.{Given}
use Rattle.bt_words.specs.declared.given.Places.{Places}
use Rattle.bt_words.specs.declared.given.Places.TheVariants as places
use Rattle.bt_cnf.specs.declared.limits.Limits.{Limits}
use Rattle.bt_words.specs.declared.command.NetworkFamily.{NetworkFamily}
use Rattle.bt_words.specs.declared.command.NetworkFamily.TheVariants as family
use Rattle.bt_words.specs.declared.command.AskedSides.{AskedSides}
use Rattle.bt_words.specs.declared.command.AskedSides.TheVariants as asked
use Rattle.bt_words.specs.declared.command.BuiltText.{BuiltText}
use Rattle.bt_words.specs.declared.command.BuiltText.TheVariants as text
use Rattle.bt_words.specs.declared.command.Command.{Command}
use Rattle.bt_words.specs.declared.command.Command.TheVariants.{FlowCheck, Recover, Check, Decide, Make, Layout, CheckLayout, Smallest, FindSmall, FlowFormula, PlaceFormula, Same, CheckSame, Build}
use Rattle.bt_words.specs.declared.command.TheConstants.{MOST_LINES, USUAL_ACROSS, USUAL_LEARNT, USUAL_PIVOTS}
use Rattle.bt_words.specs.Arguments.{AreArguments}
use Rattle.bt_words.specs.Verbs.{verb_name, verb_of}

-- an argument that has its place among others: properties or a number
abbrev pub place_in : Argument → Option Argument
place_in (Wished w) = Some (Wished w)
place_in (Number k) = Some (Number k)
place_in other = None

-- the properties and the numbers that are given, in their order
abbrev pub places_list : Places → List Argument
places_list places.Nothing = []
places_list (places.Wish w) = Wished w ∷ []
places_list (places.Number k) = Number k ∷ []
places_list (places.WishAndNumber w k) = Wished w ∷ Number k ∷ []
places_list (places.Whole w inputs outputs) = Wished w ∷ Number inputs ∷ Number outputs ∷ []

-- whether it is `--chain`
abbrev pub chain_in : Argument → Option (Unit {0})
chain_in Chain = Some tt
chain_in other = None

-- the number behind `--learnt`
abbrev pub learnt_in : Argument → Option ℕ
learnt_in (Learnt n) = Some n
learnt_in other = None

-- the number behind `--pivots`
abbrev pub pivots_in : Argument → Option ℕ
pivots_in (Pivots n) = Some n
pivots_in other = None

-- the grid behind `--grid`
abbrev pub grid_in : Argument → Option Rect
grid_in (Grid grid) = Some grid
grid_in other = None

-- the tier behind `--tier`
abbrev pub tier_in : Argument → Option Tier
tier_in (OfTier tier) = Some tier
tier_in other = None

-- the grid behind `--most`
abbrev pub most_in : Argument → Option Rect
most_in (Most grid) = Some grid
most_in other = None

-- the grid behind `--from`
abbrev pub from_in : Argument → Option Rect
from_in (From grid) = Some grid
from_in other = None

-- whether it is `--found`
abbrev pub found_in : Argument → Option (Unit {0})
found_in Found = Some tt
found_in other = None

-- whether it is `--sides`
abbrev pub sides_in : Argument → Option (Unit {0})
sides_in Sides = Some tt
sides_in other = None

-- whether it is `--request`
abbrev pub request_in : Argument → Option (Unit {0})
request_in Request = Some tt
request_in other = None

-- a mark that is there, or not
abbrev pub mark : Bool → Option (Unit {0})
mark true = Some tt
mark false = None

-- what arguments give, of which each option stands once at most, and of the others such as have their places
pub record Gives (arguments : List Argument) (g : Given) : Type 0 where
  pub places : filter_map place_in arguments ≡ places_list g.places
  pub chain : filter_map chain_in arguments ≡ option_to_list (mark g.chain)
  pub learnt : filter_map learnt_in arguments ≡ option_to_list g.learnt
  pub pivots : filter_map pivots_in arguments ≡ option_to_list g.pivots
  pub grid : filter_map grid_in arguments ≡ option_to_list g.grid
  pub tier : filter_map tier_in arguments ≡ option_to_list g.tier
  pub most : filter_map most_in arguments ≡ option_to_list g.most
  pub from : filter_map from_in arguments ≡ option_to_list g.from
  pub found : filter_map found_in arguments ≡ option_to_list (mark g.found)
  pub sides : filter_map sides_in arguments ≡ option_to_list (mark g.sides)
  pub request : filter_map request_in arguments ≡ option_to_list (mark g.request)

-- the words are arguments, in any order, and this is what they give
abbrev pub IsGiven : Given → List (List ℕ) → Type 0
IsGiven g words = (arguments : List Argument) × AreArguments arguments words × Gives arguments g

-- nothing is given
abbrev pub nothing : Given
nothing = record { places = places.Nothing; chain = false; learnt = None; pivots = None; grid = None; tier = None; most = None; from = None; found = false; sides = false; request = false }

-- the limits are those that are given, or else the usual ones
abbrev pub limits_of : Given → Limits
limits_of g = record { learnt = unwrap_or g.learnt USUAL_LEARNT; pivots = unwrap_or g.pivots USUAL_PIVOTS }

-- a butterfly, or a chain where `--chain` says so
abbrev pub is_chain : NetworkFamily → Bool
is_chain family.Butterfly = false
is_chain family.Chain = true

-- ends are asked to stay at their sides where `--sides` says so
abbrev pub are_kept : AskedSides → Bool
are_kept asked.Any = false
are_kept asked.Kept = true

-- a request is written where `--request` says so
abbrev pub is_request : BuiltText → Bool
is_request text.Network = false
is_request text.Request = true

-- this property alone is given
abbrev pub one_property : Property → Places
one_property p = places.Wish (only p)

-- this property is given, and perhaps limits
abbrev pub IsToDecide : Property → Given → Type 0
IsToDecide p g = g ≡ record nothing { places = one_property p; learnt = g.learnt; pivots = g.pivots }

-- nothing is given but perhaps limits
abbrev pub IsToCompare : Given → Type 0
IsToCompare g = g ≡ record nothing { learnt = g.learnt; pivots = g.pivots }

-- this order is given, and perhaps `--chain` and limits
abbrev pub IsToMake : ℕ → Given → Type 0
IsToMake order g = g ≡ record nothing { places = places.Number order; chain = g.chain; learnt = g.learnt; pivots = g.pivots }

-- a network that is built has from 1 to `MOST_LINES` inputs, or outputs
abbrev pub IsCount : ℕ → Type 0
IsCount k = (1 ≤ k) × (k ≤ MOST_LINES)

-- these properties are given, and how many inputs and outputs, in this order, and perhaps `--request` and limits
abbrev pub IsToBuild : Wish → ℕ → ℕ → Given → Type 0
IsToBuild wish inputs outputs g =
    (g ≡ record nothing { places = places.Whole wish inputs outputs; learnt = g.learnt; pivots = g.pivots; request = g.request }) × IsCount inputs × IsCount outputs

-- this grid is given, and perhaps a tier and the most steps of a log
abbrev pub IsToLay : Rect → Given → Type 0
IsToLay grid g = g ≡ record nothing { grid = Some grid; tier = g.tier; learnt = g.learnt }

-- this grid is given, and perhaps a tier
abbrev pub IsToCheckLayout : Rect → Given → Type 0
IsToCheckLayout grid g = g ≡ record nothing { grid = Some grid; tier = g.tier }

-- the greatest grid that is searched of a network, where none is given
abbrev pub usual_grid : Rect
usual_grid = record { width = USUAL_ACROSS; height = USUAL_ACROSS }

-- the grid has no more cells than grids of which a formula with all rules is written
abbrev pub HasFewCells : Rect → Type 0
HasFewCells grid = grid.width * grid.height ≤ MOST_CELLS

-- the grid is no wider and no higher than the greatest one
abbrev pub IsAmong : Rect → Rect → Type 0
IsAmong most grid = (grid.width ≤ most.width) × (grid.height ≤ most.height)

-- perhaps a greatest grid of few cells, which is else the usual one, a grid with which a search begins, which is one of
-- those up to the greatest, a tier and the most steps of a log are given
abbrev pub IsToSearch : Rect → Given → Type 0
IsToSearch most g =
    (g ≡ record nothing { most = g.most; from = g.from; tier = g.tier; learnt = g.learnt }) × (most ≡ unwrap_or g.most usual_grid) × HasFewCells most × IfSome g.from (IsAmong most)

-- `--found` is given, and perhaps `--sides`, a greatest grid, a tier and the most steps of all logs
abbrev pub IsToFind : Option Rect → Given → Type 0
IsToFind most g = (g ≡ record nothing { found = true; sides = g.sides; most = g.most; tier = g.tier; learnt = g.learnt }) × (most ≡ g.most)

-- what a command is given: a property, or nothing; `decide` a property, and limits where they aren't the usual ones;
-- `make` an order, and whether it is that of a chain, and limits; those that speak of layouts a grid, and a tier where
-- it isn't the request's own, and `layout` the most steps of a log where they aren't the usual ones; `smallest` a
-- greatest grid where it isn't the usual one, the grid with which it begins where that isn't the least of all, a
-- tier and the most steps likewise, and with `--found` it looks for small layouts, and perhaps for those that keep
-- sides; `formula` a property, or a grid and a tier; `same` limits where they aren't the usual ones; and `build`
-- properties, how many inputs and how many outputs, and perhaps `--request` and limits
abbrev pub Suits : Command → Given → Type 0
Suits (FlowCheck p) g = g ≡ record nothing { places = one_property p }
Suits Recover g = g ≡ nothing
Suits (Check p) g = g ≡ record nothing { places = one_property p }
Suits (Decide p limits) g = IsToDecide p g × (limits ≡ limits_of g)
Suits (Make kind order limits) g = IsToMake order g × (is_chain kind ≡ g.chain) × (limits ≡ limits_of g)
Suits (Layout grid tier learnt) g = IsToLay grid g × (tier ≡ g.tier) × (learnt ≡ (limits_of g).learnt)
Suits (CheckLayout grid tier) g = IsToCheckLayout grid g × (tier ≡ g.tier)
Suits (Smallest first most tier learnt) g = IsToSearch most g × (first ≡ g.from) × (tier ≡ g.tier) × (learnt ≡ (limits_of g).learnt)
Suits (FindSmall most tier sides learnt) g = IsToFind most g × (tier ≡ g.tier) × (are_kept sides ≡ g.sides) × (learnt ≡ (limits_of g).learnt)
Suits (FlowFormula p) g = g ≡ record nothing { places = one_property p }
Suits (PlaceFormula grid tier) g = IsToCheckLayout grid g × (tier ≡ g.tier)
Suits (Same limits) g = IsToCompare g × (limits ≡ limits_of g)
Suits CheckSame g = g ≡ nothing
Suits (Build wish inputs outputs limits text) g = IsToBuild wish inputs outputs g × (is_request text ≡ g.request) × (limits ≡ limits_of g)

-- the words are the command's word, and behind it what suits the command
abbrev pub IsCommand : Command → List (List ℕ) → Type 0
IsCommand command words = (behind : List (List ℕ)) × (g : Given) × (words ≡ verb_name (verb_of command) ∷ behind) × IsGiven g behind × Suits command g

-- the words are no command
abbrev pub IsUsage : List (List ℕ) → Type 0
IsUsage words = (command : Command) → IsCommand command words → ⊥
