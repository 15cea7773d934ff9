-- Arguments while they are read, from the first word on.
use Rattle.std.specs.Prelude.{◌≡◌, ◌≤◌, ℕ, List, ◌++◌, codes, decimal}
use Rattle.std.specs.Option.{option_to_list}
use Rattle.std.specs.List.{filter_map}
use Rattle.bt_words.specs.declared.argument.Argument.{Argument}
use Rattle.bt_words.specs.declared.argument.Argument.TheVariants.{Wished, Number, Chain, Found, Sides, Request}
use Rattle.bt_words.specs.declared.argument.TheConstants.{MOST_ORDER}
use Rattle.bt_gen.specs.Wishes.{IsWishWord}
use Rattle.bt_words.specs.declared.given.Given.{Given}
use Rattle.bt_words.specs.declared.given.Places.{Places}
use Rattle.bt_words.specs.Arguments.{IsArgument, AreArguments}
use Rattle.bt_words.specs.Commands.{place_in, places_list, chain_in, learnt_in, pivots_in, grid_in, tier_in, most_in, from_in, found_in, sides_in, request_in, mark, nothing}

-- the words are an argument, and then this rest
abbrev pub BeginsWith : List (List ℕ) → Argument → List (List ℕ) → Type 0
BeginsWith words a rest = (front : List (List ℕ)) × IsArgument a front × (words ≡ front ++ rest)

-- the word is an option without a value
abbrev pub IsMark : Argument → List ℕ → Type 0
IsMark Chain word = word ≡ codes "--chain"
IsMark Found word = word ≡ codes "--found"
IsMark Sides word = word ≡ codes "--sides"
IsMark Request word = word ≡ codes "--request"
IsMark other word = ⊥

-- the word is properties or a number
abbrev pub IsPlaced : Argument → List ℕ → Type 0
IsPlaced (Wished w) word = IsWishWord w word
IsPlaced (Number k) word = (k ≤ MOST_ORDER) × (word ≡ decimal k)
IsPlaced other word = ⊥

-- the properties and numbers that were given so far, and such arguments behind them, come to these
abbrev pub IsFollowed : Places → List Argument → Places → Type 0
IsFollowed before arguments places = places_list before ++ arguments ≡ places_list places

-- what was given so far, and arguments behind it, come to this
pub record Adds (before : Given) (arguments : List Argument) (g : Given) : Type 0 where
  pub places : IsFollowed before.places (filter_map place_in arguments) g.places
  pub chain : option_to_list (mark before.chain) ++ filter_map chain_in arguments ≡ option_to_list (mark g.chain)
  pub learnt : option_to_list before.learnt ++ filter_map learnt_in arguments ≡ option_to_list g.learnt
  pub pivots : option_to_list before.pivots ++ filter_map pivots_in arguments ≡ option_to_list g.pivots
  pub grid : option_to_list before.grid ++ filter_map grid_in arguments ≡ option_to_list g.grid
  pub tier : option_to_list before.tier ++ filter_map tier_in arguments ≡ option_to_list g.tier
  pub most : option_to_list before.most ++ filter_map most_in arguments ≡ option_to_list g.most
  pub from : option_to_list before.from ++ filter_map from_in arguments ≡ option_to_list g.from
  pub found : option_to_list (mark before.found) ++ filter_map found_in arguments ≡ option_to_list (mark g.found)
  pub sides : option_to_list (mark before.sides) ++ filter_map sides_in arguments ≡ option_to_list (mark g.sides)
  pub request : option_to_list (mark before.request) ++ filter_map request_in arguments ≡ option_to_list (mark g.request)

-- what was given so far, and words behind it, come to this
abbrev pub Reads : Given → List (List ℕ) → Given → Type 0
Reads before words g = (arguments : List Argument) × AreArguments arguments words × Adds before arguments g

-- what the words come to is what the rest comes to behind what was given so far
pub record LeadsTo (words : List (List ℕ)) (before : Given) (rest : List (List ℕ)) : Type 0 where
  pub there : (g : Given) → Reads nothing words g → Reads before rest g
  pub back : (g : Given) → Reads before rest g → Reads nothing words g
