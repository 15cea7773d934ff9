-- The arguments of a command, and how they are written behind its word.
use Rattle.std.specs.Prelude.{◌≡◌, ℕ, ◌≤◌, ◌⊎◌, List, [], ◌∷◌, ◌++◌, codes, decimal}
use Rattle.bt_model.specs.Requests.{IsGrid}
use Rattle.bt_parts.specs.declared.part.Rect.{Rect}
use Rattle.bt_parts.specs.declared.part.Tier.{Tier}
use Rattle.bt_parts.specs.declared.part.Tier.TheVariants.{Basic, Fast, Express, Turbo}
use Rattle.bt_words.specs.declared.argument.Argument.{Argument}
use Rattle.bt_words.specs.declared.argument.Argument.TheVariants.{Wished, Number, Chain, Learnt, Pivots, Grid, OfTier, Most, From, Found, Sides, Request}
use Rattle.bt_gen.specs.Wishes.{IsWishWord}
use Rattle.bt_words.specs.declared.argument.TheConstants.{MOST_ORDER, MOST_LEARNT, MOST_PIVOTS}

-- the name of a tier
abbrev pub tier_name : Tier → List ℕ
tier_name Basic = codes "basic"
tier_name Fast = codes "fast"
tier_name Express = codes "express"
tier_name Turbo = codes "turbo"

-- the word is the grid's width, `x` and its height, each from 1 to `MOST_ACROSS`
abbrev pub IsGridWord : Rect → List ℕ → Type 0
IsGridWord grid word = IsGrid grid × (word ≡ decimal grid.width ++ 120 ∷ decimal grid.height)

-- the argument is this word for itself: the names of properties, a whole number, `--chain`, `--found`, `--sides`, or
-- `--request`
abbrev pub IsPlain : Argument → List ℕ → Type 0
IsPlain (Wished w) word = IsWishWord w word
IsPlain (Number k) word = (k ≤ MOST_ORDER) × (word ≡ decimal k)
IsPlain Chain word = word ≡ codes "--chain"
IsPlain (Learnt n) word = ⊥
IsPlain (Pivots n) word = ⊥
IsPlain (Grid grid) word = ⊥
IsPlain (OfTier tier) word = ⊥
IsPlain (Most grid) word = ⊥
IsPlain (From grid) word = ⊥
IsPlain Found word = word ≡ codes "--found"
IsPlain Sides word = word ≡ codes "--sides"
IsPlain Request word = word ≡ codes "--request"

-- the argument is the option of this name with this value: a whole number in its range, a grid, or the name of a tier
abbrev pub IsValued : Argument → List ℕ → List ℕ → Type 0
IsValued (Wished w) name value = ⊥
IsValued (Number k) name value = ⊥
IsValued Chain name value = ⊥
IsValued (Learnt n) name value = (name ≡ codes "learnt") × (n ≤ MOST_LEARNT) × (value ≡ decimal n)
IsValued (Pivots n) name value = (name ≡ codes "pivots") × (n ≤ MOST_PIVOTS) × (value ≡ decimal n)
IsValued (Grid grid) name value = (name ≡ codes "grid") × IsGridWord grid value
IsValued (OfTier tier) name value = (name ≡ codes "tier") × (value ≡ tier_name tier)
IsValued (Most grid) name value = (name ≡ codes "most") × IsGridWord grid value
IsValued (From grid) name value = (name ≡ codes "from") × IsGridWord grid value
IsValued Found name value = ⊥
IsValued Sides name value = ⊥
IsValued Request name value = ⊥

-- an option is written `--name value`, as two words, or `--name=value`
abbrev pub IsOption : List ℕ → List ℕ → List (List ℕ) → Type 0
IsOption name value words = (words ≡ (codes "--" ++ name) ∷ value ∷ []) ⊎ (words ≡ (codes "--" ++ name ++ 61 ∷ value) ∷ [])

-- these words are the argument
abbrev pub IsArgument : Argument → List (List ℕ) → Type 0
IsArgument a words = ((word : List ℕ) × IsPlain a word × (words ≡ word ∷ []))
    ⊎ ((name value : List ℕ) × IsValued a name value × IsOption name value words)

-- the words are these arguments, one behind the other
abbrev pub AreArguments : List Argument → List (List ℕ) → Type 0
AreArguments [] words = words ≡ []
AreArguments (a ∷ more) words = (front rest : List (List ℕ)) × IsArgument a front × (words ≡ front ++ rest) × AreArguments more rest
