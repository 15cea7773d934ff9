-- Words are one command at most.
use Rattle.std.proofs.Common.{◌≡◌, ℕ, Bool, true, false, List, [], ◌∷◌, length, get_or, nat_eq, Some, None, refl, sym, ◌∙◌, ap, subst, inl, inr, arith}
use Rattle.std.specs.Prelude.{cond, unwrap_or, IfSome, MatchOption}
use Rattle.std.specs.declared.option.Option.{Option}
use Rattle.std.specs.Option.{option_to_list}
use Rattle.std.specs.List.{filter_map}
use Rattle.bt_model.specs.Requests.{IsGrid}
use Rattle.bt_parts.specs.declared.part.Rect.{Rect}
use Rattle.bt_parts.specs.declared.part.Tier.{Tier}
use Rattle.bt_words.specs.declared.argument.Argument.{Argument}
use Rattle.bt_words.specs.declared.argument.Argument.TheVariants.{Wished, Number, Chain, Learnt, Pivots, Grid, OfTier, Most, From, Found, Sides, Request}
use Rattle.bt_flow.specs.declared.property.Property.{Property}
use Rattle.bt_gen.specs.declared.wish.Wish.{Wish}
use Rattle.bt_gen.specs.Wishes.{only}
use Rattle.bt_gen.proofs.OneWish.{same_only}
use Rattle.bt_words.specs.declared.given.Given.{Given}
use Rattle.bt_words.specs.declared.given.Places.{Places}
use Rattle.bt_words.specs.declared.given.Places.TheVariants as places
use Rattle.bt_words.specs.declared.command.BuiltText.{BuiltText}
use Rattle.bt_words.specs.declared.command.BuiltText.TheVariants as text
use Rattle.bt_words.specs.declared.verb.Verb.{Verb}
use Rattle.bt_words.specs.declared.verb.Verb.TheVariants as verb
use Rattle.bt_words.specs.declared.command.NetworkFamily.{NetworkFamily}
use Rattle.bt_words.specs.declared.command.NetworkFamily.TheVariants as family
use Rattle.bt_words.specs.declared.command.AskedSides.{AskedSides}
use Rattle.bt_words.specs.declared.command.AskedSides.TheVariants as asked
use Rattle.bt_words.specs.declared.command.Command.{Command}
use Rattle.bt_words.specs.declared.command.Command.TheVariants.{FlowCheck, Recover, Check, Decide, Make, Layout, CheckLayout, Smallest, FindSmall, FlowFormula, PlaceFormula, Same, CheckSame, Build}
use Rattle.bt_words.specs.Arguments.{AreArguments}
use Rattle.bt_words.specs.Verbs.{verb_name, verb_of}
use Rattle.bt_words.specs.Commands.{Gives, HasFewCells, IsGiven, Suits, IsCommand, IsUsage, IsToDecide, IsToMake, IsToLay, IsToCheckLayout, IsToSearch, IsToFind, IsToBuild, usual_grid, is_chain, is_request, are_kept, nothing, mark, grid_in, most_in, one_property, places_list}
use Rattle.bt_words.proofs.Fronts.{some_word}
use Rattle.bt_words.proofs.OneFront.{one_front}

-- the command whose word begins with this byte
abbrev begun_by : ℕ → Verb
begun_by byte = cond (nat_eq byte 98) verb.Build (cond (nat_eq byte 102) verb.Formula (cond (nat_eq byte 114) verb.Recover (cond (nat_eq byte 99) verb.Check (cond (nat_eq byte 100) verb.Decide (cond (nat_eq byte 109) verb.Make (cond (nat_eq byte 115) verb.Same verb.Layout))))))

-- the command with this word: those that begin as others do are the longest
abbrev named_by : List ℕ → Verb
named_by name = cond (nat_eq (length name) 12) verb.CheckLayout (cond (nat_eq (length name) 10) (cond (nat_eq (get_or name 0 0) 99) verb.CheckSame verb.FlowCheck) (cond (nat_eq (length name) 8) verb.Smallest (begun_by (get_or name 0 0))))

begins : (v : Verb) → named_by (verb_name v) ≡ v
begins verb.FlowCheck = refl
begins verb.Recover = refl
begins verb.Check = refl
begins verb.Decide = refl
begins verb.Make = refl
begins verb.Layout = refl
begins verb.CheckLayout = refl
begins verb.Smallest = refl
begins verb.Formula = refl
begins verb.Same = refl
begins verb.CheckSame = refl
begins verb.Build = refl

-- a word is one command's at most
same_verb : (v w : Verb) → verb_name v ≡ verb_name w → v ≡ w
same_verb v w e = sym (begins v) ∙ ap named_by e ∙ begins w

-- words are one list of arguments
same_arguments : (ones others : List Argument) (words : List (List ℕ)) → AreArguments ones words → AreArguments others words → ones ≡ others
same_arguments [] [] words h k = refl
same_arguments [] (b ∷ others) words h (front, rest, is, e, k) =
    absurd (omega (arith, some_word words b rest (front, is, e), ap (λ x. length x) h))
same_arguments (a ∷ ones) [] words (front, rest, is, e, h) k =
    absurd (omega (arith, some_word words a rest (front, is, e), ap (λ x. length x) k))
same_arguments (a ∷ ones) (b ∷ others) words (front, rest, is, e, h) (fore, more, at, f, k) =
    let one = one_front words a b rest more (front, is, e) (fore, at, f) in
    let same = same_arguments ones others more (subst (λ x. AreArguments ones x) one.1 h) k in
    let first = one.0 in
    cc

same_option : {X : Type 0} (o p : Option X) → option_to_list o ≡ option_to_list p → o ≡ p
same_option None None e = refl
same_option None (Some y) e = cc
same_option (Some x) None e = cc
same_option (Some x) (Some y) e = cc

same_mark : (b c : Bool) → option_to_list (mark b) ≡ option_to_list (mark c) → b ≡ c
same_mark true true e = refl
same_mark true false e = cc
same_mark false true e = cc
same_mark false false e = refl

-- the properties and numbers of a list
abbrev places_of : List Argument → Places
places_of (Wished w ∷ []) = places.Wish w
places_of (Number k ∷ []) = places.Number k
places_of (Wished w ∷ Number k ∷ []) = places.WishAndNumber w k
places_of (Wished w ∷ Number i ∷ Number o ∷ []) = places.Whole w i o
places_of other = places.Nothing

listed : (p : Places) → places_of (places_list p) ≡ p
listed places.Nothing = refl
listed (places.Wish w) = refl
listed (places.Number k) = refl
listed (places.WishAndNumber w k) = refl
listed (places.Whole w i o) = refl

same_places : (p q : Places) → places_list p ≡ places_list q → p ≡ q
same_places p q e = sym (listed p) ∙ ap places_of e ∙ listed q

-- words give one thing
same_given : (g h : Given) (words : List (List ℕ)) → IsGiven g words → IsGiven h words → g ≡ h
same_given g h words (ones, are, gives) (others, be, give) =
    let same = same_arguments ones others words are be in
    let give = subst (λ x. Gives x h) (sym same) give in
    let p = same_places g.places h.places (sym gives.places ∙ give.places) in
    let c = same_mark g.chain h.chain (sym gives.chain ∙ give.chain) in
    let l = same_option g.learnt h.learnt (sym gives.learnt ∙ give.learnt) in
    let v = same_option g.pivots h.pivots (sym gives.pivots ∙ give.pivots) in
    let r = same_option g.grid h.grid (sym gives.grid ∙ give.grid) in
    let t = same_option g.tier h.tier (sym gives.tier ∙ give.tier) in
    let m = same_option g.most h.most (sym gives.most ∙ give.most) in
    let b = same_option g.from h.from (sym gives.from ∙ give.from) in
    let f = same_mark g.found h.found (sym gives.found ∙ give.found) in
    let s = same_mark g.sides h.sides (sym gives.sides ∙ give.sides) in
    let q = same_mark g.request h.request (sym gives.request ∙ give.request) in
    λ i. record { places = p i; chain = c i; learnt = l i; pivots = v i; grid = r i; tier = t i; most = m i; from = b i; found = f i; sides = s i; request = q i }

-- what no command of this word is given
pub none_checks_flow : (g : Given) → ((p : _) → g ≡ record nothing { places = one_property p } → ⊥) → (c : Command) → verb.FlowCheck ≡ verb_of c → Suits c g → ⊥
none_checks_flow g none (FlowCheck p) v s = none p s
none_checks_flow g none c v s = cc

pub none_checks : (g : Given) → ((p : _) → g ≡ record nothing { places = one_property p } → ⊥) → (c : Command) → verb.Check ≡ verb_of c → Suits c g → ⊥
none_checks g none (Check p) v s = none p s
none_checks g none c v s = cc

pub none_decides : (g : Given) → ((p : _) → IsToDecide p g → ⊥) → (c : Command) → verb.Decide ≡ verb_of c → Suits c g → ⊥
none_decides g none (Decide p limits) v s = none p s.0
none_decides g none c v s = cc

pub none_makes : (g : Given) → ((k : ℕ) → IsToMake k g → ⊥) → (c : Command) → verb.Make ≡ verb_of c → Suits c g → ⊥
none_makes g none (Make kind k limits) v s = none k s.0
none_makes g none c v s = cc

pub none_lays : (g : Given) → ((r : _) → IsToLay r g → ⊥) → (c : Command) → verb.Layout ≡ verb_of c → Suits c g → ⊥
none_lays g none (Layout r t n) v s = none r s.0
none_lays g none c v s = cc

pub none_checks_layouts : (g : Given) → ((r : _) → IsToCheckLayout r g → ⊥) → (c : Command) → verb.CheckLayout ≡ verb_of c → Suits c g → ⊥
none_checks_layouts g none (CheckLayout r t) v s = none r s.0
none_checks_layouts g none c v s = cc

pub none_searches : (g : Given) → ((r : _) → IsToFind r g → ⊥) → ((r : _) → IsToSearch r g → ⊥) → (c : Command) → verb.Smallest ≡ verb_of c → Suits c g → ⊥
none_searches g not none (Smallest b r t n) v s = none r s.0
none_searches g not none (FindSmall r t a n) v s = not r s.0
none_searches g not none c v s = cc

pub none_formula : (g : Given) → ((p : _) → g ≡ record nothing { places = one_property p } → ⊥) → ((r : _) → IsToCheckLayout r g → ⊥) → (c : Command) → verb.Formula ≡ verb_of c → Suits c g → ⊥
none_formula g none not (FlowFormula p) v s = none p s
none_formula g none not (PlaceFormula r t) v s = not r s.0
none_formula g none not c v s = cc

pub none_builds : (g : Given) → ((w : Wish) (i o : ℕ) → IsToBuild w i o g → ⊥) → (c : Command) → verb.Build ≡ verb_of c → Suits c g → ⊥
none_builds g none (Build w i o l t) v s = none w i o s.0
none_builds g none c v s = cc

-- words behind which nothing is given are no command
pub none_given : (words : List (List ℕ)) (word : List ℕ) (behind : List (List ℕ)) → words ≡ word ∷ behind → ((g : Given) → IsGiven g behind → ⊥) → IsUsage words
none_given words word behind e none c (others, g, is, given, suits) =
    let same : word ∷ behind ≡ verb_name (verb_of c) ∷ others = sym e ∙ is in
    let at : others ≡ behind = cc in
    none g (subst (λ x. IsGiven g x) at given)

-- what suits the word and what is given is what the words are
pub command_is : (words behind : List (List ℕ)) (v : Verb) (g : Given) (o : Option Command) → words ≡ verb_name v ∷ behind → IsGiven g behind
    → MatchOption o ((c : Command) → v ≡ verb_of c → Suits c g → ⊥) (λ c. (v ≡ verb_of c) × Suits c g)
    → MatchOption o (IsUsage words) (λ c. IsCommand c words)
command_is words behind v g (Some c) e given (at, suits) = (behind, g, e ∙ ap (λ x. verb_name x ∷ behind) at, given, suits)
command_is words behind v g None e given none = λ c. λ (others, h, is, is_given, suits).
    let same : verb_name v ∷ behind ≡ verb_name (verb_of c) ∷ others = sym e ∙ is in
    let at : others ≡ behind = cc in
    let names : verb_name v ≡ verb_name (verb_of c) = cc in
    none c (same_verb v (verb_of c) names) (subst (λ x. Suits c x) (same_given h g behind (subst (λ x. IsGiven h x) at is_given) given) suits)

same_family : (k l : NetworkFamily) → is_chain k ≡ is_chain l → k ≡ l
same_family family.Butterfly family.Butterfly e = refl
same_family family.Butterfly family.Chain e = cc
same_family family.Chain family.Butterfly e = cc
same_family family.Chain family.Chain e = refl

same_sides : (a b : AskedSides) → are_kept a ≡ are_kept b → a ≡ b
same_sides asked.Any asked.Any e = refl
same_sides asked.Any asked.Kept e = cc
same_sides asked.Kept asked.Any e = cc
same_sides asked.Kept asked.Kept e = refl

same_text : (t u : BuiltText) → is_request t ≡ is_request u → t ≡ u
same_text text.Network text.Network e = refl
same_text text.Network text.Request e = cc
same_text text.Request text.Network e = cc
same_text text.Request text.Request e = refl

-- one property is given
same_one : (p q : Property) (g : Given) → g.places ≡ one_property p → g.places ≡ one_property q → p ≡ q
same_one p q g h k = let e : places.Wish (only p) ≡ places.Wish (only q) = sym h ∙ k in let same : only p ≡ only q = cc in same_only p q same

-- what is given to a word is one command
same_suited : (c d : Command) (g : Given) → verb_of c ≡ verb_of d → Suits c g → Suits d g → c ≡ d
same_suited (FlowCheck p) (FlowCheck q) g v h k = let e = same_one p q g (ap (λ x. x.places) h) (ap (λ x. x.places) k) in cc
same_suited Recover Recover g v h k = refl
same_suited (Check p) (Check q) g v h k = let e = same_one p q g (ap (λ x. x.places) h) (ap (λ x. x.places) k) in cc
same_suited (Decide p l) (Decide q m) g v (h, a) (k, b) = let e = same_one p q g (ap (λ x. x.places) h) (ap (λ x. x.places) k) in cc
same_suited (Make f i l) (Make n j m) g v (h, x, a) (k, y, b) =
    let e = ap (λ x. x.places) (sym h ∙ k) in
    let kinds = same_family f n (x ∙ sym y) in
    cc
same_suited (Layout r t n) (Layout s u m) g v (h, x, a) (k, y, b) = let e = ap (λ x. x.grid) (sym h ∙ k) in cc
same_suited (CheckLayout r t) (CheckLayout s u) g v (h, x) (k, y) = let e = ap (λ x. x.grid) (sym h ∙ k) in cc
same_suited (Smallest i r t n) (Smallest j s u m) g v (h, q, x, a) (k, w, y, b) = let e = h.1 ∙ sym k.1 in cc
same_suited (FindSmall r t a n) (FindSmall s u b m) g v (h, x, c, l) (k, y, d, o) =
    let e = h.1 ∙ sym k.1 in
    let sides = same_sides a b (c ∙ sym d) in
    cc
same_suited (Smallest i r t n) (FindSmall s u b m) g v (h, q, x, a) (k, y, d, o) = let e = ap (λ x. x.found) (sym h.0 ∙ k.0) in cc
same_suited (FindSmall r t a n) (Smallest j s u m) g v (h, x, c, l) (k, w, y, b) = let e = ap (λ x. x.found) (sym h.0 ∙ k.0) in cc
same_suited (FlowFormula p) (FlowFormula q) g v h k = let e = same_one p q g (ap (λ x. x.places) h) (ap (λ x. x.places) k) in cc
same_suited (PlaceFormula r t) (PlaceFormula s u) g v (h, x) (k, y) = let e = ap (λ x. x.grid) (sym h ∙ k) in cc
same_suited (FlowFormula p) (PlaceFormula s u) g v h (k, y) = let e = ap (λ x. x.grid) (sym h ∙ k) in cc
same_suited (PlaceFormula r t) (FlowFormula q) g v (h, x) k = let e = ap (λ x. x.grid) (sym h ∙ k) in cc
same_suited (Same l) (Same m) g v (h, a) (k, b) = cc
same_suited CheckSame CheckSame g v h k = refl
same_suited (Build w i o l t) (Build x j p m u) g v (h, a, b) (k, c, d) =
    let e = ap (λ x. x.places) (sym h.0 ∙ k.0) in
    let texts = same_text t u (a ∙ sym c) in
    cc
same_suited c d g v h k = cc

-- words are one command at most
pub same_command : (c d : Command) (words : List (List ℕ)) → IsCommand c words → IsCommand d words → c ≡ d
same_command c d words (behind, g, e, given, suits) (others, h, f, is_given, suit) =
    let same : verb_name (verb_of c) ∷ behind ≡ verb_name (verb_of d) ∷ others = sym e ∙ f in
    let names : verb_name (verb_of c) ≡ verb_name (verb_of d) = cc in
    let at : others ≡ behind = cc in
    same_suited c d g (same_verb (verb_of c) (verb_of d) names) suits
    (subst (λ x. Suits d x) (same_given h g behind (subst (λ x. IsGiven h x) at is_given) given) suit)

-- a grid among arguments is one that an argument is
grid_given : (arguments : List Argument) (words : List (List ℕ)) (grid : Rect) → AreArguments arguments words → filter_map grid_in arguments ≡ grid ∷ [] → IsGrid grid
grid_given [] words grid are e = cc
grid_given (Grid r ∷ more) words grid (front, rest, inl (word, plain, is), at, are) e = absurd plain
grid_given (Grid r ∷ more) words grid (front, rest, inr (name, value, valued, is), at, are) e = subst IsGrid (let same = e in cc) valued.1.0
grid_given (Wished w ∷ more) words grid (front, rest, is, at, are) e = grid_given more rest grid are e
grid_given (Number k ∷ more) words grid (front, rest, is, at, are) e = grid_given more rest grid are e
grid_given (Chain ∷ more) words grid (front, rest, is, at, are) e = grid_given more rest grid are e
grid_given (Learnt n ∷ more) words grid (front, rest, is, at, are) e = grid_given more rest grid are e
grid_given (Pivots n ∷ more) words grid (front, rest, is, at, are) e = grid_given more rest grid are e
grid_given (OfTier t ∷ more) words grid (front, rest, is, at, are) e = grid_given more rest grid are e
grid_given (Most r ∷ more) words grid (front, rest, is, at, are) e = grid_given more rest grid are e
grid_given (From r ∷ more) words grid (front, rest, is, at, are) e = grid_given more rest grid are e
grid_given (Found ∷ more) words grid (front, rest, is, at, are) e = grid_given more rest grid are e
grid_given (Sides ∷ more) words grid (front, rest, is, at, are) e = grid_given more rest grid are e
grid_given (Request ∷ more) words grid (front, rest, is, at, are) e = grid_given more rest grid are e

-- the grid of `layout`, of `check-layout` and of `formula` has from 1 to `MOST_ACROSS` cells each way
pub grid_to_lay : (grid : Rect) (tier : Option Tier) (learnt : ℕ) (words : List (List ℕ)) → IsCommand (Layout grid tier learnt) words → IsGrid grid
grid_to_lay grid tier learnt words (behind, g, e, (arguments, are, gives), suits) =
    grid_given arguments behind grid are (gives.grid ∙ ap (λ x. option_to_list x.grid) suits.0)

pub grid_to_check : (grid : Rect) (tier : Option Tier) (words : List (List ℕ)) → IsCommand (CheckLayout grid tier) words → IsGrid grid
grid_to_check grid tier words (behind, g, e, (arguments, are, gives), suits) =
    grid_given arguments behind grid are (gives.grid ∙ ap (λ x. option_to_list x.grid) suits.0)

-- a greatest grid among arguments is one that an argument is
most_given : (arguments : List Argument) (words : List (List ℕ)) (grid : Rect) → AreArguments arguments words → filter_map most_in arguments ≡ grid ∷ [] → IsGrid grid
most_given [] words grid are e = cc
most_given (Most r ∷ more) words grid (front, rest, inl (word, plain, is), at, are) e = absurd plain
most_given (Most r ∷ more) words grid (front, rest, inr (name, value, valued, is), at, are) e = subst IsGrid (let same = e in cc) valued.1.0
most_given (Wished w ∷ more) words grid (front, rest, is, at, are) e = most_given more rest grid are e
most_given (Number k ∷ more) words grid (front, rest, is, at, are) e = most_given more rest grid are e
most_given (Chain ∷ more) words grid (front, rest, is, at, are) e = most_given more rest grid are e
most_given (Learnt n ∷ more) words grid (front, rest, is, at, are) e = most_given more rest grid are e
most_given (Pivots n ∷ more) words grid (front, rest, is, at, are) e = most_given more rest grid are e
most_given (Grid r ∷ more) words grid (front, rest, is, at, are) e = most_given more rest grid are e
most_given (From r ∷ more) words grid (front, rest, is, at, are) e = most_given more rest grid are e
most_given (OfTier t ∷ more) words grid (front, rest, is, at, are) e = most_given more rest grid are e
most_given (Found ∷ more) words grid (front, rest, is, at, are) e = most_given more rest grid are e
most_given (Sides ∷ more) words grid (front, rest, is, at, are) e = most_given more rest grid are e
most_given (Request ∷ more) words grid (front, rest, is, at, are) e = most_given more rest grid are e

-- the usual one is a grid
pub usual_is_grid : IsGrid usual_grid
usual_is_grid = record { some_width = omega arith; few_across = omega arith; some_height = omega arith; few_down = omega arith }

-- and so is the one that is given, or else that one
searched_grid : (arguments : List Argument) (words : List (List ℕ)) (most : Rect) (given : Option Rect) → AreArguments arguments words
    → filter_map most_in arguments ≡ option_to_list given → most ≡ unwrap_or given usual_grid → IsGrid most
searched_grid arguments words most None are none is = subst IsGrid (sym is) usual_is_grid
searched_grid arguments words most (Some grid) are one is = subst IsGrid (sym is) (most_given arguments words grid are one)

-- and that of `smallest`
pub grid_to_search : (first : Option Rect) (most : Rect) (tier : Option Tier) (learnt : ℕ) (words : List (List ℕ)) → IsCommand (Smallest first most tier learnt) words → IsGrid most
grid_to_search first most tier learnt words (behind, g, e, (arguments, are, gives), suits) = searched_grid arguments behind most g.most are gives.most suits.0.1

-- and that has few cells
pub few_to_search : (first : Option Rect) (most : Rect) (tier : Option Tier) (learnt : ℕ) (words : List (List ℕ)) → IsCommand (Smallest first most tier learnt) words → HasFewCells most
few_to_search first most tier learnt words (behind, g, e, given, suits) = suits.0.2

-- where one is given with `--found`, it is a grid
found_grid : (arguments : List Argument) (words : List (List ℕ)) (given : Option Rect) → AreArguments arguments words → filter_map most_in arguments ≡ option_to_list given → IfSome given IsGrid
found_grid arguments words None are none = tt
found_grid arguments words (Some grid) are one = most_given arguments words grid are one

pub grid_to_find : (most : Option Rect) (tier : Option Tier) (sides : AskedSides) (learnt : ℕ) (words : List (List ℕ)) → IsCommand (FindSmall most tier sides learnt) words → IfSome most IsGrid
grid_to_find most tier sides learnt words (behind, g, e, (arguments, are, gives), suits) =
    subst (λ given. IfSome given IsGrid) (sym suits.0.1) (found_grid arguments behind g.most are gives.most)

-- and that of `formula`
pub grid_of_formula : (grid : Rect) (tier : Option Tier) (words : List (List ℕ)) → IsCommand (PlaceFormula grid tier) words → IsGrid grid
grid_of_formula grid tier words (behind, g, e, (arguments, are, gives), suits) =
    grid_given arguments behind grid are (gives.grid ∙ ap (λ x. option_to_list x.grid) suits.0)
