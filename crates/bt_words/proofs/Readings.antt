-- Reading arguments from the first word on.
use Rattle.std.proofs.Common.{◌≡◌, ℕ, Bool, false, eqb, ◌<◌, List, [], ◌∷◌, ◌++◌, length, map, string_bytes, String, Global, Some, None, refl, sym, ◌∙◌, ap, subst, arith}
use Rattle.std.specs.declared.option.Option.{Option}
use Rattle.std.specs.List.{cons_option, filter_map, IsFirstAndRest}
use Rattle.std.specs.Option.{option_to_list}
use Rattle.std.proofs.lemmas.List.{append-nil, append_assoc}
use Rattle.bt_words.specs.declared.argument.Argument.{Argument}
use Rattle.bt_words.specs.declared.given.Given.{Given}
use Rattle.bt_words.specs.Arguments.{AreArguments}
use Rattle.bt_words.specs.Commands.{IsGiven, nothing, mark, place_in, places_list, chain_in, learnt_in, pivots_in, grid_in, tier_in, most_in, from_in, found_in, sides_in, request_in}
use Rattle.bt_words.specs.inner.Reading.{BeginsWith, Adds, Reads, LeadsTo}
use Rattle.bt_words.proofs.Fronts.{some_word}
use Rattle.bt_words.proofs.OneFront.{one_front}

-- the bytes of words: those of the first, and of the rest
pub first_word : (words : List (String Global)) (word : String Global) (rest : List (String Global)) (bytes : List ℕ) → IsFirstAndRest words word rest
    → bytes ≡ string_bytes word → map string_bytes words ≡ bytes ∷ map string_bytes rest
first_word words word rest bytes first is = ap (λ ws. map string_bytes ws) first.0 ∙ ap (λ w. w ∷ map string_bytes rest) (sym is)

-- no words have no bytes
pub no_words : (words : List (String Global)) → length words ≡ 0 → map string_bytes words ≡ []
no_words [] e = refl
no_words (word ∷ rest) e = absurd (omega (arith, e))

pub some_words : (words : List (String Global)) (b : Bool) → b ≡ eqb (length words) 0 → b ≡ false → 0 < length (map string_bytes words)
some_words [] b e f = cc
some_words (word ∷ rest) b e f = omega arith

-- an item that is there or not, in front of a list
in_front : {X : Type 0} (o : Option X) (xs : List X) → cons_option o xs ≡ cons_option o [] ++ xs
in_front None xs = refl
in_front (Some x) xs = refl

put : {X : Type 0} (before now : List X) (o : Option X) (xs : List X) → before ++ cons_option o [] ≡ now → before ++ cons_option o xs ≡ now ++ xs
put before now o xs e = ap (λ t. before ++ t) (in_front o xs) ∙ sym (append_assoc before (cons_option o []) xs) ∙ ap (λ t. t ++ xs) e

-- behind one argument, what comes of those that follow is what came of all
adds_there : (before now g : Given) (a : Argument) (more : List Argument) → Adds before (a ∷ []) now → Adds before (a ∷ more) g → Adds now more g
adds_there before now g a more one all = record {
  places = sym (put (places_list before.places) (places_list now.places) (place_in a) (filter_map place_in more) one.places) ∙ all.places;
  chain = sym (put (option_to_list (mark before.chain)) (option_to_list (mark now.chain)) (chain_in a) (filter_map chain_in more) one.chain) ∙ all.chain;
  learnt = sym (put (option_to_list before.learnt) (option_to_list now.learnt) (learnt_in a) (filter_map learnt_in more) one.learnt) ∙ all.learnt;
  pivots = sym (put (option_to_list before.pivots) (option_to_list now.pivots) (pivots_in a) (filter_map pivots_in more) one.pivots) ∙ all.pivots;
  grid = sym (put (option_to_list before.grid) (option_to_list now.grid) (grid_in a) (filter_map grid_in more) one.grid) ∙ all.grid;
  tier = sym (put (option_to_list before.tier) (option_to_list now.tier) (tier_in a) (filter_map tier_in more) one.tier) ∙ all.tier;
  most = sym (put (option_to_list before.most) (option_to_list now.most) (most_in a) (filter_map most_in more) one.most) ∙ all.most;
  from = sym (put (option_to_list before.from) (option_to_list now.from) (from_in a) (filter_map from_in more) one.from) ∙ all.from;
  found = sym (put (option_to_list (mark before.found)) (option_to_list (mark now.found)) (found_in a) (filter_map found_in more) one.found) ∙ all.found;
  sides = sym (put (option_to_list (mark before.sides)) (option_to_list (mark now.sides)) (sides_in a) (filter_map sides_in more) one.sides) ∙ all.sides;
  request = sym (put (option_to_list (mark before.request)) (option_to_list (mark now.request)) (request_in a) (filter_map request_in more) one.request) ∙ all.request;
}

adds_back : (before now g : Given) (a : Argument) (more : List Argument) → Adds before (a ∷ []) now → Adds now more g → Adds before (a ∷ more) g
adds_back before now g a more one rest = record {
  places = put (places_list before.places) (places_list now.places) (place_in a) (filter_map place_in more) one.places ∙ rest.places;
  chain = put (option_to_list (mark before.chain)) (option_to_list (mark now.chain)) (chain_in a) (filter_map chain_in more) one.chain ∙ rest.chain;
  learnt = put (option_to_list before.learnt) (option_to_list now.learnt) (learnt_in a) (filter_map learnt_in more) one.learnt ∙ rest.learnt;
  pivots = put (option_to_list before.pivots) (option_to_list now.pivots) (pivots_in a) (filter_map pivots_in more) one.pivots ∙ rest.pivots;
  grid = put (option_to_list before.grid) (option_to_list now.grid) (grid_in a) (filter_map grid_in more) one.grid ∙ rest.grid;
  tier = put (option_to_list before.tier) (option_to_list now.tier) (tier_in a) (filter_map tier_in more) one.tier ∙ rest.tier;
  most = put (option_to_list before.most) (option_to_list now.most) (most_in a) (filter_map most_in more) one.most ∙ rest.most;
  from = put (option_to_list before.from) (option_to_list now.from) (from_in a) (filter_map from_in more) one.from ∙ rest.from;
  found = put (option_to_list (mark before.found)) (option_to_list (mark now.found)) (found_in a) (filter_map found_in more) one.found ∙ rest.found;
  sides = put (option_to_list (mark before.sides)) (option_to_list (mark now.sides)) (sides_in a) (filter_map sides_in more) one.sides ∙ rest.sides;
  request = put (option_to_list (mark before.request)) (option_to_list (mark now.request)) (request_in a) (filter_map request_in more) one.request ∙ rest.request;
}

adds_none : (before : Given) → Adds before [] before
adds_none before = record {
  places = append-nil (places_list before.places);
  chain = append-nil (option_to_list (mark before.chain));
  learnt = append-nil (option_to_list before.learnt);
  pivots = append-nil (option_to_list before.pivots);
  grid = append-nil (option_to_list before.grid);
  tier = append-nil (option_to_list before.tier);
  most = append-nil (option_to_list before.most);
  from = append-nil (option_to_list before.from);
  found = append-nil (option_to_list (mark before.found));
  sides = append-nil (option_to_list (mark before.sides));
  request = append-nil (option_to_list (mark before.request));
}

-- what is given, with nothing before it
reads_all : (words : List (List ℕ)) (g : Given) → IsGiven g words → Reads nothing words g
reads_all words g (arguments, are, gives) =
    (arguments, are, record { places = gives.places; chain = gives.chain; learnt = gives.learnt; pivots = gives.pivots; grid = gives.grid; tier = gives.tier; most = gives.most; from = gives.from; found = gives.found; sides = gives.sides; request = gives.request })

all_read : (words : List (List ℕ)) (g : Given) → Reads nothing words g → IsGiven g words
all_read words g (arguments, are, adds) =
    (arguments, are, record { places = adds.places; chain = adds.chain; learnt = adds.learnt; pivots = adds.pivots; grid = adds.grid; tier = adds.tier; most = adds.most; from = adds.from; found = adds.found; sides = adds.sides; request = adds.request })

-- at the front all words are the rest
pub leads_at_first : (words : List (List ℕ)) → LeadsTo words nothing words
leads_at_first words = record { there = λ g r. r; back = λ g r. r }

-- of words that begin with an argument, what is read is that argument and what is read of the rest
first_read : (rest behind : List (List ℕ)) (before g : Given) (a : Argument) → BeginsWith rest a behind → Reads before rest g
    → (more : List Argument) × AreArguments more behind × Adds before (a ∷ more) g
first_read rest behind before g a begins ([], are, adds) = absurd (omega (arith, some_word rest a behind begins, ap (λ x. length x) are))
first_read rest behind before g a begins (b ∷ more, (front, after, is, e, are), adds) =
    let one = one_front rest b a after behind (front, is, e) begins in
    (more, subst (λ x. AreArguments more x) one.1 are, subst (λ x. Adds before (x ∷ more) g) one.0 adds)

-- one argument more was read
pub leads_on : (words rest behind : List (List ℕ)) (before now : Given) (a : Argument) → LeadsTo words before rest → BeginsWith rest a behind → Adds before (a ∷ []) now
    → LeadsTo words now behind
leads_on words rest behind before now a leads begins one = record {
  there = λ g r. let read = first_read rest behind before g a begins (leads.there g r) in (read.0, read.1, adds_there before now g a read.0 one read.2);
  back = λ g r. leads.back g (a ∷ r.0, (begins.0, behind, begins.1, begins.2, r.1), adds_back before now g a r.0 one r.2);
}

-- words that go on with no argument give nothing
pub no_argument : (words rest : List (List ℕ)) (before : Given) → LeadsTo words before rest → 0 < length rest
    → ((a : Argument) (behind : List (List ℕ)) → BeginsWith rest a behind → ⊥) → (g : Given) → IsGiven g words → ⊥
no_argument words rest before leads some none g given = none_in (leads.there g (reads_all words g given))
  where
    none_in : Reads before rest g → ⊥
    none_in ([], are, adds) = omega (arith, some, ap (λ x. length x) are)
    none_in (b ∷ more, (front, after, is, e, are), adds) = none b after (front, is, e)

-- nor do words with an argument that can't be added
pub no_place : (words rest behind : List (List ℕ)) (before : Given) (a : Argument) → LeadsTo words before rest → BeginsWith rest a behind
    → ((g : Given) (more : List Argument) → Adds before (a ∷ more) g → ⊥) → (g : Given) → IsGiven g words → ⊥
no_place words rest behind before a leads begins none g given =
    let read = first_read rest behind before g a begins (leads.there g (reads_all words g given)) in none g read.0 read.2

-- at the end all is read
pub all_given : (words rest : List (List ℕ)) (before : Given) → LeadsTo words before rest → rest ≡ [] → IsGiven before words
all_given words rest before leads ended = all_read words before (leads.back before ([], ended, adds_none before))
