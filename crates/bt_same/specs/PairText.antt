-- The text of a pair of states: a differ certificate.
use Rattle.std.specs.Prelude.{ℕ, List, [], ◌∷◌, ◌++◌, map, codes, All}
use Rattle.std.specs.List.{flat_map}
use Rattle.bt_text.specs.Blanks.{IsBlank}
use Rattle.bt_text.specs.Lines.{line, BeginsWithLines}
use Rattle.bt_frac.specs.Texts.{frac_text}
use Rattle.bt_flow.specs.States.{AreLowest}
use Rattle.bt_flow.specs.StateText.{mark_text, spaced}
use Rattle.bt_same.specs.declared.pair.Pair.{Pair}
use Rattle.bt_same.specs.Pairs.{AreAlike}

-- the eight lines: a title, the loads and rooms of the first state, the flows and marks of each state, and `end`
abbrev pub pair_lines : Pair → List (List ℕ)
pair_lines pair =
    codes "differ"
    ∷ (codes "load" ++ spaced (map frac_text pair.first.loads))
    ∷ (codes "room" ++ spaced (map frac_text pair.first.rooms))
    ∷ (codes "flow" ++ spaced (map frac_text pair.first.flows))
    ∷ (codes "mark" ++ spaced (map mark_text pair.first.backed))
    ∷ (codes "flow" ++ spaced (map frac_text pair.second.flows))
    ∷ (codes "mark" ++ spaced (map mark_text pair.second.backed))
    ∷ codes "end"
    ∷ []

-- the text as it is written: each of its lines ends with a line feed
abbrev pub printed_pair : Pair → List ℕ
printed_pair pair = flat_map line (pair_lines pair)

-- the bytes are the text of the pair, of which each fraction is in lowest terms, and the loads and rooms of the second
-- state are those of the first; the last line feed may be missing, and blanks may follow it
pub record IsPairText (pair : Pair) (bytes : List ℕ) : Type 0 where
  pub first : AreLowest pair.first
  pub second : AreLowest pair.second
  pub alike : AreAlike pair.first pair.second
  pub blanks : List ℕ
  pub are_blanks : All IsBlank blanks
  pub begins : BeginsWithLines bytes (pair_lines pair) blanks
