-- Where no splitter prefers an edge, the laws of even flows speak of all splitters, and those of preferred edges of
-- none.
use Rattle.std.proofs.Common.{◌≡◌, ℕ, Option, Some, None}
use Rattle.bt_net.specs.Network.{Network, HasNoPriorities, give_of, take_of}
use Rattle.bt_net.proofs.Preference.{plain_gives, plain_takes, plain_merges}
use Rattle.bt_flow.specs.States.{Flows}
use Rattle.bt_flow.specs.Steady.{IsSteady}
use Rattle.bt_flow.specs.SevenLaws.{KeepsSevenLaws, SevenLawsAreAll}

not_preferred : (o : Option ℕ) (a : ℕ) → o ≡ None → o ≡ Some a → ⊥
not_preferred o a none some = absurd (cc)

module _ (n : Network) (plain : HasNoPriorities n) (s : Flows) where
  from_nine : IsSteady n s → KeepsSevenLaws n s
  from_nine h = record {
    range = h.range;
    conserve = h.conserve;
    even_out = λ a l k b e f x y o p q m. h.even_out a l k b e f x y o p q (plain_gives n plain k) m;
    even_in = λ a l k b e f x y o p q m. h.even_in a l k b e f x y o p q (plain_takes n plain k, plain_merges n plain k) m;
    backing = h.backing;
    input = h.input;
    output = h.output;
  }

  to_nine : KeepsSevenLaws n s → IsSteady n s
  to_nine h = record {
    range = h.range;
    conserve = h.conserve;
    even_out = λ a l k b e f x y o p q none m. h.even_out a l k b e f x y o p q m;
    even_in = λ a l k b e f x y o p q none m. h.even_in a l k b e f x y o p q m;
    prior_out = λ a l k b e f x y o p q some m. absurd (not_preferred (give_of n k) a (plain_gives n plain k) some);
    prior_in = λ a l k b e f x y o p q some m. absurd (not_preferred (take_of n k) a (plain_takes n plain k) some);
    backing = h.backing;
    input = h.input;
    output = h.output;
  }

pub seven_laws : SevenLawsAreAll
seven_laws n plain s = (from_nine n plain s, to_nine n plain s)
