-- Texts without pins, sides, rows, blocks and preferred edges, whatever may stand behind the edges.
use Rattle.std.proofs.Common.{◌≡◌, ◌≢◌, ℕ, ◌+◌, Bool, true, false, replicate, List, [], ◌∷◌, ◌++◌, length, drop, Option, Some, None, Ok, refl, sym, ◌∙◌, ap, subst, arith}
use Rattle.std.specs.Prelude.{codes}
use Rattle.std.proofs.lemmas.List.{get_or-set_same, get_or-set_other}
use Rattle.bt_text.specs.Lines.{BeginsWithLines}
use Rattle.bt_net.specs.declared.network.Admitted.{Admitted}
use Rattle.bt_net.specs.declared.network.Priority.{Priority}
use Rattle.bt_net.specs.declared.network.Priority.TheVariants.{Give, Take, Any}
use Rattle.bt_net.specs.Network.{Network, HasNoPriorities, none_each, give_of, take_of, merges_any}
use Rattle.bt_net.specs.NetText.{header, alone}
use Rattle.bt_net.specs.PinText.{AreLinesFrom, IsDemandHere, IsBlockHere}
use Rattle.bt_net.specs.Priorities.{IsPriorityHere, Owns, with_priority, Becomes}
use Rattle.bt_net.specs.Readings.{Reading, IsNetRead, ReadAlike}
use Rattle.std.proofs.lemmas.List.{length-replicate}
use Rattle.bt_net.proofs.Preference.{none_long, plain_gives, plain_takes, plain_merges, plain_alone}

-- lines of nothing
no_lines : {X : Type 0} (IsLine : ℕ → List ℕ → X → Type 0) (number : ℕ) (lines : List (List ℕ)) (xs : List X) → AreLinesFrom IsLine number lines xs → xs ≡ [] → lines ≡ []
no_lines IsLine number [] xs are none = refl
no_lines IsLine number (l ∷ ls) [] are none = absurd are
no_lines IsLine number (l ∷ ls) (x ∷ xs) are none = absurd (omega (arith, ap length none))

are_none : {X : Type 0} (IsLine : ℕ → List ℕ → X → Type 0) (number : ℕ) (xs : List X) → xs ≡ [] → AreLinesFrom IsLine number [] xs
are_none IsLine number xs none = subst (AreLinesFrom IsLine number []) (sym none) tt

not_both : (o : Option ℕ) (a : ℕ) → o ≡ None → o ≡ Some a → ⊥
not_both o a none some = absurd (cc)

true_or_false : {b : Bool} → b ≡ false → b ≡ true → ⊥
true_or_false is any = absurd (cc)

-- an edge that is preferred stays so
give_stays : (m n : Network) (ps : List Priority) (k a : ℕ) → Becomes m ps n → give_of m k ≡ Some a → give_of n k ≡ Some a
give_stays m n [] k a is some = ap (λ x. give_of x k) (sym is) ∙ some
give_stays m n (Give j b ∷ ps) k a is some =
    let apart : k ≢ j = λ e. not_both (give_of m k) a (ap (give_of m) e ∙ is.0) some in
    give_stays (with_priority m (Give j b)) n ps k a is.1 (get_or-set_other m.gives j k (Some b) None apart ∙ some)
give_stays m n (Take j b ∷ ps) k a is some = give_stays (with_priority m (Take j b)) n ps k a is.1 some
give_stays m n (Any j ∷ ps) k a is some = give_stays (with_priority m (Any j)) n ps k a is.1 some

take_stays : (m n : Network) (ps : List Priority) (k a : ℕ) → Becomes m ps n → take_of m k ≡ Some a → take_of n k ≡ Some a
take_stays m n [] k a is some = ap (λ x. take_of x k) (sym is) ∙ some
take_stays m n (Give j b ∷ ps) k a is some = take_stays (with_priority m (Give j b)) n ps k a is.1 some
take_stays m n (Take j b ∷ ps) k a is some =
    let apart : k ≢ j = λ e. not_both (take_of m k) a (ap (take_of m) e ∙ is.0.0) some in
    take_stays (with_priority m (Take j b)) n ps k a is.1 (get_or-set_other m.takes j k (Some b) None apart ∙ some)
take_stays m n (Any j ∷ ps) k a is some = take_stays (with_priority m (Any j)) n ps k a is.1 some

-- so does a splitter that may prefer any
any_stays : (m n : Network) (ps : List Priority) (k : ℕ) → Becomes m ps n → merges_any m k ≡ true → merges_any n k ≡ true
any_stays m n [] k is any = ap (λ x. merges_any x k) (sym is) ∙ any
any_stays m n (Give j b ∷ ps) k is any = any_stays (with_priority m (Give j b)) n ps k is.1 any
any_stays m n (Take j b ∷ ps) k is any = any_stays (with_priority m (Take j b)) n ps k is.1 any
any_stays m n (Any j ∷ ps) k is any =
    let apart : k ≢ j = λ e. true_or_false (ap (merges_any m) e ∙ is.0.1) any in
    any_stays (with_priority m (Any j)) n ps k is.1 (get_or-set_other m.merges j k true false apart ∙ any)

-- so by some priorities no network becomes one without any
module _ (n : Network) (plain : HasNoPriorities n) where
  one_too_many : (p : Priority) (ps : List Priority) → Owns (alone n) p → Becomes (with_priority (alone n) p) ps n → ⊥
  one_too_many (Give k a) ps owns is =
      let there : give_of (with_priority (alone n) (Give k a)) k ≡ Some a = get_or-set_same (none_each n.splitters) k (Some a) None (omega (arith, owns.0, none_long n.splitters)) in
      not_both (give_of n k) a (plain_gives n plain k) (give_stays (with_priority (alone n) (Give k a)) n ps k a is there)
  one_too_many (Take k a) ps owns is =
      let there : take_of (with_priority (alone n) (Take k a)) k ≡ Some a = get_or-set_same (none_each n.splitters) k (Some a) None (omega (arith, owns.0, none_long n.splitters)) in
      not_both (take_of n k) a (plain_takes n plain k) (take_stays (with_priority (alone n) (Take k a)) n ps k a is there)
  one_too_many (Any k) ps owns is =
      let there : merges_any (with_priority (alone n) (Any k)) k ≡ true = get_or-set_same (replicate n.splitters false) k true false (omega (arith, owns, length-replicate n.splitters false)) in
      true_or_false (plain_merges n plain k) (any_stays (with_priority (alone n) (Any k)) n ps k is there)

  none_here : (may : Admitted) (number : ℕ) (lines : List (List ℕ)) (ps : List Priority) → AreLinesFrom (IsPriorityHere may (alone n)) number lines ps → Becomes (alone n) ps n → ps ≡ []
  none_here may number lines [] are is = refl
  none_here may number [] (p ∷ ps) are is = absurd are
  none_here may number (l ∷ ls) (p ∷ ps) are is = absurd (one_too_many p ps are.0.1.1 is.1)

module _ (may other : Admitted) (bytes : List ℕ) (read : Reading) where
  -- the lines behind the header
  abbrev Begins : List (List ℕ) → List (List ℕ) → List (List ℕ) → List (List ℕ) → Type 0
  Begins edges priorities demands blocks = BeginsWithLines bytes (header read.net ∷ edges ++ (priorities ++ (demands ++ (blocks ++ codes "end" ∷ [])))) (drop read.used bytes)

  read_so : IsNetRead may bytes (Ok read) → HasNoPriorities read.net → read.demands ≡ [] → read.blocks ≡ [] → IsNetRead other bytes (Ok read)
  read_so h plain demands blocks =
      let b = h.begins in
      let n = read.net in
      let none = none_here n plain may (length n.edges + 2) b.priority_lines b.priorities b.are_priorities b.becomes in
      let priority_lines = no_lines (IsPriorityHere may (alone n)) (length n.edges + 2) b.priority_lines b.priorities b.are_priorities none in
      let demand_lines = no_lines (IsDemandHere may (alone n)) (length n.edges + length b.priorities + 2) b.demand_lines read.demands b.are_demands demands in
      let block_lines = no_lines (IsBlockHere may) (length n.edges + length b.priorities + length read.demands + 2) b.block_lines read.blocks b.are_blocks blocks in
      record {
        network = h.network;
        begins = record {
          edge_lines = b.edge_lines;
          are_edges = b.are_edges;
          priorities = [];
          priority_lines = [];
          are_priorities = tt;
          becomes = plain_alone n plain;
          demand_lines = [];
          are_demands = are_none (IsDemandHere other (alone n)) (length n.edges + 2) read.demands demands;
          block_lines = [];
          are_blocks = are_none (IsBlockHere other) (length n.edges + length read.demands + 2) read.blocks blocks;
          begins = subst (λ bs. Begins b.edge_lines [] [] bs) block_lines (subst (λ ds. Begins b.edge_lines [] ds b.block_lines) demand_lines (subst (λ ps. Begins b.edge_lines ps b.demand_lines b.block_lines) priority_lines b.begins));
        };
        used = h.used;
        lines = omega (arith, h.lines, ap length none);
      }

pub read_alike : ReadAlike
read_alike may other bytes read h plain demands blocks = read_so may other bytes read h plain demands blocks
