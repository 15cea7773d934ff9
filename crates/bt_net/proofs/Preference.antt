-- Networks of which no splitter prefers an edge, and of which some do.
use Rattle.std.proofs.Common.{◌≡◌, ℕ, ◌+◌, zero, suc, Bool, false, List, [], ◌∷◌, ◌++◌, length, get_or, replicate, Option, Some, None, refl, ap, sym, ◌∙◌, inl, inr, arith}
use Rattle.std.specs.Global.{Vec}
use Rattle.std.proofs.lemmas.Bool.{cases_lt}
use Rattle.std.proofs.lemmas.List.{get_or-replicate, get_or_past, length-replicate}
use Rattle.bt_net.specs.declared.network.Edge.{Edge}
use Rattle.bt_net.specs.Network.{Network, none_each, network_of, preferred_in, give_of, take_of, merges_any, HasNoPriorities, IsPrioritised, IsNetwork}
use Rattle.bt_net.specs.NetText.{alone}
use Rattle.bt_net.specs.Priorities.{preferring, merging}
use Rattle.bt_net.specs.declared.priority.Preferred.{Preferred}
use Rattle.bt_net.specs.declared.priority.PreferredEdges.{PreferredEdges}
use Rattle.bt_net.specs.inner.Preferred.{with_preferred, with_merges, told}

pub none_long : (splitters : ℕ) → length (none_each splitters) ≡ splitters
none_long zero = refl
none_long (suc k) = ap suc (none_long k)

pub one_more_none : (splitters : ℕ) → none_each splitters ++ None ∷ [] ≡ none_each (splitters + 1)
one_more_none zero = refl
one_more_none (suc k) = ap (λ es. None ∷ es) (one_more_none k) ∙ ap none_each (let e : suc (k + 1) ≡ suc k + 1 = omega arith in e)

pub none_preferred : (splitters k : ℕ) → preferred_in (none_each splitters) k ≡ None
none_preferred zero k = refl
none_preferred (suc s) zero = refl
none_preferred (suc s) (suc k) = none_preferred s k

-- a splitter of a network without priorities prefers no edge
pub plain_gives : (n : Network) → HasNoPriorities n → (k : ℕ) → give_of n k ≡ None
plain_gives n plain k = ap (λ edges. preferred_in edges k) plain.gives ∙ none_preferred n.splitters k

pub plain_takes : (n : Network) → HasNoPriorities n → (k : ℕ) → take_of n k ≡ None
plain_takes n plain k = ap (λ edges. preferred_in edges k) plain.takes ∙ none_preferred n.splitters k

-- of none of them any in edge may be preferred
pub none_any : (splitters k : ℕ) → get_or (replicate splitters false) k false ≡ false
none_any splitters k = elim (cases_lt k splitters) [
  | inl inside ↦ get_or-replicate splitters k false false inside
  | inr outside ↦ get_or_past (replicate splitters false) k false (omega (arith, outside, length-replicate splitters false))
]

pub plain_merges : (n : Network) → HasNoPriorities n → (k : ℕ) → merges_any n k ≡ false
plain_merges n plain k = ap (λ merges. get_or merges k false) plain.merges ∙ none_any n.splitters k

none_or_some : (o : Option ℕ) (a : ℕ) → o ≡ None → o ≡ Some a → ⊥
none_or_some o a none some = absurd (cc)

pub plain_is_prioritised : (n : Network) → HasNoPriorities n → IsPrioritised n
plain_is_prioritised n plain = record {
  gives_each = ap length plain.gives ∙ none_long n.splitters;
  takes_each = ap length plain.takes ∙ none_long n.splitters;
  merges_each = ap length plain.merges ∙ length-replicate n.splitters false;
  gives = λ k a is. absurd (none_or_some (give_of n k) a (plain_gives n plain k) is);
  takes = λ k a is. absurd (none_or_some (take_of n k) a (plain_takes n plain k) is);
  one_of_both = λ k any. plain_takes n plain k;
}

-- a network in which splitters prefer edges of their own is one
pub with_network : (n : Network) (gives takes : List (Option ℕ)) (merges : List Bool) → IsNetwork n → IsPrioritised (merging (preferring n gives takes) merges) → IsNetwork (merging (preferring n gives takes) merges)
with_network n gives takes merges is prioritised =
    let wired = is.wired in
    record {
      wired = record {
        starts = wired.starts;
        targets = wired.targets;
        caps = wired.caps;
        one_in = wired.one_in;
        one_out = wired.one_out;
        few_in = wired.few_in;
        few_out = wired.few_out;
      };
      prioritised = prioritised;
      few_inputs = is.few_inputs;
      few_outputs = is.few_outputs;
      few_splitters = is.few_splitters;
      few_edges = is.few_edges;
      some_input = is.some_input;
      some_output = is.some_output;
    }

pub preferring_network : (n : Network) (gives takes : List (Option ℕ)) → IsNetwork n → IsPrioritised (preferring n gives takes) → IsNetwork (preferring n gives takes)
preferring_network n gives takes is prioritised = with_network n gives takes n.merges is prioritised

pub merging_network : (n : Network) (merges : List Bool) → IsNetwork n → IsPrioritised (merging n merges) → IsNetwork (merging n merges)
merging_network n merges is prioritised = with_network n n.gives n.takes merges is prioritised

pub told_network : (n : Network) (preferred : Preferred) → IsNetwork n → IsPrioritised (told n preferred) → IsNetwork (told n preferred)
told_network n preferred is prioritised = with_network n preferred.gives.items preferred.takes.items preferred.merges.items is prioritised

-- what holds of a network's priorities holds of them without those by which a splitter may prefer any
pub less_prioritised : (n : Network) (preferred : Preferred) → HasNoPriorities n → IsPrioritised (told n preferred) → IsPrioritised (preferring n preferred.gives.items preferred.takes.items)
less_prioritised n preferred plain is = record {
  gives_each = is.gives_each;
  takes_each = is.takes_each;
  merges_each = ap length plain.merges ∙ length-replicate n.splitters false;
  gives = is.gives;
  takes = is.takes;
  one_of_both = λ k any. absurd (let none : get_or n.merges k false ≡ false = plain_merges n plain k in cc);
}

-- edges that are preferred instead of others
pub preferring_instead : (merges : Option (Vec Bool)) (preferred : Option PreferredEdges) (n : Network) (gives takes : List (Option ℕ))
    → preferring (with_merges merges (with_preferred preferred n)) gives takes ≡ with_merges merges (preferring n gives takes)
preferring_instead None None n gives takes = refl
preferring_instead None (Some preferred) n gives takes = refl
preferring_instead (Some merges) None n gives takes = refl
preferring_instead (Some merges) (Some preferred) n gives takes = refl

pub merging_instead : (merges : Option (Vec Bool)) (n : Network) (instead : List Bool) → merging (with_merges merges n) instead ≡ merging n instead
merging_instead None n instead = refl
merging_instead (Some merges) n instead = refl

-- they don't change the rest
pub give_with : (merges : Option (Vec Bool)) (n : Network) (k : ℕ) → give_of (with_merges merges n) k ≡ give_of n k
give_with None n k = refl
give_with (Some merges) n k = refl

pub take_with : (merges : Option (Vec Bool)) (n : Network) (k : ℕ) → take_of (with_merges merges n) k ≡ take_of n k
take_with None n k = refl
take_with (Some merges) n k = refl

pub any_with : (preferred : Option PreferredEdges) (n : Network) (k : ℕ) → merges_any (with_preferred preferred n) k ≡ merges_any n k
any_with None n k = refl
any_with (Some preferred) n k = refl

-- a network without its priorities is one, whichever it had
pub alone_network : (n : Network) → IsNetwork n → IsNetwork (alone n)
alone_network n is =
    with_network n (none_each n.splitters) (none_each n.splitters) (replicate n.splitters false) is (plain_is_prioritised (alone n) (record { gives = refl; takes = refl; merges = refl }))

pub alone_instead : (merges : Option (Vec Bool)) (preferred : Option PreferredEdges) (inputs outputs splitters : ℕ) (edges : List Edge)
    → alone (with_merges merges (with_preferred preferred (network_of inputs outputs splitters edges))) ≡ network_of inputs outputs splitters edges
alone_instead None None inputs outputs splitters edges = refl
alone_instead None (Some preferred) inputs outputs splitters edges = refl
alone_instead (Some merges) None inputs outputs splitters edges = refl
alone_instead (Some merges) (Some preferred) inputs outputs splitters edges = refl

-- a network in which no splitter prefers an edge is that one
pub plain_alone : (n : Network) → HasNoPriorities n → alone n ≡ n
plain_alone n plain =
    let gives = sym plain.gives in let takes = sym plain.takes in let merges = sym plain.merges in
    λ i. record { inputs = n.inputs; outputs = n.outputs; splitters = n.splitters; edges = n.edges; gives = gives i; takes = takes i; merges = merges i }
