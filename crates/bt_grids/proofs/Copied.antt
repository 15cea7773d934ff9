-- Networks that are made again.
use Rattle.std.proofs.Common.{◌≡◌, ℕ, ◌+◌, ◌<◌, Bool, false, List, [], ◌∷◌, ◌++◌, length, get_or, Option, None, sym, ◌∙◌, ap, subst, take}
use Rattle.std.proofs.lemmas.List.{take_more, length-replicate}
use Rattle.bt_net.specs.Network.{Network, IsPrioritised}
use Rattle.bt_net.specs.NetText.{alone}
use Rattle.bt_net.specs.Priorities.{preferring, merging}
use Rattle.bt_net.proofs.Preference.{none_any}

-- one more of what is said of splitters
pub one_more : {A : Type 0} (d : A) (xs items : List A) (n : ℕ) → n < length xs → items ≡ take n xs → items ++ get_or xs n d ∷ [] ≡ take (n + 1) xs
one_more d xs items n lt e = ap (λ l. l ++ get_or xs n d ∷ []) e ∙ sym (take_more xs n d lt)

-- a network without what its splitters prefer, and with that again
pub again : (net bare : Network) (gives takes : List (Option ℕ)) (merges : List Bool) → bare ≡ alone net → gives ≡ net.gives → takes ≡ net.takes → merges ≡ net.merges → merging (preferring bare gives takes) merges ≡ net
again net bare gives takes merges e f g h = λ i. merging (preferring (e i) (f i) (g i)) (h i)

pub again_prioritised : (net bare : Network) (gives takes : List (Option ℕ)) (merges : List Bool) → bare ≡ alone net → gives ≡ net.gives → takes ≡ net.takes → merges ≡ net.merges → IsPrioritised net
    → IsPrioritised (merging (preferring bare gives takes) merges)
again_prioritised net bare gives takes merges e f g h is = subst IsPrioritised (sym (again net bare gives takes merges e f g h)) is

-- so it is without saying which may prefer any
edges_prioritised : (net : Network) → IsPrioritised net → IsPrioritised (preferring (alone net) net.gives net.takes)
edges_prioritised net is = record {
  gives_each = is.gives_each;
  takes_each = is.takes_each;
  merges_each = length-replicate net.splitters false;
  gives = is.gives;
  takes = is.takes;
  one_of_both = λ k any. absurd (let none = none_any net.splitters k in cc);
}

pub edges_again : (net bare : Network) (gives takes : List (Option ℕ)) → bare ≡ alone net → gives ≡ net.gives → takes ≡ net.takes → IsPrioritised net → IsPrioritised (preferring bare gives takes)
edges_again net bare gives takes e f g is = subst IsPrioritised (sym (λ i. preferring (e i) (f i) (g i))) (edges_prioritised net is)
