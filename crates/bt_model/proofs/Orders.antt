-- The orders of cells, of parts by their cells, and of sources are strict.
use Rattle.std.proofs.Common.{◌≡◌, ◌≢◌, List, ◌∙◌, ap, subst, inl, inr, arith}
use Rattle.std.specs.List.{AllPairs}
use Rattle.std.proofs.lemmas.Int.{ints}
use Rattle.bt_parts.specs.declared.part.Part.{Part}
use Rattle.bt_net.specs.declared.network.Edge.{Edge}
use Rattle.bt_net.specs.declared.network.Start.{Start}
use Rattle.bt_net.specs.declared.network.Start.TheVariants as from
use Rattle.bt_net.specs.declared.network.Target.{Target}
use Rattle.bt_net.specs.declared.network.Target.TheVariants as to
use Rattle.bt_model.specs.Chains.{Source, begins, leaves, Sink, ends, enters, Chain}
use Rattle.bt_model.specs.Shown.{Naming, Precedes, IsPlacedBefore, ComesBefore, IsStartOf, IsTargetOf, IsEdgeOf}
use Rattle.bt_parts.proofs.Places.{same_part}
use Rattle.bt_model.proofs.Sorted.{IsAsymmetric, one_place}
use Rattle.bt_model.proofs.SpeedLemmas.{same_cap}

pub cells_asymmetric : IsAsymmetric Precedes
cells_asymmetric a b (inl h) (inl k) = omega (arith, ints)
cells_asymmetric a b (inl h) (inr k) = let e = k.0 in omega (arith, ints)
cells_asymmetric a b (inr h) (inl k) = let e = h.0 in omega (arith, ints)
cells_asymmetric a b (inr h) (inr k) = let x = h.1 in let y = k.1 in omega (arith, ints)

pub parts_asymmetric : (parts : List Part) → IsAsymmetric (IsPlacedBefore parts)
parts_asymmetric parts i j h k =
    cells_asymmetric h.one.cell h.other.cell h.before
    (subst (λ p. Precedes h.other.cell p.cell) (same_part parts i k.other h.one k.is_j h.is_i)
    (subst (λ p. Precedes p.cell k.other.cell) (same_part parts j k.one h.other k.is_i h.is_j) k.before))

pub sources_asymmetric : IsAsymmetric ComesBefore
sources_asymmetric (begins i a) (begins j b) h k = cells_asymmetric a b h k
sources_asymmetric (begins i a) (leaves s b) h k = k
sources_asymmetric (leaves s a) (begins i b) h k = h
sources_asymmetric (leaves s a) (leaves t b) (inl h) (inl k) = omega arith
sources_asymmetric (leaves s a) (leaves t b) (inl h) (inr k) = let e = k.0 in omega arith
sources_asymmetric (leaves s a) (leaves t b) (inr h) (inl k) = let e = h.0 in omega arith
sources_asymmetric (leaves s a) (leaves t b) (inr h) (inr k) = cells_asymmetric a b h.1 k.1

-- a naming gives a source one start
same_start : (naming : Naming) → AllPairs ◌≢◌ naming.splitters → AllPairs ◌≢◌ naming.inputs → (source : Source) (s t : Start)
    → IsStartOf naming source s → IsStartOf naming source t → s ≡ t
same_start naming ss is (begins i a) (from.Input k) (from.Input l) h g = ap from.Input (one_place naming.inputs is k l i h g)
same_start naming ss is (begins i a) (from.Input k) (from.Split l) h g = absurd g
same_start naming ss is (begins i a) (from.Split k) t h g = absurd h
same_start naming ss is (leaves s a) (from.Split k) (from.Split l) h g = ap from.Split (one_place naming.splitters ss k l s h g)
same_start naming ss is (leaves s a) (from.Split k) (from.Input l) h g = absurd g
same_start naming ss is (leaves s a) (from.Input k) t h g = absurd h

-- a naming gives a sink one target
same_target : (naming : Naming) → AllPairs ◌≢◌ naming.splitters → AllPairs ◌≢◌ naming.outputs → (sink : Sink) (s t : Target)
    → IsTargetOf naming sink s → IsTargetOf naming sink t → s ≡ t
same_target naming ss os (ends i) (to.Output k) (to.Output l) h g = ap to.Output (one_place naming.outputs os k l i h g)
same_target naming ss os (ends i) (to.Output k) (to.Split l) h g = absurd g
same_target naming ss os (ends i) (to.Split k) t h g = absurd h
same_target naming ss os (enters s) (to.Split k) (to.Split l) h g = ap to.Split (one_place naming.splitters ss k l s h g)
same_target naming ss os (enters s) (to.Split k) (to.Output l) h g = absurd g
same_target naming ss os (enters s) (to.Output k) t h g = absurd h

-- one edge stands for a chain
pub same_edge : (parts : List Part) (naming : Naming) → AllPairs ◌≢◌ naming.splitters → AllPairs ◌≢◌ naming.inputs → AllPairs ◌≢◌ naming.outputs
    → (chain : Chain) (e f : Edge) → IsEdgeOf parts naming chain e → IsEdgeOf parts naming chain f → e ≡ f
same_edge parts naming ss is os chain e f h g =
    let starts : e.start ≡ f.start = same_start naming ss is chain.source e.start f.start h.start g.start in
    let targets : e.target ≡ f.target = same_target naming ss os chain.sink e.target f.target h.target g.target in
    let caps : e.cap ≡ f.cap = same_cap parts chain e.cap f.cap h.cap g.cap in
    ap (λ z. record { start = z; target = e.target; cap = e.cap }) starts
    ∙ ap (λ z. record { start = f.start; target = z; cap = e.cap }) targets
    ∙ ap (λ z. record { start = f.start; target = f.target; cap = z }) caps
