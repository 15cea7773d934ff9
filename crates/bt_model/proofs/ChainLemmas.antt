-- In an orderly layout a chain is determined by where it starts, and by where it ends.
use Rattle.std.proofs.Common.{◌≡◌, ℕ, zero, suc, ◌+◌, ◌-◌, List, ◌∷◌, length, get_or, refl, sym, ◌∙◌, ap, subst, inl, inr, ⊎_elim, arith}
use Rattle.std.proofs.lemmas.Bool.{cases_lt}
use Rattle.bt_parts.specs.declared.part.Cell.{Cell}
use Rattle.bt_parts.specs.declared.part.Kind.TheVariants.{Splitter}
use Rattle.bt_parts.specs.declared.part.Part.{Part}
use Rattle.bt_parts.specs.Layouts.{IsWellPlaced}
use Rattle.bt_model.specs.Handing.{FeedsFrom, Hands}
use Rattle.bt_model.specs.Chains.{IsSplitter, IsLink, LinksTo, Path, one, more, Source, begins, leaves, Sink, ends, enters, Chain, StartsAs, EndsAs, IsLongest, IsEmptyChain, IsChain}
use Rattle.bt_model.specs.Clean.{IsClean}
use Rattle.bt_parts.proofs.Places.{same_part}
use Rattle.bt_model.proofs.HandLemmas.{one_handed, one_fed}
use Rattle.bt_model.proofs.PathLemmas.{path_start, path_head, path_next}
use Rattle.bt_model.specs.Orderly.{IsOrderly}
use Rattle.bt_model.proofs.HandLaws.{one_giver, output_hands_none}

-- a clean layout is orderly
pub orderly_of : (parts : List Part) → IsClean parts → IsOrderly parts
orderly_of parts clean = record {
  well_placed = clean.well_placed;
  paired = clean.paired;
  no_side_load = clean.no_side_load;
  no_blocked = clean.no_blocked;
}

-- a splitter is no link
pub no_link : (parts : List Part) (i : ℕ) → IsSplitter parts i → IsLink parts i → ⊥
no_link parts i splitter link = link.2 (subst (λ p. p.kind ≡ Splitter) (same_part parts i splitter.0 link.0 splitter.1 link.1) splitter.2)

-- from one part on there is one path that can't be made longer
same_links : (parts : List Part) → IsWellPlaced parts → (i last end : ℕ) (xs ys : List ℕ) → Path parts i last xs → Path parts i end ys
    → ((k : ℕ) → LinksTo parts last k → ⊥) → ((k : ℕ) → LinksTo parts end k → ⊥) → (last ≡ end) × (xs ≡ ys)
same_links parts placed i last end xs ys (one j link) (one k other) no_last no_end = (refl, refl)
same_links parts placed i last end xs ys (one j link) (more k m e rest other hands path) no_last no_end =
    absurd (no_last m (link, path_start parts m end rest path, hands))
same_links parts placed i last end xs ys (more j m e rest link hands path) (one k other) no_last no_end =
    absurd (no_end m (link, path_start parts m last rest path, hands))
same_links parts placed i last end xs ys (more j m e rest link hands path) (more k l f tail other gives way) no_last no_end =
    let next : l ≡ m = one_handed parts placed j l m link gives hands in
    let same = same_links parts placed m last end rest tail path (subst (λ x. Path parts x end tail) next way) no_last no_end in
    (same.0, ap (λ zs. j ∷ zs) same.1)

-- a chain starts with one part
start_one : (parts : List Part) → IsWellPlaced parts → (source : Source) (a b : ℕ) → StartsAs parts source a → StartsAs parts source b → a ≡ b
start_one parts placed (begins i cell) a b h k = h.0 ∙ sym k.0
start_one parts placed (leaves s half) a b h k = one_fed parts placed s a b half h.1 k.1

-- and ends in one place
sink_one : (parts : List Part) → IsWellPlaced parts → (last : ℕ) → IsLink parts last → (x y : Sink) → EndsAs parts x last → EndsAs parts y last → x ≡ y
sink_one parts placed last link (ends i) (ends j) h k = ap ends (sym h.0 ∙ k.0)
sink_one parts placed last link (ends i) (enters s) h k = absurd (output_hands_none parts i h.1 s (subst (λ x. Hands parts x s) h.0 k.1))
sink_one parts placed last link (enters s) (ends j) h k = absurd (output_hands_none parts j k.1 s (subst (λ x. Hands parts x s) k.0 h.1))
sink_one parts placed last link (enters s) (enters t) h k = ap enters (one_handed parts placed last s t link h.1 k.1)

chain_is : (c d : Chain) → c.source ≡ d.source → c.links ≡ d.links → c.sink ≡ d.sink → c ≡ d
chain_is c d sources links sinks =
    ap (λ z. record { source = z; links = c.links; sink = c.sink }) sources
    ∙ ap (λ z. record { source = d.source; links = z; sink = c.sink }) links
    ∙ ap (λ z. record { source = d.source; links = d.links; sink = z }) sinks

no_links_after : (parts : List Part) (c : Chain) (h : IsLongest parts c) → (k : ℕ) → LinksTo parts h.last k → ⊥
no_links_after parts c h k links = h.none_after k links.1 links.2

pub path_stop : (parts : List Part) (i last : ℕ) (links : List ℕ) → Path parts i last links → IsLink parts last
path_stop parts i last links (one j link) = link
path_stop parts i last links (more j m e rest link hands path) = path_stop parts m last rest path

-- longest chains with one first part are the same but for their source
pub longest_same : (parts : List Part) → IsWellPlaced parts → (c d : Chain) (h : IsLongest parts c) (k : IsLongest parts d) → h.first ≡ k.first
    → (c.links ≡ d.links) × (c.sink ≡ d.sink)
longest_same parts placed c d h k first =
    let same = same_links parts placed h.first h.last k.last c.links d.links h.path (subst (λ x. Path parts x k.last d.links) (sym first) k.path)
    (no_links_after parts c h) (no_links_after parts d k) in
    (same.1, sink_one parts placed h.last (path_stop parts h.first h.last c.links h.path) c.sink d.sink h.ends (subst (λ x. EndsAs parts d.sink x) (sym same.0) k.ends))

leaves_parts : (s t : ℕ) (a b : Cell) → leaves s a ≡ leaves t b → (s ≡ t) × (a ≡ b)
leaves_parts s t a b e = ((cc), (cc))

empty_not_longest : (parts : List Part) → IsWellPlaced parts → (c d : Chain) → IsLongest parts c → IsEmptyChain parts d → c.source ≡ d.source → ⊥
empty_not_longest parts placed c d h k sources =
    let starts : StartsAs parts (leaves k.from k.half) h.first = subst (λ x. StartsAs parts x h.first) (sources ∙ k.source) h.starts in
    let same : k.to ≡ h.first = one_fed parts placed k.from k.to h.first k.half k.feeds starts.1 in
    no_link parts k.to k.is_to (subst (λ x. IsLink parts x) (sym same) (path_start parts h.first h.last c.links h.path))

-- one chain starts in one place
pub chain_from : (parts : List Part) → IsWellPlaced parts → (c d : Chain) → IsChain parts c → IsChain parts d → c.source ≡ d.source → c ≡ d
chain_from parts placed c d (inl h) (inl k) sources =
    let first : h.first ≡ k.first = start_one parts placed d.source h.first k.first (subst (λ x. StartsAs parts x h.first) sources h.starts) k.starts in
    let same = longest_same parts placed c d h k first in
    chain_is c d sources same.0 same.1
chain_from parts placed c d (inl h) (inr k) sources = absurd (empty_not_longest parts placed c d h k sources)
chain_from parts placed c d (inr h) (inl k) sources = absurd (empty_not_longest parts placed d c k h (sym sources))
chain_from parts placed c d (inr h) (inr k) sources =
    let ends_of = leaves_parts h.from k.from h.half k.half (sym h.source ∙ sources ∙ k.source) in
    let to : h.to ≡ k.to = one_fed parts placed k.from h.to k.to k.half
    (subst (λ x. FeedsFrom parts x k.half h.to) ends_of.0 (subst (λ x. FeedsFrom parts h.from x h.to) ends_of.1 h.feeds)) k.feeds in
    chain_is c d sources (h.no_link ∙ sym k.no_link) (h.sink ∙ ap enters to ∙ sym k.sink)

-- what is so far before the end of a path
back_at : (parts : List Part) → IsOrderly parts → (i j last : ℕ) (xs ys : List ℕ) → Path parts i last xs → Path parts j last ys
    → (n k l : ℕ) → k + n + 1 ≡ length xs → l + n + 1 ≡ length ys → get_or xs k 0 ≡ get_or ys l 0
back_at parts is i j last xs ys p q zero k l ex ey =
    let x = ⊎_elim (λ next. let lt = next.1 in absurd (omega arith)) (λ end. end.1) (path_next parts i last xs p k (omega arith)) in
    let y = ⊎_elim (λ next. let lt = next.1 in absurd (omega arith)) (λ end. end.1) (path_next parts j last ys q l (omega arith)) in
    x ∙ sym y
back_at parts is i j last xs ys p q (suc n) k l ex ey =
    let after : get_or xs (suc k) 0 ≡ get_or ys (suc l) 0 = back_at parts is i j last xs ys p q n (suc k) (suc l) (omega arith) (omega arith) in
    let x = ⊎_elim (λ next. next.0) (λ end. let e = end.0 in absurd (omega arith)) (path_next parts i last xs p k (omega arith)) in
    let y = ⊎_elim (λ next. next.0) (λ end. let e = end.0 in absurd (omega arith)) (path_next parts j last ys q l (omega arith)) in
    one_giver parts is (get_or xs k 0) (get_or ys l 0) (get_or xs (suc k) 0) x.1 x.2 (subst (λ z. Hands parts (get_or ys l 0) z) (sym after) y.2)

-- two paths to one part that can't be made longer at their fronts begin with one part
pub same_first : (parts : List Part) → IsOrderly parts → (i j last : ℕ) (xs ys : List ℕ) → Path parts i last xs → Path parts j last ys
    → ((k : ℕ) → LinksTo parts k i → ⊥) → ((k : ℕ) → LinksTo parts k j → ⊥) → i ≡ j
same_first parts is i j last xs ys p q no_i no_j =
    let head_x = path_head parts i last xs 0 p in
    let head_y = path_head parts j last ys 0 q in
    let some_x = head_x.0 in let some_y = head_y.0 in
    ⊎_elim
    (λ lt. absurd (no_i (get_or ys (length ys - length xs - 1) 0)
    (let at : get_or xs 0 0 ≡ get_or ys (suc (length ys - length xs - 1)) 0 =
    back_at parts is i j last xs ys p q (length xs - 1) 0 (suc (length ys - length xs - 1)) (omega arith) (omega arith) in
    subst (λ z. LinksTo parts (get_or ys (length ys - length xs - 1) 0) z) (sym at ∙ head_x.1)
    (⊎_elim (λ next. next.0) (λ end. let e = end.0 in absurd (omega arith)) (path_next parts j last ys q (length ys - length xs - 1) (omega arith))))))
    (λ ge. ⊎_elim
    (λ gt. absurd (no_j (get_or xs (length xs - length ys - 1) 0)
    (let at : get_or xs (suc (length xs - length ys - 1)) 0 ≡ get_or ys 0 0 =
    back_at parts is i j last xs ys p q (length ys - 1) (suc (length xs - length ys - 1)) 0 (omega arith) (omega arith) in
    subst (λ z. LinksTo parts (get_or xs (length xs - length ys - 1) 0) z) (at ∙ head_y.1)
    (⊎_elim (λ next. next.0) (λ end. let e = end.0 in absurd (omega arith)) (path_next parts i last xs p (length xs - length ys - 1) (omega arith))))))
    (λ le.
    let at : get_or xs 0 0 ≡ get_or ys 0 0 = back_at parts is i j last xs ys p q (length xs - 1) 0 0 (omega arith) (omega arith) in
    sym head_x.1 ∙ at ∙ head_y.1)
    (cases_lt (length ys) (length xs)))
    (cases_lt (length xs) (length ys))

pub no_links_before : (parts : List Part) (c : Chain) (h : IsLongest parts c) → (k : ℕ) → LinksTo parts k h.first → ⊥
no_links_before parts c h k links = h.none_before k links.0 links.2
