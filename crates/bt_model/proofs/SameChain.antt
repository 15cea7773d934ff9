-- Which chains are the same: those with one input, with one output, from one half, or to one half of a splitter.
use Rattle.std.proofs.Common.{◌≡◌, ◌⊎◌, ℕ, List, refl, sym, ◌∙◌, ap, subst, inl, inr, ⊎_elim}
use Rattle.bt_parts.specs.declared.part.Cell.{Cell}
use Rattle.bt_parts.specs.declared.part.Kind.TheVariants.{Splitter}
use Rattle.bt_parts.specs.declared.part.Part.{Part}
use Rattle.bt_parts.specs.declared.part.Side.TheVariants.{Behind}
use Rattle.bt_parts.specs.Cells.{Covers, beside, step, opposite}
use Rattle.bt_parts.specs.Handing.{ComesFrom, TakesFrom}
use Rattle.bt_parts.specs.Layouts.{HasPart, IsAt}
use Rattle.bt_parts.proofs.Steps.{near_end}
use Rattle.bt_model.specs.Handing.{FeedsFrom, Feeds, Hands}
use Rattle.bt_model.specs.Chains.{IsSplitter, IsLink, Path, Source, begins, leaves, ends, enters, Chain, StartsAs, EndsAs, IsLongest, IsEmptyChain, IsChain}
use Rattle.bt_parts.proofs.Places.{same_part, own_cell, one_there, covers_at}
use Rattle.bt_model.proofs.PathLemmas.{path_start}
use Rattle.bt_model.specs.Orderly.{IsOrderly}
use Rattle.bt_model.proofs.HandLaws.{takes_at, comes_at, one_giver, pair_leaves}
use Rattle.bt_model.proofs.ChainLemmas.{no_link, chain_from, same_first, longest_same, no_links_before, path_stop}
use Rattle.bt_model.proofs.ExistLemmas.{input_no_splitter}

-- a chain's cell of its input is the part's
pub begins_cell : (parts : List Part) (chain : Chain) (a : ℕ) (cell : Cell) → IsChain parts chain → chain.source ≡ begins a cell → (part : Part) × HasPart parts a part × (cell ≡ part.cell)
begins_cell parts chain a cell (inl h) e =
    let starts : StartsAs parts (begins a cell) h.first = subst (λ x. StartsAs parts x h.first) e h.starts in
    let input = starts.1 in
    (input.part, input.is_i, own_cell input.part cell (input_no_splitter parts a input) (covers_at parts a input.part cell input.is_i starts.2))
begins_cell parts chain a cell (inr h) e = absurd (let s = h.source in cc)

-- one chain begins with an input
pub same_begins : (parts : List Part) → IsOrderly parts → (c d : Chain) (a : ℕ) (one other : Cell) → IsChain parts c → IsChain parts d
    → c.source ≡ begins a one → d.source ≡ begins a other → c ≡ d
same_begins parts orderly c d a one other h k e f =
    let at_c = begins_cell parts c a one h e in
    let at_d = begins_cell parts d a other k f in
    let cells : one ≡ other = at_c.2 ∙ ap (λ p. p.cell) (same_part parts a at_c.0 at_d.0 at_c.1 at_d.1) ∙ sym at_d.2 in
    chain_from parts orderly.well_placed c d h k (e ∙ ap (λ x. begins a x) cells ∙ sym f)

-- two longest chains with one last part are the same
same_last : (parts : List Part) → IsOrderly parts → (c d : Chain) (h : IsLongest parts c) (k : IsLongest parts d) → h.last ≡ k.last → (c.links ≡ d.links) × (h.first ≡ k.first)
same_last parts orderly c d h k last =
    let first : h.first ≡ k.first = same_first parts orderly h.first k.first h.last c.links d.links h.path (subst (λ x. Path parts k.first x d.links) (sym last) k.path)
    (no_links_before parts c h) (no_links_before parts d k) in
    ((longest_same parts orderly.well_placed c d h k first).0, first)

-- the half that faces a part of one cell
faced_half : (parts : List Part) (s q : ℕ) (giver : Part) (half cell : Cell) → HasPart parts s giver → (feeds : FeedsFrom parts s half q) → step feeds.look.giver.part.dir half ≡ cell
    → half ≡ step (opposite giver.dir) cell
faced_half parts s q giver half cell is_s feeds faced =
    near_end giver.dir 1 half cell (sym (ap (λ g. step g.dir half) (same_part parts s giver feeds.look.giver.part is_s feeds.look.giver.is_i) ∙ faced))

one_half : (parts : List Part) (s q : ℕ) (a b : Cell) → IsSplitter parts s → IsLink parts q → FeedsFrom parts s a q → FeedsFrom parts s b q → a ≡ b
one_half parts s q a b splitter link f g =
    let at_f = own_cell link.0 (step f.look.giver.part.dir a) link.2 (covers_at parts q link.0 _ link.1 f.look.taker) in
    let at_g = own_cell link.0 (step g.look.giver.part.dir b) link.2 (covers_at parts q link.0 _ link.1 g.look.taker) in
    faced_half parts s q splitter.0 a link.0.cell splitter.1 f at_f ∙ sym (faced_half parts s q splitter.0 b link.0.cell splitter.1 g at_g)

pub source_cell : (parts : List Part) → IsOrderly parts → (x y : Source) (first : ℕ) → StartsAs parts x first → StartsAs parts y first → IsLink parts first → x ≡ y
source_cell parts orderly (begins i a) (begins j b) first h k link =
    let parts_same : i ≡ j = sym h.0 ∙ k.0 in
    let input = h.1 in
    let one : a ≡ input.part.cell = own_cell input.part a (input_no_splitter parts i input) (covers_at parts i input.part a input.is_i h.2) in
    let other : b ≡ input.part.cell = own_cell input.part b (input_no_splitter parts i input)
    (covers_at parts i input.part b input.is_i (subst (λ x. IsAt parts x b) (sym parts_same) k.2)) in
    ap (λ x. begins x a) parts_same ∙ ap (λ x. begins j x) (one ∙ sym other)
source_cell parts orderly (begins i a) (leaves s b) first h k link = absurd (h.1.unfed s (b, subst (λ x. FeedsFrom parts s b x) h.0 k.1))
source_cell parts orderly (leaves s a) (begins j b) first h k link = absurd (k.1.unfed s (a, subst (λ x. FeedsFrom parts s a x) k.0 h.1))
source_cell parts orderly (leaves s a) (leaves t b) first h k link =
    let splitters : s ≡ t = one_giver parts orderly s t first link (inr (a, h.1)) (inr (b, k.1)) in
    let half : a ≡ b = one_half parts s first a b h.0 link h.1 (subst (λ x. FeedsFrom parts x b first) (sym splitters) k.1) in
    ap (λ x. leaves x a) splitters ∙ ap (λ x. leaves t x) half

-- one chain ends at an output
pub same_ends : (parts : List Part) → IsOrderly parts → (c d : Chain) (a : ℕ) → IsChain parts c → IsChain parts d → c.sink ≡ ends a → d.sink ≡ ends a → c ≡ d
same_ends parts orderly c d a (inr h) k e f = absurd (let s = h.sink in cc)
same_ends parts orderly c d a (inl h) (inr k) e f = absurd (let s = k.sink in cc)
same_ends parts orderly c d a (inl h) (inl k) e f =
    let at_c : EndsAs parts (ends a) h.last = subst (λ x. EndsAs parts x h.last) e h.ends in
    let at_d : EndsAs parts (ends a) k.last = subst (λ x. EndsAs parts x k.last) f k.ends in
    let same = same_last parts orderly c d h k (at_c.0 ∙ sym at_d.0) in
    chain_from parts orderly.well_placed c d (inl h) (inl k)
    (source_cell parts orderly c.source d.source h.first h.starts (subst (λ x. StartsAs parts d.source x) (sym same.1) k.starts) (path_start parts h.first h.last c.links h.path))

-- how a chain comes to a splitter
pub record Hop (parts : List Part) (c : Chain) (s : ℕ) : Type 0 where
  pub from_part : ℕ
  pub half : Cell
  pub feeds : FeedsFrom parts from_part half s
  pub via : ((h : IsLongest parts c) × (h.last ≡ from_part)) ⊎ ((h : IsEmptyChain parts c) × (h.from ≡ from_part) × (h.half ≡ half))

pub into_splitter : (parts : List Part) (p s : ℕ) → IsSplitter parts s → Hands parts p s → Feeds parts p s
into_splitter parts p s splitter (inl pair) = absurd (let a = splitter.2 in let b = pair_leaves parts p s splitter.0 splitter.1 pair in cc)
into_splitter parts p s splitter (inr feeds) = feeds

pub hop_of : (parts : List Part) (c : Chain) (s : ℕ) → IsChain parts c → c.sink ≡ enters s → Hop parts c s
hop_of parts c s (inl h) e =
    let at : EndsAs parts (enters s) h.last = subst (λ x. EndsAs parts x h.last) e h.ends in
    let feeds = into_splitter parts h.last s at.0 at.1 in
    record { from_part = h.last; half = feeds.0; feeds = feeds.1; via = inl (h, refl) }
hop_of parts c s (inr h) e =
    let same : h.to ≡ s = let k = h.sink in cc in
    record { from_part = h.from; half = h.half; feeds = subst (λ x. FeedsFrom parts h.from h.half x) same h.feeds; via = inr (h, refl, refl) }

-- it comes from behind, to one of the two halves
pub hop_half : (parts : List Part) (c : Chain) (s : ℕ) (part : Part) → HasPart parts s part → part.kind ≡ Splitter → (hop : Hop parts c s)
    → (hop.half ≡ step (opposite part.dir) part.cell) ⊎ (hop.half ≡ step (opposite part.dir) (beside part.dir part.cell))
hop_half parts c s part is_s splits hop =
    let behind : hop.feeds.side ≡ Behind = subst (λ k. TakesFrom k hop.feeds.side) splits (takes_at parts hop.from_part s hop.half part is_s hop.feeds) in
    let along : hop.feeds.look.giver.part.dir ≡ part.dir = subst (λ x. ComesFrom hop.feeds.look.giver.part.dir part.dir x) behind (comes_at parts hop.from_part s hop.half part is_s hop.feeds) in
    let covers : Covers part (step part.dir hop.half) = subst (λ d. Covers part (step d hop.half)) along (covers_at parts s part _ is_s hop.feeds.look.taker) in
    ⊎_elim (λ own. inl (near_end part.dir 1 hop.half part.cell (sym own)))
    (λ greater. inr (near_end part.dir 1 hop.half (beside part.dir part.cell) (sym greater.1)))
    covers

pub same_hop : (parts : List Part) → IsOrderly parts → (c d : Chain) (s : ℕ) → IsChain parts c → IsChain parts d → c.sink ≡ enters s → d.sink ≡ enters s
    → (f : Hop parts c s) (g : Hop parts d s) → f.half ≡ g.half → c ≡ d
same_hop parts orderly c d s at_c at_d e k f g half =
    let givers : f.from_part ≡ g.from_part = one_there parts orderly.well_placed f.from_part g.from_part g.half
    (subst (λ x. IsAt parts f.from_part x) half f.feeds.look.giver) g.feeds.look.giver in
    by f.via g.via givers
  where
    by : ((h : IsLongest parts c) × (h.last ≡ f.from_part)) ⊎ ((h : IsEmptyChain parts c) × (h.from ≡ f.from_part) × (h.half ≡ f.half))
        → ((h : IsLongest parts d) × (h.last ≡ g.from_part)) ⊎ ((h : IsEmptyChain parts d) × (h.from ≡ g.from_part) × (h.half ≡ g.half))
        → f.from_part ≡ g.from_part → c ≡ d
    by (inl (h, a)) (inl (j, b)) givers =
        let same = same_last parts orderly c d h j (a ∙ givers ∙ sym b) in
        chain_from parts orderly.well_placed c d (inl h) (inl j)
        (source_cell parts orderly c.source d.source h.first h.starts (subst (λ x. StartsAs parts d.source x) (sym same.1) j.starts) (path_start parts h.first h.last c.links h.path))
    by (inl (h, a)) (inr (j, b, t)) givers =
        absurd (no_link parts j.from j.is_from (subst (λ x. IsLink parts x) (a ∙ givers ∙ sym b) (path_stop parts h.first h.last c.links h.path)))
    by (inr (h, a, t)) (inl (j, b)) givers =
        absurd (no_link parts h.from h.is_from (subst (λ x. IsLink parts x) (b ∙ sym givers ∙ sym a) (path_stop parts j.first j.last d.links j.path)))
    by (inr (h, a, t)) (inr (j, b, u)) givers =
        chain_from parts orderly.well_placed c d (inr h) (inr j)
        (h.source ∙ ap (λ x. leaves x h.half) (a ∙ givers ∙ sym b) ∙ ap (λ x. leaves j.from x) (t ∙ half ∙ sym u) ∙ sym j.source)

-- the halves at which a chain starts
pub leaves_half : (parts : List Part) (chain : Chain) (s : ℕ) (half : Cell) (part : Part) → HasPart parts s part → IsChain parts chain → chain.source ≡ leaves s half
    → (half ≡ part.cell) ⊎ (half ≡ beside part.dir part.cell)
leaves_half parts chain s half part is_s (inl h) e =
    let starts : StartsAs parts (leaves s half) h.first = subst (λ x. StartsAs parts x h.first) e h.starts in
    ⊎_elim (λ own. inl own) (λ greater. inr greater.1) (covers_at parts s part half is_s starts.1.look.giver)
leaves_half parts chain s half part is_s (inr h) e =
    let sources : leaves h.from h.half ≡ leaves s half = sym h.source ∙ e in
    let splitters : h.from ≡ s = cc in
    let halves : h.half ≡ half = cc in
    ⊎_elim (λ own. inl own) (λ greater. inr greater.1)
    (covers_at parts s part half is_s (subst (λ x. IsAt parts x half) splitters (subst (λ x. IsAt parts h.from x) halves h.feeds.look.giver)))
