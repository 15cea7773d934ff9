-- A layout with rows and columns exchanged.
use Rattle.std.proofs.Common.{◌≡◌, inl, inr, ⊎_elim, ℕ, List, [], ◌∷◌, map, slice_get, Some, All, Contains, refl, sym, ◌∙◌, ap, subst}
use Rattle.std.proofs.lemmas.Option.{none-some}
use Rattle.bt_parts.specs.declared.part.Cell.{Cell}
use Rattle.bt_parts.specs.declared.part.Dir.{Dir}
use Rattle.bt_parts.specs.declared.part.Dir.TheVariants.{North, East, South, West}
use Rattle.bt_parts.specs.declared.part.Part.{Part}
use Rattle.bt_parts.specs.declared.part.Rect.{Rect}
use Rattle.bt_parts.specs.declared.part.Side.{Side}
use Rattle.bt_parts.specs.declared.part.Side.TheVariants.{Behind, Across, Ahead}
use Rattle.bt_parts.specs.Cells.{step, steps, opposite, beside, Covers, IsInside}
use Rattle.bt_parts.specs.Handing.{ComesFrom}
use Rattle.bt_parts.specs.Layouts.{HasPart, IsAt, IsPieceOn, Pairs, ArePaired}
use Rattle.bt_net.specs.declared.network.Edge.{Edge}
use Rattle.bt_net.specs.declared.network.Start.{Start}
use Rattle.bt_net.specs.declared.network.Start.TheVariants as from
use Rattle.bt_net.specs.Network.{Network}
use Rattle.bt_model.specs.Handing.{LooksFrom, FeedsFrom, Feeds, Hands}
use Rattle.bt_model.specs.Chains.{IsSplitter, IsLink, Path, one, more, IsInput, IsOutput, Source, begins, leaves, Sink, ends, enters, Chain, StartsAs, EndsAs, IsChain}
use Rattle.bt_model.specs.Clean.{IsPaired, HasTwoFeeders, IsSideLoaded, IsBlocked, IsOnRing, IsClean}
use Rattle.bt_model.specs.Speeds.{HasOneTier, IsCapOf}
use Rattle.bt_model.specs.Shown.{Naming, IsNaming, IsStartOf, IsEdgeOf, Shows}
use Rattle.bt_model.specs.Laying.{Fits, KeepsDemand}
use Rattle.bt_model.specs.Requests.{LayoutRequest}
use Rattle.bt_model.specs.Extending.{AsksNothing, in_rect, exchanged, ExtendsExchanged}
use Rattle.bt_model.proofs.Lists.{has_map, contains_at, all_at, all_of, each_map, each_same, zip_map}

-- a direction, a cell and a part where rows and columns are exchanged
abbrev dir_ex : Dir → Dir
dir_ex North = West
dir_ex East = South
dir_ex South = East
dir_ex West = North

abbrev cell_ex : Cell → Cell
cell_ex c = record { x = c.y; y = c.x }

abbrev part_ex : Part → Part
part_ex p = record { kind = p.kind; tier = p.tier; dir = dir_ex p.dir; cell = cell_ex p.cell }

abbrev parts_ex : List Part → List Part
parts_ex parts = map part_ex parts

-- to exchange them twice changes nothing
dir_twice : (d : Dir) → dir_ex (dir_ex d) ≡ d
dir_twice North = refl
dir_twice East = refl
dir_twice South = refl
dir_twice West = refl

part_twice : (p : Part) → part_ex (part_ex p) ≡ p
part_twice p = ap (λ d. record { kind = p.kind; tier = p.tier; dir = d; cell = p.cell }) (dir_twice p.dir)

parts_twice : (parts : List Part) → parts_ex (parts_ex parts) ≡ parts
parts_twice [] = refl
parts_twice (p ∷ parts) = ap (λ q. q ∷ parts_ex (parts_ex parts)) (part_twice p) ∙ ap (λ qs. p ∷ qs) (parts_twice parts)

one_dir : (d e : Dir) → dir_ex d ≡ dir_ex e → d ≡ e
one_dir d e same = sym (dir_twice d) ∙ ap dir_ex same ∙ dir_twice e

steps_ex : (n : ℕ) (d : Dir) (c : Cell) → steps n (dir_ex d) (cell_ex c) ≡ cell_ex (steps n d c)
steps_ex n North c = refl
steps_ex n East c = refl
steps_ex n South c = refl
steps_ex n West c = refl

opposite_ex : (d : Dir) → opposite (dir_ex d) ≡ dir_ex (opposite d)
opposite_ex North = refl
opposite_ex East = refl
opposite_ex South = refl
opposite_ex West = refl

beside_ex : (d : Dir) (c : Cell) → beside (dir_ex d) (cell_ex c) ≡ cell_ex (beside d c)
beside_ex North c = refl
beside_ex East c = refl
beside_ex South c = refl
beside_ex West c = refl

covers_ex : (p : Part) (c : Cell) → Covers p c → Covers (part_ex p) (cell_ex c)
covers_ex p c (inl own) = inl (ap cell_ex own)
covers_ex p c (inr half) = inr (half.0, ap cell_ex half.1 ∙ sym (beside_ex p.dir p.cell))

comes_ex : (d e : Dir) (side : Side) → ComesFrom d e side → ComesFrom (dir_ex d) (dir_ex e) side
comes_ex d e Behind h = ap dir_ex h
comes_ex d e Across h = (λ same. h.0 (one_dir d e same), λ same. h.1 (one_dir d (opposite e) (same ∙ opposite_ex e)))
comes_ex d e Ahead h = ap dir_ex h ∙ sym (opposite_ex e)

-- what is so of parts is so of them where rows and columns are exchanged
has_ex : (parts : List Part) (i : ℕ) (p : Part) → HasPart parts i p → HasPart (parts_ex parts) i (part_ex p)
has_ex parts i p h = has_map part_ex parts i p h

abbrev at_ex : (parts : List Part) (i : ℕ) (c : Cell) → IsAt parts i c → IsAt (parts_ex parts) i (cell_ex c)
at_ex parts i c at = record { part = part_ex at.part; is_i = has_ex parts i at.part at.is_i; covers = covers_ex at.part c at.covers }

-- and the other way
at_back : (parts : List Part) (i : ℕ) (c : Cell) → IsAt (parts_ex parts) i c → IsAt parts i (cell_ex c)
at_back parts i c at = subst (λ all. IsAt all i (cell_ex c)) (parts_twice parts) (at_ex (parts_ex parts) i c at)

has_back : (parts : List Part) (i : ℕ) (p : Part) → HasPart (parts_ex parts) i p → HasPart parts i (part_ex p)
has_back parts i p h = subst (λ all. HasPart all i (part_ex p)) (parts_twice parts) (has_ex (parts_ex parts) i p h)

abbrev taker_ex : (parts : List Part) (d : Dir) (half : Cell) (q : ℕ) → (at : IsAt parts q (step d half))
    → (there : IsAt (parts_ex parts) q (step (dir_ex d) (cell_ex half))) × (there.part ≡ part_ex at.part)
taker_ex parts d half q at = (
  record {
    part = part_ex at.part;
    is_i = has_ex parts q at.part at.is_i;
    covers = subst (λ c. Covers (part_ex at.part) c) (sym (steps_ex 1 d half)) (covers_ex at.part (step d half) at.covers);
  },
  refl,
)

abbrev looks_ex : (parts : List Part) (p : ℕ) (half : Cell) (q : ℕ) (side : Side) → (look : LooksFrom parts p half q side)
    → LooksFrom (parts_ex parts) p (cell_ex half) q side
looks_ex parts p half q side look = record {
  giver = at_ex parts p half look.giver;
  no_entrance = look.no_entrance;
  taker = (taker_ex parts look.giver.part.dir half q look.taker).0;
  comes = comes_ex look.giver.part.dir look.taker.part.dir side look.comes;
}

feeds_ex : (parts : List Part) (p : ℕ) (half : Cell) (q : ℕ) → FeedsFrom parts p half q → FeedsFrom (parts_ex parts) p (cell_ex half) q
feeds_ex parts p half q feeds = record { side = feeds.side; look = looks_ex parts p half q feeds.side feeds.look; takes = feeds.takes }

piece_ex : (p e : Part) → IsPieceOn (part_ex e).tier (part_ex e).dir (part_ex p) → IsPieceOn e.tier e.dir p
piece_ex p e h = (
  h.0,
  h.1,
  ⊎_elim (λ same. inl (one_dir p.dir e.dir same)) (λ against. inr (one_dir p.dir (opposite e.dir) (against ∙ opposite_ex e.dir))) h.2,
)

pairs_ex : (parts : List Part) (a b : ℕ) → Pairs parts a b → Pairs (parts_ex parts) a b
pairs_ex parts a b p = record {
  entrance = part_ex p.entrance;
  is_a = has_ex parts a p.entrance p.is_a;
  enters = p.enters;
  exit = part_ex p.exit;
  is_b = has_ex parts b p.exit p.is_b;
  leaves = p.leaves;
  same_tier = p.same_tier;
  same_dir = ap dir_ex p.same_dir;
  distance = p.distance;
  apart = p.apart;
  within = p.within;
  ahead = ap cell_ex p.ahead ∙ sym (steps_ex p.distance p.entrance.dir p.entrance.cell);
  none_between = λ d i part some near is_i covers piece.
      p.none_between d i (part_ex part) some near (has_back parts i part is_i)
      (covers_ex part (cell_ex (steps d p.entrance.dir p.entrance.cell))
      (subst (λ c. Covers part c) (steps_ex d p.entrance.dir p.entrance.cell) covers))
      (piece_ex (part_ex part) p.entrance (subst (λ q. IsPieceOn p.entrance.tier (dir_ex p.entrance.dir) q) (sym (part_twice part)) piece));
}

paired_ex : (parts : List Part) (i j : ℕ) → ArePaired parts i j → ArePaired (parts_ex parts) i j
paired_ex parts i j (inl p) = inl (pairs_ex parts i j p)
paired_ex parts i j (inr p) = inr (pairs_ex parts j i p)

all_feeds_ex : (parts : List Part) (p q : ℕ) → Feeds parts p q → Feeds (parts_ex parts) p q
all_feeds_ex parts p q feeds = (cell_ex feeds.0, feeds_ex parts p feeds.0 q feeds.1)

hands_ex : (parts : List Part) (p q : ℕ) → Hands parts p q → Hands (parts_ex parts) p q
hands_ex parts p q (inl pair) = inl (pairs_ex parts p q pair)
hands_ex parts p q (inr feeds) = inr (all_feeds_ex parts p q feeds)

link_ex : (parts : List Part) (i : ℕ) → IsLink parts i → IsLink (parts_ex parts) i
link_ex parts i link = (part_ex link.0, has_ex parts i link.0 link.1, link.2)

splitter_ex : (parts : List Part) (i : ℕ) → IsSplitter parts i → IsSplitter (parts_ex parts) i
splitter_ex parts i splitter = (part_ex splitter.0, has_ex parts i splitter.0 splitter.1, splitter.2)

path_ex : (parts : List Part) (i last : ℕ) (links : List ℕ) → Path parts i last links → Path (parts_ex parts) i last links
path_ex parts i last links (one j link) = one j (link_ex parts j link)
path_ex parts i last links (more j k l rest link hands path) =
    more j k l rest (link_ex parts j link) (hands_ex parts j k hands) (path_ex parts k l rest path)

hands_back : (parts : List Part) (p q : ℕ) → Hands (parts_ex parts) p q → Hands parts p q
hands_back parts p q h = subst (λ all. Hands all p q) (parts_twice parts) (hands_ex (parts_ex parts) p q h)

link_back : (parts : List Part) (i : ℕ) → IsLink (parts_ex parts) i → IsLink parts i
link_back parts i h = subst (λ all. IsLink all i) (parts_twice parts) (link_ex (parts_ex parts) i h)

feeds_back : (parts : List Part) (p q : ℕ) → Feeds (parts_ex parts) p q → Feeds parts p q
feeds_back parts p q h = subst (λ all. Feeds all p q) (parts_twice parts) (all_feeds_ex (parts_ex parts) p q h)

input_ex : (parts : List Part) (i : ℕ) → IsInput parts i → IsInput (parts_ex parts) i
input_ex parts i h = record {
  part = part_ex h.part;
  is_i = has_ex parts i h.part h.is_i;
  kind = h.kind;
  unfed = λ p feeds. h.unfed p (feeds_back parts p i feeds);
}

output_ex : (parts : List Part) (i : ℕ) → IsOutput parts i → IsOutput (parts_ex parts) i
output_ex parts i h = record {
  part = part_ex h.part;
  is_i = has_ex parts i h.part h.is_i;
  kind = h.kind;
  clear = λ q at. h.clear q (at_back parts q (cell_ex (step h.part.dir h.part.cell))
      (subst (λ c. IsAt (parts_ex parts) q c) (steps_ex 1 h.part.dir h.part.cell) at));
}

-- a clean layout is clean
two_ex : (parts : List Part) (i : ℕ) → HasTwoFeeders parts i → HasTwoFeeders (parts_ex parts) i
two_ex parts i h = record {
  belt = part_ex h.belt;
  is_i = has_ex parts i h.belt h.is_i;
  kind = h.kind;
  one = h.one;
  two = h.two;
  apart = h.apart;
  one_feeds = all_feeds_ex parts h.one i h.one_feeds;
  two_feeds = all_feeds_ex parts h.two i h.two_feeds;
}

side_loaded_ex : (parts : List Part) (i : ℕ) → IsSideLoaded parts i → IsSideLoaded (parts_ex parts) i
side_loaded_ex parts i (inl two) = inl (two_ex parts i two)
side_loaded_ex parts i (inr seen) = inr (record {
  giver = seen.giver;
  half = cell_ex seen.half;
  look = looks_ex parts seen.giver seen.half i Across seen.look;
  underground = seen.underground;
})

blocked_ex : (parts : List Part) (i : ℕ) → IsBlocked parts i → IsBlocked (parts_ex parts) i
blocked_ex parts i h = (
  cell_ex h.0,
  record {
    taker = h.1.taker;
    side = h.1.side;
    look = looks_ex parts i h.0 h.1.taker h.1.side h.1.look;
    blocked = h.1.blocked;
  },
)

ring_ex : (parts : List Part) (i : ℕ) → IsOnRing parts i → IsOnRing (parts_ex parts) i
ring_ex parts i h = record {
  last = h.last;
  links = h.links;
  path = path_ex parts i h.last h.links h.path;
  closed = hands_ex parts h.last i h.closed;
}

is_paired_ex : (parts : List Part) (i : ℕ) → IsPaired parts i → IsPaired (parts_ex parts) i
is_paired_ex parts i h = record {
  other = h.other;
  paired = paired_ex parts i h.other h.paired;
  no_other = λ j both. h.no_other j (subst (λ all. ArePaired all i j) (parts_twice parts) (paired_ex (parts_ex parts) i j both));
}

clean_ex : (parts : List Part) → IsClean parts → IsClean (parts_ex parts)
clean_ex parts clean = record {
  well_placed = λ i j lt share. clean.well_placed i j lt (cell_ex share.0, at_back parts i share.0 share.1, at_back parts j share.0 share.2);
  paired = λ i piece. is_paired_ex parts i (clean.paired i (part_ex piece.0, has_back parts i piece.0 piece.1, piece.2));
  no_side_load = λ i h. clean.no_side_load i (subst (λ all. IsSideLoaded all i) (parts_twice parts) (side_loaded_ex (parts_ex parts) i h));
  no_blocked = λ i h. clean.no_blocked i (subst (λ all. IsBlocked all i) (parts_twice parts) (blocked_ex (parts_ex parts) i h));
  no_ring = λ i h. clean.no_ring i (subst (λ all. IsOnRing all i) (parts_twice parts) (ring_ex (parts_ex parts) i h));
}

-- its chains
abbrev source_ex : Source → Source
source_ex (begins i cell) = begins i (cell_ex cell)
source_ex (leaves s half) = leaves s (cell_ex half)

abbrev chain_ex : Chain → Chain
chain_ex c = record { source = source_ex c.source; links = c.links; sink = c.sink }

source_twice : (s : Source) → source_ex (source_ex s) ≡ s
source_twice (begins i cell) = refl
source_twice (leaves s half) = refl

chain_twice : (c : Chain) → chain_ex (chain_ex c) ≡ c
chain_twice c = ap (λ s. record { source = s; links = c.links; sink = c.sink }) (source_twice c.source)

starts_ex : (parts : List Part) (source : Source) (first : ℕ) → StartsAs parts source first → StartsAs (parts_ex parts) (source_ex source) first
starts_ex parts (begins i cell) first h = (h.0, input_ex parts i h.1, at_ex parts i cell h.2)
starts_ex parts (leaves s half) first h = (splitter_ex parts s h.0, feeds_ex parts s half first h.1)

ends_ex : (parts : List Part) (sink : Sink) (last : ℕ) → EndsAs parts sink last → EndsAs (parts_ex parts) sink last
ends_ex parts (ends i) last h = (h.0, output_ex parts i h.1)
ends_ex parts (enters s) last h = (splitter_ex parts s h.0, hands_ex parts last s h.1)

is_chain_ex : (parts : List Part) (c : Chain) → IsChain parts c → IsChain (parts_ex parts) (chain_ex c)
is_chain_ex parts c (inl h) = inl (record {
  first = h.first;
  last = h.last;
  path = path_ex parts h.first h.last c.links h.path;
  starts = starts_ex parts c.source h.first h.starts;
  ends = ends_ex parts c.sink h.last h.ends;
  none_before = λ i link hands. h.none_before i (link_back parts i link) (hands_back parts i h.first hands);
  none_after = λ i link hands. h.none_after i (link_back parts i link) (hands_back parts h.last i hands);
})
is_chain_ex parts c (inr h) = inr (record {
  from = h.from;
  half = cell_ex h.half;
  to = h.to;
  is_from = splitter_ex parts h.from h.is_from;
  is_to = splitter_ex parts h.to h.is_to;
  feeds = feeds_ex parts h.from h.half h.to h.feeds;
  source = ap source_ex h.source;
  no_link = h.no_link;
  sink = h.sink;
})

chain_back : (parts : List Part) (c : Chain) → IsChain (parts_ex parts) c → IsChain parts (chain_ex c)
chain_back parts c h = subst (λ all. IsChain all (chain_ex c)) (parts_twice parts) (is_chain_ex (parts_ex parts) c h)

tier_ex : (parts : List Part) → HasOneTier parts → HasOneTier (parts_ex parts)
tier_ex parts all = (all.0, all_of (λ part. part.tier ≡ all.0) (parts_ex parts) (λ k p h. all_at (λ part. part.tier ≡ all.0) parts k (part_ex p) (has_back parts k p h) all.1))

-- of parts of one tier each cap is 1
pub cap_of_one : (parts others : List Part) (c d : Chain) (n : ℕ) → HasOneTier parts → HasOneTier others → IsCapOf parts c n → IsCapOf others d n
cap_of_one parts others c d n all same (inl h) = inl (same, h.1)
cap_of_one parts others c d n all same (inr h) = absurd (h.0 all)

start_ex : (naming : Naming) (source : Source) (start : Start) → IsStartOf naming source start → IsStartOf naming (source_ex source) start
start_ex naming (begins i cell) (from.Input k) h = h
start_ex naming (begins i cell) (from.Split k) h = absurd h
start_ex naming (leaves s half) (from.Input k) h = absurd h
start_ex naming (leaves s half) (from.Split k) h = h

edge_ex : (parts : List Part) (naming : Naming) (c : Chain) (edge : Edge) → HasOneTier parts → IsEdgeOf parts naming c edge → IsEdgeOf (parts_ex parts) naming (chain_ex c) edge
edge_ex parts naming c edge all h = record {
  start = start_ex naming c.source edge.start h.start;
  target = h.target;
  cap = cap_of_one parts (parts_ex parts) c (chain_ex c) edge.cap all (tier_ex parts all) h.cap;
}

splitter_back : (parts : List Part) (i : ℕ) → IsSplitter (parts_ex parts) i → IsSplitter parts i
splitter_back parts i h = subst (λ all. IsSplitter all i) (parts_twice parts) (splitter_ex (parts_ex parts) i h)

input_back : (parts : List Part) (i : ℕ) → IsInput (parts_ex parts) i → IsInput parts i
input_back parts i h = subst (λ all. IsInput all i) (parts_twice parts) (input_ex (parts_ex parts) i h)

output_back : (parts : List Part) (i : ℕ) → IsOutput (parts_ex parts) i → IsOutput parts i
output_back parts i h = subst (λ all. IsOutput all i) (parts_twice parts) (output_ex (parts_ex parts) i h)

naming_ex : (parts : List Part) (net : Network) (naming : Naming) → IsNaming parts net naming → IsNaming (parts_ex parts) net naming
naming_ex parts net naming h = record {
  splitters = each_same (IsSplitter parts) (IsSplitter (parts_ex parts)) naming.splitters h.splitters (splitter_back parts) (splitter_ex parts);
  inputs = each_same (IsInput parts) (IsInput (parts_ex parts)) naming.inputs h.inputs (input_back parts) (input_ex parts);
  outputs = each_same (IsOutput parts) (IsOutput (parts_ex parts)) naming.outputs h.outputs (output_back parts) (output_ex parts);
  splitter_count = h.splitter_count;
  input_count = h.input_count;
  output_count = h.output_count;
}

shows_ex : (parts : List Part) (net : Network) (naming : Naming) → HasOneTier parts → Shows parts net naming → Shows (parts_ex parts) net naming
shows_ex parts net naming all h = record {
  clean = clean_ex parts h.clean;
  names = naming_ex parts net naming h.names;
  chains = map chain_ex h.chains;
  each_once = each_map (IsChain parts) (IsChain (parts_ex parts)) chain_ex h.chains h.each_once
      (λ c is. (chain_ex c, chain_back parts c is, sym (chain_twice c)))
      (is_chain_ex parts)
      (λ c d is_c is_d same. sym (chain_twice c) ∙ ap chain_ex same ∙ chain_twice d);
  edges = h.edges;
  named = zip_map (IsEdgeOf parts naming) (IsEdgeOf (parts_ex parts) naming) chain_ex h.chains h.edges h.named
      (λ c edge in' is. edge_ex parts naming c edge all is);
  same = h.same;
}

-- where there is none, what is said of each is so
pub no_block : {X : Type 0} (xs : List X) → xs ≡ [] → (x : X) → Contains xs x → ⊥
no_block xs none x c =
    let at = contains_at xs x c in
    none-some x (subst (λ ys. slice_get ys at.0 ≡ Some x) none at.1)

pub no_demand : {X : Type 0} (P : X → Type 0) (xs : List X) → xs ≡ [] → All P xs
no_demand P xs none = all_of P xs (λ k x h. absurd (none-some x (subst (λ ys. slice_get ys k ≡ Some x) none h)))

-- the exchanged parts fit into the exchanged rectangle
inside_ex : (rect : Rect) (c : Cell) → IsInside (exchanged rect) c → IsInside rect (cell_ex c)
inside_ex rect c h = (h.2, h.3, h.0, h.1)

fits_ex : (parts : List Part) (r : LayoutRequest) → AsksNothing r → Fits parts r → Fits (parts_ex parts) (in_rect (exchanged r.rect) r)
fits_ex parts r none fits = record {
  inside = λ i c at. inside_ex (exchanged r.rect) (cell_ex c) (fits.inside i (cell_ex c) (at_back parts i c at));
  unblocked = λ i block in' at. no_block r.blocks none.blocks block in';
  one_tier = all_of (λ part. part.tier ≡ r.tier) (parts_ex parts) (λ k p h. all_at (λ part. part.tier ≡ r.tier) parts k (part_ex p) (has_back parts k p h) fits.one_tier);
  inputs = λ i p input is_i in'. fits.inputs i (part_ex p) (input_back parts i input) (has_back parts i p is_i)
      (subst (λ c. IsInside r.rect c) (back_of p) (inside_ex r.rect (step (opposite p.dir) p.cell) in'));
  outputs = λ i p output is_i in'. fits.outputs i (part_ex p) (output_back parts i output) (has_back parts i p is_i)
      (subst (λ c. IsInside r.rect c) (sym (steps_ex 1 p.dir p.cell)) (inside_ex r.rect (step p.dir p.cell) in'));
}
  where
    back_of : (p : Part) → cell_ex (step (opposite p.dir) p.cell) ≡ step (opposite (dir_ex p.dir)) (cell_ex p.cell)
    back_of p = sym (steps_ex 1 (opposite p.dir) p.cell) ∙ ap (λ d. step d (cell_ex p.cell)) (sym (opposite_ex p.dir))

pub has_exchanged : ExtendsExchanged
has_exchanged r none laid = (
  parts_ex laid.0,
  record {
    fits = fits_ex laid.0 r none laid.1.fits;
    naming = laid.1.naming;
    shows = shows_ex laid.0 r.net laid.1.naming (r.tier, laid.1.fits.one_tier) laid.1.shows;
    demands = no_demand (KeepsDemand (parts_ex laid.0) (in_rect (exchanged r.rect) r) laid.1.naming) r.demands none.demands;
  },
)
