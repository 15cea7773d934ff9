-- In a clean layout each input and each half that hands on starts a chain, and each output ends one.
use Rattle.std.proofs.Common.{◌≡◌, ◌≢◌, ◌⊎◌, ℕ, zero, suc, ◌<◌, List, [], ◌∷◌, ◌++◌, length, Option, Some, None, refl, sym, ◌∙◌, ap, subst, inl, inr, ⊎_elim, arith}
use Rattle.std.specs.Option.{MatchOption}
use Rattle.std.proofs.lemmas.Option.{same_Some, none-some}
use Rattle.std.proofs.lemmas.List.{length_push}
use Rattle.bt_parts.specs.declared.part.Cell.{Cell}
use Rattle.bt_parts.specs.declared.part.Dir.{Dir}
use Rattle.bt_parts.specs.declared.part.Kind.{Kind}
use Rattle.bt_parts.specs.declared.part.Kind.TheVariants.{Belt, Entrance, Exit, Splitter}
use Rattle.bt_parts.specs.declared.part.Part.{Part}
use Rattle.bt_parts.specs.Cells.{Covers, step, opposite}
use Rattle.bt_parts.specs.Layouts.{HasPart, IsAt, IsWellPlaced}
use Rattle.bt_parts.proofs.Coverings.{splitter_cases, covers_cases}
use Rattle.bt_model.specs.Handing.{FeedsFrom, Feeds, Hands}
use Rattle.bt_model.specs.Chains.{IsSplitter, IsLink, LinksTo, Path, one, more, IsInput, IsOutput, begins, leaves, Sink, ends, enters, Chain, EndsAs, IsChain}
use Rattle.bt_model.specs.Clean.{IsOnRing}
use Rattle.bt_parts.proofs.Places.{one_there}
use Rattle.bt_model.proofs.HandLemmas.{one_handed}
use Rattle.bt_model.proofs.PathLemmas.{path_start, path_snoc, path_within, crowded}
use Rattle.bt_model.specs.Orderly.{Never, IsOrderly}
use Rattle.bt_model.specs.inner.Sight.{left, LooksToward, IsBeltFeeder}
use Rattle.bt_model.proofs.SightLemmas.{looker_found, looker_missed, dir_cases, not_left, not_right, not_opposite, left_not_opposite}
use Rattle.bt_model.proofs.HandLaws.{belt_giver, entrance_giver, three_seen, one_giver, output_hands_none, pair_enters, pair_leaves, front_fed}
use Rattle.bt_model.proofs.ChainLemmas.{no_link, path_stop}
use Rattle.bt_model.proofs.PathLemmas.{path_twice}

-- a part is on the cell, or none is
pub at_cases : (parts : List Part) (cell : Cell) → ((i : ℕ) × IsAt parts i cell) ⊎ ((i : ℕ) → IsAt parts i cell → ⊥)
at_cases [] cell = inr (λ i at. none-some at.part at.is_i)
at_cases (p ∷ parts) cell =
    ⊎_elim (λ cov. inl (0, record { part = p; is_i = refl; covers = cov }))
    (λ out. ⊎_elim
    (λ found. inl (suc found.0, record { part = found.1.part; is_i = found.1.is_i; covers = found.1.covers }))
    (λ none. inr (later p parts cell out none))
    (at_cases parts cell))
    (covers_cases p cell)
  where
    later : (p : Part) (parts : List Part) (cell : Cell) → (Covers p cell → ⊥) → ((i : ℕ) → IsAt parts i cell → ⊥) → (i : ℕ) → IsAt (p ∷ parts) i cell → ⊥
    later p parts cell out none zero at = out (subst (λ q. Covers q cell) (sym (same_Some p at.part at.is_i)) at.covers)
    later p parts cell out none (suc i) at = none i (record { part = at.part; is_i = at.is_i; covers = at.covers })

entrance_cases : (kind : Kind) → (kind ≡ Entrance) ⊎ (kind ≢ Entrance)
entrance_cases Belt = inr (λ e. cc)
entrance_cases Entrance = inl refl
entrance_cases Exit = inr (λ e. cc)
entrance_cases Splitter = inr (λ e. cc)

along_cases : (part : Part) (dir : Dir) → ((part.kind ≢ Entrance) × (part.dir ≡ dir)) ⊎ ((part.kind ≢ Entrance) × (part.dir ≡ dir) → ⊥)
along_cases part dir =
    ⊎_elim (λ under. inr (λ both. both.0 under))
    (λ above. ⊎_elim (λ e. inl (above, e))
    (λ other. inr (λ both. ⊎_elim (λ e. not_left dir (sym e ∙ both.1)) (λ more. ⊎_elim (λ e. not_right dir (sym e ∙ both.1)) (λ e. not_opposite dir (sym both.1 ∙ e)) more) other))
    (dir_cases dir part.dir))
    (entrance_cases part.kind)

-- a part looks in the direction at the cell, or none does
toward_cases : (parts : List Part) → IsWellPlaced parts → (cell : Cell) (dir : Dir)
    → (o : Option ℕ) × MatchOption o ((p : ℕ) → LooksToward parts cell dir p → ⊥) (LooksToward parts cell dir)
toward_cases parts placed cell dir =
    ⊎_elim
    (λ found.
    let there = step (opposite dir) cell in
    ⊎_elim
    (λ along. (Some found.0, looker_found parts cell there dir (opposite dir) found.0 found.1.part refl refl found.1.is_i found.1 along))
    (λ not. (
      None,
      looker_missed parts cell there dir (opposite dir) found.0 found.1.part refl refl found.1.is_i
          (λ q at. one_there parts placed found.0 q there found.1 at) not,
    ))
    (along_cases found.1.part dir))
    (λ none. (None, λ p toward. none p toward.giver))
    (at_cases parts (step (opposite dir) cell))

feeder_cases : (parts : List Part) → IsWellPlaced parts → (belt : Part)
    → (o : Option ℕ) × MatchOption o ((p : ℕ) → IsBeltFeeder parts belt p → ⊥) (IsBeltFeeder parts belt)
feeder_cases parts placed belt =
    by (toward_cases parts placed belt.cell belt.dir) (toward_cases parts placed belt.cell (left belt.dir)) (toward_cases parts placed belt.cell (opposite (left belt.dir)))
  where
    Seen : Dir → Type 0
    Seen dir = (o : Option ℕ) × MatchOption o ((p : ℕ) → LooksToward parts belt.cell dir p → ⊥) (LooksToward parts belt.cell dir)

    by : Seen belt.dir → Seen (left belt.dir) → Seen (opposite (left belt.dir))
        → (o : Option ℕ) × MatchOption o ((p : ℕ) → IsBeltFeeder parts belt p → ⊥) (IsBeltFeeder parts belt)
    by (Some p, some) l r = (Some p, (belt.dir, not_opposite belt.dir, some))
    by (None, none) (Some p, some) r = (Some p, (left belt.dir, left_not_opposite belt.dir, some))
    by (None, none) (None, none_left) (o, last) = (o, three_seen parts belt none none_left o last)

-- a part hands to the link, or none does
giver_of_kind : (parts : List Part) → IsOrderly parts → (i : ℕ) (part : Part) (kind : Kind) → HasPart parts i part → part.kind ≡ kind → kind ≢ Splitter
    → (o : Option ℕ) × MatchOption o ((p : ℕ) → Hands parts p i → ⊥) (λ p. Hands parts p i)
giver_of_kind parts orderly i part Belt is_i k link =
    let found = feeder_cases parts orderly.well_placed part in
    (found.0, belt_giver parts i part found.0 is_i k found.1)
giver_of_kind parts orderly i part Entrance is_i k link =
    let found = toward_cases parts orderly.well_placed part.cell part.dir in
    (found.0, entrance_giver parts i part found.0 is_i k found.1)
giver_of_kind parts orderly i part Exit is_i k link =
    let paired = orderly.paired i (part, is_i, inr k) in
    (Some paired.other, ⊎_elim (λ pair. let a = k in let b = pair_enters parts i paired.other part is_i pair in absurd (cc)) (λ pair. inl pair) paired.paired)
giver_of_kind parts orderly i part Splitter is_i k link = absurd (link refl)

pub giver_cases : (parts : List Part) → IsOrderly parts → (i : ℕ) → IsLink parts i → ((p : ℕ) × Hands parts p i) ⊎ ((p : ℕ) → Hands parts p i → ⊥)
giver_cases parts orderly i link = split (giver_of_kind parts orderly i link.0 link.0.kind link.1 refl link.2) where
  split : (o : Option ℕ) × MatchOption o ((p : ℕ) → Hands parts p i → ⊥) (λ p. Hands parts p i) → ((p : ℕ) × Hands parts p i) ⊎ ((p : ℕ) → Hands parts p i → ⊥)
  split (Some p, hands) = inl (p, hands)
  split (None, none) = inr none

-- the link is an output, or hands to a part
taker_of_kind : (parts : List Part) → IsOrderly parts → (i : ℕ) (part : Part) (kind : Kind) → HasPart parts i part → part.kind ≡ kind → kind ≢ Splitter
    → IsOutput parts i ⊎ ((j : ℕ) × Hands parts i j)
taker_of_kind parts orderly i part Entrance is_i k link =
    let paired = orderly.paired i (part, is_i, inl k) in
    inr (paired.other, ⊎_elim (λ pair. inl pair) (λ pair. let a = k in let b = pair_leaves parts paired.other i part is_i pair in absurd (cc)) paired.paired)
taker_of_kind parts orderly i part Belt is_i k link =
    ⊎_elim
    (λ found. inr (found.0, inr (part.cell, front_fed parts orderly i found.0 part.cell part is_i (record { part = part; is_i = is_i; covers = inl refl }) (λ e. let a = k in cc) found.1)))
    (λ none. inl (record { part = part; is_i = is_i; kind = inl k; clear = none }))
    (at_cases parts (step part.dir part.cell))
taker_of_kind parts orderly i part Exit is_i k link =
    ⊎_elim
    (λ found. inr (found.0, inr (part.cell, front_fed parts orderly i found.0 part.cell part is_i (record { part = part; is_i = is_i; covers = inl refl }) (λ e. let a = k in cc) found.1)))
    (λ none. inl (record { part = part; is_i = is_i; kind = inr k; clear = none }))
    (at_cases parts (step part.dir part.cell))
taker_of_kind parts orderly i part Splitter is_i k link = absurd (link refl)

taker_cases : (parts : List Part) → IsOrderly parts → (i : ℕ) → IsLink parts i → IsOutput parts i ⊎ ((j : ℕ) × Hands parts i j)
taker_cases parts orderly i link = taker_of_kind parts orderly i link.0 link.0.kind link.1 refl link.2

-- a part is a splitter or a link
pub part_cases : (parts : List Part) (i : ℕ) (part : Part) → HasPart parts i part → IsSplitter parts i ⊎ IsLink parts i
part_cases parts i part is_i = ⊎_elim (λ e. inl (part, is_i, e)) (λ n. inr (part, is_i, n)) (splitter_cases part.kind)

pub taker_part : (parts : List Part) (i j : ℕ) → Hands parts i j → (part : Part) × HasPart parts j part
taker_part parts i j (inl pair) = (pair.exit, pair.is_b)
taker_part parts i j (inr feeds) = (feeds.1.look.taker.part, feeds.1.look.taker.is_i)

pub giver_part : (parts : List Part) (i j : ℕ) → Hands parts i j → (part : Part) × HasPart parts i part
giver_part parts i j (inl pair) = (pair.entrance, pair.is_a)
giver_part parts i j (inr feeds) = (feeds.1.look.giver.part, feeds.1.look.giver.is_i)

-- a path from here ends somewhere
pub record IsRun (parts : List Part) (first : ℕ) : Type 0 where
  pub last : ℕ
  pub links : List ℕ
  pub path : Path parts first last links
  pub sink : Sink
  pub ends : EndsAs parts sink last

abbrev IsLong : List Part → ℕ → ℕ → Type 0
IsLong parts first n = (last : ℕ) × (links : List ℕ) × Path parts first last links × (length links ≡ suc n)

run_on : (parts : List Part) → IsOrderly parts → (first : ℕ) → IsLink parts first → (n : ℕ) → IsRun parts first ⊎ IsLong parts first n
run_on parts orderly first link zero = inr (first, first ∷ [], one first link, refl)
run_on parts orderly first link (suc n) =
    ⊎_elim (λ run. inl run)
    (λ long. ⊎_elim
    (λ output. inl (record { last = long.0; links = long.1; path = long.2; sink = ends long.0; ends = (refl, output) }))
    (λ next. let there = taker_part parts long.0 next.0 next.1 in
    ⊎_elim
    (λ splitter. inl (record { last = long.0; links = long.1; path = long.2; sink = enters next.0; ends = (splitter, next.1) }))
    (λ on. inr (
      next.0,
      long.1 ++ next.0 ∷ [],
      path_snoc parts first long.0 next.0 long.1 long.2 next.1 on,
      length_push long.1 next.0 ∙ (let e = long.3 in omega arith),
    ))
    (part_cases parts next.0 there.0 there.1))
    (taker_cases parts orderly long.0 (path_stop parts first long.0 long.1 long.2)))
    (run_on parts orderly first link n)

-- no path is longer than there are parts
pub no_long_path : (parts : List Part) → Never (IsOnRing parts) → (i last : ℕ) (links : List ℕ) → Path parts i last links → length parts < length links → ⊥
no_long_path parts no_ring i last links path many =
    let twice = crowded (length parts) links many (path_within parts i last links path) in
    no_ring _ (path_twice parts i last links path twice.0 twice.1 twice.2 twice.3 twice.4)

pub run_from : (parts : List Part) → IsOrderly parts → Never (IsOnRing parts) → (first : ℕ) → IsLink parts first → IsRun parts first
run_from parts orderly no_ring first link =
    ⊎_elim (λ run. run) (λ long. absurd (no_long_path parts no_ring first long.0 long.1 long.2 (let e = long.3 in omega arith)))
    (run_on parts orderly first link (length parts))

-- what ends a path hands to no link
pub none_past : (parts : List Part) → IsWellPlaced parts → (sink : Sink) (last : ℕ) → IsLink parts last → EndsAs parts sink last → (k : ℕ) → IsLink parts k → Hands parts last k → ⊥
none_past parts placed (ends i) last link h k on hands = output_hands_none parts i h.1 k (subst (λ x. Hands parts x k) h.0 hands)
none_past parts placed (enters s) last link h k on hands =
    no_link parts s h.0 (subst (λ x. IsLink parts x) (one_handed parts placed last k s link hands h.1) on)

pub input_no_splitter : (parts : List Part) (i : ℕ) (input : IsInput parts i) → input.part.kind ≢ Splitter
input_no_splitter parts i input e = ⊎_elim (λ k. let a = k in let b = e in cc) (λ k. let a = k in let b = e in cc) input.kind

pub input_link : (parts : List Part) (i : ℕ) → IsInput parts i → IsLink parts i
input_link parts i input = (input.part, input.is_i, λ e. ⊎_elim (λ k. let a = k in let b = e in cc) (λ k. let a = k in let b = e in cc) input.kind)

pub output_link : (parts : List Part) (i : ℕ) → IsOutput parts i → IsLink parts i
output_link parts i output = (output.part, output.is_i, λ e. ⊎_elim (λ k. let a = k in let b = e in cc) (λ k. let a = k in let b = e in cc) output.kind)

-- nothing hands to an input
pub input_unhanded : (parts : List Part) (i : ℕ) → IsInput parts i → (p : ℕ) → Hands parts p i → ⊥
input_unhanded parts i input p (inl pair) =
    ⊎_elim (λ k. let a = k in let b = pair_leaves parts p i input.part input.is_i pair in cc)
    (λ k. let a = k in let b = pair_leaves parts p i input.part input.is_i pair in cc) input.kind
input_unhanded parts i input p (inr feeds) = input.unfed p feeds

-- the chain that starts with an input
pub input_chain : (parts : List Part) → IsWellPlaced parts → (i last : ℕ) (cell : Cell) (links : List ℕ) (sink : Sink) → IsInput parts i → IsAt parts i cell
    → Path parts i last links → EndsAs parts sink last → IsChain parts (record { source = begins i cell; links = links; sink = sink })
input_chain parts placed i last cell links sink input at path h = inl (record {
  first = i;
  last = last;
  path = path;
  starts = (refl, input, at);
  ends = h;
  none_before = λ p link hands. input_unhanded parts i input p hands;
  none_after = none_past parts placed sink last (path_stop parts i last links path) h;
})

-- the chain that starts at a half that hands to a link
pub half_chain : (parts : List Part) → IsOrderly parts → (s first last : ℕ) (half : Cell) (links : List ℕ) (sink : Sink) → IsSplitter parts s → FeedsFrom parts s half first
    → Path parts first last links → EndsAs parts sink last → IsChain parts (record { source = leaves s half; links = links; sink = sink })
half_chain parts orderly s first last half links sink splitter feeds path h = inl (record {
  first = first;
  last = last;
  path = path;
  starts = (splitter, feeds);
  ends = h;
  none_before = λ p link hands.
      no_link parts s splitter (subst (λ x. IsLink parts x) (one_giver parts orderly p s first (path_start parts first last links path) hands (inr (half, feeds))) link);
  none_after = none_past parts orderly.well_placed sink last (path_stop parts first last links path) h;
})

pub empty_chain : (parts : List Part) (s t : ℕ) (half : Cell) → IsSplitter parts s → IsSplitter parts t → FeedsFrom parts s half t
    → IsChain parts (record { source = leaves s half; links = []; sink = enters t })
empty_chain parts s t half is_s is_t feeds = inr (record {
  from = s;
  half = half;
  to = t;
  is_from = is_s;
  is_to = is_t;
  feeds = feeds;
  source = refl;
  no_link = refl;
  sink = refl;
})

-- each input starts a chain
pub from_input : (parts : List Part) → IsOrderly parts → Never (IsOnRing parts) → (i : ℕ) → IsInput parts i
    → (chain : Chain) × (cell : Cell) × IsChain parts chain × (chain.source ≡ begins i cell)
from_input parts orderly no_ring i input =
    let run = run_from parts orderly no_ring i (input_link parts i input) in (
      record { source = begins i input.part.cell; links = run.links; sink = run.sink },
      input.part.cell,
      input_chain parts orderly.well_placed i run.last input.part.cell run.links run.sink input
          (record { part = input.part; is_i = input.is_i; covers = inl refl }) run.path run.ends,
      refl,
    )

-- a path to here starts somewhere
abbrev pub HasFront : List Part → ℕ → Type 0
HasFront parts last = (first : ℕ) × (links : List ℕ) × Path parts first last links × ((p : ℕ) → LinksTo parts p first → ⊥)

abbrev IsLongTo : List Part → ℕ → ℕ → Type 0
IsLongTo parts last n = (first : ℕ) × (links : List ℕ) × Path parts first last links × (length links ≡ suc n)

run_back : (parts : List Part) → IsOrderly parts → (last : ℕ) → IsLink parts last → (n : ℕ) → HasFront parts last ⊎ IsLongTo parts last n
run_back parts orderly last link zero = inr (last, last ∷ [], one last link, refl)
run_back parts orderly last link (suc n) =
    ⊎_elim (λ front. inl front)
    (λ long.
    let first_link : IsLink parts long.0 = path_start parts long.0 last long.1 long.2 in
    ⊎_elim
    (λ giver. let there = giver_part parts giver.0 long.0 giver.1 in
    ⊎_elim
    (λ splitter. inl (
      long.0,
      long.1,
      long.2,
      λ p links.
          no_link parts giver.0 splitter (subst (λ x. IsLink parts x) (one_giver parts orderly p giver.0 long.0 first_link links.2 giver.1) links.0),
    ))
    (λ on. inr (giver.0, giver.0 ∷ long.1, more giver.0 long.0 last long.1 on giver.1 long.2, ap suc long.3))
    (part_cases parts giver.0 there.0 there.1))
    (λ none. inl (long.0, long.1, long.2, λ p links. none p links.2))
    (giver_cases parts orderly long.0 first_link))
    (run_back parts orderly last link n)

pub front_of : (parts : List Part) → IsOrderly parts → Never (IsOnRing parts) → (last : ℕ) → IsLink parts last → HasFront parts last
front_of parts orderly no_ring last link =
    ⊎_elim (λ front. front) (λ long. absurd (no_long_path parts no_ring long.0 last long.1 long.2 (let e = long.3 in omega arith)))
    (run_back parts orderly last link (length parts))

input_kind : (part : Part) (kind : Kind) → part.kind ≡ kind → kind ≢ Splitter → kind ≢ Exit → (part.kind ≡ Belt) ⊎ (part.kind ≡ Entrance)
input_kind part Belt k link in' = inl k
input_kind part Entrance k link in' = inr k
input_kind part Exit k link in' = absurd (in' refl)
input_kind part Splitter k link in' = absurd (link refl)

-- a link to which nothing hands is an input
pub unhanded_input : (parts : List Part) → IsOrderly parts → (i : ℕ) → IsLink parts i → ((p : ℕ) → Hands parts p i → ⊥) → IsInput parts i
unhanded_input parts orderly i link none = record {
  part = link.0;
  is_i = link.1;
  kind = input_kind link.0 link.0.kind refl link.2 (λ e.
      let paired = orderly.paired i (link.0, link.1, inr e) in
      ⊎_elim (λ pair. let a = e in let b = pair_enters parts i paired.other link.0 link.1 pair in absurd (cc)) (λ pair. none paired.other (inl pair)) paired.paired);
  unfed = λ p feeds. none p (inr feeds);
}

-- what a splitter hands to, it feeds
pub splitter_feeds : (parts : List Part) (s q : ℕ) → IsSplitter parts s → Hands parts s q → Feeds parts s q
splitter_feeds parts s q splitter (inl pair) = absurd (let a = splitter.2 in let b = pair_enters parts s q splitter.0 splitter.1 pair in cc)
splitter_feeds parts s q splitter (inr feeds) = feeds

-- each output ends a chain
pub to_output : (parts : List Part) → IsOrderly parts → Never (IsOnRing parts) → (i : ℕ) → IsOutput parts i
    → (chain : Chain) × IsChain parts chain × (chain.sink ≡ ends i)
to_output parts orderly no_ring i output =
    let front = front_of parts orderly no_ring i (output_link parts i output) in
    let first_link : IsLink parts front.0 = path_start parts front.0 i front.1 front.2 in
    ⊎_elim
    (λ giver.
    let there = giver_part parts giver.0 front.0 giver.1 in
    ⊎_elim
    (λ splitter. let feeds = splitter_feeds parts giver.0 front.0 splitter giver.1 in (
      record { source = leaves giver.0 feeds.0; links = front.1; sink = ends i },
      half_chain parts orderly giver.0 front.0 i feeds.0 front.1 (ends i) splitter feeds.1 front.2 (refl, output),
      refl,
    ))
    (λ on. absurd (front.3 giver.0 (on, first_link, giver.1)))
    (part_cases parts giver.0 there.0 there.1))
    (λ none.
    let input = unhanded_input parts orderly front.0 first_link none in (
      record { source = begins front.0 input.part.cell; links = front.1; sink = ends i },
      input_chain parts orderly.well_placed front.0 i input.part.cell front.1 (ends i) input
          (record { part = input.part; is_i = input.is_i; covers = inl refl }) front.2 (refl, output),
      refl,
    ))
    (giver_cases parts orderly front.0 first_link)
