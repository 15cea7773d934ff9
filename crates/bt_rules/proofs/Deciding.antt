-- It can be told of each fact whether a layout says so.
use Rattle.std.proofs.Common.{◌≡◌, ◌≢◌, ◌⊎◌, inl, inr, ℕ, List, [], ◌∷◌, length, Some, refl, sym, ◌∙◌, ap, subst, ⊎_elim, arith}
use Rattle.std.specs.List.{slice_get}
use Rattle.std.proofs.lemmas.Bool.{cases_eq}
use Rattle.std.proofs.lemmas.Int.{ints}
use Rattle.std.proofs.lemmas.Option.{same_Some, slice_get_within}
use Rattle.bt_parts.specs.declared.part.Cell.{Cell}
use Rattle.bt_parts.specs.declared.part.Dir.{Dir}
use Rattle.bt_parts.specs.declared.part.Dir.TheVariants.{North, East, South, West}
use Rattle.bt_parts.specs.declared.part.Kind.{Kind}
use Rattle.bt_parts.specs.declared.part.Kind.TheVariants as kind
use Rattle.bt_parts.specs.declared.part.Part.{Part}
use Rattle.bt_parts.specs.Cells.{Covers, step, steps}
use Rattle.bt_parts.specs.Layouts.{HasPart, IsAt, IsWellPlaced, Pairs}
use Rattle.bt_parts.proofs.Places.{same_part, one_there, covers_at, own_cell}
use Rattle.bt_model.specs.Chains.{IsSplitter, IsInput, Source, begins, leaves, Sink, ends, enters}
use Rattle.bt_model.specs.Shown.{Naming, ListsEach}
use Rattle.bt_model.specs.Orderly.{IsOrderly}
use Rattle.bt_model.proofs.HandLemmas.{entrance_paired, one_handed}
use Rattle.bt_model.proofs.ExistLemmas.{at_cases, giver_cases, unhanded_input, input_link, input_unhanded, part_cases}
use Rattle.bt_model.proofs.HandLaws.{front_fed}
use Rattle.bt_model.proofs.ChainLemmas.{no_link}
use Rattle.bt_facts.specs.declared.fact.Half.TheVariants.{Lesser, Greater}
use Rattle.bt_facts.specs.declared.fact.Shape.{Shape}
use Rattle.bt_facts.specs.declared.fact.Shape.TheVariants as shape
use Rattle.bt_facts.proofs.Decided.{Decided, both, moved, same_cell, same_dir, listed, contains_at, some_below}
use Rattle.bt_rules.specs.Kept.{kind_of}
use Rattle.bt_rules.proofs.Reading.{cell_of, Stands, GoesOn, Splits, NamedAt, last_link, ComesFromCell, Runs, Reaches}

-- ---- equations

pub same_kind : (a b : Kind) → Decided (a ≡ b)
same_kind kind.Belt kind.Belt = inl refl
same_kind kind.Entrance kind.Entrance = inl refl
same_kind kind.Exit kind.Exit = inl refl
same_kind kind.Splitter kind.Splitter = inl refl
same_kind a b = inr (λ e. cc)

no_entrance : (k : Kind) → Decided (k ≢ kind.Entrance)
no_entrance kind.Belt = inl (λ e. cc)
no_entrance kind.Entrance = inr (λ n. n refl)
no_entrance kind.Exit = inl (λ e. cc)
no_entrance kind.Splitter = inl (λ e. cc)

pub same_source : (s : ℕ) (c : Cell) (source : Source) → Decided (source ≡ leaves s c)
same_source s c (begins i cell) = inr (λ e. cc)
same_source s c (leaves i cell) = moved (λ h. ap (λ x. leaves x cell) h.0 ∙ ap (leaves s) h.1) (λ e. ((cc), (cc))) (both (cases_eq i s) (same_cell cell c))

pub same_sink : (s : ℕ) (sink : Sink) → Decided (sink ≡ enters s)
same_sink s (ends i) = inr (λ e. cc)
same_sink s (enters i) = moved (ap enters) (λ e. cc) (cases_eq i s)

-- ---- parts

module _ (parts : List Part) (orderly : IsOrderly parts) where
  pub at_decided : (i : ℕ) (c : Cell) → Decided (IsAt parts i c)
  at_decided i c = by (at_cases parts c)
    where
      by : ((j : ℕ) × IsAt parts j c) ⊎ ((j : ℕ) → IsAt parts j c → ⊥) → Decided (IsAt parts i c)
      by (inl found) =
          moved (λ e. subst (λ j. IsAt parts j c) e found.1) (λ at. one_there parts orderly.well_placed found.0 i c found.1 at) (cases_eq found.0 i)
      by (inr none) = inr (none i)

  -- the part that stands covers the cell
  pub stands_at : (c : Cell) (of : Shape) (dir : Dir) → (s : Stands parts c of dir) → IsAt parts s.index c
  stands_at c of dir s = record { part = s.part; is_i = s.is_part; covers = by of s.kind s.cell }
    where
      by : (of : Shape) → s.part.kind ≡ kind_of of → c ≡ cell_of of s.part → Covers s.part c
      by shape.Belt k e = inl e
      by shape.Entrance k e = inl e
      by shape.Exit k e = inl e
      by (shape.Half Lesser) k e = inl e
      by (shape.Half Greater) k e = inr (k, e)

  pub stands_decided : (c : Cell) (of : Shape) (dir : Dir) → Decided (Stands parts c of dir)
  stands_decided c of dir = by (at_cases parts c)
    where
      by : ((j : ℕ) × IsAt parts j c) ⊎ ((j : ℕ) → IsAt parts j c → ⊥) → Decided (Stands parts c of dir)
      by (inl found) =
          let part = found.1.part in
          moved
          (λ h. record { index = found.0; part = part; is_part = found.1.is_i; kind = h.0; turned = h.1.0; cell = h.1.1 })
          (λ s.
          let index : s.index ≡ found.0 = one_there parts orderly.well_placed s.index found.0 c (stands_at c of dir s) found.1 in
          let same : s.part ≡ part = same_part parts found.0 s.part part (subst (λ j. HasPart parts j s.part) index s.is_part) found.1.is_i in (
            ap (λ p. p.kind) (sym same) ∙ s.kind,
            (ap (λ p. p.dir) (sym same) ∙ s.turned, s.cell ∙ ap (cell_of of) same),
          ))
          (both (same_kind part.kind (kind_of of)) (both (same_dir part.dir dir) (same_cell c (cell_of of part))))
      by (inr none) = inr (λ s. none s.index (stands_at c of dir s))

  pub goes_decided : (c : Cell) (dir : Dir) → Decided (GoesOn parts c dir)
  goes_decided c dir = by (at_cases parts c) (at_cases parts (step dir c))
    where
      by : ((j : ℕ) × IsAt parts j c) ⊎ ((j : ℕ) → IsAt parts j c → ⊥) → ((j : ℕ) × IsAt parts j (step dir c)) ⊎ ((j : ℕ) → IsAt parts j (step dir c) → ⊥)
          → Decided (GoesOn parts c dir)
      by (inr none) there = inr (λ g. none g.giver g.feeds.look.giver)
      by (inl found) (inr none) =
          inr (λ g. none g.taker (subst (λ d. IsAt parts g.taker (step d c)) g.along g.feeds.look.taker))
      by (inl found) (inl there) =
          let part = found.1.part in
          moved
          (λ h.
          let feeds = front_fed parts orderly found.0 there.0 c part found.1.is_i found.1 h.0
          (subst (λ d. IsAt parts there.0 (step d c)) (sym h.1) there.1) in
          record {
            giver = found.0;
            taker = there.0;
            feeds = feeds;
            along = ap (λ p. p.dir) (same_part parts found.0 feeds.look.giver.part part feeds.look.giver.is_i found.1.is_i) ∙ h.1;
          })
          (λ g.
          let index : g.giver ≡ found.0 = one_there parts orderly.well_placed g.giver found.0 c g.feeds.look.giver found.1 in
          let same : g.feeds.look.giver.part ≡ part = same_part parts found.0 g.feeds.look.giver.part part
          (subst (λ j. HasPart parts j g.feeds.look.giver.part) index g.feeds.look.giver.is_i) found.1.is_i in (
            (λ k. g.feeds.look.no_entrance (ap (λ p. p.kind) same ∙ k)),
            ap (λ p. p.dir) (sym same) ∙ g.along,
          ))
          (both (no_entrance part.kind) (same_dir part.dir dir))

  pub half_decided : (c : Cell) → Decided ((i : ℕ) × IsSplitter parts i × IsAt parts i c)
  half_decided c = by (at_cases parts c)
    where
      by : ((j : ℕ) × IsAt parts j c) ⊎ ((j : ℕ) → IsAt parts j c → ⊥) → Decided ((i : ℕ) × IsSplitter parts i × IsAt parts i c)
      by (inl found) = ⊎_elim (λ s. inl (found.0, s, found.1))
          (λ link. inr (λ h. no_link parts found.0 (subst (λ j. IsSplitter parts j) (one_there parts orderly.well_placed h.0 found.0 c h.2 found.1) h.1) link))
          (part_cases parts found.0 found.1.part found.1.is_i)
      by (inr none) = inr (λ h. none h.0 h.2)

  -- a part is an input, or it isn't
  input_decided : (i : ℕ) (part : Part) → HasPart parts i part → Decided (IsInput parts i)
  input_decided i part is_i = ⊎_elim
      (λ s. inr (λ input. no_link parts i s (input_link parts i input)))
      (λ link. ⊎_elim (λ giver. inr (λ input. input_unhanded parts i input giver.0 giver.1))
      (λ none. inl (unhanded_input parts orderly i link none)) (giver_cases parts orderly i link))
      (part_cases parts i part is_i)

  pub begins_decided : (c : Cell) → Decided ((i : ℕ) × IsInput parts i × IsAt parts i c)
  begins_decided c = by (at_cases parts c)
    where
      by : ((j : ℕ) × IsAt parts j c) ⊎ ((j : ℕ) → IsAt parts j c → ⊥) → Decided ((i : ℕ) × IsInput parts i × IsAt parts i c)
      by (inl found) = moved (λ input. (found.0, input, found.1))
          (λ h. subst (λ j. IsInput parts j) (one_there parts orderly.well_placed h.0 found.0 c h.2 found.1) h.1) (input_decided found.0 found.1.part found.1.is_i)
      by (inr none) = inr (λ h. none h.0 h.2)

  pub named_decided : (list : List ℕ) (k : ℕ) (c : Cell) → Decided (NamedAt parts list k c)
  named_decided list k c = by (listed list k)
    where
      by : ((i : ℕ) × (slice_get list k ≡ Some i)) ⊎ ((i : ℕ) → slice_get list k ≡ Some i → ⊥) → Decided (NamedAt parts list k c)
      by (inl found) = moved (λ at. record { index = found.0; named = found.1; at = at })
          (λ h. subst (λ i. IsAt parts i c) (same_Some h.index found.0 (sym h.named ∙ found.1)) h.at) (at_decided found.0 c)
      by (inr none) = inr (λ h. none h.index h.named)

  pub comes_decided : (source : Source) (links : List ℕ) (c : Cell) → Decided (ComesFromCell parts source links c)
  comes_decided (begins i cell) [] c = inr (λ h. let e = h.1 in cc)
  comes_decided (leaves s cell) [] c =
      moved (λ e. (s, ap (leaves s) e)) (λ h. let e = h.1 in cc) (same_cell cell c)
  comes_decided source (i ∷ links) c = at_decided (last_link i links) c

-- ---- pairs

steps_apart : (dir : Dir) (m n : ℕ) (c : Cell) → steps m dir c ≡ steps n dir c → m ≡ n
steps_apart North m n c e = let y = ap (λ d. d.y) e in omega (arith, ints, y)
steps_apart East m n c e = let x = ap (λ d. d.x) e in omega (arith, ints, x)
steps_apart South m n c e = let y = ap (λ d. d.y) e in omega (arith, ints, y)
steps_apart West m n c e = let x = ap (λ d. d.x) e in omega (arith, ints, x)

-- the pairs of one entrance are of one distance
pub same_pair : (parts : List Part) → IsWellPlaced parts → (a i b c : ℕ) → a ≡ i → (p : Pairs parts a b) (q : Pairs parts i c)
    → (p.entrance ≡ q.entrance) × (b ≡ c) × (p.distance ≡ q.distance)
same_pair parts placed a i b c e p q =
    let entrance : p.entrance ≡ q.entrance = same_part parts i p.entrance q.entrance (subst (λ j. HasPart parts j p.entrance) e p.is_a) q.is_a in
    let index : b ≡ c = one_handed parts placed i b c (q.entrance, q.is_a, λ s. let k = q.enters in cc) (inl (subst (λ j. Pairs parts j b) e p)) (inl q) in
    let exit : p.exit ≡ q.exit = same_part parts c p.exit q.exit (subst (λ j. HasPart parts j p.exit) index p.is_b) q.is_b in
    let ahead : steps p.distance q.entrance.dir q.entrance.cell ≡ steps q.distance q.entrance.dir q.entrance.cell =
    ap (λ g. steps p.distance g.dir g.cell) (sym entrance) ∙ sym p.ahead ∙ ap (λ g. g.cell) exit ∙ q.ahead in
    (entrance, index, steps_apart q.entrance.dir p.distance q.distance q.entrance.cell ahead)

module _ (parts : List Part) (orderly : IsOrderly parts) where
  -- an entrance has a pair
  pub pair_of : (i : ℕ) (part : Part) → HasPart parts i part → part.kind ≡ kind.Entrance → (j : ℕ) × Pairs parts i j
  pair_of i part is_i k =
      let paired = orderly.paired i (part, is_i, inl k) in
      (paired.other, entrance_paired parts i paired.other part is_i k paired.paired)

  pub reaches_decided : (c : Cell) (k : ℕ) → Decided (Reaches parts c k)
  reaches_decided c k = by (at_cases parts c)
    where
      own : (h : Reaches parts c k) → IsAt parts h.from c
      own h = record { part = h.pair.entrance; is_i = h.pair.is_a; covers = inl h.here }

      from : (i : ℕ) (here : IsAt parts i c) → Decided (here.part.kind ≡ kind.Entrance) → Decided (Reaches parts c k)
      from i at (inl e) =
          let pair = pair_of i at.part at.is_i e in
          moved
          (λ far. record {
            from = i;
            to = pair.0;
            pair = pair.1;
            here = own_cell pair.1.entrance c (λ s. let t = pair.1.enters in cc) (covers_at parts i pair.1.entrance c pair.1.is_a at);
            far = far;
          })
          (λ h.
          let index : h.from ≡ i = one_there parts orderly.well_placed h.from i c (own h) at in
          let same = same_pair parts orderly.well_placed h.from i h.to pair.0 index h.pair pair.1 in
          sym same.2 ∙ h.far)
          (cases_eq pair.1.distance k)
      from i at (inr n) = inr (λ h.
          let index : h.from ≡ i = one_there parts orderly.well_placed h.from i c (own h) at in
          n (ap (λ p. p.kind) (same_part parts i at.part h.pair.entrance at.is_i (subst (λ j. HasPart parts j h.pair.entrance) index h.pair.is_a)) ∙ h.pair.enters))

      by : ((j : ℕ) × IsAt parts j c) ⊎ ((j : ℕ) → IsAt parts j c → ⊥) → Decided (Reaches parts c k)
      by (inl found) = from found.0 found.1 (same_kind found.1.part.kind kind.Entrance)
      by (inr none) = inr (λ h. none h.from (own h))

  -- a tunnel from this part runs here
  abbrev RunsFrom : Cell → Dir → ℕ → Type 0
  RunsFrom c dir i = (r : Runs parts c dir) × (r.from ≡ i)

  runs_from : (c : Cell) (dir : Dir) (i : ℕ) → Decided (RunsFrom c dir i)
  runs_from c dir i = by (listed parts i)
    where
      here : (part : Part) → HasPart parts i part → Decided (part.kind ≡ kind.Entrance) → Decided (part.dir ≡ dir) → Decided (RunsFrom c dir i)
      here part is_i (inr n) turned = inr (λ h.
          n (ap (λ p. p.kind) (same_part parts i part h.0.pair.entrance is_i (subst (λ j. HasPart parts j h.0.pair.entrance) h.1 h.0.pair.is_a)) ∙ h.0.pair.enters))
      here part is_i (inl e) (inr n) = inr (λ h.
          n (ap (λ p. p.dir) (same_part parts i part h.0.pair.entrance is_i (subst (λ j. HasPart parts j h.0.pair.entrance) h.1 h.0.pair.is_a)) ∙ h.0.along))
      here part is_i (inl e) (inl d) =
          let pair = pair_of i part is_i e in
          let same : pair.1.entrance ≡ part = same_part parts i pair.1.entrance part pair.1.is_a is_i in
          ⊎_elim
          (λ found. inl (
            record {
              from = i;
              to = pair.0;
              pair = pair.1;
              along = ap (λ p. p.dir) same ∙ d;
              so_far = found.0;
              before_end = found.1;
              here = found.2;
            },
            refl,
          ))
          (λ none. inr (λ h.
          let twin = same_pair parts orderly.well_placed h.0.from i h.0.to pair.0 h.1 h.0.pair pair.1 in
          let lt = h.0.before_end in let e = twin.2 in
          none h.0.so_far (omega (arith, lt, e)) (h.0.here ∙ ap (λ p. steps h.0.so_far dir p.cell) twin.0)))
          (some_below (λ k. c ≡ steps k dir pair.1.entrance.cell) (λ k. same_cell c (steps k dir pair.1.entrance.cell)) pair.1.distance)

      by : ((part : Part) × HasPart parts i part) ⊎ ((part : Part) → HasPart parts i part → ⊥) → Decided (RunsFrom c dir i)
      by (inl found) = here found.0 found.1 (same_kind found.0.kind kind.Entrance) (same_dir found.0.dir dir)
      by (inr none) = inr (λ h. none h.0.pair.entrance (subst (λ j. HasPart parts j h.0.pair.entrance) h.1 h.0.pair.is_a))

  pub runs_decided : (c : Cell) (dir : Dir) → Decided (Runs parts c dir)
  runs_decided c dir =
      ⊎_elim (λ found. inl found.2.0)
      (λ none. inr (λ r. none r.from (slice_get_within parts r.from r.pair.entrance r.pair.is_a) (r, refl)))
      (some_below (RunsFrom c dir) (runs_from c dir) (length parts))

-- ---- splitters

module _ (parts : List Part) (orderly : IsOrderly parts) (naming : Naming) (splitters : ListsEach (IsSplitter parts) naming.splitters) where
  pub splits_decided : (s : ℕ) → Decided (Splits parts naming s)
  splits_decided s = by (listed naming.splitters s)
    where
      by : ((i : ℕ) × (slice_get naming.splitters s ≡ Some i)) ⊎ ((i : ℕ) → slice_get naming.splitters s ≡ Some i → ⊥) → Decided (Splits parts naming s)
      by (inl found) =
          let split = splitters.only found.0 (contains_at naming.splitters s found.0 found.1) in
          inl (record { index = found.0; named = found.1; part = split.0; is_part = split.1; kind = split.2 })
      by (inr none) = inr (λ h. none h.index h.named)

  -- a number is that of one splitter
  pub same_split : (s : ℕ) (a b : Splits parts naming s) → (a.index ≡ b.index) × (a.part ≡ b.part)
  same_split s a b =
      let index : a.index ≡ b.index = same_Some a.index b.index (sym a.named ∙ b.named) in
      (index, same_part parts b.index a.part b.part (subst (λ j. HasPart parts j a.part) index a.is_part) b.is_part)

  -- what is decided of the splitter with this number
  pub of_split : (s : ℕ) (P : ℕ → Part → Type 0) → ((i : ℕ) (part : Part) → Decided (P i part))
      → Decided ((split : Splits parts naming s) × P split.index split.part)
  of_split s P test = by (splits_decided s)
    where
      by : Decided (Splits parts naming s) → Decided ((split : Splits parts naming s) × P split.index split.part)
      by (inl split) = moved (λ p. (split, p))
          (λ h. let same = same_split s h.0 split in subst (λ i. P i split.part) same.0 (subst (P h.0.index) same.1 h.1)) (test split.index split.part)
      by (inr none) = inr (λ h. none h.0)
