-- A layout with one more belt at its end.
use Rattle.std.proofs.Common.{◌≡◌, ◌≢◌, ◌⊎◌, inl, inr, ℕ, ◌<◌, List, [], ◌∷◌, ◌++◌, length, refl, sym, ◌∙◌, ap, subst, arith}
use Rattle.std.proofs.lemmas.Int.{ints}
use Rattle.std.proofs.lemmas.Option.{slice_get_within}
use Rattle.bt_parts.specs.declared.part.Cell.{Cell}
use Rattle.bt_parts.specs.declared.part.Dir.{Dir}
use Rattle.bt_parts.specs.declared.part.Dir.TheVariants.{North, East, South, West}
use Rattle.bt_parts.specs.declared.part.Kind.{Kind}
use Rattle.bt_parts.specs.declared.part.Kind.TheVariants.{Belt, Entrance, Exit, Splitter}
use Rattle.bt_parts.specs.declared.part.Part.{Part}
use Rattle.bt_parts.specs.declared.part.Side.{Side}
use Rattle.bt_parts.specs.declared.part.Side.TheVariants.{Behind, Across}
use Rattle.bt_parts.specs.Cells.{step, Covers}
use Rattle.bt_parts.specs.Handing.{ComesFrom}
use Rattle.bt_parts.specs.Layouts.{HasPart, IsAt, IsUnderground, Pairs, ArePaired}
use Rattle.bt_parts.proofs.Places.{own_cell}
use Rattle.bt_model.specs.Handing.{LooksFrom, FeedsFrom, Feeds, Hands, BlocksFrom}
use Rattle.bt_model.specs.Chains.{IsSplitter, IsLink, Path, one, more, IsInput, IsOutput, Source, begins, leaves, Sink, ends, enters, Chain, StartsAs, EndsAs, IsLongest, IsEmptyChain, IsChain}
use Rattle.bt_model.specs.Clean.{HasTwoFeeders, IsSeenAcross, IsHalfBlocked, IsOnRing, IsClean}
use Rattle.bt_model.proofs.ChainLemmas.{orderly_of, path_stop}
use Rattle.bt_model.proofs.ExistLemmas.{giver_part, taker_part, input_link, run_from, input_chain, half_chain, empty_chain}
use Rattle.bt_model.proofs.PathLemmas.{path_start}
use Rattle.bt_model.proofs.SightLemmas.{one_side}
use Rattle.bt_model.proofs.Lists.{has_old, has_new, has_cases}

-- the parts and one more
abbrev pub with_belt : List Part → Part → List Part
with_belt parts q = parts ++ q ∷ []

-- a belt on a free cell, on which at most one part looks and which looks at most at one: at that from behind it and from
-- behind that
pub record Joins (parts : List Part) (q : Part) (before after : ℕ → Type 0) : Type 0 where
  pub belt : q.kind ≡ Belt
  pub free : (i : ℕ) → IsAt parts i q.cell → ⊥
  pub seen : (p : ℕ) (half : Cell) (giver : Part) → HasPart parts p giver → Covers giver half → giver.kind ≢ Entrance → step giver.dir half ≡ q.cell → before p
  pub sees : (r : ℕ) → IsAt parts r (step q.dir q.cell) → after r
  pub before_along : (p : ℕ) (part : Part) → before p → HasPart parts p part → part.dir ≡ q.dir
  pub before_one : (p r : ℕ) → before p → before r → p ≡ r
  pub before_link : (p : ℕ) → before p → IsSplitter parts p → ⊥
  pub after_along : (r : ℕ) (part : Part) → after r → HasPart parts r part → part.dir ≡ q.dir
  pub after_takes : (r : ℕ) (part : Part) → after r → HasPart parts r part → (part.kind ≡ Belt) ⊎ (part.kind ≡ Entrance)
  pub after_unfed : (r : ℕ) → after r → (p : ℕ) → Feeds parts p r → ⊥
  pub not_both : (p r : ℕ) → before p → after r → ⊥

-- no cell is in front of itself
pub step_apart : (d : Dir) (c : Cell) → step d c ≡ c → ⊥
step_apart North c e = let y = ap (λ z. z.y) e in omega (arith, ints)
step_apart East c e = let x = ap (λ z. z.x) e in omega (arith, ints)
step_apart South c e = let y = ap (λ z. z.y) e in omega (arith, ints)
step_apart West c e = let x = ap (λ z. z.x) e in omega (arith, ints)

-- what comes along comes from behind
pub along_behind : (d e : Dir) (side : Side) → e ≡ d → ComesFrom d e side → side ≡ Behind
along_behind d e side same comes = one_side d e side Behind comes (sym same)

behind_unblocked : (kind : Kind) (side : Side) → side ≡ Behind → (kind ≡ Belt) ⊎ (kind ≡ Entrance) → BlocksFrom kind side → ⊥
behind_unblocked Belt side behind kind h = let a = behind in let b = h in cc
behind_unblocked Entrance side behind kind h = let a = behind in let b = h in cc
behind_unblocked Exit side behind (inl kind) h = let a = kind in cc
behind_unblocked Exit side behind (inr kind) h = let a = kind in cc
behind_unblocked Splitter side behind (inl kind) h = let a = kind in cc
behind_unblocked Splitter side behind (inr kind) h = let a = kind in cc

belt_no_piece : (q : Part) → q.kind ≡ Belt → IsUnderground q → ⊥
belt_no_piece q belt (inl e) = let a = belt in let b = e in cc
belt_no_piece q belt (inr e) = let a = belt in let b = e in cc

module _ (parts : List Part) (q : Part) (before after : ℕ → Type 0) (joins : Joins parts q before after) where
  belt_link : q.kind ≢ Splitter
  belt_link e = let a = joins.belt in let b = e in cc

  belt_above : q.kind ≢ Entrance
  belt_above e = let a = joins.belt in let b = e in cc

  pub new_link : IsLink (with_belt parts q) (length parts)
  new_link = (q, has_new parts q, belt_link)

  pub old_at : (i : ℕ) (c : Cell) → IsAt parts i c → IsAt (with_belt parts q) i c
  old_at i c at = record { part = at.part; is_i = has_old parts q i at.part at.is_i; covers = at.covers }

  pub at_either : (i : ℕ) (c : Cell) → IsAt (with_belt parts q) i c → IsAt parts i c ⊎ ((i ≡ length parts) × (c ≡ q.cell))
  at_either i c at = elim (has_cases parts q i at.part at.is_i) [
    | inl old ↦ inl (record { part = at.part; is_i = old; covers = at.covers })
    | inr new ↦ inr (new.0, own_cell q c belt_link (subst (λ p. Covers p c) new.1 at.covers))
  ]

  -- who looks at whom: as before, or the new one looks, or is looked at
  abbrev IsOldLook : (p : ℕ) (half : Cell) (r : ℕ) (side : Side) → LooksFrom (with_belt parts q) p half r side → Type 0
  IsOldLook p half r side look = HasPart parts p look.giver.part × HasPart parts r look.taker.part

  abbrev IsLookOn : (p : ℕ) (half : Cell) (r : ℕ) (side : Side) → LooksFrom (with_belt parts q) p half r side → Type 0
  IsLookOn p half r side look = (p ≡ length parts) × (r < length parts) × after r × (side ≡ Behind) × ((look.taker.part.kind ≡ Belt) ⊎ (look.taker.part.kind ≡ Entrance))

  abbrev IsLookAt : (p : ℕ) (half : Cell) (r : ℕ) (side : Side) → LooksFrom (with_belt parts q) p half r side → Type 0
  IsLookAt p half r side look = (r ≡ length parts) × (p < length parts) × before p × (side ≡ Behind) × (look.taker.part.kind ≡ Belt)

  look_either : (p : ℕ) (half : Cell) (r : ℕ) (side : Side) → (look : LooksFrom (with_belt parts q) p half r side)
      → IsOldLook p half r side look ⊎ (IsLookOn p half r side look ⊎ IsLookAt p half r side look)
  look_either p half r side look = elim (has_cases parts q p look.giver.part look.giver.is_i) [
    | inl giver ↦ elim (has_cases parts q r look.taker.part look.taker.is_i) [
      | inl taker ↦ inl (giver, taker)
      | inr new ↦
          let there : step look.giver.part.dir half ≡ q.cell = own_cell q (step look.giver.part.dir half) belt_link
          (subst (λ t. Covers t (step look.giver.part.dir half)) new.1 look.taker.covers) in
          let is : before p = joins.seen p half look.giver.part giver look.giver.covers look.no_entrance there in
          let along : look.taker.part.dir ≡ look.giver.part.dir = ap (λ t. t.dir) new.1 ∙ sym (joins.before_along p look.giver.part is giver) in
          inr (inr (new.0, slice_get_within parts p look.giver.part giver, is, along_behind look.giver.part.dir look.taker.part.dir side along look.comes, ap (λ t. t.kind) new.1 ∙ joins.belt))
    ]
    | inr new ↦
        let here : half ≡ q.cell = own_cell q half belt_link (subst (λ g. Covers g half) new.1 look.giver.covers) in
        let there : Covers look.taker.part (step q.dir q.cell) =
        subst (λ g. Covers look.taker.part (step g.dir q.cell)) new.1 (subst (λ c. Covers look.taker.part (step look.giver.part.dir c)) here look.taker.covers) in
        elim (has_cases parts q r look.taker.part look.taker.is_i) [
          | inl taker ↦
              let is : after r = joins.sees r (record { part = look.taker.part; is_i = taker; covers = there }) in
              let along : look.taker.part.dir ≡ look.giver.part.dir = joins.after_along r look.taker.part is taker ∙ sym (ap (λ g. g.dir) new.1) in
              inr (inl (new.0, slice_get_within parts r look.taker.part taker, is, along_behind look.giver.part.dir look.taker.part.dir side along look.comes, joins.after_takes r look.taker.part is taker))
          | inr both ↦ absurd (step_apart q.dir q.cell (own_cell q (step q.dir q.cell) belt_link (subst (λ t. Covers t (step q.dir q.cell)) both.1 there)))
        ]
  ]

  -- a look of before
  abbrev old_look : (p : ℕ) (half : Cell) (r : ℕ) (side : Side) → (look : LooksFrom (with_belt parts q) p half r side) → IsOldLook p half r side look → LooksFrom parts p half r side
  old_look p half r side look old = record {
    giver = record { part = look.giver.part; is_i = old.0; covers = look.giver.covers };
    no_entrance = look.no_entrance;
    taker = record { part = look.taker.part; is_i = old.1; covers = look.taker.covers };
    comes = look.comes;
  }

  abbrev look_kept : (p : ℕ) (half : Cell) (r : ℕ) (side : Side) → LooksFrom parts p half r side → LooksFrom (with_belt parts q) p half r side
  look_kept p half r side look = record {
    giver = record { part = look.giver.part; is_i = has_old parts q p look.giver.part look.giver.is_i; covers = look.giver.covers };
    no_entrance = look.no_entrance;
    taker = record { part = look.taker.part; is_i = has_old parts q r look.taker.part look.taker.is_i; covers = look.taker.covers };
    comes = look.comes;
  }

  pub feeds_kept : (p : ℕ) (half : Cell) (r : ℕ) → FeedsFrom parts p half r → FeedsFrom (with_belt parts q) p half r
  feeds_kept p half r feeds = record { side = feeds.side; look = look_kept p half r feeds.side feeds.look; takes = feeds.takes }

  -- who hands to whom besides
  abbrev pub HandsNew : ℕ → ℕ → Type 0
  HandsNew p r = ((p ≡ length parts) × (r < length parts) × after r) ⊎ ((r ≡ length parts) × (p < length parts) × before p)

  pub feeds_either : (p : ℕ) (half : Cell) (r : ℕ) → FeedsFrom (with_belt parts q) p half r → FeedsFrom parts p half r ⊎ HandsNew p r
  feeds_either p half r feeds = elim (look_either p half r feeds.side feeds.look) [
    | inl old ↦ inl (record { side = feeds.side; look = old_look p half r feeds.side feeds.look old; takes = feeds.takes })
    | inr new ↦ inr (elim new [ inl on ↦ inl (on.0, on.1, on.2) | inr at ↦ inr (at.0, at.1, at.2) ])
  ]

  pub pairs_kept : (a b : ℕ) → Pairs parts a b → Pairs (with_belt parts q) a b
  pairs_kept a b p = record {
    entrance = p.entrance;
    is_a = has_old parts q a p.entrance p.is_a;
    enters = p.enters;
    exit = p.exit;
    is_b = has_old parts q b p.exit p.is_b;
    leaves = p.leaves;
    same_tier = p.same_tier;
    same_dir = p.same_dir;
    distance = p.distance;
    apart = p.apart;
    within = p.within;
    ahead = p.ahead;
    none_between = λ d i part some near is_i covers piece. elim (has_cases parts q i part is_i) [
      | inl old ↦ p.none_between d i part some near old covers piece
      | inr new ↦ belt_no_piece q joins.belt (subst (λ t. IsUnderground t) new.1 piece.0)
    ];
  }

  old_of_kind : (i : ℕ) (part : Part) → HasPart (with_belt parts q) i part → part.kind ≢ Belt → HasPart parts i part
  old_of_kind i part is_i other = elim (has_cases parts q i part is_i) [ inl old ↦ old | inr new ↦ absurd (other (ap (λ t. t.kind) new.1 ∙ joins.belt)) ]

  pub pairs_back : (a b : ℕ) → Pairs (with_belt parts q) a b → Pairs parts a b
  pairs_back a b p = record {
    entrance = p.entrance;
    is_a = old_of_kind a p.entrance p.is_a (λ e. let k = p.enters in let l = e in cc);
    enters = p.enters;
    exit = p.exit;
    is_b = old_of_kind b p.exit p.is_b (λ e. let k = p.leaves in let l = e in cc);
    leaves = p.leaves;
    same_tier = p.same_tier;
    same_dir = p.same_dir;
    distance = p.distance;
    apart = p.apart;
    within = p.within;
    ahead = p.ahead;
    none_between = λ d i part some near is_i covers piece. p.none_between d i part some near (has_old parts q i part is_i) covers piece;
  }

  pub hands_kept : (p r : ℕ) → Hands parts p r → Hands (with_belt parts q) p r
  hands_kept p r (inl pair) = inl (pairs_kept p r pair)
  hands_kept p r (inr feeds) = inr (feeds.0, feeds_kept p feeds.0 r feeds.1)

  pub hands_either : (p r : ℕ) → Hands (with_belt parts q) p r → Hands parts p r ⊎ HandsNew p r
  hands_either p r (inl pair) = inl (inl (pairs_back p r pair))
  hands_either p r (inr feeds) = elim (feeds_either p feeds.0 r feeds.1) [ inl old ↦ inl (inr (feeds.0, old)) | inr new ↦ inr new ]

  giver_old : (p r : ℕ) → Hands parts p r → p < length parts
  giver_old p r hands = let there = giver_part parts p r hands in slice_get_within parts p there.0 there.1

  taker_old : (p r : ℕ) → Hands parts p r → r < length parts
  taker_old p r hands = let there = taker_part parts p r hands in slice_get_within parts r there.0 there.1

  -- the new one hands to what is after it alone, and what is before it alone hands to it
  pub new_hands : (r : ℕ) → Hands (with_belt parts q) (length parts) r → after r
  new_hands r hands = elim (hands_either (length parts) r hands) [
    | inl old ↦ absurd (let lt = giver_old (length parts) r old in omega arith)
    | inr new ↦ elim new [ inl on ↦ on.2 | inr at ↦ absurd (let lt = at.1 in omega arith) ]
  ]

  pub new_handed : (p : ℕ) → Hands (with_belt parts q) p (length parts) → before p
  new_handed p hands = elim (hands_either p (length parts) hands) [
    | inl old ↦ absurd (let lt = taker_old p (length parts) old in omega arith)
    | inr new ↦ elim new [ inl on ↦ absurd (let lt = on.1 in omega arith) | inr at ↦ at.2 ]
  ]

  pub hands_back : (p r : ℕ) → (p ≢ length parts) → (r ≢ length parts) → Hands (with_belt parts q) p r → Hands parts p r
  hands_back p r old_p old_r hands = elim (hands_either p r hands) [
    | inl old ↦ old
    | inr new ↦ elim new [ inl on ↦ absurd (old_p on.0) | inr at ↦ absurd (old_r at.0) ]
  ]

  pub link_kept : (i : ℕ) → IsLink parts i → IsLink (with_belt parts q) i
  link_kept i link = (link.0, has_old parts q i link.0 link.1, link.2)

  pub link_back : (i : ℕ) → (i ≢ length parts) → IsLink (with_belt parts q) i → IsLink parts i
  link_back i old link = elim (has_cases parts q i link.0 link.1) [ inl is ↦ (link.0, is, link.2) | inr new ↦ absurd (old new.0) ]

  pub splitter_kept : (i : ℕ) → IsSplitter parts i → IsSplitter (with_belt parts q) i
  splitter_kept i splitter = (splitter.0, has_old parts q i splitter.0 splitter.1, splitter.2)

  pub splitter_back : (i : ℕ) → IsSplitter (with_belt parts q) i → IsSplitter parts i
  splitter_back i splitter = (splitter.0, old_of_kind i splitter.0 splitter.1 (λ e. let k = splitter.2 in let l = e in cc), splitter.2)

  pub link_old : (i : ℕ) → IsLink parts i → i ≢ length parts
  link_old i link e = let lt = slice_get_within parts i link.0 link.1 in omega arith

  pub path_kept : (i last : ℕ) (links : List ℕ) → Path parts i last links → Path (with_belt parts q) i last links
  path_kept i last links (one j link) = one j (link_kept j link)
  path_kept i last links (more j k l rest link hands path) = more j k l rest (link_kept j link) (hands_kept j k hands) (path_kept k l rest path)

  -- rings
  hands_on : (j last m : ℕ) (links : List ℕ) → Path (with_belt parts q) j last links → Hands (with_belt parts q) last m → (x : ℕ) × Hands (with_belt parts q) j x
  hands_on j last m links (one i link) closed = (m, closed)
  hands_on j last m links (more i k l rest link hands path) closed = (k, hands)

  not_new : (k i x : ℕ) → Hands (with_belt parts q) k i → Hands (with_belt parts q) i x → i ≢ length parts
  not_new k i x comes goes e =
      joins.not_both k x (new_handed k (subst (λ z. Hands (with_belt parts q) k z) e comes)) (new_hands x (subst (λ z. Hands (with_belt parts q) z x) e goes))

  path_back : (k i last m : ℕ) (links : List ℕ) → Hands (with_belt parts q) k i → Path (with_belt parts q) i last links → Hands (with_belt parts q) last m → Path parts i last links
  path_back k i last m links comes (one j link) goes = one j (link_back j (not_new k j m comes goes) link)
  path_back k i last m links comes (more j n l rest link hands path) goes =
      let on = hands_on n l m rest path goes in
      let old_j = not_new k j n comes hands in
      let old_n = not_new j n on.0 hands on.1 in
      more j n l rest (link_back j old_j link) (hands_back j n old_j old_n hands) (path_back j n l m rest hands path goes)

  ring_back : (i : ℕ) → IsOnRing (with_belt parts q) i → IsOnRing parts i
  ring_back i ring =
      let path = path_back ring.last i ring.last i ring.links ring.closed ring.path ring.closed in
      record {
        last = ring.last;
        links = ring.links;
        path = path;
        closed = hands_back ring.last i (link_old ring.last (path_stop parts i ring.last ring.links path)) (link_old i (path_start parts i ring.last ring.links path)) ring.closed;
      }

  -- a clean layout stays clean
  no_two : IsClean parts → (i : ℕ) → HasTwoFeeders (with_belt parts q) i → ⊥
  no_two clean i two = elim (feeds_either two.one two.one_feeds.0 i two.one_feeds.1) [
    | inl old ↦ elim (feeds_either two.two two.two_feeds.0 i two.two_feeds.1) [
      | inl other ↦ clean.no_side_load i (inl (record {
        belt = two.belt;
        is_i = old_here i two.belt two.is_i (taker_old two.one i (inr (two.one_feeds.0, old)));
        kind = two.kind;
        one = two.one;
        two = two.two;
        apart = two.apart;
        one_feeds = (two.one_feeds.0, old);
        two_feeds = (two.two_feeds.0, other);
      }))
      | inr new ↦ elim new [
        | inl on ↦ joins.after_unfed i on.2 two.one (two.one_feeds.0, old)
        | inr at ↦ let lt = taker_old two.one i (inr (two.one_feeds.0, old)) in let e = at.0 in omega arith
      ]
    ]
    | inr new ↦ elim (feeds_either two.two two.two_feeds.0 i two.two_feeds.1) [
      | inl other ↦ elim new [
        | inl on ↦ joins.after_unfed i on.2 two.two (two.two_feeds.0, other)
        | inr at ↦ let lt = taker_old two.two i (inr (two.two_feeds.0, other)) in let e = at.0 in omega arith
      ]
      | inr newer ↦ elim new [
        | inl on ↦ elim newer [ inl too ↦ two.apart (on.0 ∙ sym too.0) | inr at ↦ joins.not_both two.two i at.2 on.2 ]
        | inr at ↦ elim newer [ inl on ↦ joins.not_both two.one i at.2 on.2 | inr too ↦ two.apart (joins.before_one two.one two.two at.2 too.2) ]
      ]
    ]
  ]
    where
      old_here : (i : ℕ) (part : Part) → HasPart (with_belt parts q) i part → i < length parts → HasPart parts i part
      old_here i part is_i lt = elim (has_cases parts q i part is_i) [ inl is ↦ is | inr new ↦ absurd (let e = new.0 in omega arith) ]

  no_seen : IsClean parts → (i : ℕ) → IsSeenAcross (with_belt parts q) i → ⊥
  no_seen clean i seen = elim (look_either seen.giver seen.half i Across seen.look) [
    | inl old ↦ clean.no_side_load i (inr (record {
      giver = seen.giver;
      half = seen.half;
      look = old_look seen.giver seen.half i Across seen.look old;
      underground = seen.underground;
    }))
    | inr new ↦ elim new [ inl on ↦ let e = on.3 in cc | inr at ↦ let e = at.3 in cc ]
  ]

  no_block : IsClean parts → (i : ℕ) (half : Cell) → IsHalfBlocked (with_belt parts q) i half → ⊥
  no_block clean i half h = elim (look_either i half h.taker h.side h.look) [
    | inl old ↦ clean.no_blocked i (half, record { taker = h.taker; side = h.side; look = old_look i half h.taker h.side h.look old; blocked = h.blocked })
    | inr new ↦ elim new [
      | inl on ↦ behind_unblocked h.look.taker.part.kind h.side on.3 on.4 h.blocked
      | inr at ↦ behind_unblocked h.look.taker.part.kind h.side at.3 (inl at.4) h.blocked
    ]
  ]

  paired_kept : (i j : ℕ) → ArePaired parts i j → ArePaired (with_belt parts q) i j
  paired_kept i j (inl p) = inl (pairs_kept i j p)
  paired_kept i j (inr p) = inr (pairs_kept j i p)

  paired_back : (i j : ℕ) → ArePaired (with_belt parts q) i j → ArePaired parts i j
  paired_back i j (inl p) = inl (pairs_back i j p)
  paired_back i j (inr p) = inr (pairs_back j i p)

  pub clean_kept : IsClean parts → IsClean (with_belt parts q)
  clean_kept clean = record {
    well_placed = λ i k lt share. elim (at_either i share.0 share.1) [
      | inl here ↦ elim (at_either k share.0 share.2) [
        | inl there ↦ clean.well_placed i k lt (share.0, here, there)
        | inr new ↦ joins.free i (subst (λ c. IsAt parts i c) new.1 here)
      ]
      | inr new ↦ elim (at_either k share.0 share.2) [
        | inl there ↦ joins.free k (subst (λ c. IsAt parts k c) new.1 there)
        | inr too ↦ let a = new.0 in let b = too.0 in omega arith
      ]
    ];
    paired = λ i piece.
        let old = old_of_kind i piece.0 piece.1 (λ e. belt_no_piece piece.0 e piece.2) in
        let is = clean.paired i (piece.0, old, piece.2) in
        record { other = is.other; paired = paired_kept i is.other is.paired; no_other = λ k both. is.no_other k (paired_back i k both) };
    no_side_load = λ i h. elim h [ inl two ↦ no_two clean i two | inr seen ↦ no_seen clean i seen ];
    no_blocked = λ i h. no_block clean i h.0 h.1;
    no_ring = λ i ring. clean.no_ring i (ring_back i ring);
  }

  -- inputs, outputs and chains that don't meet the new belt
  pub input_kept : (i : ℕ) → (after i → ⊥) → IsInput parts i → IsInput (with_belt parts q) i
  input_kept i aside input = record {
    part = input.part;
    is_i = has_old parts q i input.part input.is_i;
    kind = input.kind;
    unfed = λ p feeds. elim (feeds_either p feeds.0 i feeds.1) [
      | inl old ↦ input.unfed p (feeds.0, old)
      | inr new ↦ elim new [ inl on ↦ aside on.2 | inr at ↦ link_old i (input_link parts i input) at.0 ]
    ];
  }

  pub input_back : (i : ℕ) → (i ≢ length parts) → IsInput (with_belt parts q) i → IsInput parts i
  input_back i old input = record {
    part = input.part;
    is_i = elim (has_cases parts q i input.part input.is_i) [ inl is ↦ is | inr new ↦ absurd (old new.0) ];
    kind = input.kind;
    unfed = λ p feeds. input.unfed p (feeds.0, feeds_kept p feeds.0 i feeds.1);
  }

  out_above : (i : ℕ) (output : IsOutput parts i) → output.part.kind ≢ Entrance
  out_above i output e = elim output.kind [ inl k ↦ let a = k in let b = e in cc | inr k ↦ let a = k in let b = e in cc ]

  pub output_kept : (i : ℕ) → (before i → ⊥) → IsOutput parts i → IsOutput (with_belt parts q) i
  output_kept i aside output = record {
    part = output.part;
    is_i = has_old parts q i output.part output.is_i;
    kind = output.kind;
    clear = λ r at. elim (at_either r (step output.part.dir output.part.cell) at) [
      | inl old ↦ output.clear r old
      | inr new ↦ aside (joins.seen i output.part.cell output.part output.is_i (inl refl) (out_above i output) new.1)
    ];
  }

  pub output_back : (i : ℕ) → (i ≢ length parts) → IsOutput (with_belt parts q) i → IsOutput parts i
  output_back i old output = record {
    part = output.part;
    is_i = elim (has_cases parts q i output.part output.is_i) [ inl is ↦ is | inr new ↦ absurd (old new.0) ];
    kind = output.kind;
    clear = λ r at. output.clear r (old_at r (step output.part.dir output.part.cell) at);
  }

  pub starts_kept : (source : Source) (first : ℕ) → (after first → ⊥) → StartsAs parts source first → StartsAs (with_belt parts q) source first
  starts_kept (begins i cell) first aside h = (h.0, input_kept i (λ is. aside (subst after (sym h.0) is)) h.1, old_at i cell h.2)
  starts_kept (leaves s half) first aside h = (splitter_kept s h.0, feeds_kept s half first h.1)

  pub ends_kept : (sink : Sink) (last : ℕ) → (before last → ⊥) → EndsAs parts sink last → EndsAs (with_belt parts q) sink last
  ends_kept (ends i) last aside h = (h.0, output_kept i (λ is. aside (subst before (sym h.0) is)) h.1)
  ends_kept (enters s) last aside h = (splitter_kept s h.0, hands_kept last s h.1)

  pub none_before_kept : (first : ℕ) → IsLink parts first → ((k : ℕ) → IsLink parts k → Hands parts k first → ⊥) → (after first → ⊥)
      → (k : ℕ) → IsLink (with_belt parts q) k → Hands (with_belt parts q) k first → ⊥
  none_before_kept first link none aside k is hands = elim (hands_either k first hands) [
    | inl old ↦ none k (link_back k (λ e. let lt = giver_old k first old in omega arith) is) old
    | inr new ↦ elim new [ inl on ↦ aside on.2 | inr at ↦ link_old first link at.0 ]
  ]

  pub none_after_kept : (last : ℕ) → IsLink parts last → ((k : ℕ) → IsLink parts k → Hands parts last k → ⊥) → (before last → ⊥)
      → (k : ℕ) → IsLink (with_belt parts q) k → Hands (with_belt parts q) last k → ⊥
  none_after_kept last link none aside k is hands = elim (hands_either last k hands) [
    | inl old ↦ none k (link_back k (λ e. let lt = taker_old last k old in omega arith) is) old
    | inr new ↦ elim new [ inl on ↦ link_old last link on.0 | inr at ↦ aside at.2 ]
  ]

  pub longest_kept : (c : Chain) → (h : IsLongest parts c) → (after h.first → ⊥) → (before h.last → ⊥) → IsLongest (with_belt parts q) c
  longest_kept c h free_first free_last = record {
    first = h.first;
    last = h.last;
    path = path_kept h.first h.last c.links h.path;
    starts = starts_kept c.source h.first free_first h.starts;
    ends = ends_kept c.sink h.last free_last h.ends;
    none_before = none_before_kept h.first (path_start parts h.first h.last c.links h.path) h.none_before free_first;
    none_after = none_after_kept h.last (path_stop parts h.first h.last c.links h.path) h.none_after free_last;
  }

  pub empty_kept : (c : Chain) → IsEmptyChain parts c → IsEmptyChain (with_belt parts q) c
  empty_kept c h = record {
    from = h.from;
    half = h.half;
    to = h.to;
    is_from = splitter_kept h.from h.is_from;
    is_to = splitter_kept h.to h.is_to;
    feeds = feeds_kept h.from h.half h.to h.feeds;
    source = h.source;
    no_link = h.no_link;
    sink = h.sink;
  }

  -- where a chain starts by an input of before, or at a splitter, one of before does
  abbrev pub StartsSo : Source → Type 0
  StartsSo source = (c : Chain) × IsChain parts c × (c.source ≡ source)

  pub input_starts : IsClean parts → (i : ℕ) (cell : Cell) → IsInput parts i → IsAt parts i cell → StartsSo (begins i cell)
  input_starts clean i cell input at =
      let run = run_from parts (orderly_of parts clean) clean.no_ring i (input_link parts i input) in (
        record { source = begins i cell; links = run.links; sink = run.sink },
        input_chain parts clean.well_placed i run.last cell run.links run.sink input at run.path run.ends,
        refl,
      )

  half_starts : IsClean parts → (s first : ℕ) (half : Cell) → IsSplitter parts s → IsLink parts first → FeedsFrom parts s half first → StartsSo (leaves s half)
  half_starts clean s first half splitter link feeds =
      let run = run_from parts (orderly_of parts clean) clean.no_ring first link in (
        record { source = leaves s half; links = run.links; sink = run.sink },
        half_chain parts (orderly_of parts clean) s first run.last half run.links run.sink splitter feeds run.path run.ends,
        refl,
      )

  splitter_feeds_old : (s r : ℕ) (half : Cell) → IsSplitter parts s → FeedsFrom (with_belt parts q) s half r → FeedsFrom parts s half r
  splitter_feeds_old s r half splitter feeds = elim (feeds_either s half r feeds) [
    | inl old ↦ old
    | inr new ↦ elim new [
      | inl on ↦ absurd (let lt = slice_get_within parts s splitter.0 splitter.1 in let e = on.0 in omega arith)
      | inr at ↦ absurd (joins.before_link s at.2 splitter)
    ]
  ]

  leaves_starts : IsClean parts → (s first : ℕ) (half : Cell) → IsLink (with_belt parts q) first → StartsAs (with_belt parts q) (leaves s half) first → StartsSo (leaves s half)
  leaves_starts clean s first half link h =
      let splitter = splitter_back s h.0 in
      let feeds = splitter_feeds_old s first half splitter h.1 in
      half_starts clean s first half splitter (link_back first (λ e. let lt = taker_old s first (inr (half, feeds)) in omega arith) link) feeds

  empty_starts : (c : Chain) → (h : IsEmptyChain (with_belt parts q) c) → StartsSo (leaves h.from h.half)
  empty_starts c h =
      let splitter = splitter_back h.from h.is_from in (
        record { source = leaves h.from h.half; links = []; sink = enters h.to },
        empty_chain parts h.from h.to h.half splitter (splitter_back h.to h.is_to) (splitter_feeds_old h.from h.to h.half splitter h.feeds),
        refl,
      )

  -- a chain of now starts by an input of now, or as one of before
  abbrev pub BeginsNow : Source → Type 0
  BeginsNow source = (i : ℕ) × (cell : Cell) × IsInput (with_belt parts q) i × IsAt (with_belt parts q) i cell × (source ≡ begins i cell)

  -- or it leaves a splitter, as one of before
  abbrev pub LeavesSo : Source → Type 0
  LeavesSo source = (s : ℕ) × (half : Cell) × (source ≡ leaves s half) × StartsSo (leaves s half)

  starts_either : IsClean parts → (source : Source) (first : ℕ) → IsLink (with_belt parts q) first → StartsAs (with_belt parts q) source first → BeginsNow source ⊎ LeavesSo source
  starts_either clean (begins i cell) first link h = inl (i, cell, h.1, h.2, refl)
  starts_either clean (leaves s half) first link h = inr (s, half, refl, leaves_starts clean s first half link h)

  pub chain_starts : IsClean parts → (c : Chain) → IsChain (with_belt parts q) c → BeginsNow c.source ⊎ LeavesSo c.source
  chain_starts clean c (inl h) = starts_either clean c.source h.first (path_start (with_belt parts q) h.first h.last c.links h.path) h.starts
  chain_starts clean c (inr h) = inr (h.from, h.half, h.source, empty_starts c h)
