-- Paths of belts and underground pieces, and rings.
use Rattle.std.proofs.Common.{◌≡◌, ◌≢◌, ◌⊎◌, ◌↔◌, ℕ, zero, suc, ◌+◌, ◌<◌, ◌≤◌, List, [], ◌∷◌, ◌++◌, length, get_or, Option, Some, None, Bool, true, false, eqb, refl, sym, ◌∙◌, subst, inl, inr, ⊎_elim, arith, add-one}
use Rattle.std.specs.List.{IsDistinct, list_any, AllByRecursion}
use Rattle.std.specs.Option.{MatchOption}
use Rattle.std.proofs.lemmas.Option.{none-some, slice_get_within}
use Rattle.std.proofs.lemmas.Bool.{cases_lt, both_ways, eqb-true}
use Rattle.std.proofs.lemmas.List.{get_or_default}
use Rattle.std.proofs.lemmas.List.Elements.{recursion_from_All}
use Rattle.std.proofs.lemmas.List.Folds.{Any-from_list_any, list_any_at}
use Rattle.std.proofs.lemmas.Map.Keys.{IsDistinct-from_apart, IsDistinct-cons}
use Rattle.std.proofs.lemmas.Map.Steps.{length-le_from_distinct_below}
use Rattle.bt_parts.specs.declared.part.Kind.TheVariants.{Entrance, Splitter}
use Rattle.bt_parts.specs.declared.part.Part.{Part}
use Rattle.bt_parts.specs.Cells.{step}
use Rattle.bt_parts.specs.Layouts.{HasPart, IsAt, IsWellPlaced, Pairs}
use Rattle.bt_model.specs.Handing.{FeedsPart, FeedsFrom, Hands}
use Rattle.bt_model.specs.Chains.{IsLink, LinksTo, Path, one, more}
use Rattle.bt_model.specs.Clean.{IsOnRing}
use Rattle.bt_parts.proofs.Places.{same_part, one_there}
use Rattle.bt_model.proofs.HandLemmas.{hands_feeds, hands_pairs, feeds_own, feeds_part, feeds_from, taker_at, one_handed}

-- the first of a path is a link
pub path_start : (parts : List Part) (i last : ℕ) (links : List ℕ) → Path parts i last links → IsLink parts i
path_start parts i last links (one j link) = link
path_start parts i last links (more j k l rest link hands path) = link

-- a path begins with its first part
pub path_head : (parts : List Part) (i last : ℕ) (links : List ℕ) (d : ℕ) → Path parts i last links → (0 < length links) × (get_or links 0 d ≡ i)
path_head parts i last links d (one j link) = (omega arith, refl)
path_head parts i last links d (more j k l rest link hands path) = (omega arith, refl)

-- a path with one more at its end
pub path_snoc : (parts : List Part) (i last j : ℕ) (links : List ℕ) → Path parts i last links → Hands parts last j → IsLink parts j
    → Path parts i j (links ++ j ∷ [])
path_snoc parts i last j links (one k link) hands next = more k j j (j ∷ []) link hands (one j next)
path_snoc parts i last j links (more k m l rest link to path) hands next =
    more k m j (rest ++ j ∷ []) link to (path_snoc parts m last j rest path hands next)

-- each of a path is a part
pub path_within : (parts : List Part) (i last : ℕ) (links : List ℕ) → Path parts i last links → (k : ℕ) → k < length links → get_or links k 0 < length parts
path_within parts i last links (one j link) zero lt = slice_get_within parts j link.0 link.1
path_within parts i last links (one j link) (suc k) lt = absurd (omega arith)
path_within parts i last links (more j m l rest link hands path) zero lt = slice_get_within parts j link.0 link.1
path_within parts i last links (more j m l rest link hands path) (suc k) lt = path_within parts m last rest path k (omega arith)

-- each of a path but the last hands to the next, and the last is its end
pub path_next : (parts : List Part) (i last : ℕ) (links : List ℕ) → Path parts i last links → (k : ℕ) → k < length links
    → (LinksTo parts (get_or links k 0) (get_or links (suc k) 0) × (suc k < length links)) ⊎ ((suc k ≡ length links) × (get_or links k 0 ≡ last) × IsLink parts last)
path_next parts i last links (one j link) zero lt = inr (refl, refl, link)
path_next parts i last links (one j link) (suc k) lt = absurd (omega arith)
path_next parts i last links (more j m l rest link hands path) zero lt =
    let head = path_head parts m last rest 0 path in
    inl ((link, subst (λ x. IsLink parts x) (sym head.1) (path_start parts m last rest path), subst (λ x. Hands parts j x) (sym head.1) hands), let h = head.0 in omega arith)
path_next parts i last links (more j m l rest link hands path) (suc k) lt =
    ⊎_elim (λ on. let in' = on.1 in inl (on.0, omega arith)) (λ end. let e = end.0 in inr (omega arith, end.1, end.2))
    (path_next parts m last rest path k (omega arith))

-- the rest of a path from one of its parts on
path_rest : (parts : List Part) (i last : ℕ) (links : List ℕ) → Path parts i last links → (k : ℕ) → k < length links
    → (rest : List ℕ) × Path parts (get_or links k 0) last rest × (length rest + k ≡ length links)
path_rest parts i last links (one j link) zero lt = (j ∷ [], one j link, omega arith)
path_rest parts i last links (one j link) (suc k) lt = absurd (omega arith)
path_rest parts i last links (more j m l rest link hands path) zero lt = (j ∷ rest, more j m l rest link hands path, omega arith)
path_rest parts i last links (more j m l rest link hands path) (suc k) lt =
    let found = path_rest parts m last rest path k (omega arith) in
    (found.0, found.1, let e = found.2 in omega arith)

-- a path up to one of its parts
pub path_front : (parts : List Part) (i last : ℕ) (links : List ℕ) → Path parts i last links → (k : ℕ) → k < length links
    → (front : List ℕ) × Path parts i (get_or links k 0) front × (length front ≡ k + 1)
path_front parts i last links (one j link) zero lt = (j ∷ [], one j link, omega arith)
path_front parts i last links (one j link) (suc k) lt = absurd (omega arith)
path_front parts i last links (more j m l rest link hands path) zero lt = (j ∷ [], one j link, omega arith)
path_front parts i last links (more j m l rest link hands path) (suc k) lt =
    let found = path_front parts m last rest path k (omega arith) in
    (j ∷ found.0, more j m _ found.0 link hands found.1, let e = found.2 in omega arith)

-- a path that meets a part twice can be made shorter
path_shorter : (parts : List Part) (i last : ℕ) (links : List ℕ) → Path parts i last links → (k l : ℕ) → k < l → l < length links
    → get_or links k 0 ≡ get_or links l 0 → (rest : List ℕ) × Path parts i last rest × (length rest < length links)
path_shorter parts i last links (one j link) k l lt in' same = absurd (omega arith)
path_shorter parts i last links (more j m e rest link hands path) zero l lt in' same =
    let found = path_rest parts j last (j ∷ rest) (more j m last rest link hands path) l in' in
    (found.0, subst (λ x. Path parts x last found.0) (sym same) found.1, let e = found.2 in omega arith)
path_shorter parts i last links (more j m e rest link hands path) (suc k) zero lt in' same = absurd (omega arith)
path_shorter parts i last links (more j m e rest link hands path) (suc k) (suc l) lt in' same =
    let found = path_shorter parts m last rest path k l (omega arith) (omega arith) same in
    (j ∷ found.0, more j m last found.0 link hands found.1, let e = found.2 in omega arith)

none_there : (p : ℕ → Bool) (xs : List ℕ) → list_any p xs ≡ false → AllByRecursion (λ y. p y ≡ false) xs
none_there p xs none = recursion_from_All (λ y. p y ≡ false) xs (λ k d lt. fails k d lt (p (get_or xs k d)) refl) where
  fails : (k d : ℕ) → k < length xs → (b : Bool) → p (get_or xs k d) ≡ b → p (get_or xs k d) ≡ false
  fails k d lt true e = absurd (both_ways (list_any p xs) none (list_any_at p xs k d lt e))
  fails k d lt false e = e

-- the list has a number at two places
abbrev HasTwice : List ℕ → Type 0
HasTwice xs = (i j : ℕ) × (i < j) × (j < length xs) × (get_or xs i 0 ≡ get_or xs j 0)

repeats_more : (x : ℕ) (xs : List ℕ) → IsDistinct eqb xs ⊎ HasTwice xs → (b : Bool) → list_any (eqb x) xs ≡ b → IsDistinct eqb (x ∷ xs) ⊎ HasTwice (x ∷ xs)
repeats_more x xs rest true e =
    let found = Any-from_list_any (eqb x) xs e in
    let lt : found.0 < length xs = found.2 in
    inr (
      0,
      suc found.0,
      omega arith,
      omega arith,
      eqb-true x found.1 found.4 ∙ sym found.3 ∙ get_or_default xs found.0 found.1 0 lt,
    )
repeats_more x xs rest false e =
    ⊎_elim (λ distinct. inl (IsDistinct-cons eqb x xs (none_there (eqb x) xs e) distinct))
    (λ again. let lt = again.2 in let in' = again.3 in inr (suc again.0, suc again.1, omega arith, omega arith, again.4))
    rest

-- a list of numbers that has none twice, or the places of one that it has twice
repeats : (xs : List ℕ) → IsDistinct eqb xs ⊎ HasTwice xs
repeats [] = inl (IsDistinct-from_apart eqb [] (λ i j d lt in'. absurd (omega arith)))
repeats (x ∷ xs) = repeats_more x xs (repeats xs) (list_any (eqb x) xs) refl

-- more numbers below n than n have one twice
pub crowded : (n : ℕ) (xs : List ℕ) → n < length xs → ((k : ℕ) → k < length xs → get_or xs k 0 < n)
    → (i j : ℕ) × (i < j) × (j < length xs) × (get_or xs i 0 ≡ get_or xs j 0)
crowded n xs many below =
    ⊎_elim
    (λ distinct.
    let few : length xs ≤ n = length-le_from_distinct_below xs n distinct (λ q there.
    let found = Any-from_list_any (eqb q) xs there in
    let same : get_or xs found.0 0 ≡ q = get_or_default xs found.0 0 found.1 found.2 ∙ found.3 ∙ sym (eqb-true q found.1 found.4) in
    subst (λ y. y < n) same (below found.0 found.2)) in
    absurd (omega arith))
    (λ again. again)
    (repeats xs)

-- a path of no more parts than there are
short_path : (fuel : ℕ) (parts : List Part) (i last : ℕ) (links : List ℕ) → Path parts i last links → length links ≤ fuel
    → (rest : List ℕ) × Path parts i last rest × (length rest ≤ length parts)
short_path zero parts i last links path le = let head = (path_head parts i last links 0 path).0 in absurd (omega arith)
short_path (suc fuel) parts i last links path le =
    ⊎_elim
    (λ many.
    let twice = crowded (length parts) links many (path_within parts i last links path) in
    let shorter = path_shorter parts i last links path twice.0 twice.1 twice.2 twice.3 twice.4 in
    let less = shorter.2 in
    short_path fuel parts i last shorter.0 shorter.1 (omega arith))
    (λ few. (links, path, few))
    (cases_lt (length parts) (length links))

-- a part on a ring is on one of no more parts than there are
short_ring : (parts : List Part) (i : ℕ) → IsOnRing parts i
    → (last : ℕ) × (links : List ℕ) × Path parts i last links × Hands parts last i × (length links ≤ length parts)
short_ring parts i ring =
    let short = short_path (length ring.links) parts i ring.last ring.links ring.path (omega arith) in
    (ring.last, short.0, short.1, ring.closed, short.2)

-- on every ring through i, the part `at` is so many parts after i
pub record IsAhead (parts : List Part) (i at steps : ℕ) : Type 0 where
  pub within : at < length parts
  pub reached : (at ≡ i) ⊎ ((links : List ℕ) × Path parts i at links)
  pub ahead : (last : ℕ) (links : List ℕ) → Path parts i last links → Hands parts last i → (steps < length links) × (get_or links steps 0 ≡ at)

pub ahead_first : (parts : List Part) (i : ℕ) → i < length parts → IsAhead parts i i 0
ahead_first parts i within = record {
  within = within;
  reached = inl refl;
  ahead = λ last links path closed. path_head parts i last links 0 path;
}

links_functional : (parts : List Part) → IsWellPlaced parts → (i j k : ℕ) → LinksTo parts i j → LinksTo parts i k → j ≡ k
links_functional parts placed i j k h g = one_handed parts placed i j k h.0 h.2 g.2

-- what the part hands to is the next, or i where the ring closes
ahead_on : (parts : List Part) → (i at steps : ℕ) → IsAhead parts i at steps
    → (last : ℕ) (links : List ℕ) → Path parts i last links → Hands parts last i
    → (LinksTo parts at (get_or links (suc steps) 0) × (suc steps < length links)) ⊎ LinksTo parts at i
ahead_on parts i at steps on last links path closed =
    let there = on.ahead last links path closed in
    ⊎_elim
    (λ next. inl (subst (λ x. LinksTo parts x (get_or links (suc steps) 0)) there.1 next.0, next.1))
    (λ end. inr (subst (λ x. LinksTo parts x i) (sym end.1 ∙ there.1) (end.2, path_start parts i last links path, closed)))
    (path_next parts i last links path steps there.0)

pub ahead_more : (parts : List Part) → IsWellPlaced parts → (i at next steps : ℕ) → IsAhead parts i at steps
    → LinksTo parts at next → next < length parts → (next ≡ i → ⊥) → IsAhead parts i next (steps + 1)
ahead_more parts placed i at next steps on link within apart = record {
  within = within;
  reached = inr (⊎_elim
      (λ start. (i ∷ next ∷ [], more i next next (next ∷ []) (subst (λ x. IsLink parts x) start link.0) (subst (λ x. Hands parts x next) start link.2) (one next link.1)))
      (λ path. (path.0 ++ next ∷ [], path_snoc parts i at next path.0 path.1 link.2 link.1)) on.reached);
  ahead = λ last links path closed. subst (λ k. (k < length links) × (get_or links k 0 ≡ next)) (sym (add-one steps))
      (⊎_elim
      (λ further. (further.1, links_functional parts placed at (get_or links (suc steps) 0) next further.0 link))
      (λ back. absurd (apart (links_functional parts placed at next i link back)))
      (ahead_on parts i at steps on last links path closed));
}

-- handing to i closes a ring
pub ahead_closes : (parts : List Part) → (i at steps : ℕ) → IsAhead parts i at steps → LinksTo parts at i → IsOnRing parts i
ahead_closes parts i at steps on link =
    ⊎_elim
    (λ start. record { last = i; links = i ∷ []; path = one i link.1; closed = subst (λ x. Hands parts x i) start link.2 })
    (λ path. record { last = at; links = path.0; path = path.1; closed = link.2 })
    on.reached

-- a part that hands to no link is on no ring
pub ahead_stops : (parts : List Part) → (i at steps : ℕ) → IsAhead parts i at steps → ((j : ℕ) → LinksTo parts at j → ⊥) → IsOnRing parts i → ⊥
ahead_stops parts i at steps on none ring =
    ⊎_elim (λ further. none _ further.0) (λ back. none i back) (ahead_on parts i at steps on ring.last ring.links ring.path ring.closed)

-- no ring is longer than the parts are many
pub ahead_all : (parts : List Part) → (i at steps : ℕ) → IsAhead parts i at steps → length parts ≤ steps → IsOnRing parts i → ⊥
ahead_all parts i at steps on many ring =
    let short = short_ring parts i ring in
    let there = (on.ahead short.0 short.1 short.2 short.3).0 in
    let few = short.4 in
    omega arith

-- the exit of an entrance is what it hands to
pub entrance_links : (parts : List Part) (i : ℕ) (giver : Part) (exit : Option ℕ) → HasPart parts i giver → giver.kind ≡ Entrance
    → ((j : ℕ) → (exit ≡ Some j) ↔ Pairs parts i j) → MatchOption exit ((j : ℕ) → LinksTo parts i j → ⊥) (LinksTo parts i)
entrance_links parts i giver None is_i enters pairs =
    λ j link. none-some j ((pairs j).1 (hands_pairs parts i j giver is_i enters link.2))
entrance_links parts i giver (Some j) is_i enters pairs =
    let pair = (pairs j).0 refl in
    ((giver, is_i, λ e. let k = enters in cc), (pair.exit, pair.is_b, λ e. let k = pair.leaves in cc), inl pair)

pub splitter_links : (parts : List Part) (i j : ℕ) (giver : Part) → HasPart parts i giver → giver.kind ≡ Splitter → LinksTo parts i j → ⊥
splitter_links parts i j giver is_i splits link =
    link.0.2 (subst (λ g. g.kind ≡ Splitter) (same_part parts i giver link.0.0 is_i link.0.1) splits)

-- what a belt or an exit hands to is on the cell in front
pub links_ahead : (parts : List Part) (i j : ℕ) (giver : Part) → HasPart parts i giver → giver.kind ≢ Entrance → LinksTo parts i j
    → FeedsFrom parts i giver.cell j × IsAt parts j (step giver.dir giver.cell)
links_ahead parts i j giver is_i above link =
    let here : giver.kind ≢ Splitter = λ e. splitter_links parts i j giver is_i e link in
    let feeds = feeds_own parts i j giver is_i here (hands_feeds parts i j giver is_i above link.2) in
    (feeds, taker_at parts i j giver giver.cell is_i feeds)

-- a taker that is a link, and one that takes nothing or is none
pub links_found : (parts : List Part) (i j : ℕ) (giver taker : Part) → HasPart parts i giver → HasPart parts j taker
    → giver.kind ≢ Splitter → taker.kind ≢ Splitter → FeedsPart giver giver.cell taker → LinksTo parts i j
links_found parts i j giver taker is_i is_j here there feeds =
    ((giver, is_i, here), (taker, is_j, there), inr (giver.cell, feeds_from parts i j giver taker giver.cell is_i is_j feeds))

pub links_missed : (parts : List Part) → IsWellPlaced parts → (i j : ℕ) (giver taker : Part) → HasPart parts i giver → HasPart parts j taker
    → giver.kind ≢ Entrance → IsAt parts j (step giver.dir giver.cell) → (taker.kind ≢ Splitter → FeedsPart giver giver.cell taker → ⊥)
    → (k : ℕ) → LinksTo parts i k → ⊥
links_missed parts placed i j giver taker is_i is_j above there none k link =
    let ahead = links_ahead parts i k giver is_i above link in
    let same : k ≡ j = one_there parts placed k j (step giver.dir giver.cell) ahead.1 there in
    let on : LinksTo parts i j = subst (λ x. LinksTo parts i x) same link in
    none (λ e. on.1.2 (subst (λ t. t.kind ≡ Splitter) (same_part parts j taker on.1.0 is_j on.1.1) e))
    (feeds_part parts i j giver taker giver.cell is_i is_j (subst (λ x. FeedsFrom parts i giver.cell x) same ahead.0))

-- a path that comes back to its first part has it on a ring
path_closes : (parts : List Part) (i last : ℕ) (links : List ℕ) → Path parts i last links → (k : ℕ) → suc k < length links → get_or links (suc k) 0 ≡ i → IsOnRing parts i
path_closes parts i last links path k lt back =
    ⊎_elim
    (λ next.
    let front = path_front parts i last links path k (omega arith) in
    record { last = get_or links k 0; links = front.0; path = front.1; closed = subst (λ x. Hands parts (get_or links k 0) x) back next.0.2 })
    (λ end. let e = end.0 in absurd (omega arith))
    (path_next parts i last links path k (omega arith))

-- a part that a path has twice is on a ring
pub path_twice : (parts : List Part) (i last : ℕ) (links : List ℕ) → Path parts i last links → (k l : ℕ) → k < l → l < length links
    → get_or links k 0 ≡ get_or links l 0 → IsOnRing parts (get_or links k 0)
path_twice parts i last links (one j link) k l lt in' same = absurd (omega arith)
path_twice parts i last links (more j m e rest link hands path) zero zero lt in' same = absurd (omega arith)
path_twice parts i last links (more j m e rest link hands path) zero (suc l) lt in' same =
    path_closes parts j last (j ∷ rest) (more j m last rest link hands path) l in' (sym same)
path_twice parts i last links (more j m e rest link hands path) (suc k) zero lt in' same = absurd (omega arith)
path_twice parts i last links (more j m e rest link hands path) (suc k) (suc l) lt in' same =
    path_twice parts m last rest path k l (omega arith) (omega arith) same
