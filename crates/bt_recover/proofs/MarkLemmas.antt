-- Marking the chains leaves the rings.
use Rattle.std.proofs.Common.{◌≡◌, ◌⊎◌, ℕ, zero, suc, ◌+◌, ◌<◌, List, [], ◌∷◌, ◌++◌, length, get_or, set, replicate, Option, Some, None, Bool, true, false, not, refl, sym, ◌∙◌, ap, subst, inl, inr, ⊎_elim, arith}
use Rattle.std.specs.Option.{MatchOption, is_some}
use Rattle.std.proofs.lemmas.Option.{slice_get_within}
use Rattle.std.proofs.lemmas.Bool.{cases_eq, cases_lt, false≢true}
use Rattle.std.proofs.lemmas.List.{get_or-set_same, get_or-set_other, length-set, get_or_past, get_or-replicate, length-replicate}
use Rattle.bt_parts.specs.declared.part.Part.{Part}
use Rattle.bt_parts.specs.Layouts.{IsWellPlaced}
use Rattle.bt_model.specs.Handing.{Hands}
use Rattle.bt_model.specs.Chains.{IsLink, LinksTo, Path, one, more}
use Rattle.bt_model.specs.Clean.{IsOnRing}
use Rattle.bt_model.proofs.HandLemmas.{one_handed}
use Rattle.bt_model.proofs.PathLemmas.{path_start, path_snoc, path_within, path_twice, crowded}
use Rattle.bt_model.specs.Orderly.{Never, IsOrderly}
use Rattle.bt_recover.specs.Recovered.{IsFirst}
use Rattle.bt_recover.specs.inner.Marks.{IsMarked, AreMarks, Keeps, IsUnmarkedLink}
use Rattle.bt_model.proofs.HandLaws.{one_giver}

-- what a part on a ring hands to is on the ring
ring_next : (parts : List Part) → IsWellPlaced parts → (i j last : ℕ) (links : List ℕ) → Path parts i last links → Hands parts last i → LinksTo parts i j → IsOnRing parts j
ring_next parts placed i j last links (one k link) closed on =
    let same : k ≡ j = one_handed parts placed k k j link closed on.2 in
    subst (λ x. IsOnRing parts x) same (record { last = k; links = k ∷ []; path = one k link; closed = closed })
ring_next parts placed i j last links (more k m e rest link hands path) closed on =
    let same : m ≡ j = one_handed parts placed k m j link hands on.2 in
    subst (λ x. IsOnRing parts x) same (record {
      last = k;
      links = rest ++ k ∷ [];
      path = path_snoc parts m last k rest path closed link;
      closed = hands;
    })

-- so is all that it leads to
ring_leads : (parts : List Part) → IsWellPlaced parts → (i last : ℕ) (links : List ℕ) → Path parts i last links → IsOnRing parts i → IsOnRing parts last
ring_leads parts placed i last links (one j link) ring = ring
ring_leads parts placed i last links (more j m e rest link hands path) ring =
    ring_leads parts placed m last rest path
    (ring_next parts placed j m ring.last ring.links ring.path ring.closed (link, path_start parts m last rest path, hands))

ring_end : (parts : List Part) → IsWellPlaced parts → (i last : ℕ) (links : List ℕ) → Path parts i last links → (k : ℕ) → k < length links
    → IsOnRing parts (get_or links k 0) → IsOnRing parts last
ring_end parts placed i last links (one j link) zero lt ring = ring
ring_end parts placed i last links (one j link) (suc k) lt ring = absurd (omega arith)
ring_end parts placed i last links (more j m e rest link hands path) zero lt ring =
    ring_leads parts placed j last (j ∷ rest) (more j m last rest link hands path) ring
ring_end parts placed i last links (more j m e rest link hands path) (suc k) lt ring =
    ring_end parts placed m last rest path k (omega arith) ring

-- the last of a path is a link
path_stop : (parts : List Part) (i last : ℕ) (links : List ℕ) → Path parts i last links → IsLink parts last
path_stop parts i last links (one j link) = link
path_stop parts i last links (more j m e rest link hands path) = path_stop parts m last rest path

-- what hands to a part on a ring is on the ring
pub ring_back : (parts : List Part) → IsOrderly parts → (i j : ℕ) → LinksTo parts i j → IsOnRing parts j → IsOnRing parts i
ring_back parts orderly i j on ring =
    let same : ring.last ≡ i = one_giver parts orderly ring.last i j on.1 ring.closed on.2 in
    subst (λ x. IsOnRing parts x) same
    (ring_leads parts orderly.well_placed j ring.last ring.links ring.path ring)

-- a mark set
pub marked_here : (marks : List Bool) (i : ℕ) → i < length marks → IsMarked (set marks i true) i
marked_here marks i lt = get_or-set_same marks i true false lt

pub marked_still : (marks : List Bool) (i : ℕ) → i < length marks → Keeps marks (set marks i true)
marked_still marks i lt k marked =
    ⊎_elim (λ e. subst (λ x. IsMarked (set marks i true) x) (sym e) (marked_here marks i lt))
    (λ apart. get_or-set_other marks i k true false apart ∙ marked)
    (cases_eq k i)

marked_cases : (marks : List Bool) (i k : ℕ) → IsMarked (set marks i true) k → (k ≡ i) ⊎ IsMarked marks k
marked_cases marks i k marked =
    ⊎_elim (λ e. inl e) (λ apart. inr (sym (get_or-set_other marks i k true false apart) ∙ marked)) (cases_eq k i)

-- on the way along a chain, the marks are those of chains but for what follows the last one marked
pub record IsMarking (parts : List Part) (before marks : List Bool) (start i : ℕ) : Type 0 where
  pub within : i < length parts
  pub link : IsLink parts i
  pub clear : IsOnRing parts i → ⊥
  pub count : length marks ≡ length parts
  pub sound : (k : ℕ) → IsMarked marks k → IsOnRing parts k → ⊥
  pub closed : (k j : ℕ) → IsMarked marks k → LinksTo parts k j → IsMarked marks j ⊎ (j ≡ i)
  pub keeps : Keeps before marks
  pub started : IsMarked marks start ⊎ (i ≡ start)

pub marking_first : (parts : List Part) (marks : List Bool) (start : ℕ) → AreMarks parts marks → start < length parts → IsLink parts start → (IsOnRing parts start → ⊥)
    → IsMarking parts marks marks start start
marking_first parts marks start are within link clear = record {
  within = within;
  link = link;
  clear = clear;
  count = are.count;
  sound = are.sound;
  closed = λ k j marked on. inl (are.closed k j marked on);
  keeps = λ k marked. marked;
  started = inr refl;
}

pub marking_more : (parts : List Part) → IsOrderly parts → (before marks : List Bool) (start i next : ℕ) → IsMarking parts before marks start i
    → LinksTo parts i next → next < length parts → IsMarking parts before (set marks i true) start next
marking_more parts orderly before marks start i next on link within =
    let lt : i < length marks = let w = on.within in let n = on.count in omega arith in
    record {
      within = within;
      link = link.1;
      clear = λ ring. on.clear (ring_back parts orderly i next link ring);
      count = length-set marks i true ∙ on.count;
      sound = λ k marked ring. ⊎_elim (λ e. on.clear (subst (λ x. IsOnRing parts x) e ring)) (λ had. on.sound k had ring) (marked_cases marks i k marked);
      closed = λ k j marked links. ⊎_elim
          (λ e. inr (sym (one_handed parts orderly.well_placed i next j on.link link.2 (subst (λ x. Hands parts x j) e links.2))))
          (λ had. inl (⊎_elim (λ done. marked_still marks i lt j done) (λ e. subst (λ x. IsMarked (set marks i true) x) (sym e) (marked_here marks i lt)) (on.closed k j had links)))
          (marked_cases marks i k marked);
      keeps = λ k marked. marked_still marks i lt k (on.keeps k marked);
      started = inl (⊎_elim (λ done. marked_still marks i lt start done) (λ e. subst (λ x. IsMarked (set marks i true) x) e (marked_here marks i lt)) on.started);
    }

-- the chain ends here
pub marking_stops : (parts : List Part) (before marks : List Bool) (start i : ℕ) → IsMarking parts before marks start i → ((j : ℕ) → LinksTo parts i j → ⊥)
    → AreMarks parts (set marks i true)
marking_stops parts before marks start i on none =
    let lt : i < length marks = let w = on.within in let n = on.count in omega arith in
    record {
      count = length-set marks i true ∙ on.count;
      sound = λ k marked ring. ⊎_elim (λ e. on.clear (subst (λ x. IsOnRing parts x) e ring)) (λ had. on.sound k had ring) (marked_cases marks i k marked);
      closed = λ k j marked links. ⊎_elim
          (λ e. absurd (none j (subst (λ x. LinksTo parts x j) e links)))
          (λ had. ⊎_elim (λ done. marked_still marks i lt j done) (λ e. subst (λ x. IsMarked (set marks i true) x) (sym e) (marked_here marks i lt)) (on.closed k j had links))
          (marked_cases marks i k marked);
    }

pub marking_stopped_keeps : (parts : List Part) (before marks : List Bool) (start i : ℕ) → IsMarking parts before marks start i → Keeps before (set marks i true)
marking_stopped_keeps parts before marks start i on k marked =
    marked_still marks i (let w = on.within in let n = on.count in omega arith) k (on.keeps k marked)

pub marking_stopped_start : (parts : List Part) (before marks : List Bool) (start i : ℕ) → IsMarking parts before marks start i → IsMarked (set marks i true) start
marking_stopped_start parts before marks start i on =
    let lt : i < length marks = let w = on.within in let n = on.count in omega arith in
    ⊎_elim (λ done. marked_still marks i lt start done) (λ e. subst (λ x. IsMarked (set marks i true) x) e (marked_here marks i lt)) on.started

-- the chain joins what was marked
pub marking_joins : (parts : List Part) (before marks : List Bool) (start i : ℕ) → IsMarking parts before marks start i → IsMarked marks i → AreMarks parts marks
marking_joins parts before marks start i on marked = record {
  count = on.count;
  sound = on.sound;
  closed = λ k j had links. ⊎_elim (λ done. done) (λ e. subst (λ x. IsMarked marks x) (sym e) marked) (on.closed k j had links);
}

pub marking_joined_start : (parts : List Part) (before marks : List Bool) (start i : ℕ) → IsMarking parts before marks start i → IsMarked marks i → IsMarked marks start
marking_joined_start parts before marks start i on marked = ⊎_elim (λ done. done) (λ e. subst (λ x. IsMarked marks x) e marked) on.started

-- nothing is marked
pub none_marked : (parts : List Part) (n : ℕ) → n ≡ length parts → (marks : List Bool) → marks ≡ replicate n false → AreMarks parts marks
none_marked parts n e marks is = record {
  count = ap length is ∙ length-replicate n false ∙ e;
  sound = λ k marked ring. unmarked k marked;
  closed = λ k j marked links. absurd (unmarked k marked);
} where
  unmarked : (k : ℕ) → IsMarked marks k → ⊥
  unmarked k marked = ⊎_elim
      (λ lt. false≢true (sym (get_or-replicate n k false false lt) ∙ subst (λ ms. IsMarked ms k) is marked))
      (λ ge. false≢true (sym (get_or_past (replicate n false) k false (let l = length-replicate n false in omega arith)) ∙ subst (λ ms. IsMarked ms k) is marked))
      (cases_lt k n)

-- each unmarked part up to here has one before it
abbrev pub HasStarts : List Part → List Bool → ℕ → Type 0
HasStarts parts marks n = (k : ℕ) → k < n → IsLink parts k → IsMarked marks k ⊎ ((p : ℕ) × LinksTo parts p k)

pub starts_more : (parts : List Part) (before marks : List Bool) (n : ℕ) → Keeps before marks → HasStarts parts before n
    → (IsLink parts n → IsMarked marks n ⊎ ((p : ℕ) × LinksTo parts p n)) → HasStarts parts marks (n + 1)
starts_more parts before marks n keeps starts here k lt link =
    ⊎_elim (λ below. ⊎_elim (λ marked. inl (keeps k marked)) (λ p. inr p) (starts k below link))
    (λ above. let same : k ≡ n = omega arith in
    subst (λ x. IsMarked marks x ⊎ ((p : ℕ) × LinksTo parts p x)) (sym same) (here (subst (λ x. IsLink parts x) same link)))
    (cases_lt k n)

-- before an unmarked part there are as many unmarked ones as one likes
unmarked_before : (parts : List Part) (marks : List Bool) → AreMarks parts marks → HasStarts parts marks (length parts) → (i : ℕ) → IsUnmarkedLink parts marks i
    → (n : ℕ) → (b : ℕ) × (links : List ℕ) × Path parts b i links × (length links ≡ suc n) × (IsMarked marks b → ⊥)
unmarked_before parts marks are starts i unmarked zero = (i, i ∷ [], one i unmarked.0, refl, unmarked.1)
unmarked_before parts marks are starts i unmarked (suc n) =
    let found = unmarked_before parts marks are starts i unmarked n in
    let link : IsLink parts found.0 = path_start parts found.0 i found.1 found.2 in
    ⊎_elim (λ marked. absurd (found.4 marked))
    (λ p. (
      p.0,
      p.0 ∷ found.1,
      more p.0 found.0 i found.1 p.1.0 p.1.2 found.2,
      ap suc found.3,
      λ marked. found.4 (are.closed p.0 found.0 marked p.1),
    ))
    (starts found.0 (slice_get_within parts found.0 link.0 link.1) link)

-- so an unmarked part is on a ring
unmarked_ring : (parts : List Part) → IsWellPlaced parts → (marks : List Bool) → AreMarks parts marks → HasStarts parts marks (length parts)
    → (i : ℕ) → IsUnmarkedLink parts marks i → IsOnRing parts i
unmarked_ring parts placed marks are starts i unmarked =
    let found = unmarked_before parts marks are starts i unmarked (length parts) in
    let twice = crowded (length parts) found.1 (let e = found.3 in omega arith) (path_within parts found.0 i found.1 found.2) in
    ring_end parts placed found.0 i found.1 found.2 twice.0 (let lt = twice.2 in let in' = twice.3 in omega arith)
    (path_twice parts found.0 i found.1 found.2 twice.0 twice.1 twice.2 twice.3 twice.4)

ring_link : (parts : List Part) (i : ℕ) → IsOnRing parts i → IsLink parts i
ring_link parts i ring = path_start parts i ring.last ring.links ring.path

-- the first unmarked part is the first on a ring
pub first_ring : (parts : List Part) → IsWellPlaced parts → (marks : List Bool) → AreMarks parts marks → HasStarts parts marks (length parts)
    → (found : Option ℕ) → MatchOption found (Never (IsUnmarkedLink parts marks)) (IsFirst (IsUnmarkedLink parts marks))
    → MatchOption found (Never (IsOnRing parts)) (IsFirst (IsOnRing parts))
first_ring parts placed marks are starts None none = λ i ring. none i (ring_link parts i ring, λ marked. are.sound i marked ring)
first_ring parts placed marks are starts (Some i) first = (
  unmarked_ring parts placed marks are starts i first.0,
  λ j lt ring. first.1 j lt (ring_link parts j ring, λ marked. are.sound j marked ring),
)

-- a part before which there is none is on no ring
pub start_free : (parts : List Part) (i : ℕ) → ((p : ℕ) → LinksTo parts p i → ⊥) → IsOnRing parts i → ⊥
start_free parts i none ring = none ring.last (path_stop parts i ring.last ring.links ring.path, ring_link parts i ring, ring.closed)

-- a test that there is none tells that there is none
pub none_tells : (P : Type 0) (Q : ℕ → Type 0) (o : Option ℕ) (b : Bool) → is_some o ≡ not b → b ≡ true → MatchOption o P Q → P
none_tells P Q None b e t none = none
none_tells P Q (Some p) b e t some = absurd (false≢true (sym (e ∙ ap not t)))
