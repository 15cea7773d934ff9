-- In a clean layout each belt and underground piece lies on one chain, which goes along with what is handed.
use Rattle.std.proofs.Common.{◌≡◌, ◌⊎◌, inl, inr, ℕ, suc, List, [], ◌∷◌, length, get_or, refl, sym, ◌∙◌, ap, subst, ⊎_elim, arith}
use Rattle.std.specs.List.{Contains}
use Rattle.std.proofs.lemmas.List.{get_or_default}
use Rattle.bt_parts.specs.declared.part.Cell.{Cell}
use Rattle.bt_parts.specs.declared.part.Part.{Part}
use Rattle.bt_parts.specs.Layouts.{IsAt}
use Rattle.bt_model.specs.Handing.{FeedsFrom, Hands}
use Rattle.bt_model.specs.Chains.{IsSplitter, IsLink, LinksTo, Path, one, more, IsOutput, Source, begins, leaves, Sink, ends, enters, Chain, StartsAs, EndsAs, IsLongest, IsChain}
use Rattle.bt_model.specs.Clean.{IsClean}
use Rattle.bt_model.proofs.HandLemmas.{one_handed}
use Rattle.bt_model.proofs.PathLemmas.{path_start, path_head, path_next, path_front}
use Rattle.bt_model.proofs.Sorted.{contains_head, contains_more, contains_none}
use Rattle.bt_model.specs.Orderly.{IsOrderly}
use Rattle.bt_model.proofs.ChainLemmas.{orderly_of, no_link, path_stop, same_first, no_links_before, chain_from}
use Rattle.bt_model.proofs.ExistLemmas.{run_from, front_of, giver_cases, giver_part, part_cases, half_chain, empty_chain, input_chain, unhanded_input, splitter_feeds}
use Rattle.bt_model.proofs.HandLaws.{output_hands_none}
use Rattle.bt_model.proofs.SameChain.{source_cell}
use Rattle.bt_rules.proofs.Reading.{last_link, ComesFromCell}

-- a path and another from its end on are one path, which has all of the other
join : (parts : List Part) (i j last : ℕ) (xs ys : List ℕ) → Path parts i j xs → Path parts j last ys
    → (zs : List ℕ) × Path parts i last zs × ((k : ℕ) → Contains ys k → Contains zs k)
join parts i j last xs ys (one k link) way = (ys, way, λ k h. h)
join parts i j last xs ys (more k m e rest link hands path) way =
    let joined = join parts m j last rest ys path way in
    (k ∷ joined.0, more k m last joined.0 link hands joined.1, λ l h. contains_more k joined.0 l (joined.2 l h))

-- a path has its first part
has_first : (parts : List Part) (i last : ℕ) (links : List ℕ) → Path parts i last links → Contains links i
has_first parts i last links (one j link) = contains_head j []
has_first parts i last links (more j m e rest link hands path) = contains_head j rest

-- and its last
has_last : (parts : List Part) (i last : ℕ) (links : List ℕ) → Path parts i last links → Contains links last
has_last parts i last links (one j link) = contains_head j []
has_last parts i last links (more j m e rest link hands path) = contains_more j rest last (has_last parts m last rest path)

-- the last of a path's links is its end
path_last_of : (parts : List Part) (i last : ℕ) (xs : List ℕ) → Path parts i last xs → (head : ℕ) (links : List ℕ) → xs ≡ head ∷ links → last_link head links ≡ last
path_last_of parts i last xs (one j link) head [] e = cc
path_last_of parts i last xs (one j link) head (next ∷ links) e = cc
path_last_of parts i last xs (more j m l rest link hands path) head [] e =
    let some = path_head parts m l rest 0 path in let lt = some.0 in
    let none : rest ≡ [] = cc in absurd (let z = ap length none in omega arith)
path_last_of parts i last xs (more j m l rest link hands path) head (next ∷ links) e =
    path_last_of parts m l rest path next links (cc)

pub path_last : (parts : List Part) (i last head : ℕ) (links : List ℕ) → Path parts i last (head ∷ links) → last_link head links ≡ last
path_last parts i last head links path = path_last_of parts i last (head ∷ links) path head links refl

-- what is handed on at the end of a path comes from the cell of its last part
pub comes_cell : (parts : List Part) (source : Source) (links : List ℕ) (first last : ℕ) (cell : Cell) → Path parts first last links → IsAt parts last cell
    → ComesFromCell parts source links cell
comes_cell parts source [] first last cell path at = let head = path_head parts first last [] 0 path in let lt = head.0 in absurd (omega arith)
comes_cell parts source (i ∷ links) first last cell path at = subst (λ j. IsAt parts j cell) (sym (path_last parts first last i links path)) at

-- ---- at a place of a longest chain

module _ (parts : List Part) (clean : IsClean parts) where
  orderly : IsOrderly parts
  orderly = orderly_of parts clean

  contained_at : (links : List ℕ) (i : ℕ) → (h : Contains links i) → get_or links h.0 0 ≡ i
  contained_at links i h = get_or_default links h.0 0 i h.1 ∙ h.2

  -- each of a chain's links is a belt or an underground piece
  pub contained_link : (c : Chain) (i : ℕ) → IsChain parts c → Contains c.links i → IsLink parts i
  contained_link c i (inr h) there = absurd (contains_none i (subst (λ l. Contains l i) h.no_link there))
  contained_link c i (inl h) there =
      let next = path_next parts h.first h.last c.links h.path there.0 there.1 in
      let at = contained_at c.links i there in
      ⊎_elim (λ on. subst (λ j. IsLink parts j) at on.0.0) (λ end. subst (λ j. IsLink parts j) (sym end.1 ∙ at) end.2) next

  -- the link is followed by what it hands to, or it is the last
  followed : (c : Chain) (h : IsLongest parts c) (i : ℕ) → Contains c.links i
      → ((j : ℕ) × LinksTo parts i j × Contains c.links j) ⊎ (h.last ≡ i)
  followed c h i there =
      let next = path_next parts h.first h.last c.links h.path there.0 there.1 in
      let at = contained_at c.links i there in
      ⊎_elim
      (λ on. inl (
        get_or c.links (suc there.0) 0,
        subst (λ j. LinksTo parts j (get_or c.links (suc there.0) 0)) at on.0,
        (suc there.0, on.1, get_or_default c.links (suc there.0) (get_or c.links (suc there.0) 0) 0 on.1),
      ))
      (λ end. inr (sym end.1 ∙ at)) next

  -- two chains with one link are the same
  pub one_chain : (c d : Chain) (i : ℕ) → IsChain parts c → IsChain parts d → Contains c.links i → Contains d.links i → c ≡ d
  one_chain c d i (inr h) is_d in_c in_d = absurd (contains_none i (subst (λ l. Contains l i) h.no_link in_c))
  one_chain c d i (inl h) (inr k) in_c in_d = absurd (contains_none i (subst (λ l. Contains l i) k.no_link in_d))
  one_chain c d i (inl h) (inl k) in_c in_d =
      let front_c = path_front parts h.first h.last c.links h.path in_c.0 in_c.1 in
      let front_d = path_front parts k.first k.last d.links k.path in_d.0 in_d.1 in
      let first : h.first ≡ k.first = same_first parts orderly h.first k.first i front_c.0 front_d.0
      (subst (λ x. Path parts h.first x front_c.0) (contained_at c.links i in_c) front_c.1)
      (subst (λ x. Path parts k.first x front_d.0) (contained_at d.links i in_d) front_d.1)
      (no_links_before parts c h) (no_links_before parts d k) in
      chain_from parts clean.well_placed c d (inl h) (inl k)
      (source_cell parts orderly c.source d.source h.first h.starts (subst (λ x. StartsAs parts d.source x) (sym first) k.starts)
      (path_start parts h.first h.last c.links h.path))

  -- the chain from a half of a splitter that feeds a part
  pub chain_from_half : (s q : ℕ) (half : Cell) → IsSplitter parts s → FeedsFrom parts s half q
      → (c : Chain) × IsChain parts c × (c.source ≡ leaves s half) × (IsLink parts q → Contains c.links q)
  chain_from_half s q half splitter feeds =
      ⊎_elim
      (λ on. (
        record { source = leaves s half; links = []; sink = enters q },
        empty_chain parts s q half splitter on feeds,
        refl,
        λ link. absurd (no_link parts q on link),
      ))
      (λ link. let run = run_from parts orderly clean.no_ring q link in (
        record { source = leaves s half; links = run.links; sink = run.sink },
        half_chain parts orderly s q run.last half run.links run.sink splitter feeds run.path run.ends,
        refl,
        λ l. has_first parts q run.last run.links run.path,
      ))
      (part_cases parts q feeds.look.taker.part feeds.look.taker.is_i)

  -- each belt and underground piece lies on a chain
  pub chain_through : (i : ℕ) → IsLink parts i → (c : Chain) × IsChain parts c × Contains c.links i
  chain_through i link =
      let front = front_of parts orderly clean.no_ring i link in
      let run = run_from parts orderly clean.no_ring i link in
      let whole = join parts front.0 i run.last front.1 run.links front.2 run.path in
      let there = whole.2 i (has_first parts i run.last run.links run.path) in
      let first_link : IsLink parts front.0 = path_start parts front.0 i front.1 front.2 in
      ⊎_elim
      (λ giver.
      let part = giver_part parts giver.0 front.0 giver.1 in
      ⊎_elim
      (λ splitter. let feeds = splitter_feeds parts giver.0 front.0 splitter giver.1 in (
        record { source = leaves giver.0 feeds.0; links = whole.0; sink = run.sink },
        half_chain parts orderly giver.0 front.0 run.last feeds.0 whole.0 run.sink splitter feeds.1 whole.1 run.ends,
        there,
      ))
      (λ on. absurd (front.3 giver.0 (on, first_link, giver.1)))
      (part_cases parts giver.0 part.0 part.1))
      (λ none.
      let input = unhanded_input parts orderly front.0 first_link none in (
        record { source = begins front.0 input.part.cell; links = whole.0; sink = run.sink },
        input_chain parts clean.well_placed front.0 run.last input.part.cell whole.0 run.sink input
            (record { part = input.part; is_i = input.is_i; covers = inl refl }) whole.1 run.ends,
        there,
      ))
      (giver_cases parts orderly front.0 first_link)

  -- a chain goes on with the link that is handed to
  pub goes_on : (c : Chain) (i j : ℕ) → IsChain parts c → Contains c.links i → Hands parts i j → IsLink parts j → Contains c.links j
  goes_on c i j (inr h) there hands link = absurd (contains_none i (subst (λ l. Contains l i) h.no_link there))
  goes_on c i j (inl h) there hands link =
      ⊎_elim
      (λ next. subst (Contains c.links) (one_handed parts clean.well_placed i next.0 j next.1.0 next.1.2 hands) next.2)
      (λ end. absurd (h.none_after j link (subst (λ k. Hands parts k j) (sym end) hands)))
      (followed c h i there)

  -- a chain with a link that hands to a splitter ends there, with that link
  pub ends_into : (c : Chain) (i s : ℕ) → IsChain parts c → Contains c.links i → Hands parts i s → IsSplitter parts s
      → (c.sink ≡ enters s) × ((h : IsLongest parts c) × (h.last ≡ i))
  ends_into c i s (inr h) there hands splitter = absurd (contains_none i (subst (λ l. Contains l i) h.no_link there))
  ends_into c i s (inl h) there hands splitter =
      ⊎_elim
      (λ next. absurd (no_link parts s splitter (subst (λ k. IsLink parts k) (one_handed parts clean.well_placed i next.0 s next.1.0 next.1.2 hands) next.1.1)))
      (λ end. (by c.sink h.ends (subst (λ k. Hands parts k s) (sym end) hands), (h, end)))
      (followed c h i there)
    where
      by : (sink : Sink) → EndsAs parts sink h.last → Hands parts h.last s → sink ≡ enters s
      by (ends j) at to = absurd (output_hands_none parts j at.1 s (subst (λ k. Hands parts k s) at.0 to))
      by (enters t) at to = ap enters (one_handed parts clean.well_placed h.last t s (path_stop parts h.first h.last c.links h.path) at.1 to)

  -- a chain with an output ends with it
  pub ends_out : (c : Chain) (i : ℕ) → IsChain parts c → Contains c.links i → IsOutput parts i → c.sink ≡ ends i
  ends_out c i (inr h) there output = absurd (contains_none i (subst (λ l. Contains l i) h.no_link there))
  ends_out c i (inl h) there output =
      ⊎_elim (λ next. absurd (output_hands_none parts i output next.0 next.1.2)) (λ end. by c.sink h.ends end) (followed c h i there)
    where
      by : (sink : Sink) → EndsAs parts sink h.last → h.last ≡ i → sink ≡ ends i
      by (ends j) at end = ap ends (sym at.0 ∙ end)
      by (enters t) at end = absurd (output_hands_none parts i output t (subst (λ k. Hands parts k t) end at.1))

  -- a chain with a link that a half feeds starts at that half
  pub starts_from : (c : Chain) (s j : ℕ) (half : Cell) → IsChain parts c → Contains c.links j → IsSplitter parts s → FeedsFrom parts s half j → c.source ≡ leaves s half
  starts_from c s j half is there splitter feeds =
      let other = chain_from_half s j half splitter feeds in
      let same : other.0 ≡ c = one_chain other.0 c j other.1 is (other.3 (contained_link c j is there)) there in
      sym (ap (λ d. d.source) same) ∙ other.2

  -- a chain that starts as an input has it
  pub has_input : (c : Chain) (i : ℕ) (cell : Cell) → IsChain parts c → c.source ≡ begins i cell → Contains c.links i
  has_input c i cell (inr h) e = absurd (let s = h.source in cc)
  has_input c i cell (inl h) e =
      let starts : StartsAs parts (begins i cell) h.first = subst (λ x. StartsAs parts x h.first) e h.starts in
      subst (Contains c.links) starts.0 (has_first parts h.first h.last c.links h.path)

  -- a chain that ends as an output has it
  pub has_output : (c : Chain) (i : ℕ) → IsChain parts c → c.sink ≡ ends i → Contains c.links i
  has_output c i (inr h) e = absurd (let s = h.sink in cc)
  has_output c i (inl h) e =
      let at : EndsAs parts (ends i) h.last = subst (λ x. EndsAs parts x h.last) e h.ends in
      subst (Contains c.links) at.0 (has_last parts h.first h.last c.links h.path)

  -- what a chain that starts at a half begins with: a link that the half feeds, or the splitter at which it ends
  pub begins_with : (c : Chain) (s : ℕ) (half : Cell) → IsChain parts c → c.source ≡ leaves s half
      → (q : ℕ) × FeedsFrom parts s half q × ((IsLink parts q × Contains c.links q) ⊎ (IsSplitter parts q × (c.sink ≡ enters q) × (c.links ≡ [])))
  begins_with c s half (inl h) e =
      let starts : StartsAs parts (leaves s half) h.first = subst (λ x. StartsAs parts x h.first) e h.starts in
      (h.first, starts.1, inl (path_start parts h.first h.last c.links h.path, has_first parts h.first h.last c.links h.path))
  begins_with c s half (inr h) e =
      let sources : leaves h.from h.half ≡ leaves s half = sym h.source ∙ e in
      let splitters : h.from ≡ s = cc in
      let halves : h.half ≡ half = cc in
      (h.to, subst (λ x. FeedsFrom parts x half h.to) splitters (subst (λ x. FeedsFrom parts h.from x h.to) halves h.feeds), inr (h.is_to, h.sink, h.no_link))
