-- No kept part is on a ring, so that the kept parts are clean.
use Rattle.std.proofs.Common.{◌≡◌, ◌⊎◌, ◌≢◌, ℕ, List, refl, sym, ◌∙◌, ap, subst, inl, inr, ⊎_elim}
use Rattle.bt_parts.specs.declared.part.Cell.{Cell}
use Rattle.bt_parts.specs.declared.part.Dir.{Dir}
use Rattle.bt_parts.specs.declared.part.Kind.TheVariants as kind
use Rattle.bt_parts.specs.declared.part.Part.{Part}
use Rattle.bt_parts.specs.Cells.{step, steps, IsInside}
use Rattle.bt_parts.specs.Layouts.{IsAt, Pairs}
use Rattle.bt_parts.proofs.Places.{same_part, own_cell, covers_at}
use Rattle.bt_model.specs.Chains.{IsLink, Path, one, more}
use Rattle.bt_model.specs.Clean.{IsOnRing, IsClean}
use Rattle.bt_model.specs.Handing.{Feeds, Hands}
use Rattle.bt_model.specs.Shown.{ListsEach}
use Rattle.bt_facts.specs.declared.fact.Fact.TheVariants.{Begins, Goes}
use Rattle.bt_facts.specs.declared.fact.Shape.{Shape}
use Rattle.bt_facts.specs.declared.fact.Shape.TheVariants as shape
use Rattle.bt_facts.specs.Facts.{holds}
use Rattle.bt_facts.specs.Spots.{behind}
use Rattle.bt_rules.specs.Kept.{kind_of, begun, half, handed, under, IsKeptPart}
use Rattle.bt_facts.proofs.Geometry.{behind_step}
use Rattle.bt_facts.proofs.Keeping.{In}
use Rattle.bt_rules.proofs.kept.Solved.{Solved, Says}
use Rattle.bt_rules.proofs.kept.CellFacts.{one_shape, half_there}
use Rattle.bt_rules.proofs.kept.GoingFacts.{taker_there, begun_there, begun_still}
use Rattle.bt_rules.proofs.kept.TunnelFacts.{entrance_there, exit_there}
use Rattle.bt_rules.proofs.kept.Arrivals.{Reached, reached_inside, takes_no_exit}
use Rattle.bt_rules.proofs.kept.PartFacts.{part_there, standing, part_at, at_there, own_at, well_placed}
use Rattle.bt_rules.proofs.kept.HandFacts.{feeds_going, one_near, pair_there, one_entrance, pieces_paired, none_side_loaded, none_blocked}

-- each part of a path is its first, or one of the path hands to it
path_before : (parts : List Part) (i last : ℕ) (links : List ℕ) → Path parts i last links → (j : ℕ) → In links j
    → IsLink parts j × ((j ≡ i) ⊎ ((k : ℕ) × In links k × Hands parts k j))
path_before parts i last links (one a link) j (inl e) = (subst (IsLink parts) (sym e) link, inl e)
path_before parts i last links (one a link) j (inr none) = absurd none
path_before parts i last links (more a b l rest link hands path) j (inl e) = (subst (IsLink parts) (sym e) link, inl e)
path_before parts i last links (more a b l rest link hands path) j (inr there) =
    let found = path_before parts b l rest path j there in (
      found.0,
      ⊎_elim (λ e. inr (a, inl refl, subst (Hands parts a) (sym e) hands)) (λ before. inr (before.0, inr before.1, before.2)) found.1,
    )

pub path_last : (parts : List Part) (i last : ℕ) (links : List ℕ) → Path parts i last links → In links last
path_last parts i last links (one a link) = inl refl
path_last parts i last links (more a b l rest link hands path) = inr (path_last parts b l rest path)

path_first : (parts : List Part) (i last : ℕ) (links : List ℕ) → Path parts i last links → In links i
path_first parts i last links (one a link) = inl refl
path_first parts i last links (more a b l rest link hands path) = inl refl

-- each of the list is a link to which one of the list hands
abbrev IsClosed : List Part → List ℕ → Type 0
IsClosed parts links = (j : ℕ) → In links j → IsLink parts j × ((k : ℕ) × In links k × Hands parts k j)

ring_closed : (parts : List Part) (i : ℕ) (ring : IsOnRing parts i) → IsClosed parts ring.links
ring_closed parts i ring j there =
    let found = path_before parts i ring.last ring.links ring.path j there in (
      found.0,
      ⊎_elim (λ e. (ring.last, path_last parts i ring.last ring.links ring.path, subst (Hands parts ring.last) (sym e) ring.closed)) (λ before. before) found.1,
    )

-- a link is on one cell
pub link_cell : (parts : List Part) (j : ℕ) (a b : Cell) → IsLink parts j → IsAt parts j a → IsAt parts j b → a ≡ b
link_cell parts j a b link at_a at_b =
    own_cell link.0 a link.2 (covers_at parts j link.0 a link.1 at_a) ∙ sym (own_cell link.0 b link.2 (covers_at parts j link.0 b link.1 at_b))

module _ (w : Solved) (parts : List Part) (lists : ListsEach (IsKeptPart w.r w.reading) parts) where
  -- a link on a cell is no half
  pub link_shape : (j : ℕ) (c : Cell) (of : Shape) (dir : Dir) → IsLink parts j → IsAt parts j c → Says w (holds c of dir) → kind_of of ≢ kind.Splitter
  link_shape j c of dir link at says e =
      link.2 (ap (λ z. z.kind) (same_part parts j link.0 _ link.1 (part_at w parts lists j c of dir at says)) ∙ e)

  -- what a pair's exit is
  pub exit_shape : (k j : ℕ) (c : Cell) (of : Shape) (dir : Dir) → Pairs parts k j → IsAt parts j c → Says w (holds c of dir) → kind_of of ≡ kind.Exit
  exit_shape k j c of dir pair at says =
      sym (ap (λ z. z.kind) (same_part parts j pair.exit _ pair.is_b (part_at w parts lists j c of dir at says))) ∙ pair.leaves

  -- nothing feeds the first part of an input
  pub begun_unfed : (c : Cell) → IsInside w.r.rect c → Says w (Begins c) → (i p : ℕ) → IsLink parts i → IsAt parts i c → Feeds parts p i → ⊥
  begun_unfed c inside begins i p link at feeds =
      let going = feeds_going w parts lists p feeds.0 i feeds.1 in
      let same : step going.dir feeds.0 ≡ c = link_cell parts i (step going.dir feeds.0) c link going.there at in
      let back : feeds.0 ≡ behind going.dir c = sym (behind_step going.dir feeds.0) ∙ ap (behind going.dir) same in
      begun_still w c inside going.dir begins (subst (IsInside w.r.rect) back (reached_inside w feeds.0 going.reached))
      (subst (λ z. Says w (Goes z going.dir)) back going.goes)

  none_closed : (links : List ℕ) → IsClosed parts links → (x : Cell) → Reached w x → (j : ℕ) → In links j → IsAt parts j x → ⊥
  none_closed links closed x (begun c i s) j there at =
      let begins = begun_there w c i s in
      let link = (closed j there).0 in
      let before = (closed j there).1 in
      by j begins.0 begins.2 link at before.0 before.2
    where
      no_pair : (j k : ℕ) (dir : Dir) → Says w (holds c shape.Belt dir) ⊎ Says w (holds c shape.Entrance dir) → IsAt parts j c → Pairs parts k j → ⊥
      no_pair j k dir (inl says) at pair = let e = exit_shape k j c shape.Belt dir pair at says in cc
      no_pair j k dir (inr says) at pair = let e = exit_shape k j c shape.Entrance dir pair at says in cc

      by : (j : ℕ) (dir : Dir) → Says w (holds c shape.Belt dir) ⊎ Says w (holds c shape.Entrance dir) → IsLink parts j → IsAt parts j c
          → (k : ℕ) → Hands parts k j → ⊥
      by j dir begins link at k (inl pair) = no_pair j k dir begins at pair
      by j dir begins link at k (inr feeds) = begun_unfed c i s j k link at feeds
  none_closed links closed x (half c i s) j there at =
      let on = half_there w c i s in
      link_shape j c (shape.Half on.0) on.1 (closed j there).0 at on.2 refl
  none_closed links closed x (handed b way on i goes) j there at =
      let before = (closed j there).1 in
      by j (closed j there).0 at before.0 before.2 (λ at_b. none_closed links closed b on before.0 before.1 at_b)
    where
      by : (j : ℕ) → IsLink parts j → IsAt parts j (step way b) → (k : ℕ) → Hands parts k j → (IsAt parts k b → ⊥) → ⊥
      by j link at k (inl pair) never =
          let taker = taker_there w b (reached_inside w b on) way goes in
          shape_of taker.0 (takes_no_exit way taker.0 taker.1 taker.2) (exit_shape k j (step way b) taker.0 taker.1 pair at taker.3)
        where
          shape_of : (of : Shape) → of ≢ shape.Exit → kind_of of ≡ kind.Exit → ⊥
          shape_of shape.Belt other e = cc
          shape_of shape.Entrance other e = cc
          shape_of shape.Exit other e = other refl
          shape_of (shape.Half h) other e = cc
      by j link at k (inr feeds) never =
          let going = feeds_going w parts lists k feeds.0 j feeds.1 in
          let same : step going.dir feeds.0 ≡ step way b = link_cell parts j (step going.dir feeds.0) (step way b) link going.there at in
          let near = one_near w parts lists (step way b) feeds.0 b going.dir way i going.reached on going.goes goes same refl in
          never (subst (IsAt parts k) near.0 feeds.1.look.giver)
  none_closed links closed x (under b way n on i some few far) j there at =
      let before = (closed j there).1 in
      by j (closed j there).0 at before.0 before.2 (λ at_b. none_closed links closed b on before.0 before.1 at_b)
    where
      by : (j : ℕ) → IsLink parts j → IsAt parts j (steps n way b) → (k : ℕ) → Hands parts k j → (IsAt parts k b → ⊥) → ⊥
      by j link at k (inl pair) never =
          let exit = exit_there w b (reached_inside w b on) way n some few i far in
          let near = part_there w parts lists shape.Entrance way b on (entrance_there w b (reached_inside w b on) way n some few i far) in
          let own = pair_there w parts lists b way n near.0 j on some few i far near.1 (part_at w parts lists j (steps n way b) shape.Exit way at exit) in
          let same : near.0 ≡ k = one_entrance w parts lists near.0 k j own pair in
          never (subst (λ z. IsAt parts z b) same (at_there w parts lists near.0 shape.Entrance way b near.1))
      by j link at k (inr feeds) never =
          let exit = exit_there w b (reached_inside w b on) way n some few i far in
          let going = feeds_going w parts lists k feeds.0 j feeds.1 in
          let same : step going.dir feeds.0 ≡ steps n way b = link_cell parts j (step going.dir feeds.0) (steps n way b) link going.there at in
          takes_no_exit going.dir going.taker going.turned going.takes
          (one_shape w (steps n way b) i going.taker shape.Exit going.turned way (subst (λ z. Says w (holds z going.taker going.turned)) same going.said) exit)

  pub none_ringed : (i : ℕ) → IsOnRing parts i → ⊥
  none_ringed i ring =
      let there = path_first parts i ring.last ring.links ring.path in
      let link = (ring_closed parts i ring i there).0 in
      let at = own_at w parts lists i link.0 link.1 in
      none_closed ring.links (ring_closed parts i ring) link.0.cell (standing w parts lists i link.0.cell at).reached i there at

  pub clean : IsClean parts
  clean = record {
    well_placed = well_placed w parts lists;
    paired = pieces_paired w parts lists;
    no_side_load = none_side_loaded w parts lists;
    no_blocked = none_blocked w parts lists;
    no_ring = none_ringed;
  }
