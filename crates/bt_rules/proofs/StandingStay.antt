-- Layouts keep the rules of where splitters stand.
use Rattle.std.proofs.Common.{◌≡◌, inl, inr, ℕ, ◌<◌, List, [], ◌∷◌, map, get_or, refl, sym, ◌∙◌, ap, subst, ⊎_elim, arith}
use Rattle.std.specs.List.{flat_map, range_with_len}
use Rattle.std.specs.Prelude.{unsigned_abs}
use Rattle.std.proofs.lemmas.Option.{slice_get-get_or}
use Rattle.bt_parts.specs.declared.part.Cell.{Cell}
use Rattle.bt_parts.specs.declared.part.Dir.{Dir}
use Rattle.bt_parts.specs.declared.part.Part.{Part}
use Rattle.bt_parts.specs.Cells.{beside}
use Rattle.bt_parts.specs.Layouts.{HasPart}
use Rattle.bt_parts.proofs.Places.{one_there}
use Rattle.bt_model.specs.Chains.{IsSplitter}
use Rattle.bt_model.specs.Laying.{Lays}
use Rattle.bt_model.specs.Requests.{LayoutRequest}
use Rattle.bt_model.proofs.ChainLemmas.{no_link}
use Rattle.bt_rules.proofs.Chaining.{contained_link}
use Rattle.bt_facts.specs.declared.fact.Class.{Class}
use Rattle.bt_demands.specs.Classes.{splitters_of}
use Rattle.bt_parts.specs.Layouts.{IsAt}
use Rattle.bt_model.proofs.Places.{contained_at}
use Rattle.bt_facts.specs.declared.fact.Fact.{Fact}
use Rattle.bt_facts.specs.declared.fact.Fact.TheVariants.{Carries, Column, Row, Points, At}
use Rattle.bt_facts.specs.declared.fact.Class.TheVariants.{Split}
use Rattle.bt_facts.specs.declared.fact.Half.{Half}
use Rattle.bt_facts.specs.declared.fact.Half.TheVariants.{Lesser, Greater}
use Rattle.bt_facts.specs.declared.fact.Shape.TheVariants as shape
use Rattle.bt_facts.specs.Rules.{rule, at_most_one}
use Rattle.bt_facts.specs.Spots.{dirs, mate, before, half_at, where_inside, cells_of}
use Rattle.bt_facts.specs.Facts.{holds}
use Rattle.bt_rules.specs.Standing.{owner_rule, at_rules, stands_on, name_rule, standing_rules, stands_at, place_rules}
use Rattle.bt_rules.proofs.Deciding.{stands_at as at_stands, same_split}
use Rattle.bt_facts.proofs.Decided.{contains_at}
use Rattle.bt_facts.proofs.Geometry.{in_dirs, distinct_dirs, before_beside, in_cells}
use Rattle.bt_facts.proofs.Keeping.{In, in_map, from_map, in_flat, in_range, Distinct, distinct_map, distinct_range, each_three, each_flat, each_map, one_in, at_most_stays, AllStay, Stays}
use Rattle.bt_rules.proofs.Laid.{Said, match_of, is_orderly, placed_of, inside_at, stands_as, half_there, in_inside, from_inside}
use Rattle.bt_rules.proofs.Reading.{Stands, Bears, Splits, HasClass}

module _ (r : LayoutRequest) (parts : List Part) (lays : Lays parts r) where
  abbrev S : Fact → Type 0
  S = Said r parts lays

  -- the layout says this class of a part
  abbrev pub HasSaid : ℕ → Class → Type 0
  HasSaid i k = HasClass parts lays.naming r.net.edges r.demands (match_of r parts lays) i k

  -- each splitter bears a number of the network
  pub splitter_number : (i : ℕ) → IsSplitter parts i → (s : ℕ) × (s < r.net.splitters) × Bears lays.naming.splitters s i
  splitter_number i splitter =
      let names = lays.shows.names in
      let found = contained_at lays.naming.splitters i (names.splitters.all i splitter) in
      let count = names.splitter_count in
      let lt = found.1 in
      (found.0, omega (arith, count, lt), found.2)

  -- the splitter on which a half stands
  abbrev pub split_of : (i : ℕ) (splitter : IsSplitter parts i) (s : ℕ) → Bears lays.naming.splitters s i → Splits parts lays.naming s
  split_of i splitter s named = record { index = i; named = named; part = splitter.0; is_part = splitter.1; kind = splitter.2 }

  pub one_split : (s : ℕ) (a b : Splits parts lays.naming s) → (a.index ≡ b.index) × (a.part ≡ b.part)
  one_split s a b = same_split parts (is_orderly r parts lays) lays.naming lays.shows.names.splitters s a b

  owners_stay : (c : Cell) (dir : Dir) → Stays S (owner_rule (splitters_of r) c dir)
  owners_stay c dir given =
      let st = given.0 in
      let splitter : IsSplitter parts st.index = (st.part, st.is_part, st.kind) in
      let number = splitter_number st.index splitter in
      one_in S (map (λ s. At s c dir) (range_with_len 0 r.net.splitters)) (At number.0 c dir)
      (in_map (λ s. At s c dir) (range_with_len 0 r.net.splitters) number.0 (let lt = number.1 in in_range 0 r.net.splitters number.0 (omega arith) (omega (arith, lt))))
      (split_of st.index splitter number.0 number.2, (st.cell, st.turned))

  -- a splitter has its class
  pub split_class : (s : ℕ) (split : Splits parts lays.naming s) → HasSaid split.index (Split s)
  split_class s split = inl ((split.part, split.is_part, split.kind), (s, split.named, refl))

  named_there : (s : ℕ) (c : Cell) (split : Splits parts lays.naming s) → IsAt parts split.index c → S (Carries c (Split s))
  named_there s c split at = (split.index, at, split_class s split)

  -- what follows where a splitter stands on a cell
  at_stay : (s : ℕ) (c : Cell) (dir : Dir) → AllStay S (at_rules r.rect s c dir)
  at_stay s c dir =
      each_map (Stays S) (λ fact. rule (At s c dir ∷ []) (fact ∷ []))
      (holds c (shape.Half Lesser) dir ∷ Carries c (Split s) ∷ Column s (unsigned_abs c.x) ∷ Row s (unsigned_abs c.y) ∷ Points s dir
      ∷ where_inside r.rect (mate Lesser dir c) (Carries (mate Lesser dir c) (Split s) ∷ []))
      (λ fact there given. inl (by fact given.0 there))
    where
      lesser : (split : Splits parts lays.naming s) → c ≡ split.part.cell → split.part.dir ≡ dir → Stands parts c (shape.Half Lesser) dir
      lesser split e t = record { index = split.index; part = split.part; is_part = split.is_part; kind = split.kind; turned = t; cell = e }

      greater : (split : Splits parts lays.naming s) → c ≡ split.part.cell → split.part.dir ≡ dir → Stands parts (mate Lesser dir c) (shape.Half Greater) dir
      greater split e t = record {
        index = split.index;
        part = split.part;
        is_part = split.is_part;
        kind = split.kind;
        turned = t;
        cell = ap (beside dir) e ∙ ap (λ d. beside d split.part.cell) (sym t);
      }

      by : (fact : Fact) → S (At s c dir)
          → In (holds c (shape.Half Lesser) dir ∷ Carries c (Split s) ∷ Column s (unsigned_abs c.x) ∷ Row s (unsigned_abs c.y) ∷ Points s dir
          ∷ where_inside r.rect (mate Lesser dir c) (Carries (mate Lesser dir c) (Split s) ∷ [])) fact → S fact
      by fact at (inl e) = subst S (sym e) (lesser at.0 at.1.0 at.1.1)
      by fact at (inr (inl e)) =
          subst S (sym e) (named_there s c at.0 (at_stands parts (is_orderly r parts lays) c (shape.Half Lesser) dir (lesser at.0 at.1.0 at.1.1)))
      by fact at (inr (inr (inl e))) = subst S (sym e) (at.0, ap (λ d. unsigned_abs d.x) (sym at.1.0))
      by fact at (inr (inr (inr (inl e)))) = subst S (sym e) (at.0, ap (λ d. unsigned_abs d.y) (sym at.1.0))
      by fact at (inr (inr (inr (inr (inl e))))) = subst S (sym e) (at.0, at.1.1)
      by fact at (inr (inr (inr (inr (inr h))))) =
          let found = from_inside r.rect (mate Lesser dir c) (Carries (mate Lesser dir c) (Split s) ∷ []) fact h in
          ⊎_elim
          (λ e. subst S (sym e) (named_there s (mate Lesser dir c) at.0
          (at_stands parts (is_orderly r parts lays) (mate Lesser dir c) (shape.Half Greater) dir (greater at.0 at.1.0 at.1.1))))
          (λ n. absurd n) found.1

  -- a half with the class of a splitter is one of its halves
  pub split_on : (s i : ℕ) → IsSplitter parts i → HasSaid i (Split s) → Bears lays.naming.splitters s i
  split_on s i splitter (inl h) = let same : h.1.0 ≡ s = let e = h.1.2 in cc in subst (λ t. Bears lays.naming.splitters t i) same h.1.1
  split_on s i splitter (inr h) = absurd (no_link parts i splitter
      (contained_link parts lays.shows.clean ((match_of r parts lays).chain_of h.0) i ((match_of r parts lays).is_chain h.0 h.1.0) h.1.1))

  names_stay : (c : Cell) (s : ℕ) → Stays S (name_rule r.rect c s)
  names_stay c s given =
      let on = given.0 in
      let carries = given.1.0 in
      let index : carries.0 ≡ on.0 = one_there parts (placed_of r parts lays) carries.0 on.0 c carries.1 on.2 in
      let named = split_on s on.0 on.1 (subst (λ i. HasSaid i (Split s)) index carries.2) in
      let half = half_there r parts lays on.0 c on.1 on.2 in
      let same = stands_as r parts lays c (shape.Half half.0) on.2.part.dir half.1 on.0 on.2 in
      let split : Splits parts lays.naming s = record {
        index = on.0;
        named = named;
        part = half.1.part;
        is_part = subst (λ j. HasPart parts j half.1.part) same.0 half.1.is_part;
        kind = half.1.kind;
      } in
      let dir = on.2.part.dir in
      one_in S (flat_map (stands_on r.rect s c) dirs) (place half.0 dir) (in_flat (stands_on r.rect s c) dirs dir (place half.0 dir) (in_dirs dir) (among half.0 dir split half.1.cell half.1.turned))
      (by half.0 dir split half.1.cell half.1.turned)
    where
      place : Half → Dir → Fact
      place Lesser dir = At s c dir
      place Greater dir = At s (before dir c) dir

      back : (dir : Dir) (split : Splits parts lays.naming s) → c ≡ beside split.part.dir split.part.cell → split.part.dir ≡ dir → before dir c ≡ split.part.cell
      back dir split e t = ap (before dir) (e ∙ ap (λ d. beside d split.part.cell) t) ∙ before_beside dir split.part.cell

      among : (half : Half) (dir : Dir) (split : Splits parts lays.naming s) → c ≡ half_at half split.part.dir split.part.cell → split.part.dir ≡ dir
          → In (stands_on r.rect s c dir) (place half dir)
      among Lesser dir split e t = inl refl
      among Greater dir split e t = inr (in_inside r.rect (before dir c) (At s (before dir c) dir ∷ []) (At s (before dir c) dir)
          (inside_at r parts lays split.index (before dir c) (record { part = split.part; is_i = split.is_part; covers = inl (back dir split e t) })) (inl refl))

      by : (half : Half) (dir : Dir) (split : Splits parts lays.naming s) → c ≡ half_at half split.part.dir split.part.cell → split.part.dir ≡ dir
          → S (place half dir)
      by Lesser dir split e t = (split, (e, t))
      by Greater dir split e t = (split, (back dir split e t, t))

  pub standing_stay : (c : Cell) → AllStay S (standing_rules r c)
  standing_stay c = each_three (Stays S)
      (map (owner_rule (splitters_of r) c) dirs) (flat_map (λ s. flat_map (at_rules r.rect s c) dirs) (splitters_of r)) (map (name_rule r.rect c) (splitters_of r))
      (each_map (Stays S) (owner_rule (splitters_of r) c) dirs (λ dir at. owners_stay c dir))
      (each_flat (Stays S) (λ s. flat_map (at_rules r.rect s c) dirs) (splitters_of r)
      (λ s at. each_flat (Stays S) (at_rules r.rect s c) dirs (λ dir there. at_stay s c dir)))
      (each_map (Stays S) (name_rule r.rect c) (splitters_of r) (λ s at. names_stay c s))

  -- a splitter of the network
  pub the_splitter : (s : ℕ) → s < r.net.splitters → Splits parts lays.naming s
  the_splitter s lt =
      let names = lays.shows.names in
      let count = names.splitter_count in
      let index = get_or lays.naming.splitters s 0 in
      let named : Bears lays.naming.splitters s index = slice_get-get_or lays.naming.splitters s 0 (omega (arith, count, lt)) in
      split_of index (names.splitters.only index (contains_at lays.naming.splitters s index named)) s named

  -- of what a splitter has one, it has at most one
  one_of_split : {X : Type 0} (f : X → Fact) (xs : List X) (s : ℕ) (key : Part → X) → Distinct xs → ((x y : X) → f x ≡ f y → x ≡ y)
      → ((x : X) → S (f x) → (split : Splits parts lays.naming s) × (key split.part ≡ x)) → AllStay S (at_most_one (map f xs))
  one_of_split f xs s key distinct one tells = at_most_stays S (map f xs) (distinct_map f one xs distinct)
      (λ g h in_g in_h p q.
      let a = from_map f xs g in_g in
      let b = from_map f xs h in_h in
      let left = tells a.0 (subst S a.2 p) in
      let right = tells b.0 (subst S b.2 q) in
      let same : a.0 ≡ b.0 = sym left.1 ∙ ap key (one_split s left.0 right.0).1 ∙ right.1 in
      a.2 ∙ ap f same ∙ sym b.2)

  pub places_stay : (s : ℕ) → s < r.net.splitters → AllStay S (place_rules r.rect s)
  places_stay s lt = (
    λ none.
        let split = the_splitter s lt in
        one_in S (stands_at r.rect s) (At s split.part.cell split.part.dir)
        (in_flat (λ c. map (At s c) dirs) (cells_of r.rect) split.part.cell (At s split.part.cell split.part.dir)
        (in_cells r.rect split.part.cell (inside_at r parts lays split.index split.part.cell (record { part = split.part; is_i = split.is_part; covers = inl refl })))
        (in_map (At s split.part.cell) dirs split.part.dir (in_dirs split.part.dir)))
        (split, (refl, refl)),
    each_three (Stays S)
        (at_most_one (map (Column s) (range_with_len 0 r.rect.width)))
        (at_most_one (map (Row s) (range_with_len 0 r.rect.height)))
        (at_most_one (map (Points s) dirs))
        (one_of_split (Column s) (range_with_len 0 r.rect.width) s (λ part. unsigned_abs part.cell.x) (distinct_range 0 r.rect.width) (λ x y e. cc) (λ x h. h))
        (one_of_split (Row s) (range_with_len 0 r.rect.height) s (λ part. unsigned_abs part.cell.y) (distinct_range 0 r.rect.height) (λ x y e. cc) (λ x h. h))
        (one_of_split (Points s) dirs s (λ part. part.dir) distinct_dirs (λ x y e. cc) (λ x h. h)),
  )
