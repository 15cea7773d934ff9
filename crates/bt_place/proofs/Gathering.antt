-- Gathering the parts of the cells that are marked.
use Rattle.std.proofs.Common.{◌≡◌, ◌≢◌, ℕ, ◌+◌, ◌<◌, Bool, List, [], ◌∷◌, ◌++◌, length, get_or, sym, ◌∙◌, ap, subst, ⊎_elim, arith}
use Rattle.std.specs.List.{AllPairs, Contains}
use Rattle.std.proofs.lemmas.Bool.{cases_lt}
use Rattle.std.proofs.lemmas.List.{get_or_default}
use Rattle.std.proofs.lemmas.List.Elements.{Contains-append_left, Contains-push, Contains-push_cases}
use Rattle.std.proofs.lemmas.List.Quantifiers.{all_pairs_push}
use Rattle.bt_parts.specs.declared.part.Dir.{Dir}
use Rattle.bt_parts.specs.declared.part.Part.{Part}
use Rattle.bt_parts.specs.Cells.{IsInside}
use Rattle.bt_model.specs.Laying.{Lays}
use Rattle.bt_model.specs.Shown.{ListsEach}
use Rattle.bt_facts.specs.declared.fact.Content.TheVariants.{Empty}
use Rattle.bt_facts.specs.declared.fact.Fact.TheVariants.{Kind}
use Rattle.bt_facts.specs.declared.fact.Half.TheVariants.{Greater}
use Rattle.bt_facts.specs.declared.fact.Shape.{Shape}
use Rattle.bt_facts.specs.declared.fact.Shape.TheVariants as shape
use Rattle.bt_facts.specs.Facts.{holds}
use Rattle.bt_rules.specs.Kept.{kind_of, IsKeptPart}
use Rattle.bt_rules.proofs.kept.Arrivals.{reached_inside}
use Rattle.bt_rules.proofs.kept.CellFacts.{one_shape, one_dir, not_empty}
use Rattle.bt_rules.proofs.kept.Keeping.{keeping_lays}
use Rattle.bt_rules.proofs.kept.PartFacts.{part_is}
use Rattle.bt_place.specs.Solutions.{ComesAbove}
use Rattle.bt_place.specs.inner.Grid.{spots_in, spot_in}
use Rattle.bt_place.specs.inner.Told.{Told, reading_of, IsSolved}
use Rattle.bt_place.specs.inner.Reaching.{Says, Reached, cell_in, StandsAs, IsMarked, AreMarks, HasStarts}
use Rattle.bt_place.proofs.Cells.{spot_within, numbered_spot, spot_numbered, numbered_inside, above_of}
use Rattle.bt_place.proofs.Marking.{all_marked}
use Rattle.bt_place.proofs.Solving.{solved_of}

-- a part that is kept
abbrev KeptPart : Told → Part → Type 0
KeptPart t part = IsKeptPart t.request (reading_of t) part

-- the parts of the marked cells before this number, in the order of their cells
pub record IsGathered (t : Told) (n : ℕ) (parts : List Part) : Type 0 where
  pub all : (part : Part) → KeptPart t part → spot_in t.request.rect part.cell < n → Contains parts part
  pub only : (part : Part) → Contains parts part → KeptPart t part × (spot_in t.request.rect part.cell < n)
  pub order : AllPairs (λ one other. spot_in t.request.rect one.cell < spot_in t.request.rect other.cell) parts

pub none_gathered : (t : Told) → IsGathered t 0 []
none_gathered t = record {
  all = λ part kept lt. absurd (omega arith);
  only = λ part there. let lt = there.1 in absurd (omega arith);
  order = λ i j d lt below. absurd (omega arith);
}

module _ (t : Told) (solved : IsSolved t) where
  part_inside : (part : Part) → KeptPart t part → IsInside t.request.rect part.cell
  part_inside part kept = reached_inside (solved_of t solved) part.cell kept.reached

  -- ---- which part a cell gives

  pub none_on_empty : (i : ℕ) → i < spots_in t.request.rect → Says t (Kind (cell_in t i) Empty)
      → (of : Shape) (dir : Dir) → of ≢ shape.Half Greater → Says t (holds (cell_in t i) of dir) → ⊥
  none_on_empty i lt empty of dir own says =
      not_empty (solved_of t solved) (cell_in t i) (numbered_inside t.request.rect i solved.is_request.grid lt) of dir says empty

  pub none_on_greater : (i : ℕ) (other : Shape) (way : Dir) → i < spots_in t.request.rect → Says t (holds (cell_in t i) other way)
      → other ≡ shape.Half Greater → (of : Shape) (dir : Dir) → of ≢ shape.Half Greater
      → Says t (holds (cell_in t i) of dir) → ⊥
  none_on_greater i other way lt there greater of dir own says =
      own (one_shape (solved_of t solved) (cell_in t i) (numbered_inside t.request.rect i solved.is_request.grid lt) of other dir way says there ∙ greater)

  module _ (n : ℕ) (lt : n < spots_in t.request.rect) (parts : List Part) (on : IsGathered t n parts) where
    -- no part on the cell with this number
    pub gathered_same : ((part : Part) → KeptPart t part → part.cell ≡ cell_in t n → ⊥) → IsGathered t (n + 1) parts
    gathered_same none = record {
      all = λ part kept below. ⊎_elim (λ before. on.all part kept before)
          (λ here. let at : spot_in t.request.rect part.cell ≡ n = omega arith in
          absurd (none part kept (sym (spot_numbered t.request.rect part.cell (part_inside part kept)) ∙ ap (cell_in t) at)))
          (cases_lt (spot_in t.request.rect part.cell) n);
      only = λ part there. let had = on.only part there in (had.0, let less = had.1 in omega arith);
      order = on.order;
    }

    -- one more part
    pub gathered_kept : (part : Part) → KeptPart t part → part.cell ≡ cell_in t n → IsGathered t (n + 1) (parts ++ part ∷ [])
    gathered_kept part kept at =
        let here : spot_in t.request.rect part.cell ≡ n = ap (spot_in t.request.rect) at ∙ numbered_spot t.request.rect n in
        record {
          all = λ other other_kept below. ⊎_elim (λ before. Contains-append_left parts (part ∷ []) other (on.all other other_kept before))
              (λ there. let spot : spot_in t.request.rect other.cell ≡ n = omega arith in
              subst (Contains (parts ++ part ∷ [])) (same_there part other kept other_kept at
              (sym (spot_numbered t.request.rect other.cell (part_inside other other_kept)) ∙ ap (cell_in t) spot))
              (Contains-push parts part))
              (cases_lt (spot_in t.request.rect other.cell) n);
          only = λ other there. ⊎_elim (λ before. let had = on.only other before in (had.0, let less = had.1 in omega arith))
              (λ e. (subst (KeptPart t) e kept, (let same : spot_in t.request.rect other.cell ≡ n = ap (λ p. spot_in t.request.rect p.cell) (sym e) ∙ here in omega arith)))
              (Contains-push_cases parts part other there);
          order = all_pairs_push (λ one other. spot_in t.request.rect one.cell < spot_in t.request.rect other.cell) parts part on.order
              (λ k d below. let had = (on.only (get_or parts k d) (k, below, get_or_default parts k (get_or parts k d) d below)).1 in omega arith);
        }
      where
        same_there : (a b : Part) (x : KeptPart t a) (y : KeptPart t b) → a.cell ≡ cell_in t n → b.cell ≡ cell_in t n → a ≡ b
        same_there a b x y at_a at_b =
            let w = solved_of t solved in
            let inside = numbered_inside t.request.rect n solved.is_request.grid lt in
            let says_a = subst (λ c. Says t (holds c x.of a.dir)) at_a x.stands in
            let says_b = subst (λ c. Says t (holds c y.of b.dir)) at_b y.stands in
            part_is a b (x.is_kind ∙ ap kind_of (one_shape w (cell_in t n) inside x.of y.of a.dir b.dir says_a says_b) ∙ sym y.is_kind) (x.tier ∙ sym y.tier)
            (one_dir w (cell_in t n) inside x.of y.of a.dir b.dir says_a says_b) (at_a ∙ sym at_b)

  module _ (marks : List Bool) (are : AreMarks t marks) (n : ℕ) (lt : n < spots_in t.request.rect) (parts : List Part) (on : IsGathered t n parts) where
    -- an unmarked cell
    pub gathered_unmarked : HasStarts t marks (spots_in t.request.rect) → (IsMarked marks n → ⊥) → IsGathered t (n + 1) parts
    gathered_unmarked starts unmarked = gathered_same n lt parts on (λ part kept at. unmarked
        (subst (IsMarked marks) (ap (spot_in t.request.rect) at ∙ numbered_spot t.request.rect n)
        (all_marked t solved marks are starts part.cell kept.reached)))

    -- a marked cell that is no part's own one
    pub gathered_none : ((of : Shape) (dir : Dir) → of ≢ shape.Half Greater → Says t (holds (cell_in t n) of dir) → ⊥)
        → IsGathered t (n + 1) parts
    gathered_none none = gathered_same n lt parts on (λ part kept at. none kept.of part.dir kept.no_greater
        (subst (λ c. Says t (holds c kept.of part.dir)) at kept.stands))

    -- a part on a marked cell
    pub gathered_more : (part : Part) → IsMarked marks n → part.cell ≡ cell_in t n → (of : Shape) → StandsAs t part of
        → IsGathered t (n + 1) (parts ++ part ∷ [])
    gathered_more part marked at of stands = gathered_kept n lt parts on part (record {
      of = of;
      no_greater = stands.own;
      reached = subst (λ c. Reached t c) (sym at) (are.sound n lt marked);
      stands = stands.says;
      is_kind = stands.is_kind;
      tier = stands.tier;
    }) at

  -- ---- all parts

  pub gathered_all : (parts : List Part) → IsGathered t (spots_in t.request.rect) parts → ListsEach (IsKeptPart t.request (reading_of t)) parts
  gathered_all parts on = record {
    all = λ part kept. on.all part kept (spot_within t.request.rect part.cell (part_inside part kept));
    only = λ part there. (on.only part there).0;
    once = λ i j d lt below same. let less = on.order i j d lt below in
        let spots : spot_in t.request.rect (get_or parts i d).cell ≡ spot_in t.request.rect (get_or parts j d).cell = ap (λ p. spot_in t.request.rect p.cell) same in
        omega arith;
  }

  pub gathered_lays : (parts : List Part) → IsGathered t (spots_in t.request.rect) parts → Lays parts t.request
  gathered_lays parts on = keeping_lays t.request (reading_of t) parts solved.is_request solved.keeps (gathered_all parts on)

  pub gathered_order : (parts : List Part) (n : ℕ) → IsGathered t n parts → AllPairs ComesAbove parts
  gathered_order parts n on i j d lt below =
      above_of t.request.rect (get_or parts i d) (get_or parts j d) (inside i (omega arith)) (inside j below) (on.order i j d lt below)
    where
      inside : (k : ℕ) → k < length parts → IsInside t.request.rect (get_or parts k d).cell
      inside k within =
          let part = get_or parts k d in
          part_inside part (on.only part (k, within, get_or_default parts k part d within)).0
