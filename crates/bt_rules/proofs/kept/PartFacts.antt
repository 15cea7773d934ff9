-- The parts of the cells that are reached, by what the cells hold.
use Rattle.std.proofs.Common.{◌≡◌, ◌≢◌, ℕ, List, length, refl, sym, ◌∙◌, ap, subst, inl, inr, arith}
use Rattle.std.proofs.lemmas.Option.{slice_get_within, slice_get_read, get_or_from_slice_get}
use Rattle.bt_parts.specs.declared.part.Cell.{Cell}
use Rattle.bt_parts.specs.declared.part.Dir.{Dir}
use Rattle.bt_parts.specs.declared.part.Kind.TheVariants as kind
use Rattle.bt_parts.specs.declared.part.Part.{Part}
use Rattle.bt_parts.specs.Cells.{beside, Covers, IsInside}
use Rattle.bt_parts.specs.Layouts.{HasPart, IsAt, IsWellPlaced}
use Rattle.bt_model.specs.Shown.{ListsEach}
use Rattle.bt_model.proofs.Sorted.{one_place}
use Rattle.bt_facts.specs.declared.fact.Half.TheVariants.{Lesser, Greater}
use Rattle.bt_facts.specs.declared.fact.Shape.{Shape}
use Rattle.bt_facts.specs.declared.fact.Shape.TheVariants as shape
use Rattle.bt_facts.specs.Facts.{holds}
use Rattle.bt_facts.specs.Spots.{before}
use Rattle.bt_rules.specs.Kept.{kind_of, half, IsKeptPart}
use Rattle.bt_facts.proofs.Geometry.{before_beside}
use Rattle.bt_rules.proofs.kept.Geometry.{beside_before}
use Rattle.bt_rules.proofs.kept.Solved.{Solved, Says}
use Rattle.bt_rules.proofs.kept.CellFacts.{one_shape, one_dir, half_on, mate_there}
use Rattle.bt_rules.proofs.kept.Arrivals.{Reached, reached_inside}

-- the cell of the part of which this shape is on the cell
abbrev pub home : Shape → Dir → Cell → Cell
home shape.Belt dir c = c
home shape.Entrance dir c = c
home shape.Exit dir c = c
home (shape.Half Lesser) dir c = c
home (shape.Half Greater) dir c = before dir c

-- the part of which this shape is on the cell
abbrev pub part_on : Solved → Shape → Dir → Cell → Part
part_on w of dir c = record { kind = kind_of of; tier = w.r.tier; dir = dir; cell = home of dir c }

home_own : (of : Shape) (dir : Dir) (c : Cell) → of ≢ shape.Half Greater → home of dir c ≡ c
home_own shape.Belt dir c own = refl
home_own shape.Entrance dir c own = refl
home_own shape.Exit dir c own = refl
home_own (shape.Half Lesser) dir c own = refl
home_own (shape.Half Greater) dir c own = absurd (own refl)

pub covers_on : (w : Solved) (of : Shape) (dir : Dir) (c : Cell) → Covers (part_on w of dir c) c
covers_on w shape.Belt dir c = inl refl
covers_on w shape.Entrance dir c = inl refl
covers_on w shape.Exit dir c = inl refl
covers_on w (shape.Half Lesser) dir c = inl refl
covers_on w (shape.Half Greater) dir c = inr (refl, sym (beside_before dir c))

lesser_of : (of : Shape) → of ≢ shape.Half Greater → kind_of of ≡ kind.Splitter → of ≡ shape.Half Lesser
lesser_of shape.Belt own e = absurd (cc)
lesser_of shape.Entrance own e = absurd (cc)
lesser_of shape.Exit own e = absurd (cc)
lesser_of (shape.Half Lesser) own e = refl
lesser_of (shape.Half Greater) own e = absurd (own refl)

pub part_is : (p q : Part) → p.kind ≡ q.kind → p.tier ≡ q.tier → p.dir ≡ q.dir → p.cell ≡ q.cell → p ≡ q
part_is p q kinds tiers dirs cells =
    ap (λ z. record { kind = z; tier = p.tier; dir = p.dir; cell = p.cell }) kinds
    ∙ ap (λ z. record { kind = q.kind; tier = z; dir = p.dir; cell = p.cell }) tiers
    ∙ ap (λ z. record { kind = q.kind; tier = q.tier; dir = z; cell = p.cell }) dirs
    ∙ ap (λ z. record { kind = q.kind; tier = q.tier; dir = q.dir; cell = z }) cells

-- what a cell holds on which a part stands
pub record Standing (w : Solved) (parts : List Part) (i : ℕ) (c : Cell) : Type 0 where
  pub of : Shape
  pub dir : Dir
  pub reached : Reached w c
  pub says : Says w (holds c of dir)
  pub is_i : HasPart parts i (part_on w of dir c)

module _ (w : Solved) (parts : List Part) (lists : ListsEach (IsKeptPart w.r w.reading) parts) where
  pub kept_part : (i : ℕ) (part : Part) → HasPart parts i part → IsKeptPart w.r w.reading part
  kept_part i part is_i = lists.only part (i, slice_get_within parts i part is_i, get_or_from_slice_get parts i part part is_i)

  index_of : (part : Part) → IsKeptPart w.r w.reading part → (i : ℕ) × HasPart parts i part
  index_of part kept =
      let there = lists.all part kept in
      (there.0, slice_get_read parts (length parts) there.0 part refl there.1 (sym there.2))

  pub one_index : (i j : ℕ) (part : Part) → HasPart parts i part → HasPart parts j part → i ≡ j
  one_index i j part is_i is_j = one_place parts lists.once i j part is_i is_j

  own_part : (of : Shape) (dir : Dir) (c : Cell) → of ≢ shape.Half Greater → Reached w c → Says w (holds c of dir)
      → (i : ℕ) × HasPart parts i (record { kind = kind_of of; tier = w.r.tier; dir = dir; cell = c })
  own_part of dir c own reached says =
      index_of (record { kind = kind_of of; tier = w.r.tier; dir = dir; cell = c })
      (record { of = of; no_greater = own; reached = reached; stands = says; is_kind = refl; tier = refl })

  -- a cell that is reached has the part that it holds
  pub part_there : (of : Shape) (dir : Dir) (c : Cell) → Reached w c → Says w (holds c of dir) → (i : ℕ) × HasPart parts i (part_on w of dir c)
  part_there shape.Belt dir c reached says = own_part shape.Belt dir c (λ e. cc) reached says
  part_there shape.Entrance dir c reached says = own_part shape.Entrance dir c (λ e. cc) reached says
  part_there shape.Exit dir c reached says = own_part shape.Exit dir c (λ e. cc) reached says
  part_there (shape.Half Lesser) dir c reached says = own_part (shape.Half Lesser) dir c (λ e. cc) reached says
  part_there (shape.Half Greater) dir c reached says =
      let mate = mate_there w c (reached_inside w c reached) Greater dir says in
      own_part (shape.Half Lesser) dir (before dir c) (λ e. cc)
      (half (before dir c) mate.0 (half_on w (before dir c) mate.0 Lesser dir mate.1)) mate.1

  -- a part is that of what its own cell holds
  pub part_own : (i : ℕ) (part : Part) → HasPart parts i part → (kept : IsKeptPart w.r w.reading part) → part ≡ part_on w kept.of part.dir part.cell
  part_own i part is_i kept =
      part_is part (part_on w kept.of part.dir part.cell) kept.is_kind kept.tier refl (sym (home_own kept.of part.dir part.cell kept.no_greater))

  -- and of what each cell holds that it covers
  pub standing : (i : ℕ) (c : Cell) → IsAt parts i c → Standing w parts i c
  standing i c at = by at.covers (kept_part i at.part at.is_i) where
    greater : (kept : IsKeptPart w.r w.reading at.part) → at.part.kind ≡ kind.Splitter → c ≡ beside at.part.dir at.part.cell → Standing w parts i c
    greater kept splits there =
        let lesser : kept.of ≡ shape.Half Lesser = lesser_of kept.of kept.no_greater (sym kept.is_kind ∙ splits) in
        let says : Says w (holds at.part.cell (shape.Half Lesser) at.part.dir) = subst (λ of. Says w (holds at.part.cell of at.part.dir)) lesser kept.stands in
        let mate = mate_there w at.part.cell (reached_inside w at.part.cell kept.reached) Lesser at.part.dir says in
        let same : at.part ≡ part_on w (shape.Half Greater) at.part.dir c =
        part_is at.part (part_on w (shape.Half Greater) at.part.dir c) splits kept.tier refl
        (sym (ap (before at.part.dir) there ∙ before_beside at.part.dir at.part.cell)) in
        let inside = subst (λ x. IsInside w.r.rect x) (sym there) mate.0 in
        let said = subst (λ x. Says w (holds x (shape.Half Greater) at.part.dir)) (sym there) mate.1 in
        record {
          of = shape.Half Greater;
          dir = at.part.dir;
          reached = half c inside (half_on w c inside Greater at.part.dir said);
          says = said;
          is_i = subst (HasPart parts i) same at.is_i;
        }

    own : (kept : IsKeptPart w.r w.reading at.part) → c ≡ at.part.cell → Standing w parts i c
    own kept there = record {
      of = kept.of;
      dir = at.part.dir;
      reached = subst (Reached w) (sym there) kept.reached;
      says = subst (λ x. Says w (holds x kept.of at.part.dir)) (sym there) kept.stands;
      is_i = subst (λ x. HasPart parts i (part_on w kept.of at.part.dir x)) (sym there)
          (subst (HasPart parts i) (part_own i at.part at.is_i kept) at.is_i);
    }

    by : Covers at.part c → IsKeptPart w.r w.reading at.part → Standing w parts i c
    by (inl there) kept = own kept there
    by (inr there) kept = greater kept there.0 there.1

  -- a part on a cell is the one that the cell holds
  pub part_at : (i : ℕ) (c : Cell) (of : Shape) (dir : Dir) → IsAt parts i c → Says w (holds c of dir) → HasPart parts i (part_on w of dir c)
  part_at i c of dir at says =
      let there = standing i c at in
      let inside = reached_inside w c there.reached in
      subst (λ d. HasPart parts i (part_on w of d c)) (one_dir w c inside there.of of there.dir dir there.says says)
      (subst (λ s. HasPart parts i (part_on w s there.dir c)) (one_shape w c inside there.of of there.dir dir there.says says) there.is_i)

  abbrev pub at_there : (i : ℕ) (of : Shape) (dir : Dir) (c : Cell) → HasPart parts i (part_on w of dir c) → IsAt parts i c
  at_there i of dir c is_i = record { part = part_on w of dir c; is_i = is_i; covers = covers_on w of dir c }

  pub own_at : (i : ℕ) (part : Part) → HasPart parts i part → IsAt parts i part.cell
  own_at i part is_i = record { part = part; is_i = is_i; covers = inl refl }

  pub well_placed : IsWellPlaced parts
  well_placed i j lt share =
      let here = standing i share.0 share.1 in
      let same : i ≡ j = one_index i j (part_on w here.of here.dir share.0) here.is_i (part_at j share.0 here.of here.dir share.2 here.says) in
      omega arith
