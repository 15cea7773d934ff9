-- What is so of each layout that lays a request.
use Rattle.std.proofs.Common.{◌≡◌, inl, inr, ℕ, cond, List, [], refl, sym, ◌∙◌, ap, subst, ⊎_elim}
use Rattle.std.specs.List.{AllByRecursion}
use Rattle.bt_parts.specs.declared.part.Cell.{Cell}
use Rattle.bt_parts.specs.declared.part.Dir.{Dir}
use Rattle.bt_parts.specs.declared.part.Kind.{Kind}
use Rattle.bt_parts.specs.declared.part.Kind.TheVariants as kind
use Rattle.bt_parts.specs.declared.part.Part.{Part}
use Rattle.bt_parts.specs.declared.part.Rect.{Rect}
use Rattle.bt_parts.specs.Cells.{Covers, IsInside}
use Rattle.bt_parts.specs.Layouts.{HasPart, IsAt, IsWellPlaced}
use Rattle.bt_parts.proofs.Places.{same_part, one_there}
use Rattle.bt_model.specs.Chains.{IsSplitter}
use Rattle.bt_model.specs.Laying.{Lays}
use Rattle.bt_model.specs.Requests.{LayoutRequest}
use Rattle.bt_model.specs.Orderly.{IsOrderly}
use Rattle.bt_model.proofs.ChainLemmas.{orderly_of}
use Rattle.bt_facts.specs.declared.fact.Fact.{Fact}
use Rattle.bt_facts.specs.declared.fact.Half.{Half}
use Rattle.bt_facts.specs.declared.fact.Half.TheVariants.{Lesser, Greater}
use Rattle.bt_facts.specs.declared.fact.Shape.{Shape}
use Rattle.bt_facts.specs.declared.fact.Shape.TheVariants as shape
use Rattle.bt_facts.specs.Rules.{Rule}
use Rattle.bt_facts.specs.Spots.{where_inside, where_outside}
use Rattle.bt_rules.specs.Kept.{kind_of}
use Rattle.bt_rules.proofs.Deciding.{stands_at}
use Rattle.bt_facts.proofs.Geometry.{inside_cases, beside_apart}
use Rattle.bt_facts.proofs.Keeping.{In, OneSaid}
use Rattle.bt_rules.proofs.Matching.{Matched, matched}
use Rattle.bt_rules.proofs.Reading.{cell_of, Stands, Says}

-- ---- lists of what is inside, or outside

module _ (Q : Fact → Type 0) (rect : Rect) (c : Cell) where
  pub one_inside : (facts : List Fact) → IsInside rect c → OneSaid Q facts → OneSaid Q (where_inside rect c facts)
  one_inside facts here h =
      ⊎_elim (λ i. subst (λ b. OneSaid Q (cond b facts [])) (sym i.1) h) (λ o. absurd (o.0 here)) (inside_cases rect c)

  pub one_outside : (facts : List Fact) → (IsInside rect c → ⊥) → OneSaid Q facts → OneSaid Q (where_outside rect c facts)
  one_outside facts out h =
      ⊎_elim (λ i. absurd (out i.0)) (λ o. subst (λ b. OneSaid Q (cond b [] facts)) (sym o.1) h) (inside_cases rect c)

  pub each_inside : (P : Rule → Type 0) (rules : List Rule) → (IsInside rect c → AllByRecursion P rules) → AllByRecursion P (where_inside rect c rules)
  each_inside P rules h =
      ⊎_elim (λ i. subst (λ b. AllByRecursion P (cond b rules [])) (sym i.1) (h i.0)) (λ o. subst (λ b. AllByRecursion P (cond b rules [])) (sym o.1) tt) (inside_cases rect c)

  pub each_outside : (P : Rule → Type 0) (rules : List Rule) → ((IsInside rect c → ⊥) → AllByRecursion P rules) → AllByRecursion P (where_outside rect c rules)
  each_outside P rules h =
      ⊎_elim (λ i. subst (λ b. AllByRecursion P (cond b [] rules)) (sym i.1) tt) (λ o. subst (λ b. AllByRecursion P (cond b [] rules)) (sym o.1) (h o.0)) (inside_cases rect c)

pub in_inside : {X : Type 0} (rect : Rect) (c : Cell) (xs : List X) (x : X) → IsInside rect c → In xs x → In (where_inside rect c xs) x
in_inside rect c xs x here h =
    ⊎_elim (λ i. subst (λ b. In (cond b xs []) x) (sym i.1) h) (λ o. absurd (o.0 here)) (inside_cases rect c)

pub from_inside : {X : Type 0} (rect : Rect) (c : Cell) (xs : List X) (x : X) → In (where_inside rect c xs) x → IsInside rect c × In xs x
from_inside rect c xs x h =
    ⊎_elim (λ i. (i.0, subst (λ b. In (cond b xs []) x) i.1 h)) (λ o. absurd (subst (λ b. In (cond b xs []) x) o.1 h)) (inside_cases rect c)

-- ---- shapes

-- the shape of a part on a cell that it covers
pub shape_on : (part : Part) (c : Cell) → Covers part c → (of : Shape) × (part.kind ≡ kind_of of) × (c ≡ cell_of of part)
shape_on part c covers = by part.kind refl covers
  where
    by : (k : Kind) → part.kind ≡ k → Covers part c → (of : Shape) × (part.kind ≡ kind_of of) × (c ≡ cell_of of part)
    by kind.Belt e (inl own) = (shape.Belt, e, own)
    by kind.Belt e (inr greater) = absurd (let g = greater.0 in cc)
    by kind.Entrance e (inl own) = (shape.Entrance, e, own)
    by kind.Entrance e (inr greater) = absurd (let g = greater.0 in cc)
    by kind.Exit e (inl own) = (shape.Exit, e, own)
    by kind.Exit e (inr greater) = absurd (let g = greater.0 in cc)
    by kind.Splitter e (inl own) = (shape.Half Lesser, e, own)
    by kind.Splitter e (inr greater) = (shape.Half Greater, e, greater.1)

-- the shape of a splitter is a half
half_shape : (of : Shape) → kind_of of ≡ kind.Splitter → (half : Half) × (of ≡ shape.Half half)
half_shape shape.Belt e = absurd (cc)
half_shape shape.Entrance e = absurd (cc)
half_shape shape.Exit e = absurd (cc)
half_shape (shape.Half half) e = (half, refl)

-- a part has one shape on a cell
pub one_shape : (part : Part) (c : Cell) (a b : Shape) → part.kind ≡ kind_of a → part.kind ≡ kind_of b → c ≡ cell_of a part → c ≡ cell_of b part → a ≡ b
one_shape part c shape.Belt shape.Belt ka kb ca cb = refl
one_shape part c shape.Entrance shape.Entrance ka kb ca cb = refl
one_shape part c shape.Exit shape.Exit ka kb ca cb = refl
one_shape part c (shape.Half Lesser) (shape.Half Lesser) ka kb ca cb = refl
one_shape part c (shape.Half Greater) (shape.Half Greater) ka kb ca cb = refl
one_shape part c (shape.Half Lesser) (shape.Half Greater) ka kb ca cb = absurd (beside_apart part.dir part.cell (sym ca ∙ cb))
one_shape part c (shape.Half Greater) (shape.Half Lesser) ka kb ca cb = absurd (beside_apart part.dir part.cell (sym cb ∙ ca))
one_shape part c a b ka kb ca cb = absurd (cc)

-- ---- a layout that lays a request

module _ (r : LayoutRequest) (parts : List Part) (lays : Lays parts r) where
  abbrev pub match_of : Matched parts lays.naming r.net.edges
  match_of = matched parts r.net lays.naming lays.shows

  -- what the layout says of a fact
  abbrev pub Said : Fact → Type 0
  Said = Says parts lays.naming r.net.edges r.demands match_of r.rect

  pub is_orderly : IsOrderly parts
  is_orderly = orderly_of parts lays.shows.clean

  pub placed_of : IsWellPlaced parts
  placed_of = lays.shows.clean.well_placed

  -- a cell on which a part is lies in the rectangle
  pub inside_at : (i : ℕ) (c : Cell) → IsAt parts i c → IsInside r.rect c
  inside_at i c at = lays.fits.inside i c at

  -- what stands on a cell, by the part there
  pub stands_there : (i : ℕ) (c : Cell) (at : IsAt parts i c) → (of : Shape) × Stands parts c of at.part.dir
  stands_there i c at =
      let found = shape_on at.part c at.covers in
      (found.0, record { index = i; part = at.part; is_part = at.is_i; kind = found.1; turned = refl; cell = found.2 })

  -- one thing stands on a cell
  pub one_stands : (c : Cell) (a b : Shape) (d e : Dir) → (s : Stands parts c a d) (t : Stands parts c b e)
      → (s.index ≡ t.index) × (s.part ≡ t.part) × (a ≡ b) × (d ≡ e)
  one_stands c a b d e s t =
      let index : s.index ≡ t.index = one_there parts placed_of s.index t.index c (stands_at parts is_orderly c a d s) (stands_at parts is_orderly c b e t) in
      let part : s.part ≡ t.part = same_part parts t.index s.part t.part (subst (λ j. HasPart parts j s.part) index s.is_part) t.is_part in (
        index,
        part,
        one_shape t.part c a b (ap (λ p. p.kind) (sym part) ∙ s.kind) t.kind (s.cell ∙ ap (cell_of a) part) t.cell,
        sym s.turned ∙ ap (λ p. p.dir) part ∙ t.turned,
      )

  -- the part with this index that is on the cell is what stands there
  pub stands_as : (c : Cell) (of : Shape) (d : Dir) → (s : Stands parts c of d) (i : ℕ) (at : IsAt parts i c) → (s.index ≡ i) × (s.part ≡ at.part)
  stands_as c of d s i at =
      let index : s.index ≡ i = one_there parts placed_of s.index i c (stands_at parts is_orderly c of d s) at in
      (index, same_part parts i s.part at.part (subst (λ j. HasPart parts j s.part) index s.is_part) at.is_i)

  -- a splitter on a cell stands there with a half
  pub half_there : (i : ℕ) (c : Cell) → IsSplitter parts i → (at : IsAt parts i c) → (half : Half) × Stands parts c (shape.Half half) at.part.dir
  half_there i c splitter at =
      let found = stands_there i c at in
      let kinds : kind_of found.0 ≡ kind.Splitter = sym found.1.kind ∙ ap (λ p. p.kind)
      (same_part parts i found.1.part splitter.0 (subst (λ j. HasPart parts j found.1.part) (stands_as c found.0 at.part.dir found.1 i at).0 found.1.is_part) splitter.1) ∙ splitter.2 in
      let half = half_shape found.0 kinds in
      (half.0, subst (λ of. Stands parts c of at.part.dir) half.1 found.1)
