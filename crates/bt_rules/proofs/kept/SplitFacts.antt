-- Splitters among the kept parts, their names and halves.
use Rattle.std.proofs.Common.{◌≡◌, ◌⊎◌, ◌≢◌, ℕ, ◌<◌, List, refl, sym, ◌∙◌, ap, subst, inl, inr}
use Rattle.bt_parts.specs.declared.part.Cell.{Cell}
use Rattle.bt_parts.specs.declared.part.Dir.{Dir}
use Rattle.bt_parts.specs.declared.part.Part.{Part}
use Rattle.bt_parts.specs.Cells.{beside, Covers, IsInside}
use Rattle.bt_parts.specs.Layouts.{HasPart, IsAt}
use Rattle.bt_parts.proofs.Places.{same_part}
use Rattle.bt_model.specs.Chains.{IsSplitter}
use Rattle.bt_model.specs.Shown.{ListsEach}
use Rattle.bt_facts.specs.declared.fact.Class.TheVariants.{Split}
use Rattle.bt_facts.specs.declared.fact.Fact.TheVariants.{Carries, At}
use Rattle.bt_facts.specs.declared.fact.Half.{Half}
use Rattle.bt_facts.specs.declared.fact.Half.TheVariants.{Lesser, Greater}
use Rattle.bt_facts.specs.declared.fact.Shape.{Shape}
use Rattle.bt_facts.specs.declared.fact.Shape.TheVariants as shape
use Rattle.bt_facts.specs.Facts.{holds}
use Rattle.bt_facts.specs.Spots.{other_half, half_at}
use Rattle.bt_rules.specs.Kept.{half, IsKeptPart}
use Rattle.bt_facts.proofs.Geometry.{beside_apart}
use Rattle.bt_rules.proofs.kept.Solved.{Solved, Says}
use Rattle.bt_rules.proofs.kept.CellFacts.{half_on, mate_there, owner_of, one_name, at_lesser, at_name, at_mate, stands_somewhere, one_place}
use Rattle.bt_rules.proofs.kept.Arrivals.{Reached, reached_inside}
use Rattle.bt_rules.proofs.kept.PartFacts.{part_on, kept_part, part_there, part_at, at_there, own_at, one_index}
use Rattle.bt_rules.proofs.kept.HandFacts.{half_of}

pub one_half : (dir : Dir) (c : Cell) (g h : Half) → half_at g dir c ≡ half_at h dir c → g ≡ h
one_half dir c Lesser Lesser e = refl
one_half dir c Lesser Greater e = absurd (beside_apart dir c e)
one_half dir c Greater Lesser e = absurd (beside_apart dir c (sym e))
one_half dir c Greater Greater e = refl

pub half_cases : (a b : Half) → (b ≡ a) ⊎ (b ≡ other_half a)
half_cases Lesser Lesser = inl refl
half_cases Lesser Greater = inr refl
half_cases Greater Lesser = inr refl
half_cases Greater Greater = inl refl

pub other_apart : (a : Half) → a ≢ other_half a
other_apart Lesser e = cc
other_apart Greater e = cc

pub other_other : (a : Half) → other_half (other_half a) ≡ a
other_other Lesser = refl
other_other Greater = refl

module _ (w : Solved) (parts : List Part) (lists : ListsEach (IsKeptPart w.r w.reading) parts) where
  -- ---- splitters

  -- this part is the splitter with this number
  pub record IsSplitterOf (s i : ℕ) : Type 0 where
    pub below : s < w.r.net.splitters
    pub cell : Cell
    pub dir : Dir
    pub inside : IsInside w.r.rect cell
    pub at : Says w (At s cell dir)
    pub is_i : HasPart parts i (part_on w (shape.Half Lesser) dir cell)

  pub splitter_is : (s i : ℕ) → IsSplitterOf s i → IsSplitter parts i
  splitter_is s i n = (part_on w (shape.Half Lesser) n.dir n.cell, n.is_i, refl)

  pub splitter_there : (s : ℕ) → s < w.r.net.splitters → (i : ℕ) × IsSplitterOf s i
  splitter_there s lt =
      let stands = stands_somewhere w s lt in
      let c = stands.0 in let inside = stands.1 in let dir = stands.2.0 in let at = stands.2.1 in
      let lesser = at_lesser w c inside s dir lt at in
      let part = part_there w parts lists (shape.Half Lesser) dir c (half c inside (half_on w c inside Lesser dir lesser)) lesser in
      (part.0, record { below = lt; cell = c; dir = dir; inside = inside; at = at; is_i = part.1 })

  pub one_splitter : (s i j : ℕ) → IsSplitterOf s i → IsSplitterOf s j → i ≡ j
  one_splitter s i j n m =
      let same = one_place w s n.below n.cell m.cell n.dir m.dir n.inside m.inside n.at m.at in
      one_index w parts lists i j (part_on w (shape.Half Lesser) m.dir m.cell)
      (subst (λ d. HasPart parts i (part_on w (shape.Half Lesser) d m.cell)) same.1
      (subst (λ c. HasPart parts i (part_on w (shape.Half Lesser) n.dir c)) same.0 n.is_i)) m.is_i

  -- a splitter has its number
  pub splitter_named : (i : ℕ) → IsSplitter parts i → (s : ℕ) × IsSplitterOf s i
  splitter_named i splitter =
      let part = splitter.0 in
      let kept = kept_part w parts lists i part splitter.1 in
      let c = part.cell in
      let inside = reached_inside w c kept.reached in
      let on = half_of kept.of (sym kept.is_kind ∙ splitter.2) in
      let lesser : kept.of ≡ shape.Half Lesser = lesser_of on.0 kept.of on.1 kept.no_greater in
      let says : Says w (holds c (shape.Half Lesser) part.dir) = subst (λ of. Says w (holds c of part.dir)) lesser kept.stands in
      let owner = owner_of w c inside part.dir says in
      let mine : IsSplitterOf owner.0 i = record {
        below = owner.1;
        cell = c;
        dir = part.dir;
        inside = inside;
        at = owner.2;
        is_i = part_at w parts lists i c (shape.Half Lesser) part.dir (own_at w parts lists i part splitter.1) says;
      } in
      (owner.0, mine)
    where
      lesser_of : (h : Half) (of : Shape) → of ≡ shape.Half h → of ≢ shape.Half Greater → of ≡ shape.Half Lesser
      lesser_of Lesser of e own = e
      lesser_of Greater of e own = absurd (own e)

  -- and one number
  pub same_stand : (s t i : ℕ) (n : IsSplitterOf s i) (m : IsSplitterOf t i) → (n.cell ≡ m.cell) × (n.dir ≡ m.dir) × (s ≡ t)
  same_stand s t i n m =
      let same = same_part parts i (part_on w (shape.Half Lesser) n.dir n.cell) (part_on w (shape.Half Lesser) m.dir m.cell) n.is_i m.is_i in
      let cells : n.cell ≡ m.cell = ap (λ p. p.cell) same in
      let dirs : n.dir ≡ m.dir = ap (λ p. p.dir) same in (
        cells,
        dirs,
        one_name w m.cell m.inside s t n.below m.below
            (subst (λ c. Says w (Carries c (Split s))) cells (at_name w n.cell n.inside s n.dir n.below n.at)) (at_name w m.cell m.inside t m.dir m.below m.at),
      )

  -- a half of a splitter
  pub record IsHalfOf (s i : ℕ) (n : IsSplitterOf s i) (h : Half) : Type 0 where
    pub inside : IsInside w.r.rect (half_at h n.dir n.cell)
    pub says : Says w (holds (half_at h n.dir n.cell) (shape.Half h) n.dir)
    pub reached : Reached w (half_at h n.dir n.cell)
    pub there : IsAt parts i (half_at h n.dir n.cell)
    pub carries : Says w (Carries (half_at h n.dir n.cell) (Split s))

  pub half_spot : (s i : ℕ) (n : IsSplitterOf s i) (h : Half) → IsHalfOf s i n h
  half_spot s i n Lesser =
      let lesser = at_lesser w n.cell n.inside s n.dir n.below n.at in
      record {
        inside = n.inside;
        says = lesser;
        reached = half n.cell n.inside (half_on w n.cell n.inside Lesser n.dir lesser);
        there = at_there w parts lists i (shape.Half Lesser) n.dir n.cell n.is_i;
        carries = at_name w n.cell n.inside s n.dir n.below n.at;
      }
  half_spot s i n Greater =
      let mate = mate_there w n.cell n.inside Lesser n.dir (at_lesser w n.cell n.inside s n.dir n.below n.at) in
      record {
        inside = mate.0;
        says = mate.1;
        reached = half (beside n.dir n.cell) mate.0 (half_on w (beside n.dir n.cell) mate.0 Greater n.dir mate.1);
        there = record { part = part_on w (shape.Half Lesser) n.dir n.cell; is_i = n.is_i; covers = inr (refl, refl) };
        carries = at_mate w n.cell n.inside s n.dir n.below mate.0 n.at;
      }

  half_covered : (dir : Dir) (cell c : Cell) (part : Part) → part ≡ part_on w (shape.Half Lesser) dir cell → Covers part c → (h : Half) × (c ≡ half_at h dir cell)
  half_covered dir cell c part same (inl own) = (Lesser, own ∙ ap (λ p. p.cell) same)
  half_covered dir cell c part same (inr greater) = (Greater, greater.1 ∙ ap (λ p. beside p.dir p.cell) same)

  -- a cell of a splitter is that of one of its halves
  pub half_of_splitter : (s i : ℕ) (n : IsSplitterOf s i) (c : Cell) → IsAt parts i c → (h : Half) × (c ≡ half_at h n.dir n.cell)
  half_of_splitter s i n c at = half_covered n.dir n.cell c at.part (same_part parts i at.part (part_on w (shape.Half Lesser) n.dir n.cell) at.is_i n.is_i) at.covers
