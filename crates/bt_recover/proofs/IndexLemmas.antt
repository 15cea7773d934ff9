-- What the map from cells to indices tells of the parts.
use Rattle.std.proofs.Common.{◌≡◌, ◌↔◌, ℕ, ◌+◌, ◌<◌, ◌≤◌, min, List, length, Option, Some, None, refl, sym, ◌∙◌, ap, subst, inl, inr, ⊎_elim, arith}
use Rattle.std.specs.Option.{MatchOption}
use Rattle.std.specs.BTreeMap.{BTreeMap, Updates}
use Rattle.std.proofs.lemmas.Option.{same_Some, none-some, slice_get_within}
use Rattle.std.proofs.lemmas.Bool.{cases_lt}
use Rattle.bt_parts.specs.declared.part.Cell.{Cell}
use Rattle.bt_parts.specs.declared.part.Part.{Part}
use Rattle.bt_parts.specs.Cells.{Covers, IsGreaterHalf}
use Rattle.bt_parts.specs.Layouts.{HasPart, IsAt, IsWellPlaced}
use Rattle.bt_parts.specs.Order.{cell_order}
use Rattle.bt_parts.proofs.CellOrder.{cell_cases}
use Rattle.bt_parts.proofs.Coverings.{covers_cases}
use Rattle.bt_parts.proofs.Places.{covers_at}
use Rattle.bt_recover.specs.inner.Index.{index_at, IsIndexOf, IsLesser, IsFreeFor, IsLeastOn, Adds}
use Rattle.bt_recover.specs.Placing.{IsFirstOverlap}

-- the second cell is the greater half, where there is one
abbrev IsSecond : Part → Option Cell → Type 0
IsSecond part second = (cell : Cell) → (second ≡ Some cell) ↔ IsGreaterHalf part cell

-- what holds of both cells holds of each that the part covers
each_cell : (part : Part) (second : Option Cell) → IsSecond part second → (P : Cell → Type 0)
    → P part.cell → ((cell : Cell) → second ≡ Some cell → P cell) → (cell : Cell) → Covers part cell → P cell
each_cell part second is_second P first greater cell (inl e) = subst P (sym e) first
each_cell part second is_second P first greater cell (inr g) = greater cell ((is_second cell).1 g)

index_on : (cells : BTreeMap Cell ℕ) (second : Option Cell) (other : Option ℕ)
    → MatchOption second (other ≡ None) (λ cell. other ≡ index_at cells cell)
    → (cell : Cell) → second ≡ Some cell → index_at cells cell ≡ other
index_on cells None other h cell e = absurd (none-some _ e)
index_on cells (Some g) other h cell e = subst (λ c. index_at cells c ≡ other) (same_Some _ _ e) (sym h)

found_on : (cells : BTreeMap Cell ℕ) (second : Option Cell) (j : ℕ)
    → MatchOption second (Some j ≡ None) (λ cell. Some j ≡ index_at cells cell)
    → (cell : Cell) × (second ≡ Some cell) × (index_at cells cell ≡ Some j)
found_on cells None j h = absurd (none-some _ (sym h))
found_on cells (Some g) j h = (g, refl, sym h)

-- the lesser of the indices on the two cells is the least on the part
pub least_on_part : (cells : BTreeMap Cell ℕ) (part : Part) (second : Option Cell) (one other least : Option ℕ)
    → IsSecond part second → one ≡ index_at cells part.cell
    → MatchOption second (other ≡ None) (λ cell. other ≡ index_at cells cell) → IsLesser one other least
    → MatchOption least (IsFreeFor cells part) (IsLeastOn cells part)
least_on_part cells part second None None least is_second at_first at_second is_least =
    subst (λ o. MatchOption o (IsFreeFor cells part) (IsLeastOn cells part)) (sym is_least)
    (each_cell part second is_second (λ cell. index_at cells cell ≡ None) (sym at_first) (index_on cells second None at_second))
least_on_part cells part second None (Some j) least is_second at_first at_second is_least =
    let found = found_on cells second j at_second in
    subst (λ o. MatchOption o (IsFreeFor cells part) (IsLeastOn cells part)) (sym is_least)
    (record {
      cell = found.0;
      covered = inr ((is_second found.0).0 found.1);
      there = found.2;
      least = λ cell k cov at. each_cell part second is_second (λ cell. (k : ℕ) → index_at cells cell ≡ Some k → j ≤ k)
          (λ k e. absurd (none-some k (at_first ∙ e)))
          (λ cell e k f. let same : j ≡ k = same_Some j k (sym (index_on cells second (Some j) at_second cell e) ∙ f) in omega arith)
          cell cov k at;
    })
least_on_part cells part second (Some i) None least is_second at_first at_second is_least =
    subst (λ o. MatchOption o (IsFreeFor cells part) (IsLeastOn cells part)) (sym is_least)
    (record {
      cell = part.cell;
      covered = inl refl;
      there = sym at_first;
      least = λ cell k cov at. each_cell part second is_second (λ cell. (k : ℕ) → index_at cells cell ≡ Some k → i ≤ k)
          (λ k e. let same : i ≡ k = same_Some i k (at_first ∙ e) in omega arith)
          (λ cell e k f. absurd (none-some k (sym (index_on cells second None at_second cell e) ∙ f)))
          cell cov k at;
    })
least_on_part cells part second (Some i) (Some j) least is_second at_first at_second is_least =
    let found = found_on cells second j at_second in
    let bound : (cell : Cell) (k : ℕ) → Covers part cell → index_at cells cell ≡ Some k → min i j ≤ k =
    λ cell k cov at. each_cell part second is_second (λ cell. (k : ℕ) → index_at cells cell ≡ Some k → min i j ≤ k)
    (λ k e. let same : i ≡ k = same_Some i k (at_first ∙ e) in omega arith)
    (λ cell e k f. let same : j ≡ k = same_Some j k (sym (index_on cells second (Some j) at_second cell e) ∙ f) in omega arith)
    cell cov k at in
    subst (λ o. MatchOption o (IsFreeFor cells part) (IsLeastOn cells part)) (sym is_least)
    (⊎_elim
    (λ lt. record {
      cell = part.cell;
      covered = inl refl;
      there = sym at_first ∙ ap Some (let le : min i j ≡ i = omega (arith, lt) in sym le);
      least = bound;
    })
    (λ ge. record {
      cell = found.0;
      covered = inr ((is_second found.0).0 found.1);
      there = found.2 ∙ ap Some (let le : min i j ≡ j = omega (arith, ge) in sym le);
      least = bound;
    })
    (cases_lt i j))

-- one cell is given the index
adds_one : (old new : BTreeMap Cell ℕ) (part : Part) (i : ℕ) → ((cell : Cell) → IsGreaterHalf part cell → ⊥)
    → Updates cell_order old new part.cell (Some i) → Adds old new part i
adds_one old new part i alone u = record {
  on_it = λ cell cov. ⊎_elim (λ e. subst (λ c. index_at new c ≡ Some i) (sym e) u.1) (λ g. absurd (alone cell g)) cov;
  others = λ cell out. u.2 cell (⊎_elim (λ s. absurd (out (inl (sym s.0)))) (λ s. s.1) (cell_cases part.cell cell));
}

pub adds_first : (old new : BTreeMap Cell ℕ) (part : Part) (first : Cell) (second : Option Cell) (i : ℕ) → first ≡ part.cell
    → IsSecond part second → second ≡ None → Updates cell_order old new first (Some i) → Adds old new part i
adds_first old new part first second i e is_second alone u =
    adds_one old new part i (λ cell g. none-some cell (sym alone ∙ (is_second cell).1 g))
    (subst (λ c. Updates cell_order old new c (Some i)) e u)

-- both cells are given the index
adds_two : (old mid new : BTreeMap Cell ℕ) (part : Part) (second : Cell) (i : ℕ) → IsSecond part (Some second)
    → Updates cell_order old mid part.cell (Some i) → Updates cell_order mid new second (Some i) → Adds old new part i
adds_two old mid new part second i is_second u v = record {
  on_it = each_cell part (Some second) is_second (λ cell. index_at new cell ≡ Some i)
      (⊎_elim (λ s. subst (λ c. index_at new c ≡ Some i) s.0 v.1) (λ s. v.2 part.cell s.1 ∙ u.1) (cell_cases second part.cell))
      (λ cell e. subst (λ c. index_at new c ≡ Some i) (same_Some _ _ e) v.1);
  others = λ cell out.
      v.2 cell (⊎_elim (λ s. absurd (out (inr (subst (λ c. IsGreaterHalf part c) s.0 ((is_second second).0 refl))))) (λ s. s.1) (cell_cases second cell))
      ∙ u.2 cell (⊎_elim (λ s. absurd (out (inl (sym s.0)))) (λ s. s.1) (cell_cases part.cell cell));
}

pub adds_both : (old mid new : BTreeMap Cell ℕ) (part : Part) (first : Cell) (second : Option Cell) (cell : Cell) (i : ℕ) → first ≡ part.cell
    → IsSecond part second → second ≡ Some cell
    → Updates cell_order old mid first (Some i) → Updates cell_order mid new cell (Some i) → Adds old new part i
adds_both old mid new part first second cell i e is_second f u v =
    adds_two old mid new part cell i (subst (λ o. IsSecond part o) f is_second) (subst (λ c. Updates cell_order old mid c (Some i)) e u) v

-- the map of the first n parts with the next one added
pub index_more : (parts : List Part) (n : ℕ) (part : Part) (old new : BTreeMap Cell ℕ) → HasPart parts n part
    → IsIndexOf parts n old → IsFreeFor old part → Adds old new part n → IsIndexOf parts (n + 1) new
index_more parts n part old new here index free adds = record {
  sound = λ cell j e. ⊎_elim
      (λ cov. let same : n ≡ j = same_Some n j (sym (adds.on_it cell cov) ∙ e) in
      (omega arith, subst (λ k. IsAt parts k cell) same (record { part = part; is_i = here; covers = cov })))
      (λ out. let before = index.sound cell j (sym (adds.others cell out) ∙ e) in (omega (arith, before.0), before.1))
      (covers_cases part cell);
  complete = λ cell j lt at. ⊎_elim
      (λ below. let had = index.complete cell j below at in
      adds.others cell (λ cov. none-some j (sym (free cell cov) ∙ had)) ∙ had)
      (λ above. let same : j ≡ n = omega arith in
      adds.on_it cell (covers_at parts n part cell here (subst (λ k. IsAt parts k cell) same at)) ∙ ap Some (sym same))
      (cases_lt j n);
}

-- an index on the next part's cells is of a part that it overlaps
pub overlap_found : (parts : List Part) (n : ℕ) (part : Part) (first : ℕ) (cells : BTreeMap Cell ℕ) → HasPart parts n part
    → IsIndexOf parts n cells → IsLeastOn cells part first → IsFirstOverlap parts first n
overlap_found parts n part first cells here index least =
    let at_first = index.sound least.cell first least.there in
    record {
      earlier = at_first.0;
      shared = (least.cell, at_first.1, record { part = part; is_i = here; covers = least.covered });
      none_before = λ i j lt below share.
          let same : i ≡ j = same_Some i j (sym (index.complete share.0 i (omega arith) share.1) ∙ index.complete share.0 j below share.2) in
          omega arith;
      least = λ i lt share.
          let le : first ≤ i = least.least share.0 i (covers_at parts n part share.0 here share.2) (index.complete share.0 i (omega (arith, at_first.0)) share.1) in
          omega arith;
    }

-- parts that the map tells apart are well placed
pub placed : (parts : List Part) (cells : BTreeMap Cell ℕ) → IsIndexOf parts (length parts) cells → IsWellPlaced parts
placed parts cells index i j lt share =
    let below : j < length parts = slice_get_within parts j share.2.part share.2.is_i in
    let same : i ≡ j = same_Some i j (sym (index.complete share.0 i (omega arith) share.1) ∙ index.complete share.0 j below share.2) in
    omega arith

-- the index at a cell is that of the part on it
pub found_there : (parts : List Part) (cells : BTreeMap Cell ℕ) (cell : Cell) (there : Option ℕ) → IsIndexOf parts (length parts) cells
    → there ≡ index_at cells cell → (i : ℕ) → (there ≡ Some i) ↔ IsAt parts i cell
found_there parts cells cell there index e i = (
  λ f. (index.sound cell i (sym e ∙ f)).1,
  λ at. e ∙ index.complete cell i (slice_get_within parts i at.part at.is_i) at,
)

none_found : (there : Option ℕ) → ((i : ℕ) → there ≡ Some i → ⊥) → there ≡ None
none_found None h = refl
none_found (Some i) h = absurd (h i refl)

-- a cell has no index where no part is on it
pub empty_there : (parts : List Part) (cells : BTreeMap Cell ℕ) (cell : Cell) (there : Option ℕ) → IsIndexOf parts (length parts) cells
    → there ≡ index_at cells cell → (there ≡ None) ↔ ((i : ℕ) → IsAt parts i cell → ⊥)
empty_there parts cells cell there index e = (
  λ none i at. none-some i (sym none ∙ (found_there parts cells cell there index e i).1 at),
  λ none. none_found there (λ i f. none i ((found_there parts cells cell there index e i).0 f)),
)

-- what is told of a cell is the part on it, or that there is none
pub at_told : (parts : List Part) (cell : Cell) (there : Option ℕ) → ((i : ℕ) → (there ≡ Some i) ↔ IsAt parts i cell)
    → ((there ≡ None) ↔ ((i : ℕ) → IsAt parts i cell → ⊥)) → MatchOption there ((i : ℕ) → IsAt parts i cell → ⊥) (λ i. IsAt parts i cell)
at_told parts cell None found empty = empty.0 refl
at_told parts cell (Some i) found empty = (found i).0 refl
