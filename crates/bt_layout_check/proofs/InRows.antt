-- Parts that stand side by side.
use Rattle.std.proofs.Common.{◌≡◌, ◌≢◌, ◌⊎◌, ◌↔◌, ℕ, zero, suc, ◌+◌, ◌-◌, ◌<◌, ◌≤◌, Bool, IsTrue, List, length, get_or, refl, sym, ◌∙◌, ap, subst, inl, inr, ⊎_elim, arith}
use Rattle.std.specs.List.{AllPairs}
use Rattle.std.proofs.lemmas.Bool.{cases_lt, cases_order}
use Rattle.std.proofs.lemmas.Int.{ints}
use Rattle.std.proofs.lemmas.List.{get_or_default}
use Rattle.std.proofs.lemmas.Option.{get_or_from_slice_get, slice_get-get_or}
use Rattle.bt_parts.specs.declared.part.Cell.{Cell}
use Rattle.bt_parts.specs.declared.part.Dir.{Dir}
use Rattle.bt_parts.specs.declared.part.Dir.TheVariants.{North, East, South, West}
use Rattle.bt_parts.specs.declared.part.Kind.TheVariants.{Belt, Entrance, Exit, Splitter}
use Rattle.bt_parts.specs.declared.part.Part.{Part}
use Rattle.bt_parts.specs.Cells.{Covers, cell_at, step, steps}
use Rattle.bt_parts.specs.Layouts.{HasPart}
use Rattle.bt_parts.proofs.Places.{own_cell, same_part}
use Rattle.bt_parts.proofs.Steps.{steps_none}
use Rattle.bt_net.specs.declared.network.EndKind.{EndKind}
use Rattle.bt_net.specs.declared.network.EndKind.TheVariants.{Inputs, Outputs}
use Rattle.bt_model.specs.Laying.{IsEndPart, StandInRow}
use Rattle.bt_model.specs.Shown.{IsPlacedBefore, ListsEach, Precedes}
use Rattle.bt_model.proofs.Orders.{cells_asymmetric}
use Rattle.bt_layout_check.specs.inner.Rows.{AreInLine, IsNextTo}

-- what holds of all neighbours before a place, and of those there, holds of all before the next place
pub line_more : (R : ℕ → ℕ → Type 0) (xs : List ℕ) (k x y : ℕ) → ((j d : ℕ) → 0 < j → j < k → R (get_or xs (j - 1) d) (get_or xs j d)) → 0 < k → k < length xs
    → R (get_or xs (k - 1) x) (get_or xs k y) → (j d : ℕ) → 0 < j → j < k + 1 → R (get_or xs (j - 1) d) (get_or xs j d)
line_more R xs k x y before some within here j d positive lt =
    ⊎_elim (λ below. before j d positive below)
    (λ above. let same : k ≡ j = omega arith in
    subst (λ n. R (get_or xs (n - 1) d) (get_or xs n d)) same
    (subst (λ z. R z (get_or xs k d)) (get_or_default xs (k - 1) x d (omega (arith, within)))
    (subst (R (get_or xs (k - 1) x)) (get_or_default xs k y d within) here)))
    (cases_lt j k)

-- one step behind some is one more
one_on : (dir : Dir) (n : ℕ) (cell : Cell) → step dir (steps n dir cell) ≡ steps (n + 1) dir cell
one_on North n cell = let e : step North (steps n North cell) ≡ steps (n + 1) North cell = ap (λ w. record { x = cell.x; y = w }) (omega (arith, ints)) in e
one_on East n cell = ap (λ w. record { x = w; y = cell.y }) (omega (arith, ints))
one_on South n cell = ap (λ w. record { x = cell.x; y = w }) (omega (arith, ints))
one_on West n cell = ap (λ w. record { x = w; y = cell.y }) (omega (arith, ints))

-- of two cells of a row the nearer one comes before the other
along_precedes : (along : Dir) (first : Cell) (j k : ℕ) → (along ≡ East) ⊎ (along ≡ South) → j < k → Precedes (steps j along first) (steps k along first)
along_precedes North first j k (inl e) lt = absurd (cc)
along_precedes North first j k (inr e) lt = absurd (cc)
along_precedes East first j k is lt = inl (omega (arith, ints, lt))
along_precedes South first j k is lt = inr (refl, omega (arith, ints, lt))
along_precedes West first j k (inl e) lt = absurd (cc)
along_precedes West first j k (inr e) lt = absurd (cc)

-- a part that is no splitter, at a number
record IsEndAt (parts : List Part) (i : ℕ) : Type 0 where
  part : Part
  is_i : HasPart parts i part
  alone : part.kind ≢ Splitter

no_splitter : (part : Part) → (part.kind ≡ Belt) ⊎ ((part.kind ≡ Entrance) ⊎ (part.kind ≡ Exit)) → part.kind ≢ Splitter
no_splitter part (inl e) k = absurd (cc)
no_splitter part (inr (inl e)) k = absurd (cc)
no_splitter part (inr (inr e)) k = absurd (cc)

end_at : (parts : List Part) (kind : EndKind) (i : ℕ) → IsEndPart parts kind i → IsEndAt parts i
end_at parts Inputs i end = record { part = end.part; is_i = end.is_i; alone = no_splitter end.part (⊎_elim (λ e. inl e) (λ e. inr (inl e)) end.kind) }
end_at parts Outputs i end = record { part = end.part; is_i = end.is_i; alone = no_splitter end.part (⊎_elim (λ e. inl e) (λ e. inr (inr e)) end.kind) }

-- numbers that keep their order have their own places
module _ (n : ℕ) (At : ℕ → ℕ → Type 0) (within : (k p : ℕ) → At k p → p < n) (some : (k : ℕ) → k < n → (p : ℕ) × At k p)
    (up : (k l p q : ℕ) → k < l → At k p → At l q → p < q) where
  far : (j k p : ℕ) → k + j < n → At k p → (q : ℕ) × At (k + j) q × (p + j ≤ q)
  far zero k p lt at = (p, subst (λ m. At m p) (omega arith) at, omega arith)
  far (suc j) k p lt at =
      let before = far j k p (omega (arith, lt)) at in
      let next = some (k + suc j) lt in
      let more = up (k + j) (k + suc j) before.0 next.0 (omega arith) before.1 next.1 in
      let had = before.2 in
      (next.0, next.1, omega (arith, more, had))

  pub own_places : (k : ℕ) → k < n → At k k
  own_places k lt =
      let zeroth = some 0 (omega (arith, lt)) in
      let here = far k 0 zeroth.0 (omega (arith, lt)) zeroth.1 in
      let at : At k here.0 = subst (λ m. At m here.0) (omega arith) here.1 in
      let last = far (n - 1 - k) k here.0 (omega (arith, lt)) at in
      let low = here.2 in let high = last.2 in let end = within (k + (n - 1 - k)) last.0 last.1 in
      let same : here.0 ≡ k = omega (arith, low, high, end, lt) in
      subst (At k) same at

module _ (parts : List Part) (kind : EndKind) (xs : List ℕ) (lists : ListsEach (IsEndPart parts kind) xs) where
  -- the end at a place
  end_of : (k : ℕ) → k < length xs → IsEndAt parts (get_or xs k 0)
  end_of k lt = end_at parts kind (get_or xs k 0) (lists.only (get_or xs k 0) (k, lt, get_or_default xs k (get_or xs k 0) 0 lt))

  -- parts in a line stand on the cells of a row
  line_cell : (along : Dir) → AreInLine parts along xs → (k : ℕ) (some : 0 < length xs) (lt : k < length xs) → (end_of k lt).part.cell ≡ steps k along (end_of 0 some).part.cell
  line_cell along line zero some lt =
      ap (λ p. p.cell) (same_part parts (get_or xs 0 0) (end_of 0 lt).part (end_of 0 some).part (end_of 0 lt).is_i (end_of 0 some).is_i)
      ∙ sym (steps_none along (end_of 0 some).part.cell)
  line_cell along line (suc k) some lt =
      let below : k < length xs = omega (arith, lt) in
      let back : suc k - 1 ≡ k = omega arith in
      let e : k + 1 ≡ suc k = omega arith in
      let at_k = end_of k below in
      let next : (end_of (suc k) lt).part.cell ≡ step along at_k.part.cell =
      line (suc k) 0 (omega arith) lt at_k.part (end_of (suc k) lt).part (subst (λ m. HasPart parts (get_or xs m 0) at_k.part) (sym back) at_k.is_i) (end_of (suc k) lt).is_i in
      next ∙ ap (step along) (line_cell along line k some below) ∙ one_on along k (end_of 0 some).part.cell ∙ ap (λ m. steps m along (end_of 0 some).part.cell) e

  line_stands : (along : Dir) → (along ≡ East) ⊎ (along ≡ South) → AreInLine parts along xs → (0 < length xs) ⊎ (length xs ≡ 0) → StandInRow parts kind (length xs)
  line_stands along is line (inr none) = record { first = cell_at 0 0; along = along; is_along = is; each = λ k lt. absurd (omega (arith, lt, none)) }
  line_stands along is line (inl some) = record {
    first = (end_of 0 some).part.cell;
    along = along;
    is_along = is;
    each = λ k lt. (
      get_or xs k 0,
      lists.only (get_or xs k 0) (k, lt, get_or_default xs k (get_or xs k 0) 0 lt),
      record { part = (end_of k lt).part; is_i = (end_of k lt).is_i; covers = inl (sym (line_cell along line k some lt)) },
    );
  }

  some_or_none : (n : ℕ) → (0 < n) ⊎ (n ≡ 0)
  some_or_none zero = inr refl
  some_or_none (suc n) = inl (omega arith)

  pub in_row : (along : Dir) → (along ≡ East) ⊎ (along ≡ South) → AreInLine parts along xs → StandInRow parts kind (length xs)
  in_row along is line = line_stands along is line (some_or_none (length xs))

  -- the part at a place of the list stands on this cell of a row
  module _ (up : AllPairs (IsPlacedBefore parts) xs) (row : StandInRow parts kind (length xs)) where
    record StandsOn (k p : ℕ) : Type 0 where
      inside : p < length xs
      part : Part
      is_p : HasPart parts (get_or xs p 0) part
      stands : part.cell ≡ steps k row.along row.first

    some_place : (k : ℕ) → k < length xs → (p : ℕ) × StandsOn k p
    some_place k lt =
        let each = row.each k lt in
        let there = lists.all each.0 each.1 in
        let end = end_at parts kind each.0 each.1 in
        let at = each.2 in
        let same : end.part ≡ at.part = same_part parts each.0 end.part at.part end.is_i at.is_i in
        let index : get_or xs there.0 0 ≡ each.0 = get_or_default xs there.0 0 each.0 there.1 ∙ there.2 in (
          there.0,
          record {
            inside = there.1;
            part = end.part;
            is_p = subst (λ i. HasPart parts i end.part) (sym index) end.is_i;
            stands = sym (own_cell end.part (steps k row.along row.first) end.alone (subst (λ p. Covers p (steps k row.along row.first)) (sym same) at.covers));
          },
        )

    ascend : (k l p q : ℕ) → k < l → StandsOn k p → StandsOn l q → p < q
    ascend k l p q lt one other =
        let before : Precedes (steps k row.along row.first) (steps l row.along row.first) = along_precedes row.along row.first k l row.is_along lt in
        ⊎_elim
        (λ same. absurd (let cell : steps k row.along row.first ≡ steps l row.along row.first =
        sym one.stands ∙ ap (λ x. x.cell) (same_part parts (get_or xs q 0) one.part other.part (subst (λ m. HasPart parts (get_or xs m 0) one.part) same one.is_p) other.is_p) ∙ other.stands in
        let self : Precedes (steps l row.along row.first) (steps l row.along row.first) = subst (λ c. Precedes c (steps l row.along row.first)) cell before in
        cells_asymmetric (steps l row.along row.first) (steps l row.along row.first) self self))
        (λ apart. ⊎_elim (λ less. less)
        (λ more. absurd (
        let placed = up q p 0 more one.inside in
        let a : placed.one.cell ≡ steps l row.along row.first = ap (λ x. x.cell) (same_part parts (get_or xs q 0) placed.one other.part placed.is_i other.is_p) ∙ other.stands in
        let b : placed.other.cell ≡ steps k row.along row.first = ap (λ x. x.cell) (same_part parts (get_or xs p 0) placed.other one.part placed.is_j one.is_p) ∙ one.stands in
        cells_asymmetric (steps k row.along row.first) (steps l row.along row.first) before (subst (λ c. Precedes c (steps k row.along row.first)) a (subst (Precedes placed.one.cell) b placed.before))))
        apart)
        (cases_order p q)

    own_cells : (k : ℕ) → k < length xs → StandsOn k k
    own_cells = own_places (length xs) StandsOn (λ k p at. at.inside) some_place ascend

    pub from_row : AreInLine parts row.along xs
    from_row k d positive lt one other is_one is_other =
        let back = own_cells (k - 1) (omega (arith, lt)) in
        let here = own_cells k lt in
        let e : (k - 1) + 1 ≡ k = omega (arith, positive) in
        let first = same_part parts (get_or xs (k - 1) 0) one back.part (subst (λ i. HasPart parts i one) (get_or_default xs (k - 1) d 0 (omega (arith, lt))) is_one) back.is_p in
        let second = same_part parts (get_or xs k 0) other here.part (subst (λ i. HasPart parts i other) (get_or_default xs k d 0 lt) is_other) here.is_p in
        ap (λ p. p.cell) second ∙ here.stands ∙ sym (ap (λ m. steps m row.along row.first) e) ∙ sym (one_on row.along (k - 1) row.first)
        ∙ sym (ap (step row.along) (ap (λ p. p.cell) first ∙ back.stands))

-- the ends stand in a row where they are in a line to the east or to the south
pub row_told : (parts : List Part) (kind : EndKind) (xs : List ℕ) (lists : ListsEach (IsEndPart parts kind) xs) (up : AllPairs (IsPlacedBefore parts) xs)
    → (AreInLine parts East xs ⊎ AreInLine parts South xs) ↔ StandInRow parts kind (length xs)
row_told parts kind xs lists up = (
  ⊎_elim (λ line. in_row parts kind xs lists East (inl refl) line) (λ line. in_row parts kind xs lists South (inr refl) line),
  λ row. ⊎_elim (λ east. inl (subst (λ d. AreInLine parts d xs) east (from_row parts kind xs lists up row)))
      (λ south. inr (subst (λ d. AreInLine parts d xs) south (from_row parts kind xs lists up row))) row.is_along,
)

-- what is told of the cells of two parts is told of the parts
pub next_told : (parts : List Part) (i j : ℕ) (dir : Dir) (a b : Part) (ahead : Cell) (t : Bool) → i < length parts → j < length parts
    → ahead ≡ steps 1 dir (get_or parts i a).cell → (IsTrue t ↔ ((get_or parts j b).cell ≡ ahead)) → IsTrue t ↔ IsNextTo parts dir i j
next_told parts i j dir a b ahead t in_i in_j is tells = (
  λ u one other at_i at_j. sym (ap (λ p. p.cell) (get_or_from_slice_get parts j other b at_j)) ∙ tells.0 u ∙ is
      ∙ ap (λ p. step dir p.cell) (get_or_from_slice_get parts i one a at_i),
  λ next. tells.1 (next (get_or parts i a) (get_or parts j b) (slice_get-get_or parts i a in_i) (slice_get-get_or parts j b in_j) ∙ sym is),
)
