-- Lists of the parts of a kind, and their order by cells.
use Rattle.std.proofs.Common.{◌≡◌, ◌≢◌, ◌⊎◌, ◌↔◌, ℕ, zero, suc, ◌+◌, ◌<◌, ℤ, pos, negsuc, ◌<ℤ◌, cond, List, [], ◌∷◌, ◌++◌, length, get_or, map, Option, Some, None, Bool, true, false, not, IsTrue, eqb, Ordering, refl, sym, ◌∙◌, ap, subst, inl, inr, ⊎_elim, arith}
use Rattle.std.specs.List.{All, AllPairs, Contains, IsDistinct}
use Rattle.std.specs.List.Sorted.{IsPermutation, IsSortedBy}
use Rattle.std.specs.Option.{MatchOption, is_some}
use Rattle.std.specs.Ordering.{int_cmp, nat_cmp, ordering_then, is_lt}
use Rattle.std.specs.Cmp.{int_cmp_is, IsTotalOrder}
use Rattle.std.specs.declared.cmp.Ordering.TheVariants.{Less, Equal}
use Rattle.std.proofs.lemmas.Cmp.{nat_cmp_total, then_total, on_total}
use Rattle.std.proofs.lemmas.Int.{ints}
use Rattle.std.proofs.lemmas.Option.{none-some}
use Rattle.std.proofs.lemmas.Bool.{cases_lt, cases_order, false≢true, both_ways, eqb-true, eq-eqb}
use Rattle.std.proofs.lemmas.List.{get_or_default, map-append}
use Rattle.std.proofs.lemmas.List.Elements.{Contains-append_left, Contains-push, Contains-push_cases, All-push}
use Rattle.std.proofs.lemmas.List.Quantifiers.{all_pairs_push}
use Rattle.std.proofs.lemmas.List.Sorted.{All-permutation, Contains-permutation, IsPermutation-sym, IsPermutation-map, sorted_far, ranks_by}
use Rattle.std.proofs.lemmas.Map.Keys.{IsDistinct-from_apart, IsDistinct-IsPermutation, apart_from_distinct}
use Rattle.bt_parts.specs.declared.part.Cell.{Cell}
use Rattle.bt_parts.specs.declared.part.Kind.TheVariants.{Belt, Entrance, Exit}
use Rattle.bt_parts.specs.declared.part.Part.{Part}
use Rattle.bt_parts.specs.Cells.{step}
use Rattle.bt_parts.specs.Layouts.{HasPart, IsAt, IsWellPlaced}
use Rattle.bt_parts.specs.Order.{cell_order}
use Rattle.bt_parts.proofs.CellOrder.{cell_order_total}
use Rattle.bt_model.specs.Handing.{Hands}
use Rattle.bt_model.specs.Chains.{IsInput, IsOutput}
use Rattle.bt_model.specs.Shown.{Precedes, IsPlacedBefore, ListsEach}
use Rattle.bt_parts.proofs.Places.{same_part, one_there}
use Rattle.bt_recover.specs.inner.Ends.{ListsUpTo, IsKeyed, AreKeyed}
use Rattle.bt_model.proofs.ExistLemmas.{input_unhanded}

pub none_listed : (P : ℕ → Type 0) → ListsUpTo P [] 0
none_listed P = record {
  all = λ i lt p. absurd (omega arith);
  only = λ i there. let lt = there.1 in absurd (omega arith);
  ascends = λ i j d lt in'. absurd (omega arith);
}

listed_more : (P : ℕ → Type 0) (xs : List ℕ) (n : ℕ) → ListsUpTo P xs n → P n → ListsUpTo P (xs ++ n ∷ []) (n + 1)
listed_more P xs n lists p = record {
  all = λ i lt q. ⊎_elim (λ below. Contains-append_left xs (n ∷ []) i (lists.all i below q))
      (λ above. let same : i ≡ n = omega arith in subst (λ x. Contains (xs ++ n ∷ []) x) (sym same) (Contains-push xs n)) (cases_lt i n);
  only = λ i there. ⊎_elim (λ before. let had = lists.only i before in (let lt = had.0 in omega arith, had.1))
      (λ e. (let same = e in omega arith, subst P e p)) (Contains-push_cases xs n i there);
  ascends = all_pairs_push ◌<◌ xs n lists.ascends
      (λ k d lt. (lists.only (get_or xs k d) (k, lt, get_or_default xs k (get_or xs k d) d lt)).0);
}

listed_same : (P : ℕ → Type 0) (xs : List ℕ) (n : ℕ) → ListsUpTo P xs n → (P n → ⊥) → ListsUpTo P xs (n + 1)
listed_same P xs n lists none = record {
  all = λ i lt q. ⊎_elim (λ below. lists.all i below q)
      (λ above. let same : i ≡ n = omega arith in absurd (none (subst P same q))) (cases_lt i n);
  only = λ i there. let had = lists.only i there in (let lt = had.0 in omega arith, had.1);
  ascends = lists.ascends;
}

-- an input has nothing that hands to it
pub input_tells : (parts : List Part) (i : ℕ) (part : Part) (o : Option ℕ) (b : Bool) → HasPart parts i part → (part.kind ≡ Belt) ⊎ (part.kind ≡ Entrance)
    → MatchOption o ((p : ℕ) → Hands parts p i → ⊥) (λ p. Hands parts p i) → is_some o ≡ not b → IsTrue b ↔ IsInput parts i
input_tells parts i part None true is_i kind none e =
    (λ t. record { part = part; is_i = is_i; kind = kind; unfed = λ p feeds. none p (inr feeds) }, λ input. refl)
input_tells parts i part None false is_i kind none e = absurd (false≢true e)
input_tells parts i part (Some p) true is_i kind some e = absurd (false≢true (sym e))
input_tells parts i part (Some p) false is_i kind some e =
    (λ t. absurd (false≢true t), λ input. absurd (input_unhanded parts i input p some))

-- an output has nothing in front of it
pub output_tells : (parts : List Part) (i : ℕ) (part : Part) (there : Cell) (o : Option ℕ) (b : Bool) → HasPart parts i part → (part.kind ≡ Belt) ⊎ (part.kind ≡ Exit)
    → there ≡ step part.dir part.cell → ((j : ℕ) → (o ≡ Some j) ↔ IsAt parts j there) → is_some o ≡ not b → IsTrue b ↔ IsOutput parts i
output_tells parts i part there None true is_i kind e found none = (
  λ t. record {
    part = part;
    is_i = is_i;
    kind = kind;
    clear = λ q at. none-some q ((found q).1 (subst (λ c. IsAt parts q c) (sym e) at));
  },
  λ output. refl,
)
output_tells parts i part there None false is_i kind e found none = absurd (false≢true none)
output_tells parts i part there (Some j) true is_i kind e found none = absurd (false≢true (sym none))
output_tells parts i part there (Some j) false is_i kind e found none = (
  λ t. absurd (false≢true t),
  λ output. absurd (output.clear j (subst (λ p. IsAt parts j (step p.dir p.cell)) (same_part parts i part output.part is_i output.is_i)
      (subst (λ c. IsAt parts j c) e ((found j).0 refl)))),
)

-- one more part with its cell
pub keyed_more : (parts : List Part) (indices : List ℕ) (list : List (Cell × ℕ)) (i : ℕ) (part : Part) → AreKeyed parts indices list → HasPart parts i part
    → AreKeyed parts (indices ++ i ∷ []) (list ++ (part.cell, i) ∷ [])
keyed_more parts indices list i part are is_i = record {
  indices_are = map-append (λ entry. entry.1) list ((part.cell, i) ∷ []) ∙ ap (λ xs. xs ++ i ∷ []) are.indices_are;
  keys = All-push (IsKeyed parts) list (part.cell, i) are.keys (part, is_i, refl);
}

-- a cell before another compares as less
less_from : (a b : Cell) → Precedes a b → cell_order a b ≡ Less
less_from a b (inl x) = ap (λ o. ordering_then o (int_cmp a.y b.y)) (sym (int_cmp_is a.x b.x Less x))
less_from a b (inr e) =
    ap (λ o. ordering_then o (int_cmp a.y b.y)) (sym (int_cmp_is a.x b.x Equal e.0)) ∙ sym (int_cmp_is a.y b.y Less e.1)

-- of two cells one comes first, or they are the same
cell_cases : (a b : Cell) → Precedes a b ⊎ ((a ≡ b) ⊎ Precedes b a)
cell_cases a b =
    ⊎_elim (λ x. inl (inl x))
    (λ other. ⊎_elim
    (λ ex. ⊎_elim (λ y. inl (inr (ex, y)))
    (λ more. ⊎_elim (λ ey. inr (inl (ap (λ z. record { x = z; y = a.y }) ex ∙ ap (λ z. record { x = b.x; y = z }) ey)))
    (λ y. inr (inr (inr (sym ex, y)))) more)
    (int_cases a.y b.y))
    (λ x. inr (inr (inl x))) other)
    (int_cases a.x b.x)
  where
    int_cases : (x y : ℤ) → (x <ℤ y) ⊎ ((x ≡ y) ⊎ (y <ℤ x))
    int_cases (pos m) (pos n) = ⊎_elim (λ e. inr (inl (ap pos e))) (λ apart. ⊎_elim (λ lt. inl (omega (arith, ints))) (λ gt. inr (inr (omega (arith, ints)))) apart) (cases_order m n)
    int_cases (pos m) (negsuc n) = inr (inr (omega (arith, ints)))
    int_cases (negsuc m) (pos n) = inl (omega (arith, ints))
    int_cases (negsuc m) (negsuc n) = ⊎_elim (λ e. inr (inl (ap negsuc e))) (λ apart. ⊎_elim (λ lt. inr (inr (omega (arith, ints)))) (λ gt. inl (omega (arith, ints))) apart) (cases_order m n)

pub listed_step : (P : ℕ → Type 0) (xs ys : List ℕ) (n : ℕ) (b : Bool) → ListsUpTo P xs n → (IsTrue b ↔ P n) → ys ≡ cond b (xs ++ n ∷ []) xs → ListsUpTo P ys (n + 1)
listed_step P xs ys n true lists tells e = subst (λ zs. ListsUpTo P zs (n + 1)) (sym e) (listed_more P xs n lists (tells.0 refl))
listed_step P xs ys n false lists tells e = subst (λ zs. ListsUpTo P zs (n + 1)) (sym e) (listed_same P xs n lists (λ p. false≢true (tells.1 p)))

-- a list of all the parts of a kind, in order, has each once
pub listed_each : (P : ℕ → Type 0) (xs : List ℕ) (n : ℕ) → ((i : ℕ) → P i → i < n) → ListsUpTo P xs n → ListsEach P xs
listed_each P xs n within lists = record {
  all = λ i p. lists.all i (within i p) p;
  only = λ i there. (lists.only i there).1;
  once = λ i j d lt in' same. let less = lists.ascends i j d lt in' in omega arith;
}

pub listed_within : (P : ℕ → Type 0) (xs : List ℕ) (n : ℕ) → ListsUpTo P xs n → All (λ i. i < n) xs
listed_within P xs n lists k d lt = (lists.only (get_or xs k d) (k, lt, get_or_default xs k (get_or xs k d) d lt)).0

-- entries are ordered by their cells and then by their parts
abbrev entry_order : Cell × ℕ → Cell × ℕ → Ordering
entry_order x y = ordering_then (cell_order x.0 y.0) (nat_cmp x.1 y.1)

entry_total : IsTotalOrder entry_order
entry_total = then_total (on_total (λ x. x.0) cell_order_total) (on_total (λ x. x.1) nat_cmp_total)

-- the number of a keyed entry at a place
second_at : (xs : List (Cell × ℕ)) (k : ℕ) (d : Cell × ℕ) → get_or (map (λ entry. entry.1) xs) k d.1 ≡ (get_or xs k d).1
second_at [] k d = refl
second_at (x ∷ xs) zero d = refl
second_at (x ∷ xs) (suc k) d = second_at xs k d

second_length : (xs : List (Cell × ℕ)) → length (map (λ entry. entry.1) xs) ≡ length xs
second_length [] = refl
second_length (x ∷ xs) = ap suc (second_length xs)

-- numbers that ascend are apart, also when they change places
pub apart_moved : (xs ys : List ℕ) → AllPairs ◌<◌ xs → IsPermutation xs ys → AllPairs ◌≢◌ ys
apart_moved xs ys up moved i j d lt in' same =
    let before : IsDistinct eqb xs = IsDistinct-from_apart eqb xs (λ k l e less within. lt_apart (get_or xs k e) (get_or xs l e) (up k l e less within)) in
    let after : IsDistinct eqb ys = IsDistinct-IsPermutation eqb (λ x y. eqb_flips x y) xs ys moved before in
    both_ways (eqb (get_or ys i d) (get_or ys j d)) (apart_from_distinct eqb ys i j d after lt in') (eq-eqb (get_or ys i d) (get_or ys j d) same)
  where
    test_false : (x y : ℕ) (b : Bool) → eqb x y ≡ b → (x ≡ y → ⊥) → eqb x y ≡ false
    test_false x y true e none = absurd (none (eqb-true x y e))
    test_false x y false e none = e

    lt_apart : (x y : ℕ) → x < y → eqb x y ≡ false
    lt_apart x y less = test_false x y (eqb x y) refl (λ e. omega arith)

    flip : (x y : ℕ) (b c : Bool) → eqb x y ≡ b → eqb y x ≡ c → eqb x y ≡ eqb y x
    flip x y true true e f = e ∙ sym f
    flip x y false false e f = e ∙ sym f
    flip x y true false e f = absurd (both_ways (eqb y x) f (eq-eqb y x (sym (eqb-true x y e))))
    flip x y false true e f = absurd (both_ways (eqb x y) e (eq-eqb x y (sym (eqb-true y x f))))

    eqb_flips : (x y : ℕ) → eqb x y ≡ eqb y x
    eqb_flips x y = flip x y (eqb x y) (eqb y x) refl refl

-- sorted entries have their parts in the order of the cells
pub sorted_cells : (parts : List Part) → IsWellPlaced parts → (indices : List ℕ) (before after : List (Cell × ℕ)) → AreKeyed parts indices before → AllPairs ◌<◌ indices
    → IsPermutation before after → IsSortedBy (λ x y. is_lt (entry_order x y)) after → AllPairs (IsPlacedBefore parts) (map (λ entry. entry.1) after)
sorted_cells parts placed indices before after are up moved sorted i j d lt in' =
    let e : Cell × ℕ = (record { x = pos 0; y = pos 0 }, d) in
    let in_after : j < length after = let same = second_length after in omega arith in
    let in_i : i < length after = omega arith in
    let keys : All (IsKeyed parts) after = All-permutation (IsKeyed parts) before after moved are.keys in
    let at_i = keys i e in_i in
    let at_j = keys j e in_after in
    let no_less = sorted_far (λ x y. is_lt (entry_order x y)) (ranks_by entry_total (λ x. x)) after sorted i j e (omega arith) in_after in
    let once = apart_moved indices (map (λ entry. entry.1) after) up
    (subst (λ xs. IsPermutation xs (map (λ entry. entry.1) after)) are.indices_are (IsPermutation-map (λ entry. entry.1) before after moved)) in
    subst (λ x. IsPlacedBefore parts x (get_or (map (λ entry. entry.1) after) j d)) (sym (second_at after i e))
    (subst (λ y. IsPlacedBefore parts (get_or after i e).1 y) (sym (second_at after j e))
    (⊎_elim
    (λ first. record {
      one = at_i.0;
      is_i = at_i.1;
      other = at_j.0;
      is_j = at_j.1;
      before = subst (λ c. Precedes c at_j.0.cell) at_i.2 (subst (λ c. Precedes (get_or after i e).0 c) at_j.2 first);
    })
    (λ rest. ⊎_elim
    (λ same. absurd (once i j d lt in'
    (second_at after i e ∙ one_there parts placed (get_or after i e).1 (get_or after j e).1 (get_or after j e).0
    (record { part = at_i.0; is_i = at_i.1; covers = inl (sym same ∙ at_i.2) })
    (record { part = at_j.0; is_i = at_j.1; covers = inl at_j.2 }) ∙ sym (second_at after j e))))
    (λ later. absurd (both_ways (is_lt (entry_order (get_or after j e) (get_or after i e))) no_less
    (ap (λ o. is_lt (ordering_then o (nat_cmp (get_or after j e).1 (get_or after i e).1))) (less_from (get_or after j e).0 (get_or after i e).0 later))))
    rest)
    (cell_cases (get_or after i e).0 (get_or after j e).0)))

-- a list of the parts of a kind that was put in another order
pub moved_each : (P : ℕ → Type 0) (xs ys : List ℕ) (n : ℕ) → ((i : ℕ) → P i → i < n) → ListsUpTo P xs n → IsPermutation xs ys → ListsEach P ys
moved_each P xs ys n within lists moved =
    record {
      all = λ i p. Contains-permutation xs ys i moved (lists.all i (within i p) p);
      only = λ i there. (lists.only i (Contains-permutation ys xs i (IsPermutation-sym xs ys moved) there)).1;
      once = apart_moved xs ys lists.ascends moved;
    }
