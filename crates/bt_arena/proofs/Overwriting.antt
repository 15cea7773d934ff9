-- A pool whose list is written over.
use Rattle.std.proofs.Common.{◌≡◌, ℕ, ◌-◌, ◌+◌, ◌<◌, ◌≤◌, zero, suc, List, [], ◌∷◌, ◌++◌, length, take, drop, slice_range, slice_set, refl, sym, ap, ap₂, ◌∙◌, arith, get_or, length-append, length-drop, le_trans}
use Rattle.std.proofs.lemmas.List.{take-append-le, length-take, length-take-le, drop-drop}
use Rattle.std.proofs.Math.ListN.{drop_of_length-le}
use Rattle.std.proofs.Math.Seq.{take-length}
use Rattle.bt_arena.proofs.PoolPieces.{from_within}
use Rattle.bt_arena.specs.Pieces.{pieces, AreEnds, start_of, written_over, with_list}

-- as many items as were there, of those that now stand there
taken_over : {T : Type 0} (items : List T) (place : ℕ) (others : List T)
    → take (length items) (take place items ++ (others ++ drop (length others) (drop place items))) ≡ written_over items place others
taken_over [] place others = refl
taken_over (x ∷ items) zero [] = take-length (x ∷ items)
taken_over (x ∷ items) zero (y ∷ others) = ap (λ xs. y ∷ xs) (taken_over items zero others)
taken_over (x ∷ items) (suc place) others = ap (λ xs. x ∷ xs) (taken_over items place others)

-- the items of a vector that is written over from a place on
pub filled_over : {T : Type 0} (items : List T) (place : ℕ) (others : List T) → place ≤ length items
    → take (length items) ((take place items ++ (others ++ drop (length others) (drop place items)))
    ++ drop (length (take place items ++ (others ++ drop (length others) (drop place items)))) items)
    ≡ written_over items place others
filled_over items place others within =
    let now = take place items ++ (others ++ drop (length others) (drop place items)) in
    let enough : length items ≤ length now =
    omega (
      arith,
      length-append (take place items) (others ++ drop (length others) (drop place items)),
      length-append others (drop (length others) (drop place items)),
      length-take-le place items within,
      length-drop place items,
      length-drop (length others) (drop place items),
    ) in
    take-append-le (length items) now (drop (length now) items) enough ∙ taken_over items place others

length-written : {T : Type 0} (items : List T) (place : ℕ) (others : List T) → length (written_over items place others) ≡ length items
length-written [] place others = refl
length-written (x ∷ items) zero [] = refl
length-written (x ∷ items) zero (y ∷ others) = ap suc (length-written items zero others)
length-written (x ∷ items) (suc place) others = ap suc (length-written items place others)

-- nothing is written past the items
nothing_over : {T : Type 0} (items : List T) (place : ℕ) (others : List T) → length items ≤ place → written_over items place others ≡ items
nothing_over [] place others past = refl
nothing_over (x ∷ items) zero others past = absurd (omega (arith, past))
nothing_over (x ∷ items) (suc place) others past = ap (λ xs. x ∷ xs) (nothing_over items place others (omega (arith, past)))

no_items_over : {T : Type 0} (items : List T) → written_over items zero [] ≡ items
no_items_over [] = refl
no_items_over (x ∷ items) = refl

take_over : {T : Type 0} (count : ℕ) (items : List T) (place : ℕ) (others : List T) → take count (written_over items place others) ≡ written_over (take count items) place others
take_over zero items place others = refl
take_over (suc count) [] place others = refl
take_over (suc count) (x ∷ items) zero [] = refl
take_over (suc count) (x ∷ items) zero (y ∷ others) = ap (λ xs. y ∷ xs) (take_over count items zero others)
take_over (suc count) (x ∷ items) (suc place) others = ap (λ xs. x ∷ xs) (take_over count items place others)

-- behind the place, with what was left over
drop_behind : {T : Type 0} (count : ℕ) (items : List T) (others : List T) → drop count (written_over items zero others) ≡ written_over (drop count items) zero (drop count others)
drop_behind zero items others = refl
drop_behind (suc count) [] others = refl
drop_behind (suc count) (x ∷ items) [] = sym (no_items_over (drop count items))
drop_behind (suc count) (x ∷ items) (y ∷ others) = drop_behind count items others

-- from a place on that is behind the one where writing began
drop_from : {T : Type 0} (base count : ℕ) (items : List T) (others : List T) → base ≤ count
    → drop count (written_over items base others) ≡ written_over (drop count items) zero (drop (count - base) others)
drop_from zero count items others order = let e : count - zero ≡ count = omega arith in rw e (drop_behind count items others)
drop_from (suc base) zero items others order = absurd (omega (arith, order))
drop_from (suc base) (suc count) [] others order = refl
drop_from (suc base) (suc count) (x ∷ items) others order =
    let e : suc count - suc base ≡ count - base = omega arith in
    rw e (drop_from base count items others (omega (arith, order)))

-- from a place on that is before the one where writing begins
drop_before : {T : Type 0} (count place : ℕ) (items : List T) (others : List T) → count ≤ place
    → drop count (written_over items place others) ≡ written_over (drop count items) (place - count) others
drop_before zero place items others order = let e : place - zero ≡ place = omega arith in rw e refl
drop_before (suc count) zero items others order = absurd (omega (arith, order))
drop_before (suc count) (suc place) [] others order = refl
drop_before (suc count) (suc place) (x ∷ items) others order =
    let e : suc place - suc count ≡ place - count = omega arith in
    rw e (drop_before count place items others (omega (arith, order)))

-- a list that ends before the place where writing begins
range_before : {T : Type 0} (from end place : ℕ) (items : List T) (others : List T) → from ≤ end → end ≤ place
    → slice_range (written_over items place others) from end ≡ slice_range items from end
range_before from end place items others order before =
    let small : length (take (end - from) (drop from items)) ≤ place - from = omega (arith, length-take (end - from) (drop from items), order, before) in
    ap (take (end - from)) (drop_before from place items others (omega (arith, order, before)))
    ∙ take_over (end - from) (drop from items) (place - from) others
    ∙ nothing_over (take (end - from) (drop from items)) (place - from) others small

-- a list that begins behind the place where writing begins
range_from : {T : Type 0} (base from end : ℕ) (items : List T) (others : List T) → base ≤ from
    → slice_range (written_over items base others) from end ≡ written_over (slice_range items from end) zero (drop (from - base) others)
range_from base from end items others order =
    ap (take (end - from)) (drop_from base from items others order) ∙ take_over (end - from) (drop from items) zero (drop (from - base) others)

-- the lists from one on
pieces_from : {T : Type 0} (base from : ℕ) (ends : List ℕ) (items : List T) (others : List T) → base ≤ from → AreEnds from ends items
    → pieces from ends (written_over items base others) ≡ with_list (pieces from ends items) zero (drop (from - base) others)
pieces_from base from [] items others order are = refl
pieces_from base from (end ∷ ends) items others order are =
    let size : length (slice_range items from end) ≡ end - from =
    length-take-le (end - from) (drop from items) (omega (arith, length-drop from items, from_within end ends items are.1, are.0)) in
    let left : from - base + (end - from) ≡ end - base = omega (arith, order, are.0) in
    let rest : drop (length (slice_range items from end)) (drop (from - base) others) ≡ drop (end - base) others =
    ap (λ n. drop n (drop (from - base) others)) size ∙ drop-drop (end - from) (from - base) others ∙ ap (λ n. drop n others) left in
    ap₂ (λ xs xss. xs ∷ xss) (range_from base from end items others order)
    (pieces_from base end ends items others (omega (arith, order, are.0)) are.1 ∙ ap (with_list (pieces end ends items) zero) (sym rest))

-- no list begins before the first
from_before : {T : Type 0} (from : ℕ) (ends : List ℕ) (items : List T) (place : ℕ) → AreEnds from ends items → place < length ends → from ≤ start_of from ends place
from_before from ends items zero are h = omega arith
from_before from [] items (suc place) are h = omega arith
from_before from (end ∷ ends) items (suc place) are h = le_trans are.0 (from_before end ends items place are.1 (omega (arith, h)))

-- the lists, with others written over from where one begins
pieces_over : {T : Type 0} (from : ℕ) (ends : List ℕ) (items : List T) (place : ℕ) (others : List T) → AreEnds from ends items → place < length ends
    → pieces from ends (written_over items (start_of from ends place) others) ≡ with_list (pieces from ends items) place others
pieces_over from ends items zero others are h =
    let e : from - from ≡ zero = omega arith in
    pieces_from from from ends items others (omega arith) are ∙ ap (λ n. with_list (pieces from ends items) zero (drop n others)) e
pieces_over from [] items (suc place) others are h = absurd (omega (arith, h))
pieces_over from (end ∷ ends) items (suc place) others are h =
    ap₂ (λ xs xss. xs ∷ xss)
    (range_before from end (start_of end ends place) items others are.0 (from_before end ends items place are.1 (omega (arith, h))))
    (pieces_over end ends items place others are.1 (omega (arith, h)))

-- the ends of as many items
ends_stay : {T : Type 0} (from : ℕ) (ends : List ℕ) (items others : List T) → length others ≡ length items → AreEnds from ends items → AreEnds from ends others
ends_stay from [] items others same are = are ∙ sym same
ends_stay from (end ∷ ends) items others same are = (are.0, ends_stay end ends items others same are.1)

-- what a pool is once items were written over a list of it
pub overwritten : {T : Type 0} (ends : List ℕ) (items now : List T) (place from : ℕ) (others : List T) → AreEnds 0 ends items → place < length ends → from ≡ start_of 0 ends place
    → now ≡ written_over items from others → AreEnds 0 ends now × (pieces 0 ends now ≡ with_list (pieces 0 ends items) place others)
overwritten ends items now place from others are below begins is =
    rw (is, begins) (
      ends_stay 0 ends items (written_over items (start_of 0 ends place) others) (length-written items (start_of 0 ends place) others) are,
      pieces_over 0 ends items place others are below,
    )

-- no list changes where nothing is written
no_list_over : {T : Type 0} (lists : List (List T)) → with_list lists zero [] ≡ lists
no_list_over [] = refl
no_list_over (list ∷ lists) = ap₂ (λ xs xss. xs ∷ xss) (no_items_over list) (ap (with_list lists zero) (drop_of_length-le [] (omega arith)) ∙ no_list_over lists)

-- all items are new
all_over : {T : Type 0} (items others : List T) → length others ≡ length items → written_over items zero others ≡ others
all_over [] [] same = refl
all_over [] (y ∷ others) same = absurd (omega (arith, same))
all_over (x ∷ items) [] same = absurd (omega (arith, same))
all_over (x ∷ items) (y ∷ others) same = ap (λ xs. y ∷ xs) (all_over items others (omega (arith, same)))

-- a list with as many items takes the place of the old one, and every other list stays
pub with_list_as_long : {T : Type 0} (lists : List (List T)) (place : ℕ) (items : List T) → place < length lists → length items ≡ length (get_or lists place [])
    → with_list lists place items ≡ slice_set lists place items
with_list_as_long [] place items below same = refl
with_list_as_long (list ∷ lists) zero items below same =
    ap₂ (λ xs xss. xs ∷ xss) (all_over list items same)
    (ap (with_list lists zero) (drop_of_length-le items (omega (arith, same))) ∙ no_list_over lists)
with_list_as_long (list ∷ lists) (suc place) items below same = ap (λ xss. list ∷ xss) (with_list_as_long lists place items (omega (arith, below)) same)
