-- The lists of a pool, one by one.
use Rattle.std.proofs.Common.{◌≡◌, ℕ, ◌-◌, ◌<◌, ◌≤◌, zero, suc, List, [], ◌∷◌, ◌++◌, length, drop, get_or, slice_range, slice_get, Some, refl, ap, arith, le_trans, length-append, length-drop}
use Rattle.std.proofs.lemmas.List.{drop-append-le, take-append-le}
use Rattle.std.proofs.Math.Seq.{drop-append_seam, take-length}
use Rattle.bt_arena.specs.Pieces.{pieces, AreEnds, start_of}

pub length-pieces : {T : Type 0} (from : ℕ) (ends : List ℕ) (items : List T) → length (pieces from ends items) ≡ length ends
length-pieces from [] items = refl
length-pieces from (end ∷ ends) items = ap suc (length-pieces end ends items)

pub get-pieces : {T : Type 0} (from : ℕ) (ends : List ℕ) (items : List T) (place : ℕ) → place < length ends
    → slice_get (pieces from ends items) place ≡ Some (slice_range items (start_of from ends place) (get_or ends place 0))
get-pieces from [] items place h = absurd (omega (arith, h))
get-pieces from (end ∷ ends) items zero h = refl
get-pieces from (end ∷ ends) items (suc place) h = get-pieces end ends items place (omega (arith, h))

start-suc : (from : ℕ) (ends : List ℕ) (place : ℕ) → place < length ends → start_of from ends (suc place) ≡ get_or ends place 0
start-suc from [] place h = absurd (omega (arith, h))
start-suc from (end ∷ []) zero h = refl
start-suc from (end ∷ next ∷ ends) zero h = refl
start-suc from (end ∷ ends) (suc place) h = start-suc end ends place (omega (arith, h))

-- a list that isn't the first begins where the one before ends
pub start_before : (from : ℕ) (ends : List ℕ) (place : ℕ) → place < length ends → 0 < place → start_of from ends place ≡ get_or ends (place - 1) 0
start_before from ends zero h positive = absurd (omega (arith, positive))
start_before from ends (suc place) h positive =
    let e : suc place - 1 ≡ place = omega arith in
    rw e (start-suc from ends place (omega (arith, h)))

-- no list begins past the items
pub from_within : {T : Type 0} (from : ℕ) (ends : List ℕ) (items : List T) → AreEnds from ends items → from ≤ length items
from_within from [] items are = omega (arith, are)
from_within from (end ∷ ends) items are = le_trans are.0 (from_within end ends items are.1)

pub end_below : {T : Type 0} (from : ℕ) (ends : List ℕ) (items : List T) (place : ℕ) → AreEnds from ends items → place < length ends
    → get_or ends place 0 ≤ length items
end_below from [] items place are h = absurd (omega (arith, h))
end_below from (end ∷ ends) items zero are h = from_within end ends items are.1
end_below from (end ∷ ends) items (suc place) are h = end_below end ends items place are.1 (omega (arith, h))

pub start_below : {T : Type 0} (from : ℕ) (ends : List ℕ) (items : List T) (place : ℕ) → AreEnds from ends items → place < length ends
    → start_of from ends place ≤ get_or ends place 0
start_below from [] items place are h = absurd (omega (arith, h))
start_below from (end ∷ ends) items zero are h = are.0
start_below from (end ∷ ends) items (suc place) are h = start_below end ends items place are.1 (omega (arith, h))

-- a list stays where more items follow
range_stays : {T : Type 0} (from end : ℕ) (items more : List T) → from ≤ end → end ≤ length items
    → slice_range (items ++ more) from end ≡ slice_range items from end
range_stays from end items more order within =
    let fits : end - from ≤ length (drop from items) = omega (arith, length-drop from items, order, within) in
    let starts : from ≤ length items = omega (arith, order, within) in
    rw (drop-append-le from items more starts) (take-append-le (end - from) (drop from items) more fits)

-- the last list is what was appended
range_last : {T : Type 0} (from : ℕ) (items more : List T) → from ≡ length items
    → slice_range (items ++ more) from (length (items ++ more)) ≡ more
range_last from items more is =
    let size : length (items ++ more) - length items ≡ length more = omega (arith, length-append items more) in
    rw (is, drop-append_seam items more, size) (take-length more)

-- with one list more, every earlier list is where it was
pieces-add : {T : Type 0} (from : ℕ) (ends : List ℕ) (items more : List T) → AreEnds from ends items
    → pieces from (ends ++ length (items ++ more) ∷ []) (items ++ more) ≡ pieces from ends items ++ more ∷ []
pieces-add from [] items more are = ap (λ xs. xs ∷ []) (range_last from items more are)
pieces-add from (end ∷ ends) items more are =
    rw (range_stays from end items more are.0 (from_within end ends items are.1), pieces-add end ends items more are.1)

-- the ends of a pool with one list more
ends-add : {T : Type 0} (from : ℕ) (ends : List ℕ) (items more : List T) → AreEnds from ends items
    → AreEnds from (ends ++ length (items ++ more) ∷ []) (items ++ more)
ends-add from [] items more are = (omega (arith, are, length-append items more), refl)
ends-add from (end ∷ ends) items more are = (are.0, ends-add end ends items more are.1)

-- what a pool is, once its vectors have a list and an end more
pub added : {T : Type 0} (items newer more : List T) (ends roomy later : List ℕ) (end size : ℕ) → AreEnds 0 ends items
    → newer ≡ items ++ more → roomy ≡ ends → later ≡ roomy ++ end ∷ [] → end ≡ size → size ≡ length newer
    → AreEnds 0 later newer × (pieces 0 later newer ≡ pieces 0 ends items ++ more ∷ [])
added items newer more ends roomy later end size are more_items same more_ends counted counts =
    rw (more_ends, same, counted, counts, more_items) (ends-add 0 ends items more are, pieces-add 0 ends items more are)
