-- How a pool's vector of items and of ends stands for a list of lists.
use Rattle.std.specs.Prelude.{◌≡◌, ℕ, zero, suc, ◌≤◌, List, [], ◌∷◌, length, drop, slice_range, slice_get, Some}

-- the lists that end at these places, from a place on
abbrev pub pieces : {T : Type 0} → ℕ → List ℕ → List T → List (List T)
pieces from [] items = []
pieces from (end ∷ ends) items = slice_range items from end ∷ pieces end ends items

-- the ends rise, and the last is the number of items
abbrev pub AreEnds : {T : Type 0} → ℕ → List ℕ → List T → Type 0
AreEnds from [] items = from ≡ length items
AreEnds from (end ∷ ends) items = (from ≤ end) × AreEnds end ends items

-- where the piece at a place begins
abbrev pub start_of : ℕ → List ℕ → ℕ → ℕ
start_of from ends zero = from
start_of from [] (suc place) = from
start_of from (end ∷ ends) (suc place) = start_of end ends place

-- the piece at a place begins and ends there
abbrev pub IsSpan : {T : Type 0} → List ℕ → List T → ℕ → ℕ × ℕ → Type 0
IsSpan ends items place span = slice_get (pieces 0 ends items) place ≡ Some (slice_range items span.0 span.1)

-- items with others written over them from a place on, as far as there are items
abbrev pub written_over : {T : Type 0} → List T → ℕ → List T → List T
written_over [] place others = []
written_over (item ∷ items) zero [] = item ∷ items
written_over (item ∷ items) zero (other ∷ others) = other ∷ written_over items zero others
written_over (item ∷ items) (suc place) others = item ∷ written_over items place others

-- lists with items written over the one at a place; what is more than that list has goes over those that follow
abbrev pub with_list : {T : Type 0} → List (List T) → ℕ → List T → List (List T)
with_list [] place items = []
with_list (list ∷ lists) zero items = written_over list zero items ∷ with_list lists zero (drop (length list) items)
with_list (list ∷ lists) (suc place) items = list ∷ with_list lists place items
