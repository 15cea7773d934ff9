-- What an added item or list makes of the list that an arena or a pool is, and what stays of it.
use Rattle.std.specs.Prelude.{◌≡◌, ℕ, ◌<◌, List, [], ◌∷◌, ◌++◌, length, slice_get, Result, Ok, Err}
use Rattle.std.specs.declared.alloc.AllocError.{AllocError}

-- the items with the id that was told
abbrev pub with_id : {T : Type 0} → List T → ℕ → List T × ℕ
with_id items id = (items, id)

-- the item was put behind the old ones, and the id told is its place
abbrev pub IsAdded : {T : Type 0} → List T → T → Result (List T × ℕ) AllocError → Type 0
IsAdded old item (Ok told) = (told.0 ≡ old ++ item ∷ []) × (told.1 ≡ length old)
IsAdded old item (Err memory) = ⊥

-- each item that was there is there still, at its place
abbrev pub KeepsItems : {T : Type 0} → List T → List T → Type 0
KeepsItems old new = (place : ℕ) → place < length old → slice_get new place ≡ slice_get old place
