-- Issued ids stay good.
use Rattle.std.proofs.Common.{◌≡◌, ℕ, ◌<◌, zero, suc, List, [], ◌∷◌, ◌++◌, length, slice_get, refl, sym, ap, ap₂, ◌∙◌, arith}
use Rattle.std.specs.Prelude.{Ok, Err}
use Rattle.std.specs.Allocator.{alloc_error}
use Rattle.bt_text.specs.Answers.{Answers, HasOneAnswer}
use Rattle.bt_text.proofs.OneAnswer.{answers_of}
use Rattle.bt_arena.specs.Items.{IsAdded, KeepsItems}

-- an item is where it was in front of what follows
kept_in_front : {T : Type 0} (items more : List T) (place : ℕ) → place < length items → slice_get (items ++ more) place ≡ slice_get items place
kept_in_front [] more place below = absurd (omega (arith, below))
kept_in_front (x ∷ items) more zero below = refl
kept_in_front (x ∷ items) more (suc place) below = kept_in_front items more place (omega (arith, below))

-- an appended item leaves each earlier one where it is
pub kept_by_appending : {T : Type 0} (old new more : List T) → new ≡ old ++ more → KeepsItems old new
kept_by_appending old new more is place below = rw is (kept_in_front old more place below)

-- two lists with an item added, and two of its places, are equal
one_added : {T : Type 0} (old : List T) (item : T) → HasOneAnswer (IsAdded old item)
one_added old item (Ok a) (Ok b) p q = ap (λ t. Ok t) (ap₂ (λ x y. (x, y)) (p.0 ∙ sym q.0) (p.1 ∙ sym q.1))
one_added old item (Ok a) (Err f) p q = absurd q
one_added old item (Err e) b p q = absurd p

-- the answer where the item was added
pub added_answers : {T : Type 0} (old new : List T) (item : T) (id : ℕ) → new ≡ old ++ item ∷ [] → id ≡ length old → Answers alloc_error (IsAdded old item) (Ok (new, id))
added_answers old new item id is place = answers_of alloc_error (IsAdded old item) (one_added old item) (Ok (new, id)) (is, place)
