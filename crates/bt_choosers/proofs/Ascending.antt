-- Lists of variables that ascend, and what choosers pick among them.
use Rattle.std.proofs.Common.{◌≡◌, ◌≢◌, ◌<◌, ◌≤◌, inl, inr, ℕ, zero, suc, arith, false, List, [], ◌∷◌, length, get_or, refl, subst}
use Rattle.std.specs.Prelude.{Contains}
use Rattle.std.proofs.lemmas.Bool.{cases_lt}
use Rattle.bt_cnf.specs.Choosing.{Ascends}
use Rattle.bt_cnf.specs.declared.literal.Lit.{Lit}
use Rattle.bt_choosers.specs.Picks.{PicksRecent}
use Rattle.bt_choosers.specs.inner.FirstUnset.{IsFirstUnset}
use Rattle.bt_cnf.proofs.Lists.{got_at, got_within}

-- an earlier one is less than a later one
pub ascends_at : (xs : List ℕ) (i j d e : ℕ) → Ascends xs → i < j → j < length xs → get_or xs i d < get_or xs j e
ascends_at [] i j d e ascends before below = absurd (omega (arith, below))
ascends_at (x ∷ xs) i zero d e ascends before below = absurd (omega (arith, before))
ascends_at (x ∷ xs) zero (suc j) d e ascends before below = ascends.0 j e (omega (arith, below))
ascends_at (x ∷ xs) (suc i) (suc j) d e ascends before below = ascends_at xs i j d e ascends.1 (omega (arith, before)) (omega (arith, below))

pub up_to : (xs : List ℕ) (i j d e : ℕ) → Ascends xs → i ≤ j → j < length xs → get_or xs i d ≤ get_or xs j e
up_to [] i j d e ascends before below = absurd (omega (arith, below))
up_to (x ∷ xs) zero zero d e ascends before below = omega arith
up_to (x ∷ xs) (suc i) zero d e ascends before below = absurd (omega (arith, before))
up_to (x ∷ xs) zero (suc j) d e ascends before below = let h : x < get_or xs j e = ascends.0 j e (omega (arith, below)) in omega arith
up_to (x ∷ xs) (suc i) (suc j) d e ascends before below = up_to xs i j d e ascends.1 (omega (arith, before)) (omega (arith, below))

-- the first of the clause's variables that is unset, or the first of all
pub first_is : (clause : List Lit) (unset : List ℕ) (place : ℕ) → Ascends unset → 0 < length unset → IsFirstUnset clause unset place
    → PicksRecent clause unset (record { place = place; positive = false })
first_is [] unset place ascends some is = record {
  lowest = λ k d below. up_to unset place k 0 d ascends (omega (arith, is)) below;
  phase = refl;
}
first_is (l ∷ clause) unset place ascends some is =
    elim is [
      | inl got ↦ inl ((place, got_within unset place l.var got, got_at unset place l.var l.var got), got_at unset place 0 l.var got, refl)
      | inr rest ↦ inr (rest.0, first_is clause unset place ascends some rest.1)
    ]

-- a number isn't among those of which the ones before a place are less, and the ones from there on are greater
pub not_among : (xs : List ℕ) (x place : ℕ) → Ascends xs → ((k d : ℕ) → k < place → k < length xs → get_or xs k d < x)
    → ((k d : ℕ) → place ≤ k → k < length xs → x ≤ get_or xs k d) → (place < length xs → get_or xs place x ≢ x) → Contains xs x → ⊥
not_among xs x place ascends before after differs among =
    let k = among.0 in
    let below : k < length xs = among.1 in
    let is : get_or xs k x ≡ x = among.2 in
    elim (cases_lt k place) [
      | inl early ↦ omega (arith, before k x early below)
      | inr late ↦ elim (cases_lt place k) [
        | inl later ↦ omega (arith, ascends_at xs place k x x ascends later below, after place x (omega arith) (omega arith))
        | inr not_later ↦ let same : k ≡ place = omega arith in differs (omega arith) (subst (λ j. get_or xs j x ≡ x) same is)
      ]
    ]
