-- Places that are marked.
use Rattle.std.proofs.Common.{◌≡◌, ◌≢◌, ℕ, ◌<◌, ◌≤◌, ◌+◌, ◌⊎◌, inl, inr, arith, Bool, true, false, List, [], ◌∷◌, length, length-set, get_or, get_or-set_same, sym, subst, refl, ◌∙◌, zero, suc, Some, None}
use Rattle.std.specs.Prelude.{Contains, slice_set, replicate}
use Rattle.std.specs.List.{range_with_len}
use Rattle.std.proofs.lemmas.List.{get_or-set_other}
use Rattle.std.proofs.lemmas.List.Elements.{All-contains, filter_passes}
use Rattle.std.proofs.lemmas.List.FromFn.{get_or-range_with_len, length-range_with_len}
use Rattle.bt_watch.specs.Agendas.{places_of, Adds, AreBefore, IsGreatest, NoneMarked, Takes}
use Rattle.bt_cnf.proofs.Lists.{passes_kept, contains_here, nat_or}

pub marked_within : (marks : List Bool) (k : ℕ) → get_or marks k false ≡ true → k < length marks
marked_within [] k is = cc
marked_within (m ∷ marks) zero is = omega arith
marked_within (m ∷ marks) (suc k) is =
    let rest = marked_within marks k is in
    omega (arith, rest)

in_range : (size k : ℕ) → k < size → Contains (range_with_len 0 size) k
in_range size k small = (k, subst (λ n. k < n) (sym (length-range_with_len 0 size)) small, get_or-range_with_len 0 size k k small ∙ (let same : 0 + k ≡ k = omega arith in same))

-- a place that is marked is one of the marked places, and the other way round
pub in_places : (marks : List Bool) (k : ℕ) → get_or marks k false ≡ true → Contains (places_of marks) k
in_places marks k is = passes_kept (λ place. get_or marks place false) (range_with_len 0 (length marks)) k is (in_range (length marks) k (marked_within marks k is))

pub marked_of : (marks : List Bool) (k : ℕ) → Contains (places_of marks) k → get_or marks k false ≡ true
marked_of marks k among =
    All-contains (λ place. get_or marks place false ≡ true) (places_of marks) k (filter_passes (λ place. get_or marks place false) (range_with_len 0 (length marks))) among

empty_of : (xs : List ℕ) → ((k : ℕ) → Contains xs k → ⊥) → xs ≡ []
empty_of [] none = refl
empty_of (x ∷ xs) none = absurd (none x (contains_here x x xs refl))

pub none_places : (marks : List Bool) → NoneMarked marks → places_of marks ≡ []
none_places marks none = empty_of (places_of marks) (λ k among. none k (marked_of marks k among))

-- a number that was marked before, or is marked now
marked_more : (marks : List Bool) (place k : ℕ) → get_or (slice_set marks place true) k false ≡ true → (get_or marks k false ≡ true) ⊎ (k ≡ place)
marked_more marks place k is = elim (nat_or k place) [
  | inl same ↦ inr same
  | inr other ↦ inl (sym (get_or-set_other marks place k true false other) ∙ is)
]

-- another number that is marked still
marked_fewer : (marks : List Bool) (place k : ℕ) → get_or (slice_set marks place false) k false ≡ true → (get_or marks k false ≡ true) × (k ≢ place)
marked_fewer marks place k is = elim (nat_or k place) [
  | inl same ↦ absurd (unmarked marks place k same is)
  | inr other ↦ (sym (get_or-set_other marks place k false false other) ∙ is, other)
]
  where
    unmarked : (marks : List Bool) (place k : ℕ) → k ≡ place → get_or (slice_set marks place false) k false ≡ true → ⊥
    unmarked [] place k same is = cc
    unmarked (m ∷ marks) zero zero same is = cc
    unmarked (m ∷ marks) zero (suc k) same is = absurd (omega (arith, same))
    unmarked (m ∷ marks) (suc place) zero same is = absurd (omega (arith, same))
    unmarked (m ∷ marks) (suc place) (suc k) same is = unmarked marks place k (omega (arith, same)) is

-- one place more is marked
pub marks_more : (old grown : List Bool) (place : ℕ) → place < length grown → ((k : ℕ) → get_or grown k false ≡ get_or old k false) → Adds (places_of old) place (places_of (slice_set grown place true))
marks_more old grown place inside same k = (
  (λ among. elim (marked_more grown place k (marked_of (slice_set grown place true) k among)) [
    | inl before ↦ inl (in_places old k (sym (same k) ∙ before))
    | inr here ↦ inr here
  ]),
  (λ one. in_places (slice_set grown place true) k (elim (nat_or k place) [
    | inl here ↦ subst (λ n. get_or (slice_set grown place true) n false ≡ true) (sym here) (get_or-set_same grown place true false inside)
    | inr other ↦ get_or-set_other grown place k true false other ∙ same k ∙ elim one [ inl among ↦ marked_of old k among | inr here ↦ absurd (other here) ]
  ])),
)

-- the last place that is marked is the greatest
pub last_of : (marks : List Bool) (place : ℕ) → get_or marks place false ≡ true → ((k : ℕ) → get_or marks k false ≡ true → k < place + 1) → IsGreatest (places_of marks) (Some place)
last_of marks place is before = (
  in_places marks place is,
  (λ k among.
      let small = before k (marked_of marks k among) in
      omega (arith, small)),
)

pub none_of : (marks : List Bool) → ((k : ℕ) → get_or marks k false ≡ true → k < 0) → IsGreatest (places_of marks) None
none_of marks before k among =
    let small = before k (marked_of marks k among) in
    absurd (omega (arith, small))

-- it is marked no longer
pub marks_fewer : (marks : List Bool) (place : ℕ) → IsGreatest (places_of marks) (Some place) → Takes (places_of marks) (Some place) (places_of (slice_set marks place false))
marks_fewer marks place greatest = (
  greatest,
  (λ k. (
    (λ among.
        let still = marked_fewer marks place k (marked_of (slice_set marks place false) k among) in
        (in_places marks k still.0, still.1)),
    (λ (among, apart). in_places (slice_set marks place false) k (get_or-set_other marks place k false false apart ∙ marked_of marks k among)),
  )),
)

pub before_fewer : (marks : List Bool) (place : ℕ) → IsGreatest (places_of marks) (Some place) → AreBefore (slice_set marks place false) place
before_fewer marks place greatest = record {
  within =
      let inside : place < length marks = marked_within marks place (marked_of marks place greatest.0) in
      subst (λ n. place ≤ n) (sym (length-set marks place false)) (omega (arith, inside));
  before = λ k is.
      let still = marked_fewer marks place k is in
      let small = greatest.1 k (in_places marks k still.0) in
      omega (arith, small, still.1);
}

-- nothing is marked
pub none_marked : (size : ℕ) → NoneMarked (replicate size false)
none_marked zero k is = cc
none_marked (suc size) zero is = cc
none_marked (suc size) (suc k) is = none_marked size k is
