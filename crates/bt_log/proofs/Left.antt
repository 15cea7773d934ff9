-- What is left of a log.
use Rattle.std.proofs.Common.{◌≡◌, ℕ, zero, suc, ◌+◌, ◌<◌, ◌≤◌, inl, inr, arith, List, [], ◌∷◌, length, get_or, sym, subst, ap, ◌∙◌}
use Rattle.std.specs.Prelude.{AllPairs, Contains}
use Rattle.std.specs.List.{AllZip}
use Rattle.std.proofs.lemmas.List.{get_or_default}
use Rattle.std.proofs.lemmas.List.Elements.{All-get_or, AllZip-get_or, Contains-get_or, length_all_zip}
use Rattle.std.proofs.lemmas.Slice.Zip.{AllZip-long}
use Rattle.bt_cnf.proofs.Lists.{lt_or, nat_or, none_in}
use Rattle.bt_log.specs.Logs.{Step, Lemma, Learnt, LogParts, clause_of}
use Rattle.bt_log.specs.Trimming.{hints_of, IsLeft, IsRenamed, IsRenumbered, IsTight, IsTrimmed, Names, step_at}
use Rattle.bt_log.specs.inner.Needed.{AreNeeded}

-- what holds of each two at the same place
pub zip_at : {A B : Type 0} (R : A → B → Type 0) (xs : List A) (ys : List B) (i : ℕ) (d : A) (e : B) → AllZip R xs ys → i < length xs → R (get_or xs i d) (get_or ys i e)
zip_at R [] [] i d e all small = absurd (omega (arith, small))
zip_at R [] (y ∷ ys) i d e all small = absurd all
zip_at R (x ∷ xs) [] i d e all small = absurd all
zip_at R (x ∷ xs) (y ∷ ys) zero d e all small = all.0
zip_at R (x ∷ xs) (y ∷ ys) (suc i) d e all small = zip_at R xs ys i d e all.1 (omega (arith, small))

abbrev pub InOrder : List ℕ → Type 0
InOrder kept = AllPairs (λ one other. one < other) kept

-- of places in order, the lower one has the lower number
pub lower : (kept : List ℕ) (i j : ℕ) → InOrder kept → i < length kept → get_or kept i 0 < get_or kept j 0 → i < j
lower kept i j in_order inside less = elim (lt_or i j) [
  | inl before ↦ before
  | inr after ↦ elim (nat_or i j) [
    | inl same ↦ absurd (omega (arith, ap (λ k. get_or kept k 0) same, less))
    | inr differs ↦ let other : get_or kept j 0 < get_or kept i 0 = in_order j i 0 (omega (arith, after, differs)) inside in absurd (omega (arith, other, less))
  ]
]

-- each place stands once
pub once : (kept : List ℕ) (i j : ℕ) → InOrder kept → i < length kept → j < length kept → get_or kept i 0 ≡ get_or kept j 0 → i ≡ j
once kept i j in_order small other same = elim (lt_or i j) [
  | inl before ↦ let less : get_or kept i 0 < get_or kept j 0 = in_order i j 0 before other in absurd (omega (arith, less, same))
  | inr after ↦ elim (nat_or i j) [
    | inl is ↦ is
    | inr differs ↦ let less : get_or kept j 0 < get_or kept i 0 = in_order j i 0 (omega (arith, after, differs)) small in absurd (omega (arith, less, same))
  ]
]

-- places in order are at least their numbers
pub at_least : (kept : List ℕ) (number : ℕ) → InOrder kept → number < length kept → number ≤ get_or kept number 0
at_least kept zero in_order small = omega arith
at_least kept (suc number) in_order small =
    let before = at_least kept number in_order (omega (arith, small)) in
    let next : get_or kept number 0 < get_or kept (suc number) 0 = in_order number (suc number) 0 (omega arith) small in
    omega (arith, before, next)

-- the number of a place
pub numbered : (kept : List ℕ) (place : ℕ) → Contains kept place → (number : ℕ) × (number < length kept) × (get_or kept number 0 ≡ place)
numbered kept place among = (among.0, among.1, get_or_default kept among.0 0 place among.1 ∙ among.2)

-- a step keeps its clause
renumbered_clause : (first : ℕ) (kept : List ℕ) (place : ℕ) (s t : Step) → IsRenumbered first kept place s t → clause_of t ≡ clause_of s
renumbered_clause first kept place (Lemma lits weights) t is = ap clause_of is
renumbered_clause first kept place (Learnt lits hints) t is = ap clause_of is.1

-- a hint of an earlier step that is left names it by its number
renamed_is : (first : ℕ) (kept : List ℕ) (place number again : ℕ) → InOrder kept → number < length kept → get_or kept number 0 < place
    → IsRenamed first kept place (first + get_or kept number 0) again → again ≡ first + number
renamed_is first kept place number again in_order small earlier is = elim is [
  | inl moved ↦
      let same : moved.number ≡ number = once kept moved.number number in_order moved.left small (omega (arith, moved.named)) in
      moved.moved ∙ ap (λ n. first + n) same
  | inr stays ↦ elim stays.outside [ inl below ↦ absurd (omega (arith, below)) | inr past ↦ absurd (omega (arith, past, earlier)) ]
]

renumbered_names : (first : ℕ) (kept : List ℕ) (place number : ℕ) (s t : Step) → InOrder kept → number < length kept → get_or kept number 0 < place → IsRenumbered first kept place s t
    → Contains (hints_of s) (first + get_or kept number 0) → Contains (hints_of t) (first + number)
renumbered_names first kept place number (Lemma lits weights) t in_order small earlier is among = absurd (none_in (first + get_or kept number 0) among)
renumbered_names first kept place number (Learnt lits hints) t in_order small earlier (again, is, zipped) (i, inside, at) =
    let there : IsRenamed first kept place (get_or hints i (first + get_or kept number 0)) (get_or again i (first + number)) =
    AllZip-get_or (IsRenamed first kept place) hints again i (first + get_or kept number 0) (first + number) zipped inside in
    let named = renamed_is first kept place number (get_or again i (first + number)) in_order small earlier (subst (λ hint. IsRenamed first kept place hint (get_or again i (first + number))) at there) in
    let within : i < length again = subst (λ n. i < n) (length_all_zip (IsRenamed first kept place) hints again zipped) inside in
    subst (λ u. Contains (hints_of u) (first + number)) (sym is) (i, within, named)

-- each step that is left but the last is named by a later one
pub is_tight : (old new : LogParts) (kept : List ℕ) → new.first ≡ old.first → AreNeeded old kept → AllZip (IsLeft old kept) kept new.steps → IsTight new
is_tight old new kept first are left number before =
    let long : length new.steps ≡ length kept = AllZip-long (IsLeft old kept) kept new.steps left in
    let small : number < length kept = omega (arith, before, long) in
    let place = get_or kept number 0 in
    elim (are.needed place (Contains-get_or kept number 0 small)) [
      | inl last ↦
          let next : place < get_or kept (number + 1) 0 = are.in_order number (number + 1) 0 (omega arith) (omega (arith, before, long)) in
          let within : get_or kept (number + 1) 0 < length old.steps = All-get_or (λ p. p < length old.steps) kept (number + 1) 0 (omega (arith, before, long)) are.inside in
          absurd (omega (arith, next, within, last))
      | inr wanted ↦
          let (later, inside, at) = numbered kept wanted.later wanted.left in
          let is : IsLeft old kept (get_or kept later 0) (step_at new.steps later) = zip_at (IsLeft old kept) kept new.steps later 0 (Lemma [] []) left inside in
          let here : Contains (hints_of (step_at old.steps (get_or kept later 0))) (old.first + place) = subst (λ p. Names old p place) (sym at) wanted.named in
          let earlier : place < get_or kept later 0 = subst (λ p. place < p) (sym at) wanted.after in
          let there = renumbered_names old.first kept (get_or kept later 0) number (step_at old.steps (get_or kept later 0)) (step_at new.steps later) are.in_order small earlier is.renumbered here in
          record {
            later = later;
            after = lower kept number later are.in_order small earlier;
            inside = omega (arith, inside, long);
            named = subst (λ n. Contains (hints_of (step_at new.steps later)) (n + number)) (sym first) there;
          }
    ]

-- what is left of a log of which steps are left out
module _ (old new : LogParts) (trimmed : IsTrimmed old new) where
  pub count : length new.steps ≡ length trimmed.kept
  count = AllZip-long (IsLeft old trimmed.kept) trimmed.kept new.steps trimmed.left

  -- the place in the old log of a step
  abbrev pub place_of : ℕ → ℕ
  place_of number = get_or trimmed.kept number 0

  pub left_at : (number : ℕ) → number < length new.steps → IsLeft old trimmed.kept (place_of number) (step_at new.steps number)
  left_at number small = zip_at (IsLeft old trimmed.kept) trimmed.kept new.steps number 0 (Lemma [] []) trimmed.left (omega (arith, small, count))

  pub same_clause : (number : ℕ) → number < length new.steps → clause_of (step_at new.steps number) ≡ clause_of (step_at old.steps (place_of number))
  same_clause number small =
      renumbered_clause old.first trimmed.kept (place_of number) (step_at old.steps (place_of number)) (step_at new.steps number) (left_at number small).renumbered

  -- steps come in their order
  pub comes_before : (i j : ℕ) → i < j → j < length new.steps → place_of i < place_of j
  comes_before i j before small = trimmed.in_order i j 0 before (omega (arith, small, count))

  pub is_short : length new.steps ≤ length old.steps
  is_short = few (length new.steps) (omega arith)
    where
      few : (n : ℕ) → n ≤ length new.steps → n ≤ length old.steps
      few zero within = omega arith
      few (suc last) within =
          let small : last < length new.steps = omega (arith, within) in
          let least = at_least trimmed.kept last trimmed.in_order (omega (arith, small, count)) in
          omega (arith, least, (left_at last small).inside)

  -- the last step is the last that is left
  pub last_left : (number : ℕ) → number < length new.steps → place_of number + 1 ≡ length old.steps → number + 1 ≡ length new.steps
  last_left number small at = elim (lt_or (number + 1) (length new.steps)) [
    | inl more ↦
        let next = comes_before number (number + 1) (omega arith) more in
        absurd (omega (arith, next, at, (left_at (number + 1) more).inside))
    | inr none ↦ omega (arith, none, small)
  ]
