-- Counts of all numbers of a range: the list is parted by halves of the range, down to one number each, so that it
-- isn't gone through once for each number.
use Rattle.std.proofs.Common.{◌≡◌, ℕ, zero, suc, ◌+◌, ◌<◌, ◌≤◌, Bool, true, false, List, [], ◌∷◌, cond, refl, ◌∙◌, ap, sym, subst, ⊎_elim, arith}
use Rattle.std.specs.Prelude.{nat_lt, nat_le, ◌&&◌}
use Rattle.std.specs.List.{count_by, filter}
use Rattle.std.proofs.lemmas.Bool.{false≢true, lt-ltb, le-leb, and_parts, cases_Bool, cases_lt}
use Rattle.std.proofs.lemmas.List.Sums.{sum_by-cons}

-- two times two so often
unfoldable pub span : ℕ → ℕ
span zero = 1
span (suc depth) = span depth + span depth

module _ {X : Type 0} (p : ℕ → X → Bool) (key : X → ℕ) (test : ℕ → Bool) where
  -- what counts as a number has it for its key
  abbrev pub IsKey : Type 0
  IsKey = (s : ℕ) (x : X) → p s x ≡ true → key x ≡ s

  abbrev pub is_below : ℕ → X → Bool
  is_below middle x = nat_lt (key x) middle

  abbrev pub is_above : ℕ → X → Bool
  is_above middle x = nat_le middle (key x)

  -- the count of each number that is below the limit passes, of so many from the lowest on
  unfoldable pub all_pass : (depth low limit : ℕ) → List X → Bool
  all_pass zero low limit xs = cond (nat_lt low limit) (test (count_by (p low) xs)) true
  all_pass (suc depth) low limit xs =
      all_pass depth low limit (filter (is_below (low + span depth)) xs)
      && all_pass depth (low + span depth) limit (filter (is_above (low + span depth)) xs)

  -- a part with all that counts as a number has its count
  parted : (q : X → Bool) (s : ℕ) → ((x : X) → p s x ≡ true → q x ≡ true) → (xs : List X) → count_by (p s) (filter q xs) ≡ count_by (p s) xs
  parted q s kept [] = refl
  parted q s kept (x ∷ xs) = by (q x) refl (parted q s kept xs)
    where
      total : (ys : List X) → count_by (p s) (x ∷ ys) ≡ cond {A = ℕ} (p s x) 1 0 + count_by (p s) ys
      total ys = sum_by-cons (λ y. cond (p s y) 1 0) x ys

      lacks : q x ≡ false → p s x ≡ false
      lacks e = ⊎_elim (λ t. absurd (false≢true (sym e ∙ kept x t))) (λ f. f) (cases_Bool (p s x))

      by : (b : Bool) → q x ≡ b → count_by (p s) (filter q xs) ≡ count_by (p s) xs → count_by (p s) (cond b (x ∷ filter q xs) (filter q xs)) ≡ count_by (p s) (x ∷ xs)
      by true e same = total (filter q xs) ∙ ap (λ n. cond {A = ℕ} (p s x) 1 0 + n) same ∙ sym (total xs)
      by false e same =
          let none : cond {A = ℕ} (p s x) 1 0 ≡ 0 = ap (λ b. cond {A = ℕ} b 1 0) (lacks e) in
          let all = total xs in
          omega (arith, same, none, all)

  of_part : (q : X → Bool) (s : ℕ) → ((x : X) → p s x ≡ true → q x ≡ true) → (xs : List X)
      → test (count_by (p s) (filter q xs)) ≡ true → test (count_by (p s) xs) ≡ true
  of_part q s kept xs t = subst (λ n. test n ≡ true) (parted q s kept xs) t

  below : IsKey → (middle s : ℕ) → s < middle → (x : X) → p s x ≡ true → is_below middle x ≡ true
  below is_key middle s less x counts = lt-ltb (key x) middle (let at = is_key s x counts in omega arith)

  above : IsKey → (middle s : ℕ) → middle ≤ s → (x : X) → p s x ≡ true → is_above middle x ≡ true
  above is_key middle s more x counts = le-leb middle (key x) (let at = is_key s x counts in omega arith)

  -- so the count of each of them does
  pub all_pass_each : IsKey → (depth low limit : ℕ) (xs : List X) → all_pass depth low limit xs ≡ true
      → (s : ℕ) → low ≤ s → s < low + span depth → s < limit → test (count_by (p s) xs) ≡ true
  unfolding all_pass span
  all_pass_each is_key zero low limit xs t s from to under =
      let at : low ≡ s = omega arith in
      let inside : nat_lt low limit ≡ true = lt-ltb low limit (omega arith) in
      subst (λ k. test (count_by (p k) xs) ≡ true) at (subst (λ b. cond b (test (count_by (p low) xs)) true ≡ true) inside t)
  all_pass_each is_key (suc depth) low limit xs t s from to under =
      let both = and_parts (all_pass depth low limit (filter (is_below (low + span depth)) xs))
      (all_pass depth (low + span depth) limit (filter (is_above (low + span depth)) xs)) t in
      ⊎_elim
      (λ less. of_part (is_below (low + span depth)) s (below is_key (low + span depth) s less) xs
      (all_pass_each is_key depth low limit (filter (is_below (low + span depth)) xs) both.0 s from less under))
      (λ more. of_part (is_above (low + span depth)) s (above is_key (low + span depth) s more) xs
      (all_pass_each is_key depth (low + span depth) limit (filter (is_above (low + span depth)) xs) both.1 s more (omega arith) under))
      (cases_lt s (low + span depth))
