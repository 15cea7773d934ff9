-- Ascending lists of numbers below a limit: each has a number of its own below how many there are.
use Rattle.std.proofs.Common.{◌≡◌, ◌≢◌, ◌⊎◌, inl, inr, zero, suc, ◌+◌, ◌<◌, ◌≤◌, ◌==◌, arith, true, false, if◌then◌else◌, List, ◌∷◌, length, map, ap, sym, subst, refl, ◌∙◌, eqb, ℕ, []}
use Rattle.std.specs.List.{All, AllPairs, AllByRecursion, IsDistinct, list_any}
use Rattle.std.proofs.lemmas.Bool.{eqb-true, ne_eqb, or_cases, false≢true}
use Rattle.std.proofs.lemmas.Bool.Decides.{nat_tests}
use Rattle.std.proofs.lemmas.List.Elements.{All-head, All-tail}
use Rattle.std.proofs.lemmas.Map.Steps.{length-le_from_distinct_below}
use Rattle.bt_simplex.specs.Counting.{AscendsFrom, IsAscendingOf, ascending_lists}
use Rattle.bt_linear_forms.proofs.Indicators.{decide}

-- the number of an ascending list among those of its length, from a least number on
rank : ℕ → ℕ → List ℕ → ℕ
rank least zero numbers = 0
rank least (suc width) [] = 0
rank least (suc width) (x ∷ xs) = if x == least then rank (suc least) width xs else ascending_lists width (length xs) + rank (suc least) width (x ∷ xs)

rank_here : (least width x : ℕ) (xs : List ℕ) → x ≡ least → rank least (suc width) (x ∷ xs) ≡ rank (suc least) width xs
unfolding rank
rank_here least width x xs same =
    let test : (x == least) ≡ true = grind (arith, nat_tests) in
    ap (λ b. if b then rank (suc least) width xs else ascending_lists width (length xs) + rank (suc least) width (x ∷ xs)) test

rank_later : (least width x : ℕ) (xs : List ℕ) → x ≢ least → rank least (suc width) (x ∷ xs) ≡ ascending_lists width (length xs) + rank (suc least) width (x ∷ xs)
unfolding rank
rank_later least width x xs apart =
    let test : (x == least) ≡ false = grind (arith, nat_tests) in
    ap (λ b. if b then rank (suc least) width xs else ascending_lists width (length xs) + rank (suc least) width (x ∷ xs)) test

-- what follows the least number ascends from the next one on
tail_ascends : (least limit x : ℕ) (xs : List ℕ) → x ≡ least → AscendsFrom least limit (x ∷ xs) → AscendsFrom (suc least) limit xs
tail_ascends least limit x xs same ascends = let e : x + 1 ≡ suc least = omega arith in subst (λ n. AscendsFrom n limit xs) e ascends.2

later_ascends : (least limit x : ℕ) (xs : List ℕ) → x ≢ least → AscendsFrom least limit (x ∷ xs) → AscendsFrom (suc least) limit (x ∷ xs)
later_ascends least limit x xs apart ascends = let low = ascends.0 in (omega arith, ascends.1, ascends.2)

rank_below : (width least limit : ℕ) (xs : List ℕ) → least + width ≡ limit → AscendsFrom least limit xs → rank least width xs < ascending_lists width (length xs)
unfolding rank
rank_below zero least limit [] e ascends = omega arith
rank_below zero least limit (x ∷ xs) e ascends = let low = ascends.0 in let high = ascends.1 in absurd (omega arith)
rank_below (suc width) least limit [] e ascends = omega arith
rank_below (suc width) least limit (x ∷ xs) e ascends = elim (decide x least) [
  | inl same ↦
      let is = rank_here least width x xs same in
      let more = rank_below width (suc least) limit xs (omega arith) (tail_ascends least limit x xs same ascends) in
      omega (arith, is, more)
  | inr apart ↦
      let is = rank_later least width x xs apart in
      let more = rank_below width (suc least) limit (x ∷ xs) (omega arith) (later_ascends least limit x xs apart ascends) in
      omega (arith, is, more)
]

-- lists of the same length and number are the same
abbrev AreSame : ℕ → ℕ → ℕ → Type 0
AreSame least width limit =
    (xs ys : List ℕ) → AscendsFrom least limit xs → AscendsFrom least limit ys → length xs ≡ length ys → rank least width xs ≡ rank least width ys → xs ≡ ys

rank_same : (width least limit : ℕ) (xs ys : List ℕ) → least + width ≡ limit → AscendsFrom least limit xs → AscendsFrom least limit ys → length xs ≡ length ys
    → rank least width xs ≡ rank least width ys → xs ≡ ys
rank_same width least limit [] [] e p q many same = refl
rank_same width least limit [] (y ∷ ys) e p q many same = absurd (omega arith)
rank_same width least limit (x ∷ xs) [] e p q many same = absurd (omega arith)
rank_same zero least limit (x ∷ xs) (y ∷ ys) e p q many same = let low = p.0 in let high = p.1 in absurd (omega arith)
rank_same (suc width) least limit (x ∷ xs) (y ∷ ys) e p q many same =
    by (λ us vs p' q' lengths ranks. rank_same width (suc least) limit us vs (omega arith) p' q' lengths ranks) (decide x least) (decide y least)
  where
    lengths : length xs ≡ length ys
    lengths = omega arith

    fits : suc least + width ≡ limit
    fits = omega arith

    -- the one that begins with the least number has the lesser number
    apart : (x y : ℕ) (xs ys : List ℕ) → length xs ≡ length ys → AscendsFrom least limit (x ∷ xs) → x ≡ least → y ≢ least
        → rank least (suc width) (x ∷ xs) ≡ rank least (suc width) (y ∷ ys) → ⊥
    apart x y xs ys lengths p here later same =
        let first = rank_here least width x xs here in
        let second = rank_later least width y ys later in
        let low = rank_below width (suc least) limit xs fits (tail_ascends least limit x xs here p) in
        let many = ap (ascending_lists width) lengths in
        omega (arith, first, second, low, many, same)

    by : AreSame (suc least) width limit → (x ≡ least) ⊎ (x ≢ least) → (y ≡ least) ⊎ (y ≢ least) → x ∷ xs ≡ y ∷ ys
    by next (inl here) (inl there) =
        let ranks = sym (rank_here least width x xs here) ∙ same ∙ rank_here least width y ys there in
        let rest = next xs ys (tail_ascends least limit x xs here p) (tail_ascends least limit y ys there q) lengths ranks in
        ap (λ n. n ∷ xs) (here ∙ sym there) ∙ ap (λ l. y ∷ l) rest
    by next (inl here) (inr there) = absurd (apart x y xs ys lengths p here there same)
    by next (inr here) (inl there) = absurd (apart y x ys xs (sym lengths) q there here (sym same))
    by next (inr here) (inr there) =
        let first = rank_later least width x xs here in
        let second = rank_later least width y ys there in
        let many = ap (ascending_lists width) lengths in
        let ranks : rank (suc least) width (x ∷ xs) ≡ rank (suc least) width (y ∷ ys) = omega (arith, first, second, many, same) in
        next (x ∷ xs) (y ∷ ys) (later_ascends least limit x xs here p) (later_ascends least limit y ys there q) (omega (arith, lengths)) ranks

module _ (limit many : ℕ) where
  code : List ℕ → ℕ
  code numbers = rank 0 limit numbers

  code_below : (numbers : List ℕ) → IsAscendingOf limit many numbers → code numbers < ascending_lists limit many
  unfolding code
  code_below numbers is = subst (λ n. rank 0 limit numbers < ascending_lists limit n) is.many_are (rank_below limit 0 limit numbers (omega arith) is.ascends)

  code_same : (xs ys : List ℕ) → IsAscendingOf limit many xs → IsAscendingOf limit many ys → code xs ≡ code ys → xs ≡ ys
  unfolding code
  code_same xs ys p q same = rank_same limit 0 limit xs ys (omega arith) p.ascends q.ascends (p.many_are ∙ sym q.many_are) same

  codes_other : (numbers : List ℕ) (lists : List (List ℕ)) → IsAscendingOf limit many numbers → All (IsAscendingOf limit many) lists → All (λ other. numbers ≢ other) lists
      → AllByRecursion (λ n. eqb (code numbers) n ≡ false) (map code lists)
  codes_other numbers [] is all others = tt
  codes_other numbers (other ∷ lists) is all others = (
    ne_eqb (code numbers) (code other)
        (λ same. All-head (λ o. numbers ≢ o) other lists others (code_same numbers other is (All-head (IsAscendingOf limit many) other lists all) same)),
    codes_other numbers lists is (All-tail (IsAscendingOf limit many) other lists all) (All-tail (λ o. numbers ≢ o) other lists others),
  )

  codes_distinct : (lists : List (List ℕ)) → All (IsAscendingOf limit many) lists → AllPairs (λ x y. x ≢ y) lists → IsDistinct eqb (map code lists)
  unfolding IsDistinct
  codes_distinct [] all pairs = tt
  codes_distinct (numbers ∷ lists) all pairs = (
    codes_other numbers lists (All-head (IsAscendingOf limit many) numbers lists all) (All-tail (IsAscendingOf limit many) numbers lists all)
        (λ i d inside. pairs 0 (suc i) d (omega arith) (omega arith)),
    codes_distinct lists (All-tail (IsAscendingOf limit many) numbers lists all) (λ i j d before inside. pairs (suc i) (suc j) d (omega arith) (omega arith)),
  )

  codes_below : (lists : List (List ℕ)) (q : ℕ) → All (IsAscendingOf limit many) lists → list_any (eqb q) (map code lists) ≡ true → q < ascending_lists limit many
  codes_below [] q all h = absurd (false≢true h)
  codes_below (numbers ∷ lists) q all h = elim (or_cases (eqb q (code numbers)) (list_any (eqb q) (map code lists)) h) [
    | inl here ↦
        subst (λ n. n < ascending_lists limit many) (sym (eqb-true q (code numbers) here)) (code_below numbers (All-head (IsAscendingOf limit many) numbers lists all))
    | inr later ↦ codes_below lists q (All-tail (IsAscendingOf limit many) numbers lists all) later
  ]

  codes_length : (lists : List (List ℕ)) → length (map code lists) ≡ length lists
  codes_length [] = refl
  codes_length (numbers ∷ lists) = ap suc (codes_length lists)

pub ascending_lists_are_few : (limit many : ℕ) (lists : List (List ℕ)) → All (IsAscendingOf limit many) lists → AllPairs (λ x y. x ≢ y) lists → length lists ≤ ascending_lists limit many
ascending_lists_are_few limit many lists all pairs =
    let few = length-le_from_distinct_below (map (code limit many) lists) (ascending_lists limit many) (codes_distinct limit many lists all pairs) (λ q h. codes_below limit many lists q all h) in
    omega (arith, few, codes_length limit many lists)
