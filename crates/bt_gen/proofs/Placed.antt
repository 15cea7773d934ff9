-- What stands at a place of lists that are made place by place.
use Rattle.std.proofs.Common.{◌≡◌, ℕ, zero, suc, ◌+◌, ◌*◌, ◌<◌, List, [], ◌∷◌, ◌++◌, length, map, slice_get, Some, ap, ◌∙◌, refl, arith}
use Rattle.std.specs.List.{flat_map, range_with_len}
use Rattle.std.proofs.lemmas.List.{length-append}

pub at_front : {X : Type 0} (xs ys : List X) (k : ℕ) → k < length xs → slice_get (xs ++ ys) k ≡ slice_get xs k
at_front [] ys k l = absurd (omega (arith, l))
at_front (x ∷ xs) ys zero l = refl
at_front (x ∷ xs) ys (suc k) l = at_front xs ys k (omega (arith, l))

pub behind_front : {X : Type 0} (xs ys : List X) (n k : ℕ) → n ≡ length xs + k → slice_get (xs ++ ys) n ≡ slice_get ys k
behind_front [] ys n k e = let s : n ≡ k = omega (arith, e) in ap (slice_get ys) s
behind_front (x ∷ xs) ys zero k e = absurd (omega (arith, e))
behind_front (x ∷ xs) ys (suc n) k e = behind_front xs ys n k (omega (arith, e))

pub at_mapped : {X : Type 0} (f : ℕ → X) (a m k : ℕ) → k < m → slice_get (map f (range_with_len a m)) k ≡ Some (f (a + k))
at_mapped f a zero k l = absurd (omega (arith, l))
at_mapped f a (suc m) zero l = let s : a ≡ a + 0 = omega arith in ap (λ n. Some (f n)) s
at_mapped f a (suc m) (suc k) l = let s : a + 1 + k ≡ a + suc k = omega arith in at_mapped f (a + 1) m k (omega (arith, l)) ∙ ap (λ n. Some (f n)) s

module _ {X : Type 0} (f : ℕ → List X) (width : ℕ) (wide : (i : ℕ) → length (f i) ≡ width) where
  -- lists of one length, one behind the other
  pub rows_long : (a m : ℕ) → length (flat_map f (range_with_len a m)) ≡ m * width
  rows_long a zero = omega arith
  rows_long a (suc m) = length-append (f a) (flat_map f (range_with_len (a + 1) m)) ∙ omega (arith, wide a, rows_long (a + 1) m)

  pub at_row : (a m i k n : ℕ) → i < m → k < width → n ≡ i * width + k → slice_get (flat_map f (range_with_len a m)) n ≡ slice_get (f (a + i)) k
  at_row a zero i k n l s e = absurd (omega (arith, l))
  at_row a (suc m) zero k n l s e =
      let same : n ≡ k = omega (arith, e) in
      let same' : a ≡ a + 0 = omega arith in
      ap (slice_get (flat_map f (range_with_len a (suc m)))) same ∙ at_front (f a) (flat_map f (range_with_len (a + 1) m)) k (omega (arith, s, wide a)) ∙ ap (λ j. slice_get (f j) k) same'
  at_row a (suc m) (suc i) k n l s e =
      let same : a + 1 + i ≡ a + suc i = omega arith in
      behind_front (f a) (flat_map f (range_with_len (a + 1) m)) n (i * width + k) (omega (arith, e, wide a))
      ∙ at_row (a + 1) m i k (i * width + k) (omega (arith, l)) s refl ∙ ap (λ j. slice_get (f j) k) same
