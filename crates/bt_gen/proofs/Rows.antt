-- Lists made place by place, and powers of two.
use Rattle.std.proofs.Common.{◌≡◌, ℕ, zero, suc, ◌+◌, ◌^◌, ◌≤◌, List, [], ◌∷◌, ◌++◌, map, sym, ◌∙◌, ap, arith, add-zero, append_assoc}
use Rattle.std.specs.List.{flat_map, range_with_len}
use Rattle.std.proofs.Math.Nat.{pow-le-pow_right}
use Rattle.std.proofs.lemmas.List.{append-nil}
use Rattle.std.proofs.lemmas.List.Concat.{flat_map-append}
use Rattle.std.proofs.lemmas.List.FromFn.{map-range_with_len_more}

-- a power of at most 7 is at most 128
pub power_small : (e : ℕ) → e ≤ 7 → 2 ^ e ≤ 128
power_small e small = pow-le-pow_right {n = 2} (omega arith) small

range_more : (a n : ℕ) → range_with_len a (n + 1) ≡ range_with_len a n ++ (a + n) ∷ []
range_more a zero = ap (λ k. k ∷ []) (sym (add-zero a))
range_more a (suc n) =
    let next : suc n + 1 ≡ suc (n + 1) = omega arith in
    let last : a + 1 + n ≡ a + suc n = omega arith in
    ap (range_with_len a) next ∙ ap (λ t. a ∷ t) (range_more (a + 1) n ∙ ap (λ k. range_with_len (a + 1) n ++ k ∷ []) last)

-- the lists of the places so far, and that of the next
pub rows_more : {X : Type 0} (f : ℕ → List X) (n : ℕ) → flat_map f (range_with_len 0 (n + 1)) ≡ flat_map f (range_with_len 0 n) ++ f n
rows_more f n =
    ap (flat_map f) (range_more 0 n ∙ ap (λ k. range_with_len 0 n ++ k ∷ []) (omega arith))
    ∙ flat_map-append f (range_with_len 0 n) (n ∷ []) ∙ ap (λ t. flat_map f (range_with_len 0 n) ++ t) (append-nil (f n))

-- the same behind a front
pub rows_pushed : {X : Type 0} (f : ℕ → List X) (n : ℕ) (front now next : List X) → now ≡ front ++ flat_map f (range_with_len 0 n) → next ≡ now ++ f n → next ≡ front ++ flat_map f (range_with_len 0 (n + 1))
rows_pushed f n front now next so_far is =
    is ∙ ap (λ t. t ++ f n) so_far ∙ append_assoc front (flat_map f (range_with_len 0 n)) (f n) ∙ ap (λ t. front ++ t) (sym (rows_more f n))

-- one more item behind a front
pub row_pushed : {X : Type 0} (f : ℕ → X) (n : ℕ) (front now next : List X) (x : X) → now ≡ front ++ map f (range_with_len 0 n) → next ≡ now ++ x ∷ [] → x ≡ f n → next ≡ front ++ map f (range_with_len 0 (n + 1))
row_pushed f n front now next x so_far is item =
    is ∙ ap (λ t. t ++ x ∷ []) so_far ∙ append_assoc front (map f (range_with_len 0 n)) (x ∷ [])
    ∙ ap (λ t. front ++ t) (ap (λ y. map f (range_with_len 0 n) ++ y ∷ []) item ∙ sym (map-range_with_len_more f 0 n n (omega arith)))

-- two more items behind a front
pub pair_pushed : {X : Type 0} (f : ℕ → List X) (n : ℕ) (front now between next : List X) (x y : X) → now ≡ front ++ flat_map f (range_with_len 0 n) → between ≡ now ++ x ∷ [] → next ≡ between ++ y ∷ [] → f n ≡ x ∷ y ∷ []
    → next ≡ front ++ flat_map f (range_with_len 0 (n + 1))
pair_pushed f n front now between next x y so_far one two items =
    rows_pushed f n front now next so_far (two ∙ ap (λ t. t ++ y ∷ []) one ∙ append_assoc now (x ∷ []) (y ∷ []) ∙ ap (λ t. now ++ t) (sym items))
