-- Lists side by side, and counting what passes a test.
use Rattle.std.proofs.Common.{◌≡◌, ◌⊎◌, ℕ, zero, suc, ◌+◌, ◌<◌, ◌≤◌, List, [], ◌∷◌, ◌++◌, length, get_or, Bool, true, false, cond, refl, sym, ◌∙◌, ap, inl, inr, arith}
use Rattle.std.specs.List.{AllZip, count_by}
use Rattle.std.proofs.lemmas.List.Sums.{sum_by-cons}

-- counting what passes a test
one_more : {X : Type 0} (p : X → Bool) (x : X) (xs : List X) → count_by p (x ∷ xs) ≡ cond (p x) 1 0 + count_by p xs
one_more p x xs = sum_by-cons (λ y. cond (p y) 1 0) x xs

abbrev pub AtMostOne : {X : Type 0} → (X → Bool) → List X → Type 0
AtMostOne {X} p xs = (l m : ℕ) (d : X) → l < m → m < length xs → p (get_or xs l d) ≡ true → p (get_or xs m d) ≡ true → ⊥

abbrev pub AtMostTwo : {X : Type 0} → (X → Bool) → List X → Type 0
AtMostTwo {X} p xs = (k l m : ℕ) (d : X) → k < l → l < m → m < length xs
    → p (get_or xs k d) ≡ true → p (get_or xs l d) ≡ true → p (get_or xs m d) ≡ true → ⊥

count_none : {X : Type 0} (p : X → Bool) (xs : List X) → ((l : ℕ) (d : X) → l < length xs → p (get_or xs l d) ≡ true → ⊥) → count_by p xs ≡ 0
count_none p [] none = refl
count_none {X} p (x ∷ xs) none = by (p x) refl (count_none p xs (λ l d lt t. none (suc l) d (omega arith) t)) where
  by : (b : Bool) → p x ≡ b → count_by p xs ≡ 0 → count_by p (x ∷ xs) ≡ 0
  by true e rest = absurd (none 0 x (omega arith) e)
  by false e rest = one_more p x xs ∙ ap (λ b. cond b 1 0 + count_by p xs) e ∙ (omega arith)

pub count_one : {X : Type 0} (p : X → Bool) (xs : List X) → AtMostOne p xs → count_by p xs ≤ 1
count_one p [] most = omega arith
count_one {X} p (x ∷ xs) most = by (p x) refl (count_one p xs (λ l m d lt in' t u. most (suc l) (suc m) d (omega arith) (omega arith) t u)) where
  by : (b : Bool) → p x ≡ b → count_by p xs ≤ 1 → count_by p (x ∷ xs) ≤ 1
  by true e rest =
      let none : count_by p xs ≡ 0 = count_none p xs (λ l d lt t. most 0 (suc l) d (omega arith) (omega arith) e t) in
      let sum : count_by p (x ∷ xs) ≡ 1 + count_by p xs = one_more p x xs ∙ ap (λ b. cond b 1 0 + count_by p xs) e in
      omega arith
  by false e rest =
      let sum : count_by p (x ∷ xs) ≡ 0 + count_by p xs = one_more p x xs ∙ ap (λ b. cond b 1 0 + count_by p xs) e in
      omega arith

pub count_two : {X : Type 0} (p : X → Bool) (xs : List X) → AtMostTwo p xs → count_by p xs ≤ 2
count_two p [] most = omega arith
count_two {X} p (x ∷ xs) most = by (p x) refl (count_two p xs (λ k l m d lt lt' in' s t u. most (suc k) (suc l) (suc m) d (omega arith) (omega arith) (omega arith) s t u)) where
  by : (b : Bool) → p x ≡ b → count_by p xs ≤ 2 → count_by p (x ∷ xs) ≤ 2
  by true e rest =
      let few : count_by p xs ≤ 1 = count_one p xs (λ l m d lt in' t u. most 0 (suc l) (suc m) d (omega arith) (omega arith) (omega arith) e t u) in
      let sum : count_by p (x ∷ xs) ≡ 1 + count_by p xs = one_more p x xs ∙ ap (λ b. cond b 1 0 + count_by p xs) e in
      omega arith
  by false e rest =
      let sum : count_by p (x ∷ xs) ≡ 0 + count_by p xs = one_more p x xs ∙ ap (λ b. cond b 1 0 + count_by p xs) e in
      omega arith

pub count_some : {X : Type 0} (p : X → Bool) (xs : List X) (l : ℕ) (d : X) → l < length xs → p (get_or xs l d) ≡ true → 1 ≤ count_by p xs
count_some p [] l d lt t = absurd (omega arith)
count_some p (x ∷ xs) zero d lt t =
    let sum : count_by p (x ∷ xs) ≡ 1 + count_by p xs = one_more p x xs ∙ ap (λ b. cond b 1 0 + count_by p xs) t in
    omega arith
count_some p (x ∷ xs) (suc l) d lt t =
    let rest = count_some p xs l d (omega arith) t in
    let sum = one_more p x xs in
    omega arith

pub zip_push : {X Y : Type 0} (R : X → Y → Type 0) (xs : List X) (ys : List Y) (x : X) (y : Y) → AllZip R xs ys → R x y → AllZip R (xs ++ x ∷ []) (ys ++ y ∷ [])
zip_push R [] [] x y h r = (r, tt)
zip_push R [] (z ∷ ys) x y h r = absurd h
zip_push R (w ∷ xs) [] x y h r = absurd h
zip_push R (w ∷ xs) (z ∷ ys) x y h r = (h.0, zip_push R xs ys x y h.1 r)

-- of three things of two kinds two are of one
pub two_of_three : {X : Type 0} (a b : X) (x y z : X) → (x ≡ a) ⊎ (x ≡ b) → (y ≡ a) ⊎ (y ≡ b) → (z ≡ a) ⊎ (z ≡ b) → (x ≡ y) ⊎ ((y ≡ z) ⊎ (x ≡ z))
two_of_three a b x y z (inl p) (inl q) r = inl (p ∙ sym q)
two_of_three a b x y z (inr p) (inr q) r = inl (p ∙ sym q)
two_of_three a b x y z (inl p) (inr q) (inl r) = inr (inr (p ∙ sym r))
two_of_three a b x y z (inl p) (inr q) (inr r) = inr (inl (q ∙ sym r))
two_of_three a b x y z (inr p) (inl q) (inl r) = inr (inl (q ∙ sym r))
two_of_three a b x y z (inr p) (inl q) (inr r) = inr (inr (p ∙ sym r))
