-- Where each item of a list stands after its items have changed places.
use Rattle.std.proofs.Common.{◌≡◌, ◌⊎◌, inl, inr, ℕ, ◌<◌, List, length, get_or, refl, sym, ◌∙◌, ap, ⊎_elim, arith}
use Rattle.std.specs.List.{swap}
use Rattle.std.specs.List.Sorted.{IsPermutation}
use Rattle.std.proofs.lemmas.Bool.{cases_eq}
use Rattle.std.proofs.lemmas.List.Edits.{Swapped, swapped_from_swap, length-swap}
use Rattle.std.proofs.lemmas.List.Sorted.{IsPermutation-keeps}

-- the other of two places, and any other place
exchange : ℕ → ℕ → ℕ → ℕ
exchange a b k = ⊎_elim (λ e. b) (λ n. ⊎_elim (λ e. a) (λ m. k) (cases_eq k b)) (cases_eq k a)

-- the values of an exchange
exchange_cases : (a b k : ℕ) → ((k ≡ a) × (exchange a b k ≡ b)) ⊎ (((k ≡ b) × (exchange a b k ≡ a)) ⊎ ((k ≡ a → ⊥) × (k ≡ b → ⊥) × (exchange a b k ≡ k)))
unfolding exchange
exchange_cases a b k = by (cases_eq k a) (cases_eq k b)
  where
    by : (x : (k ≡ a) ⊎ (k ≡ a → ⊥)) (y : (k ≡ b) ⊎ (k ≡ b → ⊥))
        → ((k ≡ a) × (⊎_elim (λ e. b) (λ n. ⊎_elim (λ e. a) (λ m. k) y) x ≡ b))
        ⊎ (((k ≡ b) × (⊎_elim (λ e. b) (λ n. ⊎_elim (λ e. a) (λ m. k) y) x ≡ a))
        ⊎ ((k ≡ a → ⊥) × (k ≡ b → ⊥) × (⊎_elim (λ e. b) (λ n. ⊎_elim (λ e. a) (λ m. k) y) x ≡ k)))
    by (inl e) y = inl (e, refl)
    by (inr n) (inl e) = inr (inl (e, refl))
    by (inr n) (inr m) = inr (inr (n, m, refl))

exchange_back : (a b k : ℕ) → exchange a b (exchange a b k) ≡ k
exchange_back a b k =
    let first = exchange_cases a b k in
    let second = exchange_cases a b (exchange a b k) in
    ⊎_elim
    (λ one. ⊎_elim
    (λ two. let p = one.0 in let q = one.1 in let s = two.0 in let t = two.1 in omega (arith, p, q, s, t))
    (λ rest. ⊎_elim (λ two. let p = one.0 in let t = two.1 in omega (arith, p, t)) (λ two. absurd (two.1 one.1)) rest)
    second)
    (λ more. ⊎_elim
    (λ one. ⊎_elim
    (λ two. let p = one.0 in let t = two.1 in omega (arith, p, t))
    (λ rest. ⊎_elim (λ two. let p = one.0 in let q = one.1 in let s = two.0 in let t = two.1 in omega (arith, p, q, s, t)) (λ two. absurd (two.0 one.1)) rest)
    second)
    (λ one. ap (exchange a b) one.2 ∙ one.2) more)
    first

exchange_within : (n a b k : ℕ) → a < n → b < n → k < n → exchange a b k < n
exchange_within n a b k la lb lk =
    ⊎_elim (λ one. let e = one.1 in omega (arith, e))
    (λ more. ⊎_elim (λ one. let e = one.1 in omega (arith, e)) (λ one. let e = one.2 in omega (arith, e)) more) (exchange_cases a b k)

-- where each item of the one list stands in the other, one to one
pub record Placed {X : Type 0} (xs ys : List X) : Type 0 where
  pub long : length ys ≡ length xs
  pub place : ℕ → ℕ
  pub back : ℕ → ℕ
  pub within : (k : ℕ) → k < length xs → place k < length xs
  pub within_back : (k : ℕ) → k < length xs → back k < length xs
  pub there : (k : ℕ) (d : X) → k < length xs → get_or ys k d ≡ get_or xs (place k) d
  pub to_back : (k : ℕ) → k < length xs → back (place k) ≡ k
  pub from_back : (k : ℕ) → k < length xs → place (back k) ≡ k

placed_first : {X : Type 0} (xs : List X) → Placed xs xs
placed_first xs = record {
  long = refl;
  place = λ k. k;
  back = λ k. k;
  within = λ k lt. lt;
  within_back = λ k lt. lt;
  there = λ k d lt. refl;
  to_back = λ k lt. refl;
  from_back = λ k lt. refl;
}

swapped_there : {X : Type 0} (ys : List X) (a b k : ℕ) (d : X) → a < length ys → b < length ys → get_or (swap ys a b) k d ≡ get_or ys (exchange a b k) d
swapped_there {X} ys a b k d la lb =
    let moved : Swapped (λ i. get_or ys i d) (λ i. get_or (swap ys a b) i d) a b = swapped_from_swap ys (swap ys a b) a b d la lb refl in
    ⊎_elim
    (λ one. ap (λ i. get_or (swap ys a b) i d) one.0 ∙ moved.0 ∙ ap (λ i. get_or ys i d) (sym one.1))
    (λ more. ⊎_elim
    (λ one. ap (λ i. get_or (swap ys a b) i d) one.0 ∙ moved.1 ∙ ap (λ i. get_or ys i d) (sym one.1))
    (λ one. moved.2 k one.0 one.1 ∙ ap (λ i. get_or ys i d) (sym one.2)) more)
    (exchange_cases a b k)

placed_swap : {X : Type 0} (xs ys : List X) (a b : ℕ) → a < length ys → b < length ys → Placed xs ys → Placed xs (swap ys a b)
placed_swap xs ys a b la lb p =
    let long = p.long in
    let into : (k : ℕ) → k < length xs → exchange a b k < length xs = λ k lt. exchange_within (length xs) a b k (omega (arith, long)) (omega (arith, long)) lt in
    record {
      long = length-swap ys a b ∙ long;
      place = λ k. p.place (exchange a b k);
      back = λ k. exchange a b (p.back k);
      within = λ k lt. p.within (exchange a b k) (into k lt);
      within_back = λ k lt. into (p.back k) (p.within_back k lt);
      there = λ k d lt. swapped_there ys a b k d la lb ∙ p.there (exchange a b k) d (into k lt);
      to_back = λ k lt. ap (exchange a b) (p.to_back (exchange a b k) (into k lt)) ∙ exchange_back a b k;
      from_back = λ k lt. ap p.place (exchange_back a b (p.back k)) ∙ p.from_back k lt;
    }

-- what has changed places stands somewhere
pub placed : {X : Type 0} (xs ys : List X) → IsPermutation xs ys → Placed xs ys
placed xs ys moved = IsPermutation-keeps xs (Placed xs) (placed_first xs) (λ l i j li lj p. placed_swap xs l i j li lj p) ys moved
