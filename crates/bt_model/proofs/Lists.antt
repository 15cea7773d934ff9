-- Lists by what stands at an index: mapped ones, and ones with one more at the end.
use Rattle.std.proofs.Common.{◌≡◌, ◌≢◌, ◌⊎◌, inl, inr, ℕ, zero, suc, ◌<◌, List, [], ◌∷◌, ◌++◌, ◌==◌, cond, map, length, get_or, slice_get, Some, All, AllPairs, Contains, refl, sym, ◌∙◌, ap, subst, lt_trans, arith}
use Rattle.std.specs.List.{AllZip}
use Rattle.std.proofs.lemmas.Bool.{cases_eq, eq-eqb, ne_eqb}
use Rattle.std.proofs.lemmas.Option.{same_Some, none-some, slice_get_within, slice_get-get_or, get_or_from_slice_get}
use Rattle.bt_model.specs.Shown.{ListsEach}

pub has_map : {X Y : Type 0} (f : X → Y) (xs : List X) (i : ℕ) (x : X) → slice_get xs i ≡ Some x → slice_get (map f xs) i ≡ Some (f x)
has_map f [] i x e = absurd (none-some x e)
has_map f (y ∷ xs) zero x e = ap (λ z. Some (f z)) (same_Some y x e)
has_map f (y ∷ xs) (suc i) x e = has_map f xs i x e

map_has : {X Y : Type 0} (f : X → Y) (xs : List X) (i : ℕ) (y : Y) → slice_get (map f xs) i ≡ Some y → (x : X) × (slice_get xs i ≡ Some x) × (y ≡ f x)
map_has f [] i y e = absurd (none-some y e)
map_has f (x ∷ xs) zero y e = (x, refl, sym (same_Some (f x) y e))
map_has f (x ∷ xs) (suc i) y e = map_has f xs i y e

pub has_old : {X : Type 0} (xs : List X) (q : X) (i : ℕ) (x : X) → slice_get xs i ≡ Some x → slice_get (xs ++ q ∷ []) i ≡ Some x
has_old [] q i x e = absurd (none-some x e)
has_old (y ∷ xs) q zero x e = e
has_old (y ∷ xs) q (suc i) x e = has_old xs q i x e

pub has_new : {X : Type 0} (xs : List X) (q : X) → slice_get (xs ++ q ∷ []) (length xs) ≡ Some q
has_new [] q = refl
has_new (y ∷ xs) q = has_new xs q

pub has_cases : {X : Type 0} (xs : List X) (q : X) (i : ℕ) (x : X) → slice_get (xs ++ q ∷ []) i ≡ Some x → (slice_get xs i ≡ Some x) ⊎ ((i ≡ length xs) × (x ≡ q))
has_cases [] q zero x e = inr (refl, sym (same_Some q x e))
has_cases [] q (suc i) x e = absurd (none-some x e)
has_cases (y ∷ xs) q zero x e = inl e
has_cases (y ∷ xs) q (suc i) x e = elim (has_cases xs q i x e) [ inl old ↦ inl old | inr new ↦ inr (ap suc new.0, new.1) ]

pub contained : {X : Type 0} (xs : List X) (k : ℕ) (x : X) → slice_get xs k ≡ Some x → Contains xs x
contained xs k x e = (k, slice_get_within xs k x e, get_or_from_slice_get xs k x x e)

pub contains_at : {X : Type 0} (xs : List X) (x : X) → Contains xs x → (k : ℕ) × (slice_get xs k ≡ Some x)
contains_at xs x c = (c.0, slice_get-get_or xs c.0 x c.1 ∙ ap Some c.2)

pub all_at : {X : Type 0} (P : X → Type 0) (xs : List X) (k : ℕ) (x : X) → slice_get xs k ≡ Some x → All P xs → P x
all_at P xs k x e all = subst P (get_or_from_slice_get xs k x x e) (all k x (slice_get_within xs k x e))

pub all_of : {X : Type 0} (P : X → Type 0) (xs : List X) → ((k : ℕ) (x : X) → slice_get xs k ≡ Some x → P x) → All P xs
all_of P xs f = λ k d lt. f k (get_or xs k d) (slice_get-get_or xs k d lt)

pub pairs_at : {X : Type 0} (R : X → X → Type 0) (xs : List X) (i j : ℕ) (x y : X) → slice_get xs i ≡ Some x → slice_get xs j ≡ Some y → i < j → AllPairs R xs → R x y
pairs_at R xs i j x y ex ey lt all =
    subst (λ b. R x b) (get_or_from_slice_get xs j y x ey) (subst (λ a. R a (get_or xs j x)) (get_or_from_slice_get xs i x x ex) (all i j x lt (slice_get_within xs j y ey)))

pub pairs_of : {X : Type 0} (R : X → X → Type 0) (xs : List X) → ((i j : ℕ) (x y : X) → slice_get xs i ≡ Some x → slice_get xs j ≡ Some y → i < j → R x y) → AllPairs R xs
pairs_of R xs f = λ i j d lt within. f i j (get_or xs i d) (get_or xs j d) (slice_get-get_or xs i d (lt_trans lt within)) (slice_get-get_or xs j d within) lt

-- the list of things that other things are mapped to, one to one
pub each_map : {X Y : Type 0} (P : X → Type 0) (Q : Y → Type 0) (f : X → Y) (xs : List X) → ListsEach P xs
    → ((y : Y) → Q y → (x : X) × P x × (y ≡ f x)) → ((x : X) → P x → Q (f x)) → ((x z : X) → P x → P z → f x ≡ f z → x ≡ z) → ListsEach Q (map f xs)
each_map P Q f xs each back forth once = record {
  all = λ y h.
      let b = back y h in
      let c = contains_at xs b.0 (each.all b.0 b.1) in
      contained (map f xs) c.0 y (has_map f xs c.0 b.0 c.1 ∙ ap Some (sym b.2));
  only = λ y c.
      let at = contains_at (map f xs) y c in
      let x = map_has f xs at.0 y at.1 in
      subst Q (sym x.2) (forth x.0 (each.only x.0 (contained xs at.0 x.0 x.1)));
  once = pairs_of ◌≢◌ (map f xs) (λ i j a b ea eb lt same.
      let x = map_has f xs i a ea in
      let z = map_has f xs j b eb in
      pairs_at ◌≢◌ xs i j x.0 z.0 x.1 z.1 lt each.once
      (once x.0 z.0 (each.only x.0 (contained xs i x.0 x.1)) (each.only z.0 (contained xs j z.0 z.1)) (sym x.2 ∙ same ∙ z.2)));
}

-- the same list, of what is the same
pub each_same : {X : Type 0} (P Q : X → Type 0) (xs : List X) → ListsEach P xs → ((x : X) → Q x → P x) → ((x : X) → P x → Q x) → ListsEach Q xs
each_same P Q xs each back forth = record {
  all = λ x h. each.all x (back x h);
  only = λ x c. forth x (each.only x c);
  once = each.once;
}

-- what holds of two lists place by place holds of the mapped list and the other
pub zip_map : {X Y Z : Type 0} (R : X → Z → Type 0) (S : Y → Z → Type 0) (f : X → Y) (xs : List X) (zs : List Z) → AllZip R xs zs
    → ((x : X) (z : Z) → Contains xs x → R x z → S (f x) z) → AllZip S (map f xs) zs
zip_map R S f [] [] h go = tt
zip_map R S f [] (z ∷ zs) h go = absurd h
zip_map R S f (x ∷ xs) [] h go = absurd h
zip_map R S f (x ∷ xs) (z ∷ zs) h go = (
  go x z (contained (x ∷ xs) 0 x refl) h.0,
  zip_map R S f xs zs h.1 (λ y w c r. let at = contains_at xs y c in go y w (contained (x ∷ xs) (suc at.0) y at.1) r),
)

-- a number where one is replaced by another
abbrev pub replaced : ℕ → ℕ → ℕ → ℕ
replaced i n k = cond (k == i) n k

pub replaced_at : (i n k : ℕ) → k ≡ i → replaced i n k ≡ n
replaced_at i n k e = ap (λ b. cond b n k) (eq-eqb k i e)

replaced_other : (i n k : ℕ) → (k ≡ i → ⊥) → replaced i n k ≡ k
replaced_other i n k apart = ap (λ b. cond b n k) (ne_eqb k i apart)

pub replaced_once : (i n k l : ℕ) → k < n → l < n → replaced i n k ≡ replaced i n l → k ≡ l
replaced_once i n k l lt_k lt_l same = elim (cases_eq k i) [
  | inl e ↦ elim (cases_eq l i) [
    | inl f ↦ e ∙ sym f
    | inr g ↦ absurd (let a = sym (replaced_at i n k e) ∙ same ∙ replaced_other i n l g in omega arith)
  ]
  | inr f ↦ elim (cases_eq l i) [
    | inl e ↦ absurd (let a = sym (replaced_other i n k f) ∙ same ∙ replaced_at i n l e in omega arith)
    | inr g ↦ sym (replaced_other i n k f) ∙ same ∙ replaced_other i n l g
  ]
]

-- the names where one is replaced by a greater one
pub each_replaced : (P Q : ℕ → Type 0) (i n : ℕ) (xs : List ℕ) → ListsEach P xs → P i → Q n → ((x : ℕ) → P x → x < n)
    → ((x : ℕ) → (x ≡ n → ⊥) → Q x → P x × (x ≡ i → ⊥)) → ((x : ℕ) → P x → (x ≡ i → ⊥) → Q x) → ListsEach Q (map (replaced i n) xs)
each_replaced P Q i n xs each is_i is_n below back forth = each_map P Q (replaced i n) xs each
    (λ y h. elim (cases_eq y n) [
      | inl e ↦ (i, is_i, e ∙ sym (replaced_at i n i refl))
      | inr apart ↦ let old = back y apart h in (y, old.0, sym (replaced_other i n y old.1))
    ])
    (λ x h. elim (cases_eq x i) [
      | inl e ↦ subst Q (sym (replaced_at i n x e)) is_n
      | inr apart ↦ subst Q (sym (replaced_other i n x apart)) (forth x h apart)
    ])
    (λ x z is_x is_z same. replaced_once i n x z (below x is_x) (below z is_z) same)
