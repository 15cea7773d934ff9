-- Lists that are made number by number, and what each of a list has.
use Rattle.std.proofs.Common.{◌≡◌, ℕ, zero, suc, ◌+◌, ◌<◌, Bool, true, false, List, [], ◌∷◌, length, get_or, cond, Some, refl, sym, ◌∙◌, ap, subst, inl, inr, ⊎_elim, arith}
use Rattle.std.specs.List.{All, AllZip, Contains, slice_get, count_by}
use Rattle.std.proofs.lemmas.Option.{same_Some, none-some, slice_get_within, slice_get_read, slice_get-get_or, get_or_from_slice_get}
use Rattle.std.proofs.lemmas.Bool.{cases_Bool}
use Rattle.std.proofs.lemmas.List.Sums.{sum_by-cons}
use Rattle.bt_model.specs.Shown.{ListsEach}
use Rattle.bt_facts.proofs.Decided.{contains_at}
use Rattle.bt_facts.proofs.Keeping.{In}

-- the element at a place of the list
pub element_at : {X : Type 0} (xs : List X) (k : ℕ) → k < length xs → (x : X) × (slice_get xs k ≡ Some x)
element_at [] k lt = absurd (omega arith)
element_at (x ∷ xs) zero lt = (x, refl)
element_at (x ∷ xs) (suc k) lt = element_at xs k (omega arith)

pub contains_in : {X : Type 0} (xs : List X) (x : X) → Contains xs x → In xs x
contains_in {X} xs x there = at xs there.0 there.1 there.2 where
  at : (ys : List X) (k : ℕ) → k < length ys → get_or ys k x ≡ x → In ys x
  at [] k lt e = absurd (omega arith)
  at (y ∷ ys) zero lt e = inl (sym e)
  at (y ∷ ys) (suc k) lt e = inr (at ys k (omega arith) e)

pub all_at : {X : Type 0} (P : X → Type 0) (xs : List X) (k : ℕ) (x : X) → All P xs → slice_get xs k ≡ Some x → P x
all_at P xs k x all at = subst P (get_or_from_slice_get xs k x x at) (all k x (slice_get_within xs k x at))

pub all_from : {X : Type 0} (P : X → Type 0) (xs : List X) → ((k : ℕ) (x : X) → slice_get xs k ≡ Some x → P x) → All P xs
all_from P xs each = λ k d lt. each k (get_or xs k d) (slice_get-get_or xs k d lt)

-- a list of so many things, of which each has its number's property
pub record Listed {X : Type 0} (P : ℕ → X → Type 0) (n : ℕ) : Type 0 where
  pub list : List X
  pub count : length list ≡ n
  pub each : (k : ℕ) (x : X) → slice_get list k ≡ Some x → P k x

pub listed : {X : Type 0} (P : ℕ → X → Type 0) (n : ℕ) → ((k : ℕ) → k < n → (x : X) × P k x) → Listed P n
listed P zero make = record { list = []; count = refl; each = λ k x at. absurd (none-some x at) }
listed {X} P (suc n) make =
    let first = make 0 (omega arith) in
    let more = listed (λ k x. P (suc k) x) n (λ k lt. make (suc k) (omega arith)) in
    record { list = first.0 ∷ more.list; count = ap suc more.count; each = by first.0 first.1 more.list more.each }
  where
    by : (x : X) → P 0 x → (xs : List X) → ((k : ℕ) (y : X) → slice_get xs k ≡ Some y → P (suc k) y)
        → (k : ℕ) (y : X) → slice_get (x ∷ xs) k ≡ Some y → P k y
    by x p xs each zero y at = subst (P 0) (same_Some x y at) p
    by x p xs each (suc k) y at = each k y at

-- such a list has each thing of a kind exactly once
pub lists_each : {X : Type 0} (Q : X → Type 0) (P : ℕ → X → Type 0) (n : ℕ) (made : Listed P n)
    → ((x : X) → Q x → (k : ℕ) × (k < n) × ((y : X) → P k y → y ≡ x)) → ((k : ℕ) (x : X) → P k x → Q x)
    → ((k l : ℕ) (x : X) → P k x → P l x → k ≡ l) → ListsEach Q made.list
lists_each Q P n made found only once = record {
  all = λ x q. let place = found x q in
      let lt : place.0 < length made.list = let l = place.1 in let c = made.count in omega arith in
      let there = element_at made.list place.0 lt in
      contains_at made.list place.0 x (there.1 ∙ ap Some (place.2 there.0 (made.each place.0 there.0 there.1)));
  only = λ x there. only there.0 x (made.each there.0 x (slice_get_read made.list (length made.list) there.0 x refl there.1 (sym there.2)));
  once = λ i j d lt below same.
      let at_i : slice_get made.list i ≡ Some (get_or made.list i d) = slice_get-get_or made.list i d (omega arith) in
      let at_j : slice_get made.list j ≡ Some (get_or made.list i d) = slice_get-get_or made.list j d below ∙ ap Some (sym same) in
      let e : i ≡ j = once i j (get_or made.list i d) (made.each i (get_or made.list i d) at_i) (made.each j (get_or made.list i d) at_j) in
      omega arith;
}

-- two lists agree place by place
pub zipped : {X Y : Type 0} (R : X → Y → Type 0) (xs : List X) (ys : List Y) → length xs ≡ length ys
    → ((k : ℕ) (x : X) (y : Y) → slice_get xs k ≡ Some x → slice_get ys k ≡ Some y → R x y) → AllZip R xs ys
zipped R [] [] e each = tt
zipped R [] (y ∷ ys) e each = absurd (omega arith)
zipped R (x ∷ xs) [] e each = absurd (omega arith)
zipped R (x ∷ xs) (y ∷ ys) e each = (each 0 x y refl refl, zipped R xs ys (omega arith) (λ k. each (suc k)))

-- where one of a list is counted, it is there
pub counted : {X : Type 0} (p : X → Bool) (xs : List X) → count_by p xs ≡ 1 → (k : ℕ) × (x : X) × (slice_get xs k ≡ Some x) × (p x ≡ true)
counted p [] e = absurd (omega arith)
counted {X} p (x ∷ xs) e = ⊎_elim (λ t. (0, x, refl, t)) (λ f. more f (λ h. counted p xs h)) (cases_Bool (p x)) where
  more : p x ≡ false → (count_by p xs ≡ 1 → (k : ℕ) × (y : X) × (slice_get xs k ≡ Some y) × (p y ≡ true))
      → (k : ℕ) × (y : X) × (slice_get (x ∷ xs) k ≡ Some y) × (p y ≡ true)
  more f on =
      let total : count_by p (x ∷ xs) ≡ cond (p x) 1 0 + count_by p xs = sum_by-cons (λ y. cond (p y) 1 0) x xs in
      let none : cond {A = ℕ} (p x) 1 0 ≡ 0 = ap (λ b. cond {A = ℕ} b 1 0) f in
      let found = on (let one = e in omega arith) in
      (suc found.0, found.1, found.2, found.3)
