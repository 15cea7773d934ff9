-- Lists that have each thing of a kind once.
use Rattle.std.proofs.Common.{set, ◌≡◌, ◌≢◌, ◌⊎◌, ℕ, ◌+◌, ◌<◌, ◌≤◌, List, [], ◌∷◌, length, get_or, map, refl, sym, ◌∙◌, ap, subst, inl, inr, ⊎_elim, IsPermutation, swap, remove, arith}
use Rattle.std.specs.List.{All, AllPairs, AllZip, Contains}
use Rattle.std.proofs.lemmas.Bool.{cases_lt, cases_order}
use Rattle.std.proofs.lemmas.List.{get_or_default, get_or-map, length-map, map-set}
use Rattle.std.proofs.lemmas.List.Elements.{All-cons, All-tail}
use Rattle.std.proofs.lemmas.List.Edits.{get_or-remove_above, get_or-remove_below, length-remove, length-swap, swap_is, swapped_from_swap}
use Rattle.std.proofs.lemmas.List.Sorted.{All-permutation, Contains-permutation, IsPermutation-cons, IsPermutation-keeps, IsPermutation-map, IsPermutation-refl, IsPermutation-remove, IsPermutation-swap, IsPermutation-sym, IsPermutation-trans}
use Rattle.bt_model.specs.Shown.{ListsEach}
use Rattle.bt_model.proofs.Sorted.{contains_cases, contains_head, contains_more, contains_none, pairs_head, pairs_tail}

-- where what stands in the list without one place stood before
removed_at : {X : Type 0} (xs : List X) (k i : ℕ) (d : X) → k < length xs → i < length (remove xs k)
    → (j : ℕ) × (j < length xs) × (get_or (remove xs k) i d ≡ get_or xs j d) × (((j ≡ i) × (i < k)) ⊎ ((j ≡ i + 1) × (k ≤ i)))
removed_at xs k i d lt within =
    let size = length-remove xs k lt in
    ⊎_elim
    (λ below. (i, omega (arith, size, within), get_or-remove_below xs k d i below lt, inl (refl, below)))
    (λ above. (i + 1, omega (arith, size, within), get_or-remove_above xs k d i above lt, inr (refl, above)))
    (cases_lt i k)

apart_removed : {X : Type 0} (xs : List X) (k : ℕ) → k < length xs → AllPairs ◌≢◌ xs → AllPairs ◌≢◌ (remove xs k)
apart_removed xs k lt apart i j d less within same =
    let at_j = removed_at xs k j d lt within in
    let at_i = removed_at xs k i d lt (omega arith) in
    let before : at_i.0 < at_j.0 = order at_i.0 at_j.0 at_i.3 at_j.3 in
    apart at_i.0 at_j.0 d before at_j.1 (sym at_i.2 ∙ same ∙ at_j.2)
  where
    order : (a b : ℕ) → ((a ≡ i) × (i < k)) ⊎ ((a ≡ i + 1) × (k ≤ i)) → ((b ≡ j) × (j < k)) ⊎ ((b ≡ j + 1) × (k ≤ j)) → a < b
    order a b (inl x) (inl y) = let e = x.0 in let f = y.0 in omega (arith, e, f, less)
    order a b (inl x) (inr y) = let e = x.0 in let f = y.0 in omega (arith, e, f, less)
    order a b (inr x) (inl y) = let e = x.0 in let f = y.0 in let g = x.1 in let h = y.1 in omega (arith, e, f, g, h, less)
    order a b (inr x) (inr y) = let e = x.0 in let f = y.0 in omega (arith, e, f, less)

gone : {X : Type 0} (xs : List X) (k : ℕ) (x : X) → k < length xs → get_or xs k x ≡ x → AllPairs ◌≢◌ xs → Contains (remove xs k) x → ⊥
gone xs k x lt e apart there =
    let at = removed_at xs k there.0 x lt there.1 in
    let same : get_or xs at.0 x ≡ get_or xs k x = sym at.2 ∙ there.2 ∙ sym e in
    by at.0 at.1 same at.3
  where
    by : (j : ℕ) → j < length xs → get_or xs j x ≡ get_or xs k x → ((j ≡ there.0) × (there.0 < k)) ⊎ ((j ≡ there.0 + 1) × (k ≤ there.0)) → ⊥
    by j within same (inl y) = apart j k x (let f = y.0 in let g = y.1 in omega (arith, f, g)) lt same
    by j within same (inr y) = apart k j x (let f = y.0 in let g = y.1 in omega (arith, f, g)) within (sym same)

-- two lists with the same members, each once, are the same in some order
pub rearranged : {X : Type 0} (xs ys : List X) → AllPairs ◌≢◌ xs → AllPairs ◌≢◌ ys → ((x : X) → Contains xs x → Contains ys x)
    → ((x : X) → Contains ys x → Contains xs x) → IsPermutation xs ys
rearranged [] [] apart_x apart_y to from = IsPermutation-refl []
rearranged [] (y ∷ ys) apart_x apart_y to from = absurd (contains_none y (from y (contains_head y ys)))
rearranged {X} (x ∷ xs) ys apart_x apart_y to from =
    let there = to x (contains_head x xs) in
    let k = there.0 in
    let split : IsPermutation ys (x ∷ remove ys k) = IsPermutation-remove ys k x there.1 (sym there.2) in
    let rest : IsPermutation xs (remove ys k) = rearranged xs (remove ys k) (pairs_tail ◌≢◌ x xs apart_x) (apart_removed ys k there.1 apart_y)
    (λ z in_xs. ⊎_elim (λ e. absurd (pairs_head ◌≢◌ x xs z apart_x in_xs (sym e))) (λ h. h)
    (contains_cases x (remove ys k) z (Contains-permutation ys (x ∷ remove ys k) z split (to z (contains_more x xs z in_xs)))))
    (λ z in_ys. ⊎_elim (λ e. absurd (gone ys k x there.1 there.2 apart_y (subst (λ w. Contains (remove ys k) w) e in_ys))) (λ h. h)
    (contains_cases x xs z (from z (Contains-permutation (x ∷ remove ys k) ys z (IsPermutation-sym ys (x ∷ remove ys k) split) (contains_more x (remove ys k) z in_ys))))) in
    IsPermutation-trans (x ∷ xs) (x ∷ remove ys k) ys (IsPermutation-cons x xs (remove ys k) rest) (IsPermutation-sym ys (x ∷ remove ys k) split)

-- two lists of each thing of a kind
pub each_rearranged : {X : Type 0} (P : X → Type 0) (xs ys : List X) → ListsEach P xs → ListsEach P ys → IsPermutation xs ys
each_rearranged P xs ys h g = rearranged xs ys h.once g.once (λ x there. g.all x (h.only x there)) (λ x there. h.all x (g.only x there))

-- where what stands at a place stood before two changed places
IsMoved : (a b k j : ℕ) → Type 0
IsMoved a b k j = ((k ≡ a) × (j ≡ b)) ⊎ (((k ≡ b) × (j ≡ a)) ⊎ ((k ≡ a → ⊥) × (k ≡ b → ⊥) × (j ≡ k)))

moves_apart : (a b i j p q : ℕ) → i < j → IsMoved a b i p → IsMoved a b j q → p ≡ q → ⊥
unfolding IsMoved
moves_apart a b i j p q lt (inl x) (inl y) e = let u = x.0 in let v = y.0 in omega (arith, lt, u, v)
moves_apart a b i j p q lt (inl x) (inr (inl y)) e = let u = x.0 in let v = y.0 in let s = x.1 in let t = y.1 in omega (arith, lt, u, v, s, t, e)
moves_apart a b i j p q lt (inl x) (inr (inr y)) e = y.1 (sym y.2 ∙ sym e ∙ x.1)
moves_apart a b i j p q lt (inr (inl x)) (inl y) e = let u = x.0 in let v = y.0 in let s = x.1 in let t = y.1 in omega (arith, lt, u, v, s, t, e)
moves_apart a b i j p q lt (inr (inl x)) (inr (inl y)) e = let u = x.0 in let v = y.0 in omega (arith, lt, u, v)
moves_apart a b i j p q lt (inr (inl x)) (inr (inr y)) e = y.0 (sym y.2 ∙ sym e ∙ x.1)
moves_apart a b i j p q lt (inr (inr x)) (inl y) e = x.1 (sym x.2 ∙ e ∙ y.1)
moves_apart a b i j p q lt (inr (inr x)) (inr (inl y)) e = x.0 (sym x.2 ∙ e ∙ y.1)
moves_apart a b i j p q lt (inr (inr x)) (inr (inr y)) e = let u = x.2 in let v = y.2 in omega (arith, lt, u, v, e)

moved_from : {X : Type 0} (xs : List X) (a b k : ℕ) (d : X) → a < length xs → b < length xs → k < length xs
    → (j : ℕ) × (j < length xs) × (get_or (swap xs a b) k d ≡ get_or xs j d) × IsMoved a b k j
unfolding IsMoved
moved_from xs a b k d la lb lk =
    let swapped = swapped_from_swap xs (swap xs a b) a b d la lb refl in
    ⊎_elim (λ e. (b, lb, ap (λ m. get_or (swap xs a b) m d) e ∙ swapped.0, inl (e, refl)))
    (λ apart_a. ⊎_elim (λ e. (a, la, ap (λ m. get_or (swap xs a b) m d) e ∙ swapped.1, inr (inl (e, refl))))
    (λ apart_b. let none_a : k ≡ a → ⊥ = λ e. ⊎_elim (λ l. omega (arith, l, e)) (λ l. omega (arith, l, e)) apart_a in
    let none_b : k ≡ b → ⊥ = λ e. ⊎_elim (λ l. omega (arith, l, e)) (λ l. omega (arith, l, e)) apart_b in
    (k, lk, swapped.2 k none_a none_b, inr (inr (none_a, none_b, refl))))
    (cases_order k b)) (cases_order k a)

pairs_swap : {X : Type 0} (R : X → X → Type 0) → ((x y : X) → R x y → R y x) → (xs : List X) (a b : ℕ) → a < length xs → b < length xs → AllPairs R xs → AllPairs R (swap xs a b)
pairs_swap R back xs a b la lb apart i j d lt within =
    let size = length-swap xs a b in
    let one = moved_from xs a b i d la lb (omega (arith, size, within, lt)) in
    let other = moved_from xs a b j d la lb (omega (arith, size, within)) in
    let before : R (get_or xs one.0 d) (get_or xs other.0 d) =
    ⊎_elim (λ e. absurd (moves_apart a b i j one.0 other.0 lt one.3 other.3 e))
    (λ order. ⊎_elim (λ less. apart one.0 other.0 d less other.1) (λ more. back (get_or xs other.0 d) (get_or xs one.0 d) (apart other.0 one.0 d more one.1)) order)
    (cases_order one.0 other.0) in
    subst (λ z. R z (get_or (swap xs a b) j d)) (sym one.2) (subst (R (get_or xs one.0 d)) (sym other.2) before)

-- what holds of each two things, either way, does so in any order
pub pairs_moved : {X : Type 0} (R : X → X → Type 0) → ((x y : X) → R x y → R y x) → (xs ys : List X) → AllPairs R xs → IsPermutation xs ys → AllPairs R ys
pairs_moved R back xs ys apart moved = IsPermutation-keeps xs (AllPairs R) apart (λ l i j li lj h. pairs_swap R back l i j li lj h) ys moved

-- things that are apart are so in any order
apart_moved : {X : Type 0} (xs ys : List X) → AllPairs ◌≢◌ xs → IsPermutation xs ys → AllPairs ◌≢◌ ys
apart_moved xs ys apart moved = pairs_moved ◌≢◌ (λ x y none e. none (sym e)) xs ys apart moved

-- a list of each thing of a kind is one in any order
pub each_moved : {X : Type 0} (P : X → Type 0) (xs ys : List X) → ListsEach P xs → IsPermutation xs ys → ListsEach P ys
each_moved P xs ys lists moved = record {
  all = λ i p. Contains-permutation xs ys i moved (lists.all i p);
  only = λ i there. lists.only i (Contains-permutation ys xs i (IsPermutation-sym xs ys moved) there);
  once = apart_moved xs ys lists.once moved;
}

-- what is in another order was in another order before it was looked at
pub record Lifted {A B : Type 0} (f : A → B) (xs : List A) (ys : List B) : Type 0 where
  pub list : List A
  pub moved : IsPermutation xs list
  pub seen : map f list ≡ ys

first_of_some : {A : Type 0} (xs : List A) → 0 < length xs → A
first_of_some [] some = absurd (omega arith)
first_of_some (x ∷ xs) some = x

map_swap : {A B : Type 0} (f : A → B) (l : List A) (i j : ℕ) → i < length l → j < length l → map f (swap l i j) ≡ swap (map f l) i j
map_swap f l i j li lj =
    let d = first_of_some l (omega arith) in let long = length-map l f in
    ap (map f) (sym (swap_is l i j d li lj)) ∙ map-set f (set l i (get_or l j d)) j (get_or l i d)
    ∙ (λ t. set ((map-set f l i (get_or l j d) ∙ ap (set (map f l) i) (sym (get_or-map f l j d (f d) lj))) t) j (sym (get_or-map f l i d (f d) li) t))
    ∙ swap_is (map f l) i j (f d) (omega arith) (omega arith)

lift_swap : {A B : Type 0} (f : A → B) (xs : List A) (l : List B) (i j : ℕ) → i < length l → j < length l → Lifted f xs l → Lifted f xs (swap l i j)
lift_swap f xs l i j li lj lifted =
    let long = length-map lifted.list f in let same = ap length lifted.seen in
    let in_i : i < length lifted.list = omega (arith, long, same) in
    let in_j : j < length lifted.list = omega (arith, long, same) in
    record {
      list = swap lifted.list i j;
      moved = IsPermutation-trans xs lifted.list (swap lifted.list i j) lifted.moved (IsPermutation-swap lifted.list (swap lifted.list i j) i j in_i in_j refl);
      seen = map_swap f lifted.list i j in_i in_j ∙ ap (λ ys. swap ys i j) lifted.seen;
    }

pub lift : {A B : Type 0} (f : A → B) (xs : List A) (ys : List B) → IsPermutation (map f xs) ys → Lifted f xs ys
lift f xs ys moved =
    IsPermutation-keeps (map f xs) (Lifted f xs) (record { list = xs; moved = IsPermutation-refl xs; seen = refl }) (λ l i j li lj h. lift_swap f xs l i j li lj h) ys moved

-- two lists that agree place by place, as one list of pairs
pub record Paired {A B : Type 0} (R : A → B → Type 0) (xs : List A) (ys : List B) : Type 0 where
  pub pairs : List (A × B)
  pub firsts : map (λ p. p.0) pairs ≡ xs
  pub seconds : map (λ p. p.1) pairs ≡ ys
  pub agree : All (λ p. R p.0 p.1) pairs

pub paired : {A B : Type 0} (R : A → B → Type 0) (xs : List A) (ys : List B) → AllZip R xs ys → Paired R xs ys
paired R [] [] h = record { pairs = []; firsts = refl; seconds = refl; agree = λ k d lt. absurd (omega arith) }
paired R [] (y ∷ ys) h = absurd h
paired R (x ∷ xs) [] h = absurd h
paired R (x ∷ xs) (y ∷ ys) h =
    let rest = paired R xs ys h.1 in
    record {
      pairs = (x, y) ∷ rest.pairs;
      firsts = ap (λ zs. x ∷ zs) rest.firsts;
      seconds = ap (λ zs. y ∷ zs) rest.seconds;
      agree = All-cons (λ p. R p.0 p.1) (x, y) rest.pairs h.0 rest.agree;
    }

pub zipped : {A B : Type 0} (R : A → B → Type 0) (pairs : List (A × B)) → All (λ p. R p.0 p.1) pairs → AllZip R (map (λ p. p.0) pairs) (map (λ p. p.1) pairs)
zipped R [] agree = tt
zipped R (p ∷ ps) agree = (agree 0 p (omega arith), zipped R ps (All-tail (λ p. R p.0 p.1) p ps agree))

-- where the one list is put in another order, so can the other be
pub record Along {A B : Type 0} (R : A → B → Type 0) (xs : List A) (ys : List B) : Type 0 where
  pub list : List B
  pub moved : IsPermutation ys list
  pub agree : AllZip R xs list

pub along : {A B : Type 0} (R : A → B → Type 0) (xs : List A) (ys : List B) (new : List A) → AllZip R xs ys → IsPermutation xs new → Along R new ys
along R xs ys new h moved =
    let p = paired R xs ys h in
    let l = lift (λ q. q.0) p.pairs new (subst (λ zs. IsPermutation zs new) (sym p.firsts) moved) in
    record {
      list = map (λ q. q.1) l.list;
      moved = subst (λ zs. IsPermutation zs (map (λ q. q.1) l.list)) p.seconds (IsPermutation-map (λ q. q.1) p.pairs l.list l.moved);
      agree = subst (λ zs. AllZip R zs (map (λ q. q.1) l.list)) l.seen (zipped R l.list (All-permutation (λ q. R q.0 q.1) p.pairs l.list l.moved p.agree));
    }

-- what holds of all before a place, and of the one there, holds of all before the next place
pub all_more : {X : Type 0} (P : X → Type 0) (xs : List X) (i : ℕ) (x : X) → ((k : ℕ) (d : X) → k < i → P (get_or xs k d)) → i < length xs → P (get_or xs i x)
    → (k : ℕ) (d : X) → k < i + 1 → P (get_or xs k d)
all_more P xs i x before within here k d lt =
    ⊎_elim (λ below. before k d below)
    (λ above. let same : i ≡ k = omega arith in subst (λ n. P (get_or xs n d)) same (subst P (get_or_default xs i x d within) here))
    (cases_lt k i)
