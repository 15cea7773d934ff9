-- Backjumps: back to what was true before a level began.
use Rattle.std.proofs.Common.{◌≡◌, ◌≢◌, ℕ, ◌≤◌, ◌<◌, inl, inr, arith, Bool, List, [], ◌∷◌, ◌++◌, length, get_or, zero, suc, min, sym, subst, refl, ap, ◌∙◌, Option, None, Some, length-append, length-set, get_or-set_same, get_or-set_other}
use Rattle.std.specs.Prelude.{Contains, slice_set, take}
use Rattle.std.specs.Global.{Vec}
use Rattle.std.proofs.lemmas.List.{get_or_default, get_or_append_left, get_or-take, length-take}
use Rattle.std.proofs.lemmas.List.Elements.{All-contains, Contains-append_left, Contains-push, Contains-push_cases}
use Rattle.bt_cnf.specs.declared.literal.Lit.{Lit}
use Rattle.bt_watch.specs.declared.assignment.Assignment.{Assignment}
use Rattle.bt_watch.specs.Watched.{no_lit}
use Rattle.bt_watch.specs.Keeping.{AreTrue}
use Rattle.bt_watch.specs.Levels.{ArePlaced}
use Rattle.bt_watch.specs.Reasons.{lit_at}
use Rattle.bt_cnf.proofs.Lists.{nat_or}

pub take_take : {X : Type 0} (i n : ℕ) (xs : List X) → i ≤ n → take i (take n xs) ≡ take i xs
take_take zero n xs below = refl
take_take (suc i) zero xs below = absurd (omega (arith, below))
take_take (suc i) (suc n) [] below = refl
take_take (suc i) (suc n) (x ∷ xs) below = ap (λ ys. x ∷ ys) (take_take i n xs (omega (arith, below)))

pub take_all_of : {X : Type 0} (n : ℕ) (xs : List X) → length xs ≤ n → take n xs ≡ xs
take_all_of zero [] below = refl
take_all_of zero (x ∷ xs) below = absurd (omega (arith, below))
take_all_of (suc n) [] below = refl
take_all_of (suc n) (x ∷ xs) below = ap (λ ys. x ∷ ys) (take_all_of n xs (omega (arith, below)))

-- what a front of a list contains
pub take_in : {X : Type 0} (n : ℕ) (xs : List X) (x : X) → Contains (take n xs) x → Contains xs x
take_in zero xs x (k, below, is) = absurd (omega (arith, below))
take_in (suc n) [] x (k, below, is) = absurd (omega (arith, below))
take_in (suc n) (y ∷ xs) x (zero, below, is) = (zero, omega arith, is)
take_in (suc n) (y ∷ xs) x (suc k, below, is) =
    let rest = take_in n xs x (k, omega (arith, below), is) in
    (suc rest.0, omega (arith, rest.1), rest.2)

pub place_in_take : {X : Type 0} (n : ℕ) (xs : List X) (k : ℕ) (d : X) → k < n → k < length xs → Contains (take n xs) (get_or xs k d)
place_in_take n xs k d below small =
    (k, omega (arith, below, small, length-take n xs), get_or-take n xs k (get_or xs k d) below ∙ get_or_default xs k (get_or xs k d) d small)

-- a longer front of a longer list
pub take_wider : {X : Type 0} (m n : ℕ) (xs ys : List X) (x : X) → m ≤ n → Contains (take m xs) x → Contains (take n (xs ++ ys)) x
take_wider m n xs ys x order (k, small, is) =
    let below : k < m = omega (arith, small, length-take m xs) in
    let inside : k < length xs = omega (arith, small, length-take m xs) in
    let at : get_or (xs ++ ys) k x ≡ x = get_or_append_left xs ys x k inside ∙ sym (get_or-take m xs k x below) ∙ is in
    subst (Contains (take n (xs ++ ys))) at (place_in_take n (xs ++ ys) k x (omega (arith, below, order)) (omega (arith, inside, length-append xs ys)))

no_value : (b : Bool) → None ≡ Some b → ⊥
no_value b e = cc

-- the last literal of the trail is unset
pub truths_less : (values : List (Option Bool)) (front : List Lit) (l : Lit) → AreTrue values (front ++ l ∷ []) → ((k : ℕ) → k < length front → (lit_at front k).var ≢ l.var)
    → AreTrue (slice_set values l.var None) front
truths_less values front l truths apart =
    let after = slice_set values l.var None in
    let none : Option Bool = None in
    let wider : (m : Lit) → Contains front m → Contains (front ++ l ∷ []) m = λ m among. Contains-append_left front (l ∷ []) m among in
    let other : (m : Lit) → Contains front m → m.var ≢ l.var = λ m (k, small, is) same.
    apart k small (ap (λ (x : Lit). x.var) (get_or_default front k no_lit m small ∙ is) ∙ same) in
    let inside : l.var < length values = All-contains (λ (m : Lit). m.var < length values) (front ++ l ∷ []) l truths.below (Contains-push front l) in
    record {
      below = λ k d small. subst (λ n. (get_or front k d).var < n) (sym (length-set values l.var none)) (All-contains (λ m. m.var < length values) (front ++ l ∷ []) (get_or front k d) truths.below (wider (get_or front k d) (k, small, get_or_default front k (get_or front k d) d small)));
      true_in = λ m among. get_or-set_other values l.var m.var none None (other m among) ∙ truths.true_in m (wider m among);
      in_trail = λ m true_m. elim (nat_or m.var l.var) [
        | inl same ↦ absurd (no_value m.positive (sym (get_or-set_same values l.var none None inside) ∙ ap (λ n. get_or after n None) (sym same) ∙ true_m))
        | inr differs ↦ elim (Contains-push_cases front l m (truths.in_trail m (sym (get_or-set_other values l.var m.var none None differs) ∙ true_m))) [
          | inl before ↦ before
          | inr is ↦ absurd (differs (ap (λ (x : Lit). x.var) (sym is)))
        ]
      ];
    }

-- the places are known of a front of the trail
pub placed_front : (a b : Assignment) (n : ℕ) → b.trail.items ≡ take n a.trail.items → b.places ≡ a.places → ArePlaced a → ArePlaced b
placed_front a b n trail places are k small =
    let size : length b.trail.items ≡ min n (length a.trail.items) = ap length trail ∙ length-take n a.trail.items in
    let at : lit_at b.trail.items k ≡ lit_at a.trail.items k = ap (λ ts. lit_at ts k) trail ∙ get_or-take n a.trail.items k no_lit (omega (arith, small, size)) in
    ap (λ (v : Vec ℕ). get_or v.items (lit_at b.trail.items k).var 0) places ∙ ap (λ (m : Lit). get_or a.places.items m.var 0) at ∙ are k (omega (arith, small, size))

-- no two literals of the trail have one variable
pub apart_places : (a : Assignment) → ArePlaced a → (i j : ℕ) → i < length a.trail.items → j < length a.trail.items → (lit_at a.trail.items i).var ≡ (lit_at a.trail.items j).var → i ≡ j
apart_places a are i j small_i small_j same = sym (are i small_i) ∙ ap (λ v. get_or a.places.items v 0) same ∙ are j small_j
