-- Lists of which some item, or each, has a property.
use Rattle.std.proofs.Common.{◌≡◌, ℕ, ◌<◌, ◌⊎◌, inl, inr, List, [], ◌∷◌, length, get_or, ap, sym, ◌∙◌, refl, subst, arith, zero, suc}
use Rattle.std.specs.List.{Any, AllByRecursion}

-- some item of a list is its first, or is among the others
first_or : {X : Type 0} (P : X → Type 0) (x : X) (xs : List X) (k : ℕ) (y : X) → k < length (x ∷ xs) → get_or (x ∷ xs) k y ≡ y → P y → P x ⊎ Any P xs
first_or P x xs zero y l e p = inl (subst P (sym e) p)
first_or P x xs (suc k) y l e p = inr (k, y, omega arith, e, p)

pub some_or : {X : Type 0} (P : X → Type 0) (x : X) (xs : List X) → Any P (x ∷ xs) → P x ⊎ Any P xs
some_or P x xs h = first_or P x xs h.0 h.1 h.2 h.3 h.4

pub none_in : {X : Type 0} (P : X → Type 0) → Any P [] → ⊥
none_in P h = let l = h.2 in omega arith

pub some_here : {X : Type 0} (P : X → Type 0) (x : X) (xs : List X) → P x → Any P (x ∷ xs)
some_here P x xs p = (0, x, omega arith, refl, p)

pub some_later : {X : Type 0} (P : X → Type 0) (x : X) (xs : List X) → Any P xs → Any P (x ∷ xs)
some_later P x xs h = (suc h.0, h.1, (let e = h.2 in omega (arith, e)), h.3, h.4)

pub each_weaker : {X : Type 0} (P Q : X → Type 0) (xs : List X) → ((x : X) → P x → Q x) → AllByRecursion P xs → AllByRecursion Q xs
each_weaker P Q [] f h = tt
each_weaker P Q (x ∷ xs) f h = (f x h.0, each_weaker P Q xs f h.1)

pub each_both : {X : Type 0} (P Q R : X → Type 0) (xs : List X) → ((x : X) → P x → Q x → R x) → AllByRecursion P xs → AllByRecursion Q xs → AllByRecursion R xs
each_both P Q R [] f h g = tt
each_both P Q R (x ∷ xs) f h g = (f x h.0 g.0, each_both P Q R xs f h.1 g.1)

-- lists with the same items at the same places
pub same_items : {X : Type 0} (d : X) (xs ys : List X) → length xs ≡ length ys → ((i : ℕ) → i < length xs → get_or xs i d ≡ get_or ys i d) → xs ≡ ys
same_items d [] [] l h = refl
same_items d [] (y ∷ ys) l h = absurd (omega (arith, l))
same_items d (x ∷ xs) [] l h = absurd (omega (arith, l))
same_items d (x ∷ xs) (y ∷ ys) l h =
    ap (λ z. z ∷ xs) (h 0 (omega arith)) ∙ ap (λ zs. y ∷ zs) (same_items d xs ys (omega (arith, l)) (λ i m. h (suc i) (omega (arith, m))))
