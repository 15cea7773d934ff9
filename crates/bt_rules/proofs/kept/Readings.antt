-- What lists of rules say of a reading of facts.
use Rattle.std.proofs.Common.{◌≡◌, Bool, true, List, [], ◌∷◌, ◌++◌, map, refl, sym, ◌∙◌, subst, inl, inr}
use Rattle.std.specs.List.{AllByRecursion, flat_map}
use Rattle.bt_facts.specs.declared.fact.Fact.{Fact}
use Rattle.bt_facts.proofs.Keeping.{In}
use Rattle.bt_facts.specs.Rules.{not_all, at_most_one, OneHolds, Keeps}

-- ---- all of a list

pub all_left : {X : Type 0} (P : X → Type 0) (xs ys : List X) → AllByRecursion P (xs ++ ys) → AllByRecursion P xs
all_left P [] ys h = tt
all_left P (x ∷ xs) ys h = (h.0, all_left P xs ys h.1)

pub all_right : {X : Type 0} (P : X → Type 0) (xs ys : List X) → AllByRecursion P (xs ++ ys) → AllByRecursion P ys
all_right P [] ys h = h
all_right P (x ∷ xs) ys h = all_right P xs ys h.1

pub all_mapped : {X Y : Type 0} (P : Y → Type 0) (f : X → Y) (x : X) (xs : List X) → AllByRecursion P (map f xs) → In xs x → P (f x)
all_mapped P f x [] h there = absurd there
all_mapped P f x (z ∷ xs) h (inl e) = subst (λ w. P (f w)) (sym e) h.0
all_mapped P f x (z ∷ xs) h (inr there) = all_mapped P f x xs h.1 there

pub all_flat : {X Y : Type 0} (P : Y → Type 0) (f : X → List Y) (x : X) (xs : List X) → AllByRecursion P (flat_map f xs) → In xs x
    → AllByRecursion P (f x)
all_flat P f x [] h there = absurd there
all_flat P f x (z ∷ xs) h (inl e) = subst (λ w. AllByRecursion P (f w)) (sym e) (all_left P (f z) (flat_map f xs) h)
all_flat P f x (z ∷ xs) h (inr there) = all_flat P f x xs (all_right P (f z) (flat_map f xs) h) there

-- ---- one of a list

pub one_in : (reading : Fact → Bool) (facts : List Fact) → OneHolds reading facts → (fact : Fact) × In facts fact × (reading fact ≡ true)
one_in reading [] h = absurd h
one_in reading (fact ∷ facts) (inl e) = (fact, inl refl, e)
one_in reading (fact ∷ facts) (inr h) = let found = one_in reading facts h in (found.0, inr found.1, found.2)

pub one_from : (reading : Fact → Bool) (fact : Fact) (facts : List Fact) → In facts fact → reading fact ≡ true → OneHolds reading facts
one_from reading fact [] there e = absurd there
one_from reading fact (x ∷ xs) (inl same) e = inl (subst (λ y. reading y ≡ true) same e)
one_from reading fact (x ∷ xs) (inr there) e = inr (one_from reading fact xs there e)

pub one_mapped : {X : Type 0} (reading : Fact → Bool) (f : X → Fact) (xs : List X) → OneHolds reading (map f xs)
    → (x : X) × In xs x × (reading (f x) ≡ true)
one_mapped reading f [] h = absurd h
one_mapped reading f (x ∷ xs) (inl e) = (x, inl refl, e)
one_mapped reading f (x ∷ xs) (inr h) = let found = one_mapped reading f xs h in (found.0, inr found.1, found.2)

-- of facts of which at most one holds, two that hold are the same
pub one_holds : (reading : Fact → Bool) (one other : Fact) (facts : List Fact) → AllByRecursion (Keeps reading) (at_most_one facts)
    → In facts one → In facts other → reading one ≡ true → reading other ≡ true → one ≡ other
one_holds reading one other [] kept a b h k = absurd a
one_holds reading one other (fact ∷ facts) kept (inl e) (inl f) h k = e ∙ sym f
one_holds reading one other (fact ∷ facts) kept (inl e) (inr b) h k =
    absurd (all_mapped (Keeps reading) (λ next. not_all (fact ∷ next ∷ [])) other facts
    (all_left (Keeps reading) (map (λ next. not_all (fact ∷ next ∷ [])) facts) (at_most_one facts) kept) b (subst (λ x. reading x ≡ true) e h, (k, tt)))
one_holds reading one other (fact ∷ facts) kept (inr a) (inl f) h k =
    absurd (all_mapped (Keeps reading) (λ next. not_all (fact ∷ next ∷ [])) one facts
    (all_left (Keeps reading) (map (λ next. not_all (fact ∷ next ∷ [])) facts) (at_most_one facts) kept) a (subst (λ x. reading x ≡ true) f k, (h, tt)))
one_holds reading one other (fact ∷ facts) kept (inr a) (inr b) h k =
    one_holds reading one other facts (all_right (Keeps reading) (map (λ next. not_all (fact ∷ next ∷ [])) facts) (at_most_one facts) kept) a b h k
