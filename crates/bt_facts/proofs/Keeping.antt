-- Rules that hold where facts are read in one way, list by list.
use Rattle.std.proofs.Common.{◌≡◌, ◌⊎◌, inl, inr, ℕ, zero, suc, ◌+◌, ◌<◌, ◌≤◌, Bool, true, false, ◌&&◌, ◌||◌, cond, List, [], ◌∷◌, ◌++◌, length, get_or, map, refl, sym, ◌∙◌, ap, subst, ⊎_elim, arith}
use Rattle.std.proofs.lemmas.Bool.{false≢true}
use Rattle.std.specs.List.{AllByRecursion, Contains, list_any, flat_map, filter, range_with_len}
use Rattle.std.proofs.lemmas.Bool.{cases_eq}
use Rattle.bt_facts.specs.declared.fact.Fact.{Fact}
use Rattle.bt_facts.specs.declared.fact.Half.{Half}
use Rattle.bt_facts.specs.declared.fact.Half.TheVariants.{Lesser, Greater}
use Rattle.bt_facts.specs.Rules.{Rule, rule, not_all, at_most_one, rule_by}
use Rattle.bt_facts.specs.Rules.{equals_one}
use Rattle.bt_facts.proofs.Decided.{Decided}

-- ---- members of lists

-- the list has the item
abbrev pub In : {X : Type 0} → List X → X → Type 0
In [] x = ⊥
In (y ∷ ys) x = (x ≡ y) ⊎ In ys x

pub in_left : {X : Type 0} (xs ys : List X) (x : X) → In xs x → In (xs ++ ys) x
in_left [] ys x h = absurd h
in_left (y ∷ xs) ys x (inl e) = inl e
in_left (y ∷ xs) ys x (inr h) = inr (in_left xs ys x h)

pub in_right : {X : Type 0} (xs ys : List X) (x : X) → In ys x → In (xs ++ ys) x
in_right [] ys x h = h
in_right (y ∷ xs) ys x h = inr (in_right xs ys x h)

pub in_both : {X : Type 0} (xs ys : List X) (x : X) → In (xs ++ ys) x → In xs x ⊎ In ys x
in_both [] ys x h = inr h
in_both (y ∷ xs) ys x (inl e) = inl (inl e)
in_both (y ∷ xs) ys x (inr h) = ⊎_elim (λ l. inl (inr l)) (λ r. inr r) (in_both xs ys x h)

pub in_map : {X Y : Type 0} (f : X → Y) (xs : List X) (x : X) → In xs x → In (map f xs) (f x)
in_map f [] x h = absurd h
in_map f (y ∷ xs) x (inl e) = inl (ap f e)
in_map f (y ∷ xs) x (inr h) = inr (in_map f xs x h)

pub from_map : {X Y : Type 0} (f : X → Y) (xs : List X) (y : Y) → In (map f xs) y → (x : X) × In xs x × (y ≡ f x)
from_map f [] y h = absurd h
from_map f (x ∷ xs) y (inl e) = (x, inl refl, e)
from_map f (x ∷ xs) y (inr h) = let more = from_map f xs y h in (more.0, inr more.1, more.2)

pub in_flat : {X Y : Type 0} (f : X → List Y) (xs : List X) (x : X) (y : Y) → In xs x → In (f x) y → In (flat_map f xs) y
in_flat f [] x y h k = absurd h
in_flat f (z ∷ xs) x y (inl e) k = in_left (f z) (flat_map f xs) y (subst (λ w. In (f w) y) e k)
in_flat f (z ∷ xs) x y (inr h) k = in_right (f z) (flat_map f xs) y (in_flat f xs x y h k)

pub from_flat : {X Y : Type 0} (f : X → List Y) (xs : List X) (y : Y) → In (flat_map f xs) y → (x : X) × In xs x × In (f x) y
from_flat f [] y h = absurd h
from_flat f (x ∷ xs) y h =
    ⊎_elim (λ here. (x, inl refl, here)) (λ later. let more = from_flat f xs y later in (more.0, inr more.1, more.2)) (in_both (f x) (flat_map f xs) y h)

pub in_filter : {X : Type 0} (p : X → Bool) (xs : List X) (x : X) → In xs x → p x ≡ true → In (filter p xs) x
in_filter p [] x h t = absurd h
in_filter p (y ∷ xs) x (inl e) t =
    subst (λ b. In (cond b (y ∷ filter p xs) (filter p xs)) x) (sym (ap p (sym e) ∙ t)) (inl e)
in_filter p (y ∷ xs) x (inr h) t = by (p y) (in_filter p xs x h t)
  where
    by : (b : Bool) → In (filter p xs) x → In (cond b (y ∷ filter p xs) (filter p xs)) x
    by true k = inr k
    by false k = k

pub from_filter : {X : Type 0} (p : X → Bool) (xs : List X) (x : X) → In (filter p xs) x → In xs x × (p x ≡ true)
from_filter p [] x h = absurd h
from_filter p (y ∷ xs) x h = by (p y) refl (from_filter p xs x) h
  where
    by : (b : Bool) → p y ≡ b → (In (filter p xs) x → In xs x × (p x ≡ true)) → In (cond b (y ∷ filter p xs) (filter p xs)) x → In (y ∷ xs) x × (p x ≡ true)
    by true t rest (inl e) = (inl e, ap p e ∙ t)
    by true t rest (inr k) = let more = rest k in (inr more.0, more.1)
    by false t rest k = let more = rest k in (inr more.0, more.1)

pub in_range : (a n k : ℕ) → a ≤ k → k < a + n → In (range_with_len a n) k
in_range a zero k le lt = absurd (omega arith)
in_range a (suc n) k le lt = ⊎_elim (λ e. inl (sym e)) (λ ne. inr (in_range (a + 1) n k (omega arith) (omega arith))) (cases_eq a k)

pub from_range : (a n k : ℕ) → In (range_with_len a n) k → (a ≤ k) × (k < a + n)
from_range a zero k h = absurd h
from_range a (suc n) k (inl e) = (omega arith, omega arith)
from_range a (suc n) k (inr h) = let more = from_range (a + 1) n k h in let le = more.0 in let lt = more.1 in (omega arith, omega arith)

-- the item at a place is in the list
pub in_at : {X : Type 0} (xs : List X) (k : ℕ) (d : X) → k < length xs → In xs (get_or xs k d)
in_at [] k d lt = absurd (omega arith)
in_at (x ∷ xs) zero d lt = inl refl
in_at (x ∷ xs) (suc k) d lt = inr (in_at xs k d (omega arith))

-- and has a place
pub place_of : {X : Type 0} (xs : List X) (x : X) → In xs x → (k : ℕ) × (k < length xs) × ((d : X) → get_or xs k d ≡ x)
place_of [] x h = absurd h
place_of (y ∷ xs) x (inl e) = (0, omega arith, λ d. sym e)
place_of (y ∷ xs) x (inr h) = let more = place_of xs x h in let lt = more.1 in (suc more.0, omega (arith, lt), more.2)

pub in_contains : {X : Type 0} (xs : List X) (x : X) → In xs x → Contains xs x
in_contains [] x h = absurd h
in_contains (y ∷ xs) x (inl e) = (0, omega arith, sym e)
in_contains (y ∷ xs) x (inr h) = let c = in_contains xs x h in let lt = c.1 in (suc c.0, omega (arith, lt), c.2)

pub or_true : (b : Bool) → (b || true) ≡ true
or_true true = refl
or_true false = refl

-- an item passes the test, or none does
pub any_in : {X : Type 0} (p : X → Bool) (xs : List X) (x : X) → In xs x → p x ≡ true → list_any p xs ≡ true
any_in p [] x h t = absurd h
any_in p (y ∷ xs) x (inl e) t = ap (λ b. b || list_any p xs) (ap p (sym e) ∙ t)
any_in p (y ∷ xs) x (inr h) t = ap (λ b. p y || b) (any_in p xs x h t) ∙ or_true (p y)

pub from_any : {X : Type 0} (p : X → Bool) (xs : List X) → list_any p xs ≡ true → (x : X) × In xs x × (p x ≡ true)
from_any p [] t = absurd (false≢true t)
from_any {X} p (y ∷ xs) t = by (p y) refl t (from_any p xs)
  where
    by : (b : Bool) → p y ≡ b → (b || list_any p xs) ≡ true → (list_any p xs ≡ true → (x : X) × In xs x × (p x ≡ true)) → (x : X) × In (y ∷ xs) x × (p x ≡ true)
    by true e t rest = (y, inl refl, e)
    by false e t rest = let more = rest t in (more.0, inr more.1, more.2)

pub both_true : (a b : Bool) → (a && b) ≡ true → (a ≡ true) × (b ≡ true)
both_true true b t = (refl, t)
both_true false b t = absurd (false≢true t)

-- ---- no item twice

abbrev pub Distinct : {X : Type 0} → List X → Type 0
Distinct [] = Unit {0}
Distinct {X} (x ∷ xs) = (In xs x → ⊥) × Distinct xs

pub distinct_map : {X Y : Type 0} (f : X → Y) → ((x y : X) → f x ≡ f y → x ≡ y) → (xs : List X) → Distinct xs → Distinct (map f xs)
distinct_map f one [] h = tt
distinct_map f one (x ∷ xs) h = (
  λ there. let found = from_map f xs (f x) there in h.0 (subst (In xs) (sym (one x found.0 found.2)) found.1),
  distinct_map f one xs h.1,
)

pub distinct_range : (a n : ℕ) → Distinct (range_with_len a n)
distinct_range a zero = tt
distinct_range a (suc n) = ((λ there. let more = from_range (a + 1) n a there in let le = more.0 in omega arith), distinct_range (a + 1) n)

pub distinct_filter : {X : Type 0} (p : X → Bool) (xs : List X) → Distinct xs → Distinct (filter p xs)
distinct_filter p [] h = tt
distinct_filter p (x ∷ xs) h = by (p x) (distinct_filter p xs h.1)
  where
    by : (b : Bool) → Distinct (filter p xs) → Distinct (cond b (x ∷ filter p xs) (filter p xs))
    by true rest = ((λ there. h.0 (from_filter p xs x there).0), rest)
    by false rest = rest

pub distinct_both : {X : Type 0} (xs ys : List X) → Distinct xs → Distinct ys → ((x : X) → In xs x → In ys x → ⊥) → Distinct (xs ++ ys)
distinct_both [] ys h k apart = k
distinct_both (x ∷ xs) ys h k apart = (
  λ there. ⊎_elim h.0 (apart x (inl refl)) (in_both xs ys x there),
  distinct_both xs ys h.1 k (λ y at. apart y (inr at)),
)

pub distinct_flat : {X Y : Type 0} (f : X → List Y) (xs : List X) → Distinct xs → ((x : X) → Distinct (f x))
    → ((x y : X) (z : Y) → In (f x) z → In (f y) z → x ≡ y) → Distinct (flat_map f xs)
distinct_flat f [] h each one = tt
distinct_flat f (x ∷ xs) h each one =
    distinct_both (f x) (flat_map f xs) (each x) (distinct_flat f xs h.1 each one)
    (λ z here later. let found = from_flat f xs z later in h.0 (subst (In xs) (sym (one x found.0 z here found.2)) found.1))

-- ---- what holds of each item

pub each_both : {X : Type 0} (P : X → Type 0) (xs ys : List X) → AllByRecursion P xs → AllByRecursion P ys → AllByRecursion P (xs ++ ys)
each_both P [] ys h k = k
each_both P (x ∷ xs) ys h k = (h.0, each_both P xs ys h.1 k)

pub each_three : {X : Type 0} (P : X → Type 0) (xs ys zs : List X) → AllByRecursion P xs → AllByRecursion P ys → AllByRecursion P zs
    → AllByRecursion P (xs ++ ys ++ zs)
each_three P xs ys zs h k l = each_both P (xs ++ ys) zs (each_both P xs ys h k) l

pub each_four : {X : Type 0} (P : X → Type 0) (ws xs ys zs : List X) → AllByRecursion P ws → AllByRecursion P xs → AllByRecursion P ys → AllByRecursion P zs
    → AllByRecursion P (ws ++ xs ++ ys ++ zs)
each_four P ws xs ys zs g h k l = each_both P (ws ++ xs ++ ys) zs (each_three P ws xs ys g h k) l

pub each_flat : {X Y : Type 0} (P : Y → Type 0) (f : X → List Y) (xs : List X) → ((x : X) → In xs x → AllByRecursion P (f x)) → AllByRecursion P (flat_map f xs)
each_flat P f [] h = tt
each_flat P f (x ∷ xs) h = each_both P (f x) (flat_map f xs) (h x (inl refl)) (each_flat P f xs (λ y at. h y (inr at)))

pub each_map : {X Y : Type 0} (P : Y → Type 0) (f : X → Y) (xs : List X) → ((x : X) → In xs x → P (f x)) → AllByRecursion P (map f xs)
each_map P f [] h = tt
each_map P f (x ∷ xs) h = (h x (inl refl), each_map P f xs (λ y at. h y (inr at)))

pub all_there : {X : Type 0} (P : X → Type 0) (xs : List X) (x : X) → AllByRecursion P xs → In xs x → P x
all_there P [] x all h = absurd h
all_there P (y ∷ xs) x all (inl e) = subst P (sym e) all.0
all_there P (y ∷ xs) x all (inr h) = all_there P xs x all.1 h

-- ---- rules

module _ (Q : Fact → Type 0) where
  -- it is said of each fact
  abbrev pub AllSaid : List Fact → Type 0
  AllSaid facts = AllByRecursion Q facts

  -- it is said of one of the facts
  abbrev pub OneSaid : List Fact → Type 0
  OneSaid [] = ⊥
  OneSaid (fact ∷ facts) = Q fact ⊎ OneSaid facts

  -- a rule holds
  abbrev pub Stays : Rule → Type 0
  Stays r = AllSaid r.given → OneSaid r.one_of

  -- rules hold
  abbrev pub AllStay : List Rule → Type 0
  AllStay rules = AllByRecursion Stays rules

  pub one_in : (facts : List Fact) (fact : Fact) → In facts fact → Q fact → OneSaid facts
  one_in [] fact h q = absurd h
  one_in (other ∷ facts) fact (inl e) q = inl (subst Q e q)
  one_in (other ∷ facts) fact (inr h) q = inr (one_in facts fact h q)

  pub all_in : (facts : List Fact) (fact : Fact) → In facts fact → AllSaid facts → Q fact
  all_in [] fact h all = absurd h
  all_in (other ∷ facts) fact (inl e) all = subst Q (sym e) all.0
  all_in (other ∷ facts) fact (inr h) all = all_in facts fact h all.1

  pub at_most_stays : (facts : List Fact) → Distinct facts → ((f g : Fact) → In facts f → In facts g → Q f → Q g → f ≡ g) → AllStay (at_most_one facts)
  at_most_stays [] h one = tt
  at_most_stays (fact ∷ facts) h one =
      each_both Stays (map (λ other. not_all (fact ∷ other ∷ [])) facts) (at_most_one facts)
      (each_map Stays (λ other. not_all (fact ∷ other ∷ [])) facts
      (λ other at given. h.0 (subst (In facts) (sym (one fact other (inl refl) (inr at) given.0 given.1.0)) at)))
      (at_most_stays facts h.1 (λ f g at_f at_g. one f g (inr at_f) (inr at_g)))

  -- the fact tells of this half: it holds for the lesser one, and doesn't for the greater one
  abbrev pub TellsOf : Half → Fact → Type 0
  TellsOf Lesser fact = Q fact
  TellsOf Greater fact = Q fact → ⊥

  -- a rule about the half of which a fact tells
  pub by_stays : (half : Half) (fact : Fact) (given one_of : List Fact) → Decided (Q fact) → (TellsOf half fact → AllSaid given → OneSaid one_of)
      → Stays (rule_by half fact given one_of)
  by_stays Lesser fact given one_of test h all = h all.0 all.1
  by_stays Greater fact given one_of (inl q) h all = inl q
  by_stays Greater fact given one_of (inr n) h all = inr (h n all)

  -- one fact that holds exactly where one of the others does
  pub equal_stays : (fact : Fact) (facts : List Fact) → (Q fact → OneSaid facts) → ((one : Fact) → In facts one → Q one → Q fact) → AllStay (equals_one fact facts)
  equal_stays fact facts to from = (
    λ given. to given.0,
    each_map Stays (λ one. rule (one ∷ []) (fact ∷ [])) facts (λ one at given. inl (from one at given.0)),
  )

  -- what follows where the fact is one of those of a list
  pub one_of_map : {X : Type 0} (f : X → Fact) (xs : List X) (x : X) → In xs x → Q (f x) → OneSaid (map f xs)
  one_of_map f xs x at q = one_in (map f xs) (f x) (in_map f xs x at) q

  -- one of the facts of two lists, or of one of many
  pub said_left : (facts more : List Fact) → OneSaid facts → OneSaid (facts ++ more)
  said_left [] more h = absurd h
  said_left (fact ∷ facts) more (inl q) = inl q
  said_left (fact ∷ facts) more (inr h) = inr (said_left facts more h)

  pub said_right : (facts more : List Fact) → OneSaid more → OneSaid (facts ++ more)
  said_right [] more h = h
  said_right (fact ∷ facts) more h = inr (said_right facts more h)

  pub said_flat : {X : Type 0} (f : X → List Fact) (xs : List X) (x : X) → In xs x → OneSaid (f x) → OneSaid (flat_map f xs)
  said_flat f [] x at h = absurd at
  said_flat f (y ∷ xs) x (inl e) h = said_left (f y) (flat_map f xs) (subst (λ z. OneSaid (f z)) e h)
  said_flat f (y ∷ xs) x (inr at) h = said_right (f y) (flat_map f xs) (said_flat f xs x at h)
