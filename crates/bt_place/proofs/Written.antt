-- Rules that are written as clauses.
use Rattle.std.proofs.Common.{◌≡◌, ℕ, ◌<◌, ◌+◌, Bool, true, false, cond, not, List, [], ◌∷◌, ◌++◌, length, map, take, get_or, refl, sym, ◌∙◌, ap, subst, append_assoc, append-nil, Some}
use Rattle.std.specs.List.{AllByRecursion, All, flat_map, filter, slice_get}
use Rattle.std.proofs.lemmas.List.{map-append, map_push, take_more}
use Rattle.std.proofs.lemmas.Option.{get_or_from_slice_get}
use Rattle.bt_cnf.specs.declared.literal.Lit.{Lit}
use Rattle.bt_cnf.specs.Formulas.{FormulaParts, LitsBelow}
use Rattle.bt_facts.specs.declared.draft.RuleFact.{RuleFact}
use Rattle.bt_facts.specs.declared.fact.Fact.{Fact}
use Rattle.bt_facts.specs.Drafts.{rule_of}
use Rattle.bt_facts.specs.Rules.{Rule}
use Rattle.bt_facts.proofs.Drawn.{all_get}
use Rattle.bt_place.specs.Numbering.{Sizes}
use Rattle.bt_place.specs.PlaceFormula.{literal, clause_of}
use Rattle.bt_place.specs.Within.{IsNumbered, HasNumbered}
use Rattle.bt_place.specs.inner.Writing.{HasVariables, with_rules, given_literal, following_literal}

-- ---- claims

parted : (z : Sizes) (b : Bool) (c : RuleFact) (given following : List RuleFact)
    → AllByRecursion (IsNumbered z) (map (λ c. c.fact) (cond (not b) (c ∷ given) given))
    → AllByRecursion (IsNumbered z) (map (λ c. c.fact) (cond b (c ∷ following) following))
    → IsNumbered z c.fact × (AllByRecursion (IsNumbered z) (map (λ c. c.fact) given) × AllByRecursion (IsNumbered z) (map (λ c. c.fact) following))
parted z true c given following g f = (f.0, (g, f.1))
parted z false c given following g f = (g.0, (g.1, f))

pub claims_within : (z : Sizes) (claims : List RuleFact) → HasNumbered z (rule_of claims) → AllByRecursion (λ c. IsNumbered z c.fact) claims
claims_within z [] h = tt
claims_within z (c ∷ claims) h =
    let parts = parted z c.follows c (filter (λ c. not c.follows) claims) (filter (λ c. c.follows) claims) h.given h.one_of in
    (parts.0, claims_within z claims (record { given = parts.1.0; one_of = parts.1.1 }))

given_one : (z : Sizes) (b : Bool) (c : RuleFact) (claims : List RuleFact) (lits : List Lit) → lits ≡ map (literal z false) (map (λ c. c.fact) claims)
    → cond b [] (literal z false c.fact ∷ []) ++ lits ≡ map (literal z false) (map (λ c. c.fact) (cond (not b) (c ∷ claims) claims))
given_one z true c claims lits e = e
given_one z false c claims lits e = ap (λ l. literal z false c.fact ∷ l) e

given_all : (z : Sizes) (claims : List RuleFact) → flat_map (given_literal z) claims ≡ map (literal z false) (rule_of claims).given
given_all z [] = refl
given_all z (c ∷ claims) = given_one z c.follows c (filter (λ c. not c.follows) claims) (flat_map (given_literal z) claims) (given_all z claims)

following_one : (z : Sizes) (b : Bool) (c : RuleFact) (claims : List RuleFact) (lits : List Lit) → lits ≡ map (literal z true) (map (λ c. c.fact) claims)
    → cond b (literal z true c.fact ∷ []) [] ++ lits ≡ map (literal z true) (map (λ c. c.fact) (cond b (c ∷ claims) claims))
following_one z true c claims lits e = ap (λ l. literal z true c.fact ∷ l) e
following_one z false c claims lits e = e

following_all : (z : Sizes) (claims : List RuleFact) → flat_map (following_literal z) claims ≡ map (literal z true) (rule_of claims).one_of
following_all z [] = refl
following_all z (c ∷ claims) = following_one z c.follows c (filter (λ c. c.follows) claims) (flat_map (following_literal z) claims) (following_all z claims)

-- the literals of a rule's claims are its clause
pub clause_written : (z : Sizes) (claims : List RuleFact) (none some all : List Lit) → none ≡ [] → some ≡ none ++ flat_map (given_literal z) claims
    → all ≡ some ++ flat_map (following_literal z) claims → all ≡ clause_of z (rule_of claims)
clause_written z claims none some all e h k =
    k ∙ ap (λ l. l ++ flat_map (following_literal z) claims) (h ∙ ap (λ l. l ++ flat_map (given_literal z) claims) e ∙ given_all z claims)
    ∙ ap (λ l. map (literal z false) (rule_of claims).given ++ l) (following_all z claims)

-- ---- variables of clauses

below_both : (n : ℕ) (xs ys : List Lit) → AllByRecursion (λ l. l.var < n) xs → AllByRecursion (λ l. l.var < n) ys → AllByRecursion (λ l. l.var < n) (xs ++ ys)
below_both n [] ys h k = k
below_both n (x ∷ xs) ys h k = (h.0, below_both n xs ys h.1 k)

below_mapped : (z : Sizes) (n : ℕ) (positive : Bool) (facts : List Fact) → HasVariables z n → AllByRecursion (IsNumbered z) facts
    → AllByRecursion (λ l. l.var < n) (map (literal z positive) facts)
below_mapped z n positive [] has h = tt
below_mapped z n positive (f ∷ facts) has h = (has.each f h.0, below_mapped z n positive facts has h.1)

all_of_each : {X : Type 0} (P : X → Type 0) (xs : List X) → AllByRecursion P xs → All P xs
all_of_each P xs h k d lt = all_get P xs k d h lt

pub clause_below : (z : Sizes) (n : ℕ) (r : Rule) → HasVariables z n → HasNumbered z r → LitsBelow n (clause_of z r)
clause_below z n r has h = all_of_each (λ l. l.var < n) (clause_of z r)
    (below_both n (map (literal z false) r.given) (map (literal z true) r.one_of) (below_mapped z n false r.given has h.given) (below_mapped z n true r.one_of has h.one_of))

-- ---- rules that are added

pub with_none : (z : Sizes) (f : FormulaParts) → f ≡ with_rules z f []
with_none z f = ap (λ l. record f { clauses = l }) (sym (append-nil f.clauses))

with_both : (z : Sizes) (f : FormulaParts) (a b : List Rule) → with_rules z (with_rules z f a) b ≡ with_rules z f (a ++ b)
with_both z f a b =
    ap (λ l. record f { clauses = l }) (append_assoc f.clauses (map (clause_of z) a) (map (clause_of z) b) ∙ ap (λ l. f.clauses ++ l) (sym (map-append (clause_of z) a b)))

-- what is added after another
pub with_more : (z : Sizes) (old now new : FormulaParts) (a b c : List Rule) → now ≡ with_rules z old a → new ≡ with_rules z now b → c ≡ a ++ b → new ≡ with_rules z old c
with_more z old now new a b c e h same = h ∙ ap (λ f. with_rules z f b) e ∙ with_both z old a b ∙ ap (with_rules z old) (sym same)

-- the variables stay
pub has_after : (z : Sizes) (old now : FormulaParts) (rules : List Rule) → HasVariables z old.vars → now ≡ with_rules z old rules → HasVariables z now.vars
has_after z old now rules has e = subst (HasVariables z) (sym (ap (λ f. f.vars) e)) has

-- the claims at a place
pub read_at : (rules : List (List RuleFact)) (place id : ℕ) (claims : List RuleFact) → id ≡ place → slice_get rules id ≡ Some claims → claims ≡ get_or rules place []
read_at rules place id claims same is = sym (ap (λ k. get_or rules k []) (sym same) ∙ get_or_from_slice_get rules id claims [] is)

mapped_get : (rules : List (List RuleFact)) (P : Rule → Type 0) → AllByRecursion P (map rule_of rules) → AllByRecursion (λ claims. P (rule_of claims)) rules
mapped_get [] P h = tt
mapped_get (claims ∷ rules) P h = (h.0, mapped_get rules P h.1)

pub rule_at : (z : Sizes) (rules : List (List RuleFact)) (place : ℕ) (claims : List RuleFact) → AllByRecursion (HasNumbered z) (map rule_of rules) → place < length rules
    → claims ≡ get_or rules place [] → HasNumbered z (rule_of claims)
rule_at z rules place claims h lt is =
    subst (λ l. HasNumbered z (rule_of l)) (sym is) (all_get (λ l. HasNumbered z (rule_of l)) rules place [] (mapped_get rules (HasNumbered z) h) lt)

-- one more rule
pub place_written : (z : Sizes) (old now new : FormulaParts) (rules : List (List RuleFact)) (n : ℕ) → n < length rules
    → now ≡ with_rules z old (map rule_of (take n rules)) → new ≡ with_rules z now (rule_of (get_or rules n []) ∷ [])
    → new ≡ with_rules z old (map rule_of (take (n + 1) rules))
place_written z old now new rules n lt e h =
    with_more z old now new (map rule_of (take n rules)) (rule_of (get_or rules n []) ∷ []) (map rule_of (take (n + 1) rules)) e h
    (ap (map rule_of) (take_more rules n [] lt) ∙ map_push rule_of (take n rules) (get_or rules n []))
