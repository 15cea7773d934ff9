-- Values that tell which literals are false, and clauses that are units under both.
use Rattle.std.proofs.Common.{◌≡◌, ◌≢◌, ℕ, zero, suc, ◌<◌, ◌⊎◌, inl, inr, ◌↔◌, arith, Bool, not, List, [], ◌∷◌, ◌++◌, length, get_or, Option, None, Some, ap, sym, ◌∙◌, refl, subst, length-set, get_or-set_same, get_or-set_other}
use Rattle.std.specs.Prelude.{Contains}
use Rattle.std.specs.List.{All}
use Rattle.std.proofs.lemmas.Bool.{cases_eq}
use Rattle.std.proofs.lemmas.List.Elements.{All-head, All-tail, All-contains, Contains-push, Contains-push_cases, Contains-append_left}
use Rattle.bt_cnf.specs.Formulas.{LitsBelow}
use Rattle.bt_cnf.specs.declared.literal.Lit.{Lit}
use Rattle.bt_cnf.specs.Units.{opposite, IsUnit, HasNoBothSigns}
use Rattle.bt_log.specs.Units.{UnitsRefute}
use Rattle.bt_cnf.proofs.Signs.{twice}
use Rattle.bt_log.proofs.Sound.{true_or}
use Rattle.bt_cert.specs.inner.Assuming.{value_at, IsTrueIn, IsFalseIn, IsUnitIn, Propagates, Tells, with_value}
use Rattle.bt_cert.proofs.Assumed.{true_not_false, unset_not_false, unset_not_true}

lit_is : (l m : Lit) → l.var ≡ m.var → l.positive ≡ m.positive → l ≡ m
lit_is l m var positive = ap (λ v. record { var = v; positive = l.positive }) var ∙ ap (λ p. record { var = m.var; positive = p }) positive

nots_same : (a b : Bool) → not a ≡ not b → a ≡ b
nots_same a b e = sym (twice a) ∙ ap not e ∙ twice b

some_same : (a b : Bool) → Some a ≡ Some b → a ≡ b
some_same a b e = cc

-- the literals of the second list are those of the first, and one more
abbrev pub Joins : List Lit → Lit → List Lit → Type 0
Joins before x after = (m : Lit) → Contains after m ↔ ((x ≡ m) ⊎ Contains before m)

joins_front : (before : List Lit) (x : Lit) → Joins before x (x ∷ before)
joins_front before x m = (λ (k, inside, is). cases k inside is, back)
  where
    cases : (k : ℕ) → k < length (x ∷ before) → get_or (x ∷ before) k m ≡ m → (x ≡ m) ⊎ Contains before m
    cases zero inside is = inl is
    cases (suc k) inside is = inr (k, omega (arith, inside), is)

    back : (x ≡ m) ⊎ Contains before m → Contains (x ∷ before) m
    back (inl same) = (0, omega arith, same)
    back (inr (k, inside, is)) = (suc k, omega (arith, inside), is)

pub joins_back : (before : List Lit) (x : Lit) → Joins before x (before ++ x ∷ [])
joins_back before x m = (λ among. flip (Contains-push_cases before x m among), back)
  where
    flip : Contains before m ⊎ (x ≡ m) → (x ≡ m) ⊎ Contains before m
    flip (inl p) = inr p
    flip (inr p) = inl p

    back : (x ≡ m) ⊎ Contains before m → Contains (before ++ x ∷ []) m
    back (inl same) = subst (λ y. Contains (before ++ x ∷ []) y) same (Contains-push before x)
    back (inr among) = Contains-append_left before (x ∷ []) m among

-- one more literal is false, which wasn't true
pub tells_more : (values : List (Option Bool)) (before after : List Lit) (x : Lit) → Tells values before → Joins before x after → x.var < length values → (IsTrueIn values x → ⊥)
    → Tells (with_value values x.var (not x.positive)) after
tells_more values before after x tells joins inside not_true m below =
    let within : m.var < length values = omega (arith, below, length-set values x.var (Some (not x.positive))) in (
      λ is_false. (joins m).1 (forth within is_false),
      λ among. back within ((joins m).0 among),
    )
  where
    at_x : value_at (with_value values x.var (not x.positive)) x.var ≡ Some (not x.positive)
    at_x = get_or-set_same values x.var (Some (not x.positive)) None inside

    at_m : m.var ≢ x.var → value_at (with_value values x.var (not x.positive)) m.var ≡ value_at values m.var
    at_m differs = get_or-set_other values x.var m.var (Some (not x.positive)) None differs

    same_var : m.var ≡ x.var → value_at (with_value values x.var (not x.positive)) m.var ≡ Some (not x.positive)
    same_var same = ap (value_at (with_value values x.var (not x.positive))) same ∙ at_x

    forth : m.var < length values → IsFalseIn (with_value values x.var (not x.positive)) m → (x ≡ m) ⊎ Contains before m
    forth within is_false =
        elim (cases_eq m.var x.var) [
          | inl same ↦ inl (lit_is x m (sym same) (nots_same x.positive m.positive (some_same (not x.positive) (not m.positive) (sym (same_var same) ∙ is_false))))
          | inr differs ↦ inr ((tells m within).0 (sym (at_m differs) ∙ is_false))
        ]

    back : m.var < length values → (x ≡ m) ⊎ Contains before m → IsFalseIn (with_value values x.var (not x.positive)) m
    back within (inl same) = subst (IsFalseIn (with_value values x.var (not x.positive))) same at_x
    back within (inr among) =
        let was : IsFalseIn values m = (tells m within).1 among in
        elim (cases_eq m.var x.var) [
          | inl same ↦
              elim (true_or m.positive x.positive) [
                | inl alike ↦ subst (IsFalseIn (with_value values x.var (not x.positive))) (lit_is x m (sym same) (sym alike)) at_x
                | inr opposed ↦ absurd (not_true (ap (value_at values) (sym same) ∙ was ∙ ap (λ b. Some (not b)) opposed ∙ ap Some (twice x.positive)))
              ]
          | inr differs ↦ at_m differs ∙ was
        ]

-- no variable has both signs among literals that are all false
pub no_both_signs : (values : List (Option Bool)) (lits : List Lit) → Tells values lits → LitsBelow (length values) lits → HasNoBothSigns lits
no_both_signs values lits tells below l one other =
    let inside : l.var < length values = All-contains (λ m. m.var < length values) lits l below one in
    true_not_false values l ((tells (opposite l) inside).1 other ∙ ap Some (twice l.positive)) ((tells l inside).1 one)

-- a literal that is true where it is to become false has its opposite among those before it
pub both_signs : (values : List (Option Bool)) (before lits : List Lit) (x : Lit) → Tells values before → x.var < length values → IsTrueIn values x → Contains lits x
    → ((m : Lit) → Contains before m → Contains lits m) → HasNoBothSigns lits → ⊥
both_signs values before lits x tells inside is_true among within none =
    none x among (within (opposite x) ((tells (opposite x) inside).0 (is_true ∙ ap Some (sym (twice x.positive)))))

module _ (values : List (Option Bool)) (falses : List Lit) (tells : Tells values falses) where
  module _ (clause : List Lit) (below : LitsBelow (length values) clause) where
    lit_below : (l : Lit) → Contains clause l → l.var < length values
    lit_below l among = All-contains (λ m. m.var < length values) clause l below among

    -- a clause is a unit under the values exactly where it is one where these literals are false
    pub unit_told : (l : Lit) → IsUnitIn values clause l → IsUnit falses clause l
    unit_told l unit =
        let inside = lit_below l unit.among in
        record {
          among = unit.among;
          unset = λ f. unset_not_false values l unit.unset ((tells l inside).1 f);
          not_true = λ f. unset_not_true values l unit.unset ((tells (opposite l) inside).1 f ∙ ap Some (twice l.positive));
          others = λ k d within. other (get_or clause k d) (below k d within) (unit.others k d within);
        }
      where
        other : (m : Lit) → m.var < length values → (m ≡ l) ⊎ IsFalseIn values m → (m ≡ l) ⊎ Contains falses m
        other m inside (inl same) = inl same
        other m inside (inr f) = inr ((tells m inside).0 f)

    pub told_unit : (l : Lit) → IsUnit falses clause l → IsUnitIn values clause l
    told_unit l unit =
        let inside = lit_below l unit.among in
        record {
          among = unit.among;
          unset = none_left (value_at values l.var) refl inside;
          others = λ k d within. other (get_or clause k d) (below k d within) (unit.others k d within);
        }
      where
        other : (m : Lit) → m.var < length values → (m ≡ l) ⊎ Contains falses m → (m ≡ l) ⊎ IsFalseIn values m
        other m inside (inl same) = inl same
        other m inside (inr f) = inr ((tells m inside).1 f)

        none_left : (o : Option Bool) → value_at values l.var ≡ o → l.var < length values → o ≡ None
        none_left None is inside = refl
        none_left (Some b) is inside =
            elim (true_or b l.positive) [
              | inl alike ↦ absurd (unit.not_true ((tells (opposite l) inside).0 (is ∙ ap Some alike ∙ ap Some (sym (twice l.positive)))))
              | inr opposed ↦ absurd (unit.unset ((tells l inside).0 (is ∙ ap Some opposed)))
            ]

    pub false_told : All (IsFalseIn values) clause → All (Contains falses) clause
    false_told all k d within = (tells (get_or clause k d) (below k d within)).0 (all k d within)

    pub told_false : All (Contains falses) clause → All (IsFalseIn values) clause
    told_false all k d within = (tells (get_or clause k d) (below k d within)).1 (all k d within)

-- the unit's literal true: its opposite is false
tells_unit : (values : List (Option Bool)) (falses clause : List Lit) (l : Lit) → Tells values falses → LitsBelow (length values) clause → IsUnitIn values clause l
    → Tells (with_value values l.var l.positive) (opposite l ∷ falses)
tells_unit values falses clause l tells below unit =
    let inside : l.var < length values = All-contains (λ m. m.var < length values) clause l below unit.among in
    subst (λ b. Tells (with_value values l.var b) (opposite l ∷ falses)) (twice l.positive)
    (tells_more values falses (opposite l ∷ falses) (opposite l) tells (joins_front falses (opposite l)) inside (λ f. unset_not_false values l unit.unset f))

-- a unit in its turn, and what follows with its literal true
turn : (values : List (Option Bool)) (falses clause : List Lit) → Tells values falses → LitsBelow (length values) clause → (P : List (Option Bool) → Type 0) (Q : List Lit → Type 0)
    → ((after : List (Option Bool)) (so : List Lit) → Tells after so → length after ≡ length values → P after ↔ Q so)
    → ((l : Lit) × IsUnitIn values clause l × P (with_value values l.var l.positive)) ↔ ((l : Lit) × IsUnit falses clause l × Q (opposite l ∷ falses))
turn values falses clause tells below P Q follows = (
  λ (l, unit, rest). (l, unit_told values falses tells clause below l unit, (here l unit).0 rest),
  λ (l, unit, rest). let told = told_unit values falses tells clause below l unit in (l, told, (here l told).1 rest),
)
  where
    here : (l : Lit) → IsUnitIn values clause l → P (with_value values l.var l.positive) ↔ Q (opposite l ∷ falses)
    here l unit =
        follows (with_value values l.var l.positive) (opposite l ∷ falses) (tells_unit values falses clause l tells below unit) (length-set values l.var (Some l.positive))

-- the clauses propagate to one of false literals exactly where they refute that the literals are false
pub refuted : (values : List (Option Bool)) (falses : List Lit) (clauses : List (List Lit)) (last : List Lit) → Tells values falses → All (LitsBelow (length values)) clauses
    → LitsBelow (length values) last → Propagates values clauses last ↔ UnitsRefute falses (clauses ++ last ∷ [])
refuted values falses [] last tells all below = (false_told values falses tells last below, told_false values falses tells last below)
refuted values falses (clause ∷ []) last tells all below =
    turn values falses clause tells (All-head (LitsBelow (length values)) clause [] all) (λ after. Propagates after [] last) (λ so. UnitsRefute so (last ∷ []))
    (λ after so told size. refuted after so [] last told (subst (λ n. All (LitsBelow n) []) (sym size) (All-tail (LitsBelow (length values)) clause [] all)) (subst (λ n. LitsBelow n last) (sym size) below))
refuted values falses (clause ∷ next ∷ more) last tells all below =
    turn values falses clause tells (All-head (LitsBelow (length values)) clause (next ∷ more) all) (λ after. Propagates after (next ∷ more) last) (λ so. UnitsRefute so (next ∷ more ++ last ∷ []))
    (λ after so told size. refuted after so (next ∷ more) last told (subst (λ n. All (LitsBelow n) (next ∷ more)) (sym size) (All-tail (LitsBelow (length values)) clause (next ∷ more) all)) (subst (λ n. LitsBelow n last) (sym size) below))
