-- Clauses that don't follow by propagation where it has come to its end.
use Rattle.std.proofs.Common.{◌≡◌, ◌≢◌, ◌⊎◌, inl, inr, List, [], ◌∷◌, sym, subst, ◌∙◌}
use Rattle.std.specs.Prelude.{Contains}
use Rattle.std.specs.List.{All}
use Rattle.std.proofs.lemmas.List.Elements.{All-cons, All-contains}
use Rattle.bt_cnf.specs.declared.literal.Lit.{Lit}
use Rattle.bt_cnf.specs.Units.{opposite, IsUnit}
use Rattle.bt_watch.specs.Propagation.{Reaches, begins, goes_on, IsFalseClause, IsFullyPropagated}
use Rattle.bt_sat.specs.Freshness.{AreOthers}
use Rattle.bt_sat.specs.Laws.{PropagatedIsOpen}
use Rattle.bt_cnf.proofs.Lists.{contains_or, contains_here, contains_there, first_or, none_in, lit_or, all_more, all_of}

-- what propagation comes to stays within a list where it has come to its end
within : (clauses : List (List Lit)) (begun all : List Lit) → IsFullyPropagated clauses all → All (Contains all) begun → (falses : List Lit) → Reaches clauses begun falses → All (Contains all) falses
within clauses begun all propagated start falses begins = start
within clauses begun all propagated start _ (goes_on falses clause l reached among unit) =
    let before : All (Contains all) falses = within clauses begun all propagated start falses reached in
    let others : All (λ m. (m ≡ l) ⊎ Contains all m) clause =
    all_more (λ m. (m ≡ l) ⊎ Contains falses m) (λ m. (m ≡ l) ⊎ Contains all m) clause
    (λ m h. elim h [ inl same ↦ inl same | inr false_m ↦ inr (All-contains (Contains all) falses m before false_m) ]) unit.others in
    All-cons (Contains all) (opposite l) falses
    (elim (contains_or all (opposite l)) [
      | inl made ↦ made
      | inr not_made ↦ elim (contains_or all l) [
        | inl false_l ↦ absurd (All-contains (λ c. IsFalseClause all c → ⊥) clauses clause propagated.no_false among
            (all_more (λ m. (m ≡ l) ⊎ Contains all m) (Contains all) clause (λ m h. elim h [ inl same ↦ subst (Contains all) (sym same) false_l | inr false_m ↦ false_m ]) others))
        | inr unset ↦ absurd (All-contains (λ c. (m : Lit) → IsUnit all c m → ⊥) clauses clause propagated.no_unit among l
            (record { among = unit.among; unset = unset; not_true = not_made; others = others }))
      ]
    ])
    before

-- the literals of a clause but one
others_of : List Lit → Lit → List Lit
others_of [] x = []
others_of (l ∷ lits) x = elim (lit_or l x) [ inl same ↦ others_of lits x | inr differs ↦ l ∷ others_of lits x ]

others_are : (lits : List Lit) (x : Lit) → AreOthers lits x (others_of lits x)
unfolding others_of
others_are [] x l = ((λ among. absurd (none_in l among)), (λ both. both.0))
others_are (m ∷ lits) x l =
    let rest = others_are lits x l in
    elim (lit_or m x) as (λ o. (Contains (elim o [ inl same ↦ others_of lits x | inr differs ↦ m ∷ others_of lits x ]) l → Contains (m ∷ lits) l × (l ≢ x))
    × (Contains (m ∷ lits) l × (l ≢ x) → Contains (elim o [ inl same ↦ others_of lits x | inr differs ↦ m ∷ others_of lits x ]) l)) [
      | inl same ↦ (
        (λ among. (contains_there m l lits (rest.0 among).0, (rest.0 among).1)),
        (λ both. elim (first_or m l lits both.0) [ inl first ↦ absurd (both.1 (sym first ∙ same)) | inr later ↦ rest.1 (later, both.1) ]),
      )
      | inr differs ↦ (
        (λ among. elim (first_or m l (others_of lits x) among) [
          | inl first ↦ (contains_here m l lits first, λ e. differs (first ∙ e))
          | inr later ↦ (contains_there m l lits (rest.0 later).0, (rest.0 later).1)
        ]),
        (λ both. elim (first_or m l lits both.0) [
          | inl first ↦ contains_here m l (others_of lits x) first
          | inr later ↦ contains_there m l (others_of lits x) (rest.1 (later, both.1))
        ]),
      )
    ]

pub propagated_is_open : PropagatedIsOpen
propagated_is_open clauses falses lits x propagated among others not_made =
    let start : All (Contains falses) (others_of lits x) =
    all_of (Contains falses) (others_of lits x) (λ l h. let both = (others_are lits x l).0 h in others l both.0 both.1) in
    record {
      among = among;
      others = others_of lits x;
      are_others = others_are lits x;
      no_false = λ met.
          All-contains (λ c. IsFalseClause falses c → ⊥) clauses met.clause propagated.no_false met.among
          (all_more (Contains met.falses) (Contains falses) met.clause
          (λ m h. All-contains (Contains falses) met.falses m (within clauses (others_of lits x) falses propagated start met.falses met.reached) h) met.is_false);
      not_made = λ made. not_made (All-contains (Contains falses) made.falses (opposite x) (within clauses (others_of lits x) falses propagated start made.falses made.reached) made.holds);
    }
