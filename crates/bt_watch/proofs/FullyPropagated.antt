-- Where each clause is watched well, propagation has come to its end.
use Rattle.std.proofs.Common.{◌≡◌, ◌⊎◌, inl, inr, List, sym, subst, ◌∙◌}
use Rattle.std.specs.Prelude.{Contains}
use Rattle.std.specs.List.{All}
use Rattle.std.proofs.lemmas.List.Elements.{All-contains}
use Rattle.bt_cnf.specs.declared.literal.Lit.{Lit}
use Rattle.bt_cnf.specs.Units.{opposite, HasNoBothSigns, IsUnit}
use Rattle.bt_watch.specs.Propagation.{IsFalseClause, IsFullyPropagated}
use Rattle.bt_watch.specs.inner.Watching.{HasTrue, IsWatched}
use Rattle.bt_cnf.proofs.Lists.{all_more}

-- of a clause that is watched well, not all literals are false
watched_not_false : (falses clause : List Lit) → HasNoBothSigns falses → IsWatched falses clause → IsFalseClause falses clause → ⊥
watched_not_false falses clause signs w all =
    let is = w.if_first (All-contains (Contains falses) clause w.first all w.first_in) in
    signs is.lit (All-contains (Contains falses) clause is.lit all is.among) is.holds

-- nor is it a unit
watched_not_unit : (falses clause : List Lit) → HasNoBothSigns falses → IsWatched falses clause → (l : Lit) → IsUnit falses clause l → ⊥
watched_not_unit falses clause signs w l unit =
    let P : Lit → Type 0 = λ m. (m ≡ l) ⊎ Contains falses m in
    let not_true : HasTrue falses clause → ⊥ = λ is. elim (All-contains P clause is.lit unit.others is.among) [
      | inl same ↦ unit.not_true (subst (λ m. Contains falses (opposite m)) same is.holds)
      | inr false_lit ↦ signs is.lit false_lit is.holds
    ] in
    elim (All-contains P clause w.first unit.others w.first_in) [
      | inl same ↦ elim (All-contains P clause w.second unit.others w.second_in) [
        | inl also ↦ w.differ (same ∙ sym also)
        | inr second ↦ not_true (w.if_second second)
      ]
      | inr first ↦ not_true (w.if_first first)
    ]

-- where each clause is watched well, propagation has come to its end
pub watched_is_propagated : (clauses : List (List Lit)) (falses : List Lit) → HasNoBothSigns falses → All (IsWatched falses) clauses → IsFullyPropagated clauses falses
watched_is_propagated clauses falses signs all = record {
  no_false = all_more (IsWatched falses) (λ c. IsFalseClause falses c → ⊥) clauses (λ c w. watched_not_false falses c signs w) all;
  no_unit = all_more (IsWatched falses) (λ c. (l : Lit) → IsUnit falses c l → ⊥) clauses (λ c w. watched_not_unit falses c signs w) all;
}
