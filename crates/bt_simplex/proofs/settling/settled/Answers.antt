use Rattle.std.proofs.Common.{◌≡◌, ◌∙◌, ◌+◌, ◌<◌, arith, ap, sym, subst, length, length-append, List, ◌∷◌, ◌++◌, ℕ, []}
use Rattle.bt_frac.specs.Values.{value_in}
use Rattle.bt_pivot.specs.Tableaus.{with_slots}
use Rattle.bt_simplex.specs.inner.Settling.{IsSettled}
use Rattle.bt_simplex.proofs.Meeting.{settled_meet, settled_more}
use Rattle.bt_simplex.proofs.settling.settled.Goals as goal

pub loop-column-preserved : goal.loop-column-preserved
loop-column-preserved c =
    let items = sym c.in_ok-push-in-Ok-column_value.ensures.items in
    record {
      count = subst (λ v. length v ≡ c.loop-column.column + 1) items (length_push c.loop-column.values.items c.in-Ok-column_value.value ∙ ap (λ n. n + 1) c.loop-column.invariant.count);
      settled =
          subst (λ v. (j : ℕ) → j < c.loop-column.column + 1 → IsSettled (with_slots c.args.tableau.now c.args.basis.now) c.in-Ok.epsilon j (value_in v j)) items
          (settled_more (λ j value. IsSettled (with_slots c.args.tableau.now c.args.basis.now) c.in-Ok.epsilon j value) c.loop-column.values.items c.in-Ok-column_value.value c.loop-column.column c.loop-column.invariant.count
          c.loop-column.invariant.settled c.in-Ok-column_value.ensures.settled);
    }
  where
    length_push : {X : Type 0} (xs : List X) (x : X) → length (xs ++ x ∷ []) ≡ length xs + 1
    length_push xs x = length-append xs (x ∷ [])

pub returns-clause-meets : goal.returns-clause-meets
returns-clause-meets c =
    let all : c.loop-column.column ≡ c.args.tableau.now.columns = omega arith in
    settled_meet (with_slots c.args.tableau.now c.args.basis.now) c.in-Ok.epsilon c.loop-column.values.items c.requires.tableau c.requires.met c.in-Ok.ensures.epsilon (c.loop-column.invariant.count ∙ all)
    (subst (λ n. (j : ℕ) → j < n → IsSettled (with_slots c.args.tableau.now c.args.basis.now) c.in-Ok.epsilon j (value_in c.loop-column.values.items j)) all c.loop-column.invariant.settled)
