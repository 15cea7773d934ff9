-- What propagation makes of a search.
use Rattle.std.proofs.Common.{◌≡◌, ℕ, ◌≤◌, ◌<◌, ◌+◌, arith, List, length, get_or, sym, subst, ap, ◌∙◌, Option, None, Some, length-append}
use Rattle.std.specs.Prelude.{slice_get}
use Rattle.std.proofs.lemmas.List.Elements.{All-contains}
use Rattle.bt_cnf.specs.declared.literal.Lit.{Lit}
use Rattle.bt_cnf.specs.Truths.{IsFalseIn, unset}
use Rattle.bt_cnf.specs.Units.{clause_at}
use Rattle.bt_watch.specs.declared.search.Search.{Search}
use Rattle.bt_watch.specs.Keeping.{kept_at}
use Rattle.bt_watch.specs.Levels.{IsHeld, IsReady, Stands}
use Rattle.bt_watch.specs.Propagating.{GoesOn, Propagates}
use Rattle.bt_watch.specs.Reasons.{AreSame}
use Rattle.bt_cnf.proofs.Lists.{got_at, all_of, all_more}
use Rattle.bt_watch.proofs.Reasoning.{got_none}
use Rattle.bt_watch.proofs.Leveled

module _ (all : List (List Lit)) (propagated : ℕ) (old new : Search) (ready : IsReady all propagated old) where
  pub inferred_none : Propagates old new None → IsReady all (length new.assignment.trail.items) new
  inferred_none (goes, propagates, all_propagated) = record {
    ordered = Leveled.goes_ordered all old new ready.ordered goes propagates.whole;
    held = all_more (IsHeld old) (IsHeld new) all (Leveled.goes_held all old new ready.ordered goes) ready.held;
    propagates = propagates;
  }

  pub propagated_some : (id : ℕ) (found : Option ℕ) → Propagates old new (Some id) → found ≡ slice_get new.numbers.items id → (propagated' : ℕ) → Stands all propagated' new found
  propagated_some id None (goes, fails, whole) is propagated' =
      let ordered = Leveled.goes_ordered all old new ready.ordered goes whole in
      absurd (got_none new.numbers.items id (sym is) (subst (λ n. id < n) (sym ordered.numbered.count) fails.0))
  propagated_some id (Some n) (goes, fails, whole) is propagated' =
      let ordered = Leveled.goes_ordered all old new ready.ordered goes whole in
      let number : get_or new.numbers.items id 0 ≡ n = got_at new.numbers.items id 0 n (sym is) in
      let same : AreSame (clause_at all n) (kept_at new.clauses id) = subst (λ k. AreSame (clause_at all k) (kept_at new.clauses id)) number (ordered.numbered.same id fails.0) in
      record {
        ordered = ordered;
        held = λ some. all_more (IsHeld old) (IsHeld new) all (Leveled.goes_held all old new ready.ordered goes) ready.held;
        below = subst (λ k. k < length all) number (ordered.numbered.below id fails.0);
        falses = all_of (IsFalseIn new.assignment.values) (clause_at all n) (λ m among. All-contains (IsFalseIn new.assignment.values) (kept_at new.clauses id) m fails.1 ((same m).0 among));
      }

  -- a clause that fails has its number
  pub never_none : (id : ℕ) → Propagates old new (Some id) → slice_get new.numbers.items id ≡ None → ⊥
  never_none id (goes, fails, whole) is =
      let ordered = Leveled.goes_ordered all old new ready.ordered goes whole in
      got_none new.numbers.items id is (subst (λ n. id < n) (sym ordered.numbered.count) fails.0)

-- no more variables are unset
pub fewer : (old new : Search) → GoesOn old new → unset new.assignment.values ≤ unset old.assignment.values
fewer old new goes =
    let longer : length new.assignment.trail.items ≡ length old.assignment.trail.items + length goes.more = ap length goes.trail ∙ length-append old.assignment.trail.items goes.more in
    omega (arith, goes.room, longer)
