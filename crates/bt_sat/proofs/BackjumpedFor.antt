-- Where the search jumps back to for a clause that is false.
use Rattle.std.proofs.Common.{◌≡◌, ℕ, ◌≤◌, ◌<◌, inl, inr, arith, List, length, get_or, sym, subst, ap, ◌∙◌}
use Rattle.std.specs.Prelude.{Contains, take}
use Rattle.std.specs.List.{All}
use Rattle.std.proofs.lemmas.List.{get_or_default, get_or-map, length-map}
use Rattle.bt_cnf.specs.declared.literal.Lit.{Lit}
use Rattle.bt_cnf.specs.Truths.{IsTrueIn, IsFalseIn}
use Rattle.bt_cnf.specs.Units.{opposite}
use Rattle.bt_watch.specs.declared.search.Search.{Search}
use Rattle.bt_watch.specs.Watched.{no_lit}
use Rattle.bt_watch.specs.Levels.{start_of, front_of, Backjumps, IsReady}
use Rattle.bt_watch.specs.Reasons.{lit_at}
use Rattle.bt_sat.specs.inner.Analysing.{false_at, falses_at}
use Rattle.bt_sat.specs.inner.Asserting.{HaveUniquePoint, IsAssertionLevel}
use Rattle.bt_sat.specs.inner.Lemmas.{ArePicked, CanAdmit}
use Rattle.bt_cnf.proofs.Lists.{past, lt_or, all_of}
use Rattle.bt_watch.proofs.Backjumped.{apart_places, place_in_take}
use Rattle.bt_watch.proofs.Ending.{false_of, twice_opposite}
use Rattle.bt_watch.proofs.Leveled
use Rattle.bt_sat.proofs.Deriving.{before_place, in_map}
use Rattle.bt_sat.proofs.Asserted

module _ (all : List (List Lit)) (old new : Search) (clause : List Lit) (picked : List ℕ) (level propagated : ℕ) (ready : IsReady all propagated old)
    (are : ArePicked old.assignment.trail.items clause picked) (at : IsAssertionLevel old.starts.items picked level) (back : Backjumps level old new) (some : 0 < length picked) where
  inside : (i : ℕ) → i < length picked → get_or picked i 0 < length old.assignment.trail.items
  inside i small = are.within (get_or picked i 0) (i, small, get_or_default picked i (get_or picked i 0) 0 small)

  named : (i : ℕ) → i < length picked → lit_at (falses_at old.assignment.trail.items picked) i ≡ false_at old.assignment.trail.items (get_or picked i 0)
  named i small = get_or-map (false_at old.assignment.trail.items) picked i 0 no_lit small

  count_lits : length (falses_at old.assignment.trail.items picked) ≡ length picked
  count_lits = length-map picked (false_at old.assignment.trail.items)

  start_is : (j : ℕ) → j < length old.starts.items → start_of old j ≡ get_or old.starts.items j 0
  start_is j small = get_or_default old.starts.items j (length old.assignment.trail.items) 0 small

  -- the places behind are no greater
  no_greater : (h i : ℕ) → h ≤ i → i < length picked → get_or picked i 0 ≤ get_or picked h 0
  no_greater h i order small = elim (lt_or h i) [
    | inl later ↦ omega (arith, are.descend h i later small)
    | inr same ↦
        let e : i ≡ h = omega (arith, same, order) in
        subst (λ n. get_or picked n 0 ≤ get_or picked h 0) (sym e) (omega arith)
  ]

  below_vars : All (λ (l : Lit). l.var < length new.assignment.values) (falses_at old.assignment.trail.items picked)
  below_vars = subst (λ n. All (λ (l : Lit). l.var < n) (falses_at old.assignment.trail.items picked)) (sym back.forgets.variables)
      (all_of (λ (l : Lit). l.var < length old.assignment.values) (falses_at old.assignment.trail.items picked) (λ l among.
      let (k, there, is) = in_map (false_at old.assignment.trail.items) picked l among in
      subst (λ (x : Lit). x.var < length old.assignment.values) is (ready.ordered.whole.truths.below k no_lit (are.within k there))))

  asserts : start_of old level ≤ get_or picked 0 0 → CanAdmit all new (falses_at old.assignment.trail.items picked)
  asserts high =
      let known : level < length old.starts.items = elim (lt_or level (length old.starts.items)) [
        | inl small ↦ small
        | inr none ↦ absurd (omega (arith, high, inside 0 some, past old.starts.items level (length old.assignment.trail.items) none))
      ] in
      let unique : HaveUniquePoint old picked = record {
        within = are.within;
        descend = are.descend;
        level = level;
        known = λ _. known;
        first = λ _. high;
        rest = λ i after small.
            let next = (at.many (omega (arith, after, small))).after level (omega arith) known in
            omega (arith, no_greater 1 i (omega (arith, after)) small, next, start_is level known);
      } in
      inl (Asserted.asserts all old new picked level ready.ordered unique at back (λ _. ready.held) some)

  -- the first two became false at the last level that is left
  not_front : (i : ℕ) → i ≤ 1 → 1 < length picked → (j : ℕ) → j < length new.starts.items → Contains (front_of new j) (opposite (lit_at (falses_at old.assignment.trail.items picked) i)) → ⊥
  not_front i low many j small among =
      let T = old.assignment.trail.items in
      let fits : i < length picked = omega (arith, low, many) in
      let count = Leveled.count all old new level ready.ordered back in
      let there : Contains (take (start_of old j) T) (lit_at T (get_or picked i 0)) =
      subst (Contains (take (start_of old j) T)) (ap opposite (named i fits) ∙ twice_opposite (lit_at T (get_or picked i 0)))
      (subst (λ front. Contains front (opposite (lit_at (falses_at T picked) i))) (Leveled.front_same all old new level ready.ordered back j small) among) in
      let (q, early, small_q, at_q) = before_place T (start_of old j) (lit_at T (get_or picked i 0)) there in
      let one : q ≡ get_or picked i 0 = apart_places old.assignment ready.ordered.reasoned.placed q (get_or picked i 0) small_q (inside i fits) (ap (λ (x : Lit). x.var) at_q) in
      let before = (at.many many).before j (omega (arith, small, count)) in
      omega (arith, early, one, before, start_is j (omega (arith, small, count)), no_greater i 1 low many)

  fails : get_or picked 0 0 < start_of old level → CanAdmit all new (falses_at old.assignment.trail.items picked)
  fails low =
      let T = old.assignment.trail.items in
      inr (record {
        ordered = Leveled.back_ordered all old new level ready.ordered back;
        held = λ k d small. Leveled.back_held all old new level ready.ordered back (get_or all k d) (ready.held k d small);
        some = omega (arith, some, count_lits);
        below = below_vars;
        falses = all_of (IsFalseIn new.assignment.values) (falses_at T picked) (λ l among.
            let (k, (i, small, at_k), is) = in_map (false_at T) picked l among in
            let top = no_greater 0 i (omega arith) small in
            let same : get_or picked i 0 ≡ k = get_or_default picked i 0 k small ∙ at_k in
            let true_k : IsTrueIn new.assignment.values (lit_at T k) = back.forgets.truths.true_in (lit_at T k)
            (subst (λ ts. Contains ts (lit_at T k)) (sym back.forgets.trail)
            (place_in_take (start_of old level) T k no_lit (omega (arith, top, same, low)) (are.within k (i, small, at_k)))) in
            subst (IsFalseIn new.assignment.values) is (false_of new.assignment.values (lit_at T k) true_k));
        differ = λ many e.
            let fits : 1 < length picked = omega (arith, many, count_lits) in
            let vars : (lit_at T (get_or picked 0 0)).var ≡ (lit_at T (get_or picked 1 0)).var = ap (λ (x : Lit). x.var) (sym (named 0 some) ∙ e ∙ named 1 fits) in
            let one : get_or picked 0 0 ≡ get_or picked 1 0 = apart_places old.assignment ready.ordered.reasoned.placed (get_or picked 0 0) (get_or picked 1 0) (inside 0 some) (inside 1 fits) vars in
            omega (arith, one, are.descend 0 1 (omega arith) fits);
        first = λ many. not_front 0 (omega arith) (omega (arith, many, count_lits));
        second = λ many. not_front 1 (omega arith) (omega (arith, many, count_lits));
        alone = λ one.
            let none : level ≡ 0 = at.one (omega (arith, one, count_lits)) in
            omega (arith, none, Leveled.count all old new level ready.ordered back);
      })

  pub admits : CanAdmit all new (falses_at old.assignment.trail.items picked)
  admits = elim (lt_or (get_or picked 0 0) (start_of old level)) [ inl low ↦ fails low | inr high ↦ asserts (omega (arith, high)) ]
