-- Where propagation comes to its end.
use Rattle.std.proofs.Common.{◌≡◌, ℕ, ◌≤◌, ◌<◌, ◌+◌, ◌⊎◌, inl, inr, arith, Bool, true, false, not, List, [], ◌∷◌, ◌++◌, length, map, get_or, sym, subst, ap, ◌∙◌, Option, None, Some}
use Rattle.std.specs.Prelude.{Contains}
use Rattle.std.specs.List.{All}
use Rattle.std.proofs.lemmas.List.{get_or_default, get_or_append_left}
use Rattle.std.proofs.lemmas.List.Elements.{All-contains, All-push, Contains-append_left, Contains-push, Contains-push_cases}
use Rattle.std.proofs.lemmas.List.Sorted.{Contains-permutation, IsPermutation-sym}
use Rattle.bt_cnf.specs.declared.literal.Lit.{Lit}
use Rattle.bt_cnf.specs.Truths.{IsTrueIn, IsFalseIn}
use Rattle.bt_cnf.specs.Units.{opposite, HasNoBothSigns, IsUnit}
use Rattle.bt_watch.specs.Propagation.{IsFalseClause, IsFullyPropagated}
use Rattle.bt_watch.specs.declared.search.Search.{Search}
use Rattle.bt_watch.specs.Watched.{no_lit, first, second}
use Rattle.bt_watch.specs.Keeping.{kept_at, IsAtRest, IsSatisfied}
use Rattle.bt_watch.specs.inner.Visiting.{IsDone}
use Rattle.bt_watch.specs.Propagating.{GoesOn, IsPropagatedTo, IsKept, among_watched, alone, both_signs, falses_of, Propagates, root_of}
use Rattle.bt_watch.specs.inner.PropagatingLit.{Visiting, PropagatesLit}
use Rattle.bt_watch.specs.inner.Watching.{HasTrue, IsWatched}
use Rattle.bt_cnf.proofs.Lists.{contains_here, contains_there, first_or, none_in, nat_or, all_of}
use Rattle.bt_cnf.proofs.Signs.{twice}
use Rattle.bt_watch.proofs.Advancing.{root_in}
use Rattle.bt_watch.proofs.Keeping.{not_both}
use Rattle.bt_watch.proofs.FullyPropagated.{watched_is_propagated}
use Rattle.bt_watch.proofs.Visiting.{visited}

pub twice_opposite : (l : Lit) → opposite (opposite l) ≡ l
twice_opposite l =
    let make : ℕ → Bool → Lit = λ v p. record { var = v; positive = p } in
    ap (make l.var) (twice l.positive)

-- no literal is its own opposite
apart : (l : Lit) → opposite l ≡ l → ⊥
apart l e = differ l.positive (ap (λ (m : Lit). m.positive) e)
  where
    differ : (b : Bool) → not b ≡ b → ⊥
    differ true e = cc
    differ false e = cc

pub contains_opposite : (lits : List Lit) (l : Lit) → Contains lits l → Contains (map opposite lits) (opposite l)
contains_opposite [] l among = absurd (none_in l among)
contains_opposite (x ∷ lits) l among =
    elim (first_or x l lits among) [
      | inl same ↦ contains_here (opposite x) (opposite l) (map opposite lits) (ap opposite same)
      | inr rest ↦ contains_there (opposite x) (opposite l) (map opposite lits) (contains_opposite lits l rest)
    ]

pub opposite_in : (lits : List Lit) (l : Lit) → Contains (map opposite lits) l → Contains lits (opposite l)
opposite_in [] l among = absurd (none_in l among)
opposite_in (x ∷ lits) l among =
    elim (first_or (opposite x) l (map opposite lits) among) [
      | inl same ↦ contains_here x (opposite l) lits (sym (twice_opposite x) ∙ ap opposite same)
      | inr rest ↦ contains_there x (opposite l) lits (opposite_in lits l rest)
    ]

-- a literal is true whose opposite is false
true_of : (values : List (Option Bool)) (l : Lit) → IsFalseIn values (opposite l) → IsTrueIn values l
true_of values l is = is ∙ ap (λ b. Some b) (twice l.positive)

pub false_of : (values : List (Option Bool)) (l : Lit) → IsTrueIn values l → IsFalseIn values (opposite l)
false_of values l is = is ∙ ap (λ b. Some b) (sym (twice l.positive))

-- a literal more whose clauses are done
rest_next : (part trail clause : List Lit) (x : Lit) → IsAtRest part trail clause → IsDone (opposite x) trail clause → IsAtRest (part ++ x ∷ []) trail clause
rest_next part trail clause x rest done =
    let false_lit : (l : Lit) → x ≡ opposite l → l ≡ opposite x = λ l e. sym (twice_opposite l) ∙ ap opposite (sym e) in
    record {
      if_first = λ h. elim (Contains-push_cases part x (opposite (first clause)) h) [
        | inl before ↦ rest.if_first before
        | inr same ↦ done.if_first (false_lit (first clause) same)
      ];
      if_second = λ h. elim (Contains-push_cases part x (opposite (second clause)) h) [
        | inl before ↦ rest.if_second before
        | inr same ↦ done.if_second (false_lit (second clause) same)
      ];
    }

-- all is at rest by a literal more, whose clauses were visited
pub propagated_next : (old new : Search) (head : ℕ) (x : Lit) → IsPropagatedTo head old → PropagatesLit (opposite x) old new None → head < length old.assignment.trail.items
    → ((d : Lit) → get_or old.assignment.trail.items head d ≡ x) → IsPropagatedTo (head + 1) new
propagated_next old new head x s propagates below is =
    let trail = old.assignment.trail.items in
    let goes = propagates.0 in
    let true_x : IsTrueIn old.assignment.values x = s.whole.truths.true_in x (head, below, is x) in
    let begun : Visiting s.part (opposite x) 0 old = record {
      watched = s.whole.watched;
      base_in = root_in old;
      truths = s.whole.truths;
      rest = s.rest;
      part_in = s.part_in;
      lit_is_false = false_of old.assignment.values x true_x;
      done = λ k before small. absurd (omega (arith, before));
    } in
    let end = propagates.1 s.part begun in
    let v = end.2 in
    let stays : (k : ℕ) (d : Lit) → k < length trail → get_or new.assignment.trail.items k d ≡ get_or trail k d =
    λ k d small. ap (λ ls. get_or ls k d) goes.trail ∙ get_or_append_left trail goes.more d k small in
    record {
      whole = record { watched = v.watched; truths = v.truths };
      part = s.part ++ x ∷ [];
      part_in = All-push (Contains new.assignment.trail.items) s.part x v.part_in (v.truths.in_trail x (true_of new.assignment.values x v.lit_is_false));
      covers = λ k d before small. elim (nat_or k head) [
        | inl same ↦
            let at : x ≡ get_or new.assignment.trail.items k d = sym (ap (λ n. get_or new.assignment.trail.items n d) same ∙ stays head d below ∙ is d) in
            subst (Contains (s.part ++ x ∷ [])) at (Contains-push s.part x)
        | inr differs ↦
            let earlier : k < head = omega (arith, before, differs) in
            let inside : k < length trail = omega (arith, earlier, below) in
            Contains-append_left s.part (x ∷ []) (get_or new.assignment.trail.items k d)
            (subst (Contains s.part) (sym (stays k d inside)) (s.covers k d earlier inside))
      ];
      rest = λ id d small.
          rest_next s.part new.assignment.trail.items (get_or new.clauses id d) x (v.rest id d small)
          (subst (IsDone (opposite x) new.assignment.trail.items) (get_or_default new.clauses id [] d small)
          (visited s.part (opposite x) end.0 (root_of new) new.assignment.values new.assignment.trail.items new.clauses new.watchers v end.1 id small));
    }

-- all is at rest by the whole trail
propagated_end : (s : Search) (head : ℕ) → IsPropagatedTo head s → length s.assignment.trail.items ≤ head → IsPropagatedTo (length s.assignment.trail.items) s
propagated_end s head is all = record {
  whole = is.whole;
  part = is.part;
  part_in = is.part_in;
  covers = λ k d _ small. is.covers k d (omega (arith, small, all)) small;
  rest = is.rest;
}

module _ (s : Search) (is : IsPropagatedTo (length s.assignment.trail.items) s) where
  signs : HasNoBothSigns (falses_of s)
  signs l one other =
      not_both s.assignment.values (opposite l) (is.whole.truths.true_in (opposite l) (opposite_in s.assignment.trail.items l one))
      (is.whole.truths.true_in (opposite (opposite l)) (opposite_in s.assignment.trail.items (opposite l) other))

  in_part : (l : Lit) → Contains s.assignment.trail.items l → Contains is.part l
  in_part l (k, small, at) = subst (Contains is.part) at (is.covers k l small small)

  watched : All (IsWatched (falses_of s)) s.clauses
  watched id d small =
      let clause = get_or s.clauses id d in
      let good = is.whole.watched.watchable id d small in
      let rest = is.rest id d small in
      let trail = s.assignment.trail.items in
      let true_in_falses : IsSatisfied trail clause → HasTrue (falses_of s) clause = λ has. record { lit = has.lit; among = has.among; holds = contains_opposite trail has.lit has.holds } in
      record {
        first = first clause;
        second = second clause;
        first_in = (0, omega (arith, good.two), get_or_default clause 0 (first clause) no_lit (omega (arith, good.two)));
        second_in = (1, omega (arith, good.two), get_or_default clause 1 (second clause) no_lit (omega (arith, good.two)));
        differ = good.differ;
        if_first = λ h. true_in_falses (rest.if_first (in_part (opposite (first clause)) (opposite_in trail (first clause) h)));
        if_second = λ h. true_in_falses (rest.if_second (in_part (opposite (second clause)) (opposite_in trail (second clause) h)));
      }

  propagated : IsFullyPropagated s.clauses (falses_of s)
  propagated = watched_is_propagated s.clauses (falses_of s) signs watched

  -- a clause that was given isn't false
  not_false : (clause : List Lit) → IsKept s clause → IsFalseClause (falses_of s) clause → ⊥
  not_false clause (among_watched id small same) all =
      propagated.no_false id [] small
      (all_of (Contains (falses_of s)) (kept_at s.clauses id) (λ l among. All-contains (Contains (falses_of s)) clause l all ((same l).1 among)))
  not_false clause (alone l among only true_l) all =
      signs l (All-contains (Contains (falses_of s)) clause l all among) (contains_opposite s.assignment.trail.items l true_l)
  not_false clause (both_signs l among other) all =
      signs l (All-contains (Contains (falses_of s)) clause l all among) (All-contains (Contains (falses_of s)) clause (opposite l) all other)

  -- nor is it a unit
  not_unit : (clause : List Lit) → IsKept s clause → (l : Lit) → IsUnit (falses_of s) clause l → ⊥
  not_unit clause (among_watched id small same) l unit =
      let P : Lit → Type 0 = λ m. (m ≡ l) ⊎ Contains (falses_of s) m in
      propagated.no_unit id [] small l (record {
        among = (same l).0 unit.among;
        unset = unit.unset;
        not_true = unit.not_true;
        others = all_of P (kept_at s.clauses id) (λ m among. All-contains P clause m unit.others ((same m).1 among));
      })
  not_unit clause (alone m among only true_m) l unit =
      unit.not_true (subst (λ n. Contains (falses_of s) (opposite n)) (sym (All-contains (λ n. n ≡ m) clause l only unit.among)) (contains_opposite s.assignment.trail.items m true_m))
  not_unit clause (both_signs m among other) l unit =
      let P : Lit → Type 0 = λ n. (n ≡ l) ⊎ Contains (falses_of s) n in
      elim (All-contains P clause m unit.others among) [
        | inl same ↦ elim (All-contains P clause (opposite m) unit.others other) [
          | inl also ↦ apart m (also ∙ sym same)
          | inr false_other ↦ unit.not_true (subst (λ n. Contains (falses_of s) (opposite n)) same false_other)
        ]
        | inr false_m ↦ elim (All-contains P clause (opposite m) unit.others other) [
          | inl also ↦ unit.not_true (subst (Contains (falses_of s)) (sym (twice_opposite m) ∙ ap opposite also) false_m)
          | inr false_other ↦ signs m false_m false_other
        ]
      ]

-- what is kept is kept still
kept_goes : (old new : Search) (clause : List Lit) → GoesOn old new → IsKept old clause → IsKept new clause
kept_goes old new clause goes (among_watched id small same) =
    among_watched id (subst (λ n. id < n) (sym goes.count) small) (λ l. (
      (λ among. Contains-permutation (kept_at old.clauses id) (kept_at new.clauses id) l (goes.clauses id) ((same l).0 among)),
      (λ among. (same l).1 (Contains-permutation (kept_at new.clauses id) (kept_at old.clauses id) l (IsPermutation-sym (kept_at old.clauses id) (kept_at new.clauses id) (goes.clauses id)) among)),
    ))
kept_goes old new clause goes (alone l among only true_l) =
    alone l among only (subst (λ ls. Contains ls l) (sym goes.trail) (Contains-append_left old.assignment.trail.items goes.more l true_l))
kept_goes old new clause goes (both_signs l among other) = both_signs l among other

-- the end of propagation
pub propagation_ends : (old new : Search) (head : ℕ) → GoesOn old new → IsPropagatedTo head new → length new.assignment.trail.items ≤ head → Propagates old new None
propagation_ends old new head goes is all =
    let end = propagated_end new head is all in (
      goes,
      end,
      λ given kept. record {
        no_false = λ k d small. not_false new end (get_or given k d) (kept_goes old new (get_or given k d) goes (kept k d small));
        no_unit = λ k d small. not_unit new end (get_or given k d) (kept_goes old new (get_or given k d) goes (kept k d small));
      },
    )
