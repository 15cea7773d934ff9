-- A clause that comes next: what holds of it holds of one with the same literals, and one that is false is kept.
use Rattle.std.proofs.Common.{◌≡◌, ℕ, ◌<◌, ◌+◌, ◌⊎◌, inl, inr, arith, List, [], ◌∷◌, ◌++◌, length, get_or, sym, subst, refl, ap, ◌∙◌, Option, None, Some, length-append}
use Rattle.std.specs.Prelude.{Contains, take}
use Rattle.std.specs.List.{All}
use Rattle.std.proofs.lemmas.List.{get_or_push}
use Rattle.std.proofs.lemmas.List.Elements.{All-contains, All-push, Contains-append_left, Contains-push}
use Rattle.bt_cnf.specs.declared.literal.Lit.{Lit}
use Rattle.bt_cnf.specs.Truths.{IsFalseIn}
use Rattle.bt_cnf.specs.Units.{opposite, clause_at}
use Rattle.bt_watch.specs.declared.assignment.Assignment.{Assignment}
use Rattle.bt_watch.specs.declared.search.Search.{Search}
use Rattle.bt_watch.specs.Keeping.{kept_at, IsWatchable}
use Rattle.bt_watch.specs.Levels.{IsHeld, among_watched, alone, IsInConflict, IsOrdered, Stands}
use Rattle.bt_watch.specs.Propagating.{Keeps}
use Rattle.bt_watch.specs.Reasons.{AreSame, AreNumbered, AreReasons, IsReason, lit_at}
use Rattle.bt_sat.specs.inner.Lemmas.{CanAdmit, IsFailing}
use Rattle.bt_cnf.proofs.Lists.{lt_or_eq, all_of, all_more}
use Rattle.bt_watch.proofs.Longer.{held_more}
use Rattle.bt_sat.proofs.Adopted.{clause_still, numbered_still, ordered_kept, reasons_still}

-- one clause for another with the same literals
module _ (all : List (List Lit)) (old new : List Lit) (same : AreSame new old) where
  size : length (all ++ new ∷ []) ≡ length (all ++ old ∷ [])
  size = length-append all (new ∷ []) ∙ sym (length-append all (old ∷ []))

  same_at : (n : ℕ) → n < length (all ++ old ∷ []) → AreSame (clause_at (all ++ new ∷ []) n) (clause_at (all ++ old ∷ []) n)
  same_at n small = elim (lt_or_eq n (length all) (omega (arith, small, length-append all (old ∷ [])))) [
    | inl earlier ↦
        subst (λ c. AreSame c (clause_at (all ++ old ∷ []) n)) (sym (clause_still all new n earlier))
        (subst (AreSame (clause_at all n)) (sym (clause_still all old n earlier)) (λ l. ((λ x. x), (λ x. x))))
    | inr last ↦
        subst (λ c. AreSame c (clause_at (all ++ old ∷ []) n)) (sym (get_or_push all new [] n (sym last)))
        (subst (AreSame new) (sym (get_or_push all old [] n (sym last))) same)
  ]

  every : (P : Lit → Type 0) (n : ℕ) → n < length (all ++ old ∷ []) → All P (clause_at (all ++ old ∷ []) n) → All P (clause_at (all ++ new ∷ []) n)
  every P n small are = all_of P (clause_at (all ++ new ∷ []) n) (λ m among. All-contains P (clause_at (all ++ old ∷ []) n) m are ((same_at n small m).0 among))

  reason : (before : List Lit) (l : Lit) (n : ℕ) → IsReason (all ++ old ∷ []) before l n → IsReason (all ++ new ∷ []) before l n
  reason before l n is = record {
    below = omega (arith, is.below, size);
    among = (same_at n is.below l).1 is.among;
    others = every (λ m. (m ≡ l) ⊎ Contains before (opposite m)) n is.below is.others;
  }

  reasons : (starts : List ℕ) (a : Assignment) → AreReasons (all ++ old ∷ []) starts a → AreReasons (all ++ new ∷ []) starts a
  reasons starts a are = record {
    counted = are.counted;
    room = are.room;
    placed = are.placed;
    reasons = λ k n small is. reason (take k a.trail.items) (lit_at a.trail.items k) n (are.reasons k n small is);
    chosen = are.chosen;
  }

  numbered : (s : Search) → AreNumbered (all ++ old ∷ []) s → AreNumbered (all ++ new ∷ []) s
  numbered s are = record {
    count = are.count;
    below = λ id small. omega (arith, are.below id small, size);
    same = λ id small l.
        let here = same_at (get_or s.numbers.items id 0) (are.below id small) l in
        let there = are.same id small l in
        ((λ among. there.0 (here.0 among)), (λ among. here.1 (there.1 among)));
  }

  ordered : (s : Search) → IsOrdered (all ++ old ∷ []) s → IsOrdered (all ++ new ∷ []) s
  ordered s is = record {
    whole = is.whole;
    numbered = numbered s is.numbered;
    reasoned = reasons s.starts.items s.assignment is.reasoned;
    levels = is.levels;
  }

  held_one : (s : Search) → IsHeld s old → IsHeld s new
  held_one s (among_watched id small are) = among_watched id small (λ l. ((λ among. (are l).0 ((same l).0 among)), (λ among. (same l).1 ((are l).1 among))))
  held_one s (alone l among only true_l) =
      alone l ((same l).1 among) (all_of (λ m. m ≡ l) new (λ m there. All-contains (λ x. x ≡ l) old m only ((same m).0 there))) true_l

  held : (s : Search) → All (IsHeld s) (all ++ old ∷ []) → All (IsHeld s) (all ++ new ∷ [])
  held s are = All-push (IsHeld s) all new
      (all_of (IsHeld s) all (λ c among. All-contains (IsHeld s) (all ++ old ∷ []) c are (Contains-append_left all (old ∷ []) c among)))
      (held_one s (All-contains (IsHeld s) (all ++ old ∷ []) old are (Contains-push all old)))

  -- where the search stands stays the same
  pub stands : (propagated : ℕ) (s : Search) (conflict : Option ℕ) → Stands (all ++ old ∷ []) propagated s conflict → Stands (all ++ new ∷ []) propagated s conflict
  stands propagated s None is = record { ordered = ordered s is.ordered; held = held s is.held; propagates = is.propagates }
  stands propagated s (Some number) is = record {
    ordered = ordered s is.ordered;
    held = λ some. held s (is.held some);
    below = omega (arith, is.below, size);
    falses = every (IsFalseIn s.assignment.values) number is.below is.falses;
  }

-- a clause whose literals are all false
module _ (all : List (List Lit)) (s : Search) (lits : List Lit) (is : IsFailing all s lits) where
  here : clause_at (all ++ lits ∷ []) (length all) ≡ lits
  here = get_or_push all lits [] (length all) refl

  -- a clause of one literal
  pub failed_one : length lits ≡ 1 → IsInConflict (all ++ lits ∷ []) (length all) s
  failed_one one = record {
    ordered = record {
      whole = is.ordered.whole;
      numbered = numbered_still all lits s is.ordered.numbered;
      reasoned = reasons_still all lits s.starts.items s.assignment is.ordered.reasoned;
      levels = is.ordered.levels;
    };
    held = λ some. absurd (omega (arith, some, is.alone one));
    below = omega (arith, length-append all (lits ∷ []));
    falses = subst (All (IsFalseIn s.assignment.values)) (sym here) is.falses;
  }

  -- the clause can be watched
  pub watchable : 1 < length lits → IsWatchable (length s.assignment.values) lits
  watchable many = record { two = omega (arith, many); below = is.below; differ = is.differ many }

  -- one of two or more
  pub failed_many : (mid : Search) → Keeps lits (length all) s mid → 1 < length lits → IsInConflict (all ++ lits ∷ []) (length all) mid
  failed_many mid keeps many =
      let more : length mid.clauses ≡ length s.clauses + 1 = ap length keeps.clauses ∙ length-append s.clauses (lits ∷ []) in
      let last : kept_at mid.clauses (length s.clauses) ≡ lits = ap (λ cs. kept_at cs (length s.clauses)) keeps.clauses ∙ get_or_push s.clauses lits [] (length s.clauses) refl in
      record {
        ordered = ordered_kept all s mid lits keeps is.ordered (λ j inside. record {
          if_first = λ h. absurd (is.first many j inside h);
          if_second = λ h. absurd (is.second many j inside h);
        });
        held = λ _. All-push (IsHeld mid) all lits (all_more (IsHeld s) (IsHeld mid) all (held_more s mid lits (length all) keeps) is.held)
            (among_watched (length s.clauses) (omega (arith, more)) (λ m. (
              (λ among. subst (λ c. Contains c m) (sym last) among),
              (λ among. subst (λ c. Contains c m) last among),
            )));
        below = omega (arith, length-append all (lits ∷ []));
        falses = subst (All (IsFalseIn mid.assignment.values)) (sym here) (subst (λ (a : Assignment). All (IsFalseIn a.values) lits) (sym keeps.assignment) is.falses);
      }

-- a clause that can be added, and whose first literal is false, is false
pub failing : (all : List (List Lit)) (s : Search) (lits : List Lit) → CanAdmit all s lits → IsFalseIn s.assignment.values (lit_at lits 0) → IsFailing all s lits
failing all s lits can first = elim can [ inl asserts ↦ absurd (asserts.not_false first) | inr is ↦ is ]
