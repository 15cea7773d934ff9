-- A search with one literal more on its trail, and with one clause more.
use Rattle.std.proofs.Common.{◌≡◌, ℕ, ◌<◌, ◌+◌, inl, inr, arith, List, [], ◌∷◌, length, get_or, sym, subst, refl, ap, ◌∙◌, Option, None, Some, length-append, length-set}
use Rattle.std.specs.Prelude.{Contains, take, slice_set}
use Rattle.std.specs.List.{All}
use Rattle.std.specs.Global.{Vec}
use Rattle.std.proofs.lemmas.List.{get_or_default, get_or_append_left, get_or_push, take-append-le}
use Rattle.bt_cnf.specs.declared.literal.Lit.{Lit}
use Rattle.bt_cnf.specs.Truths.{IsTrueIn, IsFalseIn}
use Rattle.bt_cnf.specs.Units.{clause_at}
use Rattle.bt_watch.specs.declared.assignment.Assignment.{Assignment}
use Rattle.bt_watch.specs.declared.search.Search.{Search}
use Rattle.bt_watch.specs.Assigning.{Assigns}
use Rattle.bt_watch.specs.Keeping.{kept_at, AreTrue, AreWatched, IsAtRest}
use Rattle.bt_watch.specs.Levels.{start_of, front_of, AreLevels, IsOrdered, IsHeld, among_watched, alone}
use Rattle.bt_watch.specs.Propagating.{Keeps, root_of}
use Rattle.bt_watch.specs.Reasons.{AreSame, IsReason, AreNumbered}
use Rattle.bt_cnf.proofs.Lists.{lt_or_eq}
use Rattle.bt_watch.proofs.Advancing.{root_more}
use Rattle.bt_watch.proofs.Keeping.{truths_more, watched_grows}
use Rattle.bt_watch.proofs.Reasoning.{reasons_more}

-- the trail has one literal more, which was unset
module _ (old new : Search) (l : Lit) (reason : Option ℕ) (assigns : Assigns old.assignment new.assignment l reason) (starts : new.starts ≡ old.starts) (clauses : new.clauses ≡ old.clauses) (levels : AreLevels old) where
  pub longer : length new.assignment.trail.items ≡ length old.assignment.trail.items + 1
  longer = ap length assigns.trail ∙ length-append old.assignment.trail.items (l ∷ [])

  count : length new.starts.items ≡ length old.starts.items
  count = ap (λ (v : Vec ℕ). length v.items) starts

  start_same : (j : ℕ) → j < length old.starts.items → start_of new j ≡ start_of old j
  start_same j small =
      ap (λ (v : Vec ℕ). get_or v.items j (length new.assignment.trail.items)) starts ∙ get_or_default old.starts.items j (length new.assignment.trail.items) (length old.assignment.trail.items) small

  pub front_longer : (j : ℕ) → j < length old.starts.items → front_of new j ≡ front_of old j
  front_longer j small =
      ap (λ n. take n new.assignment.trail.items) (start_same j small) ∙ ap (take (start_of old j)) assigns.trail
      ∙ take-append-le (start_of old j) old.assignment.trail.items (l ∷ []) (omega (arith, levels.within j small))

  pub levels_longer : AreLevels new
  levels_longer = record {
    within = λ j small. omega (arith, start_same j (omega (arith, small, count)), levels.within j (omega (arith, small, count)), longer);
    ascend = λ i j order small.
        let small_j : j < length old.starts.items = omega (arith, small, count) in
        omega (arith, start_same i (omega (arith, order, small_j)), start_same j small_j, levels.ascend i j order small_j);
    rests = λ j small.
        let small_old : j < length old.starts.items = omega (arith, small, count) in
        subst (λ cs. All (IsAtRest (front_of new j) (front_of new j)) cs) (sym clauses)
        (subst (λ front. All (IsAtRest front front) old.clauses) (sym (front_longer j small_old)) (levels.rests j small_old));
  }

  pub root_longer : (m : Lit) → Contains (front_of old 0) m → Contains (front_of new 0) m
  root_longer = root_more old new (l ∷ []) starts assigns.trail

  pub held_longer : (clause : List Lit) → IsHeld old clause → IsHeld new clause
  held_longer clause (among_watched id small same) =
      among_watched id (subst (λ cs. id < length cs) (sym clauses) small) (subst (λ cs. AreSame clause (kept_at cs id)) (sym clauses) same)
  held_longer clause (alone m among only true_m) = alone m among only (root_longer m true_m)

  pub truths_longer : AreTrue old.assignment.values old.assignment.trail.items → l.var < length old.assignment.values → (IsTrueIn old.assignment.values l → ⊥) → (IsFalseIn old.assignment.values l → ⊥)
      → AreTrue new.assignment.values new.assignment.trail.items
  truths_longer truths below not_true not_false =
      subst (λ vs. AreTrue vs new.assignment.trail.items) (sym assigns.values)
      (subst (AreTrue (slice_set old.assignment.values l.var (Some l.positive))) (sym assigns.trail) (truths_more old.assignment.values old.assignment.trail.items l truths below not_true not_false))

  pub variables_same : length new.assignment.values ≡ length old.assignment.values
  variables_same = ap length assigns.values ∙ length-set old.assignment.values l.var (Some l.positive)

-- one clause more that is watched, whose number is known
module _ (old new : Search) (lits : List Lit) (number : ℕ) (keeps : Keeps lits number old new) where
  pub numbered_kept : (all : List (List Lit)) → number < length all → AreSame (clause_at all number) lits → AreNumbered all old → AreNumbered all new
  numbered_kept all among same numbered =
      let count = numbered.count in
      let more : length new.clauses ≡ length old.clauses + 1 = ap length keeps.clauses ∙ length-append old.clauses (lits ∷ []) in
      let before : (id : ℕ) → id < length old.clauses → get_or new.numbers.items id 0 ≡ get_or old.numbers.items id 0 =
      λ id small. ap (λ ns. get_or ns id 0) keeps.numbers ∙ get_or_append_left old.numbers.items (number ∷ []) 0 id (omega (arith, small, count)) in
      let here : (id : ℕ) → id ≡ length old.clauses → get_or new.numbers.items id 0 ≡ number =
      λ id same. ap (λ ns. get_or ns id 0) keeps.numbers ∙ get_or_push old.numbers.items number 0 id (count ∙ sym same) in
      let kept_before : (id : ℕ) → id < length old.clauses → kept_at new.clauses id ≡ kept_at old.clauses id =
      λ id small. ap (λ cs. kept_at cs id) keeps.clauses ∙ get_or_append_left old.clauses (lits ∷ []) [] id small in
      let kept_here : (id : ℕ) → id ≡ length old.clauses → kept_at new.clauses id ≡ lits = λ id same. ap (λ cs. kept_at cs id) keeps.clauses ∙ get_or_push old.clauses lits [] id (sym same) in
      record {
        count = omega (arith, ap length keeps.numbers, length-append old.numbers.items (number ∷ []), count, more);
        below = λ id small. elim (lt_or_eq id (length old.clauses) (omega (arith, small, more))) [
          | inl earlier ↦ omega (arith, before id earlier, numbered.below id earlier)
          | inr last ↦ omega (arith, here id last, among)
        ];
        same = λ id small. elim (lt_or_eq id (length old.clauses) (omega (arith, small, more))) [
          | inl earlier ↦
              subst (λ n. AreSame (clause_at all n) (kept_at new.clauses id)) (sym (before id earlier))
              (subst (AreSame (clause_at all (get_or old.numbers.items id 0))) (sym (kept_before id earlier)) (numbered.same id earlier))
          | inr last ↦
              subst (λ n. AreSame (clause_at all n) (kept_at new.clauses id)) (sym (here id last))
              (subst (AreSame (clause_at all number)) (sym (kept_here id last)) same)
        ];
      }

  pub held_more : (clause : List Lit) → IsHeld old clause → IsHeld new clause
  held_more clause (among_watched id small same) =
      let more = ap length keeps.clauses ∙ length-append old.clauses (lits ∷ []) in
      among_watched id (omega (arith, small, more))
      (subst (AreSame clause) (sym (ap (λ cs. kept_at cs id) keeps.clauses ∙ get_or_append_left old.clauses (lits ∷ []) [] id small)) same)
  held_more clause (alone m among only true_m) =
      alone m among only (subst (λ (a : Assignment). Contains (take (get_or new.starts.items 0 (length a.trail.items)) a.trail.items) m) (sym keeps.assignment)
      (subst (λ (v : Vec ℕ). Contains (take (get_or v.items 0 (length old.assignment.trail.items)) old.assignment.trail.items) m) (sym keeps.starts) true_m))

-- a search with another assignment
abbrev pub with_assignment : Search → Assignment → Search
with_assignment s a = record { assignment = a; clauses = s.clauses; watchers = s.watchers; numbers = s.numbers; starts = s.starts }

-- the trail is in order with an unset literal more, which has its reason
pub ordered_longer : (all : List (List Lit)) (s : Search) (a : Assignment) (l : Lit) (reason : Option ℕ) → IsOrdered all s → Assigns s.assignment a l reason → l.var < length s.assignment.values
    → (IsTrueIn s.assignment.values l → ⊥) → (IsFalseIn s.assignment.values l → ⊥)
    → ((n : ℕ) → reason ≡ Some n → IsReason all s.assignment.trail.items l n) → (reason ≡ None → Contains s.starts.items (length s.assignment.trail.items)) → IsOrdered all (with_assignment s a)
ordered_longer all s a l reason ordered assigns below not_true not_false by chosen =
    let new = with_assignment s a in
    record {
      whole = record {
        watched =
            subst (λ n. AreWatched (root_of new) n s.clauses s.watchers) (sym (variables_same s new l reason assigns refl refl ordered.levels))
            (watched_grows (root_of s) (root_of new) (length s.assignment.values) s.clauses s.watchers (root_longer s new l reason assigns refl refl ordered.levels) ordered.whole.watched);
        truths = truths_longer s new l reason assigns refl refl ordered.levels ordered.whole.truths below not_true not_false;
      };
      numbered = record { count = ordered.numbered.count; below = ordered.numbered.below; same = ordered.numbered.same };
      reasoned = reasons_more all s.starts.items s.assignment a l reason assigns ordered.whole.truths below not_true not_false by chosen ordered.reasoned;
      levels = levels_longer s new l reason assigns refl refl ordered.levels;
    }
