-- What backjumps, propagation and decisions keep of the levels.
use Rattle.std.proofs.Common.{◌≡◌, ℕ, ◌≤◌, ◌<◌, inl, inr, arith, List, [], length, get_or, min, sym, subst, ap, ◌∙◌, None, length-append}
use Rattle.std.specs.Prelude.{Contains, take}
use Rattle.std.specs.List.{All}
use Rattle.std.specs.Global.{Vec}
use Rattle.std.proofs.lemmas.List.{get_or_default, get_or-take, length-take, length-take-le, take-append-le}
use Rattle.bt_cnf.specs.declared.literal.Lit.{Lit}
use Rattle.bt_watch.specs.declared.search.Search.{Search}
use Rattle.bt_watch.specs.Watched.{no_lit}
use Rattle.bt_watch.specs.Keeping.{kept_at, AreWatched, IsAtRest}
use Rattle.bt_watch.specs.Levels.{start_of, front_of, AreLevels, IsOrdered, IsHeld, among_watched, alone, Backjumps}
use Rattle.bt_watch.specs.Propagating.{GoesOn, IsKept, IsPropagatedTo, IsWhole, root_of}
use Rattle.bt_watch.specs.Reasons.{AreSame, lit_at, IsReason, AreNumbered, IsReasoned}
use Rattle.bt_watch.specs.Propagating as kept
use Rattle.bt_cnf.proofs.Lists.{past, lt_or, lt_or_eq}
use Rattle.bt_watch.proofs.Advancing.{all_here, numbered_goes, root_more, same_permuted}
use Rattle.bt_watch.proofs.Backjumped.{take_take, take_all_of, take_in, place_in_take}
use Rattle.bt_watch.proofs.Keeping.{watched_grows}

-- levels begin within the trail
pub start_within : (s : Search) → AreLevels s → (level : ℕ) → start_of s level ≤ length s.assignment.trail.items
start_within s levels level = elim (lt_or level (length s.starts.items)) [
  | inl small ↦ omega (arith, levels.within level small)
  | inr none ↦ omega (arith, past s.starts.items level (length s.assignment.trail.items) none)
]

-- later levels begin later
pub start_rises : (s : Search) → AreLevels s → (i j : ℕ) → i ≤ j → start_of s i ≤ start_of s j
start_rises s levels i j order = elim (lt_or j (length s.starts.items)) [
  | inl small ↦ elim (lt_or_eq i j (omega (arith, order))) [
    | inl less ↦ omega (arith, levels.ascend i j less small)
    | inr same ↦ subst (λ k. start_of s i ≤ start_of s k) same (omega arith)
  ]
  | inr none ↦ omega (arith, start_within s levels i, past s.starts.items j (length s.assignment.trail.items) none)
]

-- what is held is kept
pub held_kept : (s : Search) (clause : List Lit) → IsHeld s clause → IsKept s clause
held_kept s clause (among_watched id small same) = kept.among_watched id small same
held_kept s clause (alone l among only true_l) = kept.alone l among only (take_in (start_of s 0) s.assignment.trail.items l true_l)

-- a backjump
module _ (all : List (List Lit)) (old new : Search) (level : ℕ) (ordered : IsOrdered all old) (back : Backjumps level old new) where
  pub size : length new.assignment.trail.items ≡ start_of old level
  size = ap length back.forgets.trail ∙ length-take-le (start_of old level) old.assignment.trail.items (start_within old ordered.levels level)

  pub count : length new.starts.items ≡ min level (length old.starts.items)
  count = ap length back.starts ∙ length-take level old.starts.items

  pub lit_same : (k : ℕ) → k < length new.assignment.trail.items → lit_at new.assignment.trail.items k ≡ lit_at old.assignment.trail.items k
  lit_same k small = ap (λ ts. lit_at ts k) back.forgets.trail ∙ get_or-take (start_of old level) old.assignment.trail.items k no_lit (omega (arith, small, size))

  -- a level that is left begins where it began
  pub start_same : (j : ℕ) → j < length new.starts.items → start_of new j ≡ start_of old j
  start_same j small =
      let low : j < level = omega (arith, small, count) in
      let inside : j < length old.starts.items = omega (arith, small, count) in
      get_or_default new.starts.items j (length new.assignment.trail.items) (length old.assignment.trail.items) small ∙ ap (λ ss. get_or ss j (length old.assignment.trail.items)) back.starts
      ∙ get_or-take level old.starts.items j (length old.assignment.trail.items) low

  below_level : (j : ℕ) → j < length new.starts.items → start_of old j < start_of old level
  below_level j small =
      let low : j < level = omega (arith, small, count) in
      let inside : j < length old.starts.items = omega (arith, small, count) in
      elim (lt_or level (length old.starts.items)) [
        | inl known ↦ ordered.levels.ascend j level low known
        | inr none ↦ omega (arith, ordered.levels.within j inside, past old.starts.items level (length old.assignment.trail.items) none)
      ]

  pub front_same : (j : ℕ) → j < length new.starts.items → front_of new j ≡ front_of old j
  front_same j small =
      ap (λ n. take n new.assignment.trail.items) (start_same j small) ∙ ap (take (start_of old j)) back.forgets.trail
      ∙ take_take (start_of old j) (start_of old level) old.assignment.trail.items (omega (arith, below_level j small))

  root_back : (l : Lit) → Contains (front_of old 0) l → Contains (front_of new 0) l
  root_back l among = elim (lt_or 0 (length new.starts.items)) [
    | inl some ↦ subst (λ front. Contains front l) (sym (front_same 0 some)) among
    | inr none ↦
        let whole : front_of new 0 ≡ take (start_of old level) old.assignment.trail.items =
        take_all_of (start_of new 0) new.assignment.trail.items (omega (arith, past new.starts.items 0 (length new.assignment.trail.items) none)) ∙ back.forgets.trail in
        let rises : start_of old 0 ≤ start_of old level = start_rises old ordered.levels 0 level (omega arith) in
        subst (λ front. Contains front l) (sym whole)
        (take_in (start_of old 0) (take (start_of old level) old.assignment.trail.items) l
        (subst (λ front. Contains front l) (sym (take_take (start_of old 0) (start_of old level) old.assignment.trail.items rises)) among))
  ]

  pub back_whole : IsWhole new
  back_whole = record {
    watched =
        subst (λ w. AreWatched (root_of new) (length new.assignment.values) new.clauses w) (sym back.watchers)
        (subst (λ cs. AreWatched (root_of new) (length new.assignment.values) cs old.watchers) (sym back.clauses)
        (subst (λ n. AreWatched (root_of new) n old.clauses old.watchers) (sym back.forgets.variables)
        (watched_grows (root_of old) (root_of new) (length old.assignment.values) old.clauses old.watchers root_back ordered.whole.watched)));
    truths = back.forgets.truths;
  }

  pub back_numbered : AreNumbered all new
  back_numbered =
      let ns : (id : ℕ) → get_or new.numbers.items id 0 ≡ get_or old.numbers.items id 0 = λ id. ap (λ (v : Vec ℕ). get_or v.items id 0) back.numbers in
      record {
        count = ap (λ (v : Vec ℕ). length v.items) back.numbers ∙ ordered.numbered.count ∙ sym (ap length back.clauses);
        below = λ id small. subst (λ n. n < length all) (sym (ns id)) (ordered.numbered.below id (subst (λ n. id < n) (ap length back.clauses) small));
        same = λ id small.
            subst (λ n. AreSame (get_or all n []) (kept_at new.clauses id)) (sym (ns id))
            (subst (λ cs. AreSame (get_or all (get_or old.numbers.items id 0) []) (kept_at cs id)) (sym back.clauses)
            (ordered.numbered.same id (subst (λ n. id < n) (ap length back.clauses) small)));
      }

  reason_same : (k : ℕ) → k < length new.assignment.trail.items → get_or new.assignment.reasons.items k None ≡ get_or old.assignment.reasons.items k None
  reason_same k small = ap (λ rs. get_or rs k None) back.forgets.reasons ∙ get_or-take (start_of old level) old.assignment.reasons.items k None (omega (arith, small, size))

  pub back_reasoned : IsReasoned all new
  back_reasoned =
      let old_size = start_within old ordered.levels level in
      record {
        counted =
            ap length back.forgets.reasons ∙ length-take-le (start_of old level) old.assignment.reasons.items (omega (arith, old_size, ordered.reasoned.counted)) ∙ sym size;
        room = ap (λ (v : Vec ℕ). length v.items) back.forgets.places ∙ ordered.reasoned.room ∙ sym back.forgets.variables;
        placed = λ k small.
            ap (λ (v : Vec ℕ). get_or v.items (lit_at new.assignment.trail.items k).var 0) back.forgets.places ∙ ap (λ (m : Lit). get_or old.assignment.places.items m.var 0) (lit_same k small)
            ∙ ordered.reasoned.placed k (omega (arith, small, size, old_size));
        reasons = λ k n small is.
            let inside : k < length old.assignment.trail.items = omega (arith, small, size, old_size) in
            let front : take k new.assignment.trail.items ≡ take k old.assignment.trail.items =
            ap (take k) back.forgets.trail ∙ take_take k (start_of old level) old.assignment.trail.items (omega (arith, small, size)) in
            subst (λ ts. IsReason all ts (lit_at new.assignment.trail.items k) n) (sym front)
            (subst (λ m. IsReason all (take k old.assignment.trail.items) m n) (sym (lit_same k small)) (ordered.reasoned.reasons k n inside (sym (reason_same k small) ∙ is)));
        chosen = λ k small is.
            let inside : k < length old.assignment.trail.items = omega (arith, small, size, old_size) in
            let (j, known, at) = ordered.reasoned.chosen k inside (sym (reason_same k small) ∙ is) in
            let starts_at : start_of old j ≡ k = get_or_default old.starts.items j (length old.assignment.trail.items) k known ∙ at in
            let low : j < level = elim (lt_or j level) [
              | inl less ↦ less
              | inr late ↦ absurd (omega (arith, start_rises old ordered.levels level j late, starts_at, small, size))
            ] in
            subst (λ ss. Contains ss k) (sym back.starts) (subst (Contains (take level old.starts.items)) at (place_in_take level old.starts.items j k low known));
      }

  pub back_levels : AreLevels new
  back_levels = record {
    within = λ j small. omega (arith, start_same j small, below_level j small, size);
    ascend = λ i j order small.
        let small_i : i < length new.starts.items = omega (arith, order, small) in
        omega (arith, start_same i small_i, start_same j small, ordered.levels.ascend i j order (omega (arith, small, count)));
    rests = λ j small.
        subst (λ cs. All (IsAtRest (front_of new j) (front_of new j)) cs) (sym back.clauses)
        (subst (λ front. All (IsAtRest front front) old.clauses) (sym (front_same j small)) (ordered.levels.rests j (omega (arith, small, count))));
  }

  pub back_ordered : IsOrdered all new
  back_ordered = record { whole = back_whole; numbered = back_numbered; reasoned = back_reasoned; levels = back_levels }

  -- what was true before the first choice still is
  pub back_held : (clause : List Lit) → IsHeld old clause → IsHeld new clause
  back_held clause (among_watched id small same) =
      among_watched id (subst (λ cs. id < length cs) (sym back.clauses) small) (subst (λ cs. AreSame clause (kept_at cs id)) (sym back.clauses) same)
  back_held clause (alone l among only true_l) = alone l among only (root_back l true_l)

  -- all is at rest there
  pub back_propagated : level < length old.starts.items → IsPropagatedTo (length new.assignment.trail.items) new
  back_propagated known = record {
    whole = back_whole;
    part = new.assignment.trail.items;
    part_in = all_here new.assignment.trail.items;
    covers = λ k d below small. (k, small, get_or_default new.assignment.trail.items k (get_or new.assignment.trail.items k d) d small);
    rest =
        subst (λ cs. All (IsAtRest new.assignment.trail.items new.assignment.trail.items) cs) (sym back.clauses)
        (subst (λ front. All (IsAtRest front front) old.clauses) (sym back.forgets.trail) (ordered.levels.rests level known));
  }

-- going on
module _ (all : List (List Lit)) (old new : Search) (ordered : IsOrdered all old) (goes : GoesOn old new) where
  starts_are : (j d : ℕ) → get_or new.starts.items j d ≡ get_or old.starts.items j d
  starts_are j d = ap (λ (v : Vec ℕ). get_or v.items j d) goes.starts

  starts_count : length new.starts.items ≡ length old.starts.items
  starts_count = ap (λ (v : Vec ℕ). length v.items) goes.starts

  trail_size : length old.assignment.trail.items ≤ length new.assignment.trail.items
  trail_size = omega (arith, ap length goes.trail, length-append old.assignment.trail.items goes.more)

  goes_start : (j : ℕ) → j < length old.starts.items → start_of new j ≡ start_of old j
  goes_start j small =
      starts_are j (length new.assignment.trail.items) ∙ get_or_default old.starts.items j (length new.assignment.trail.items) (length old.assignment.trail.items) small

  goes_front : (j : ℕ) → j < length old.starts.items → front_of new j ≡ front_of old j
  goes_front j small =
      ap (λ n. take n new.assignment.trail.items) (goes_start j small) ∙ ap (take (start_of old j)) goes.trail
      ∙ take-append-le (start_of old j) old.assignment.trail.items goes.more (omega (arith, ordered.levels.within j small))

  pub goes_levels : AreLevels new
  goes_levels = record {
    within = λ j small.
        let small_old : j < length old.starts.items = omega (arith, small, starts_count) in
        omega (arith, goes_start j small_old, ordered.levels.within j small_old, trail_size);
    ascend = λ i j order small.
        let small_j : j < length old.starts.items = omega (arith, small, starts_count) in
        let small_i : i < length old.starts.items = omega (arith, order, small_j) in
        omega (arith, goes_start i small_i, goes_start j small_j, ordered.levels.ascend i j order small_j);
    rests = λ j small.
        let small_old : j < length old.starts.items = omega (arith, small, starts_count) in
        subst (λ front. All (IsAtRest front front) new.clauses) (sym (goes_front j small_old))
        (goes.rests (front_of old j) (λ k d inside. take_in (start_of old j) old.assignment.trail.items (get_or (front_of old j) k d) (k, inside, get_or_default (front_of old j) k (get_or (front_of old j) k d) d inside))
        (ordered.levels.rests j small_old));
  }

  pub goes_ordered : IsWhole new → IsOrdered all new
  goes_ordered whole = record {
    whole = whole;
    numbered = numbered_goes all old new goes ordered.numbered;
    reasoned = goes.reasoned all ordered.numbered ordered.reasoned;
    levels = goes_levels;
  }

  pub goes_held : (clause : List Lit) → IsHeld old clause → IsHeld new clause
  goes_held clause (among_watched id small same) =
      among_watched id (subst (λ n. id < n) (sym goes.count) small) (same_permuted clause (kept_at old.clauses id) (kept_at new.clauses id) same (goes.clauses id))
  goes_held clause (alone l among only true_l) = alone l among only (root_more old new goes.more goes.starts goes.trail l true_l)
