-- A level that begins with a literal that is chosen.
use Rattle.std.proofs.Common.{◌≡◌, ℕ, ◌<◌, ◌+◌, inl, inr, arith, Bool, not, List, [], ◌∷◌, length, get_or, sym, subst, ap, ◌∙◌, None, Some, length-append, length-set}
use Rattle.std.specs.Prelude.{Contains, slice_set, take}
use Rattle.std.specs.List.{All}
use Rattle.std.specs.Global.{Vec}
use Rattle.std.proofs.lemmas.List.{get_or_default, get_or_append_left, get_or_push, take-append-le}
use Rattle.std.proofs.lemmas.List.Elements.{Contains-append_left, Contains-push}
use Rattle.bt_cnf.specs.declared.literal.Lit.{Lit}
use Rattle.bt_cnf.specs.Truths.{IsTrueIn, IsFalseIn, IsUnset, unset}
use Rattle.bt_cnf.specs.Units.{opposite}
use Rattle.bt_watch.specs.declared.search.Search.{Search}
use Rattle.bt_watch.specs.Watched.{first, second}
use Rattle.bt_watch.specs.Levels.{BeginsLevel, start_of, front_of, AreLevels, IsOrdered, IsHeld, among_watched, alone, IsReady}
use Rattle.bt_watch.specs.Keeping.{kept_at, AreTrue, AreWatched, IsAtRest}
use Rattle.bt_watch.specs.Propagating.{IsWhole, root_of}
use Rattle.bt_watch.specs.Reasons.{AreReasons, AreSame}
use Rattle.bt_cnf.proofs.Lists.{lt_or, lt_or_eq, all_more}
use Rattle.bt_watch.proofs.Advancing.{room_kept}
use Rattle.bt_watch.proofs.Backjumped.{take_all_of, take_in}
use Rattle.bt_watch.proofs.Keeping.{rest_grows, truths_more, watched_grows}
use Rattle.bt_watch.proofs.Reasoning.{reasons_more}

module _ (all : List (List Lit)) (old new : Search) (l : Lit) (begins : BeginsLevel l old new) (ready : IsReady all (length old.assignment.trail.items) old) (below : l.var < length old.assignment.values)
    (none : IsUnset old.assignment.values l.var) where
  not_true : IsTrueIn old.assignment.values l → ⊥
  not_true is = no_some l.positive (sym none ∙ is)
    where
      no_some : (b : Bool) → None ≡ Some b → ⊥
      no_some b e = cc

  not_false : IsFalseIn old.assignment.values l → ⊥
  not_false is = no_some (not l.positive) (sym none ∙ is)
    where
      no_some : (b : Bool) → None ≡ Some b → ⊥
      no_some b e = cc

  pub same_values : length new.assignment.values ≡ length old.assignment.values
  same_values = ap length begins.assigns.values ∙ length-set old.assignment.values l.var (Some l.positive)

  pub fewer_unset : unset new.assignment.values < unset old.assignment.values
  fewer_unset =
      let room = room_kept old.assignment new.assignment l None begins.assigns below not_true not_false in
      omega (arith, room, ap length begins.assigns.trail, length-append old.assignment.trail.items (l ∷ []))

  longer : length new.assignment.trail.items ≡ length old.assignment.trail.items + 1
  longer = ap length begins.assigns.trail ∙ length-append old.assignment.trail.items (l ∷ [])

  count : length new.starts.items ≡ length old.starts.items + 1
  count = ap length begins.starts ∙ length-append old.starts.items (length old.assignment.trail.items ∷ [])

  start_before : (j : ℕ) → j < length old.starts.items → start_of new j ≡ start_of old j
  start_before j small =
      ap (λ ss. get_or ss j (length new.assignment.trail.items)) begins.starts
      ∙ get_or_append_left old.starts.items (length old.assignment.trail.items ∷ []) (length new.assignment.trail.items) j small
      ∙ get_or_default old.starts.items j (length new.assignment.trail.items) (length old.assignment.trail.items) small

  start_last : (j : ℕ) → j ≡ length old.starts.items → start_of new j ≡ length old.assignment.trail.items
  start_last j same =
      ap (λ ss. get_or ss j (length new.assignment.trail.items)) begins.starts ∙ get_or_push old.starts.items (length old.assignment.trail.items) (length new.assignment.trail.items) j (sym same)

  front_before : (j : ℕ) → j < length old.starts.items → front_of new j ≡ front_of old j
  front_before j small =
      ap (λ n. take n new.assignment.trail.items) (start_before j small) ∙ ap (take (start_of old j)) begins.assigns.trail
      ∙ take-append-le (start_of old j) old.assignment.trail.items (l ∷ []) (omega (arith, ready.ordered.levels.within j small))

  front_last : (j : ℕ) → j ≡ length old.starts.items → front_of new j ≡ old.assignment.trail.items
  front_last j same =
      ap (λ n. take n new.assignment.trail.items) (start_last j same) ∙ ap (take (length old.assignment.trail.items)) begins.assigns.trail
      ∙ take-append-le (length old.assignment.trail.items) old.assignment.trail.items (l ∷ []) (omega arith)
      ∙ take_all_of (length old.assignment.trail.items) old.assignment.trail.items (omega arith)

  in_part : (m : Lit) → Contains old.assignment.trail.items m → Contains ready.propagates.part m
  in_part m (k, small, is) = subst (Contains ready.propagates.part) is (ready.propagates.covers k m small small)

  all_rest : All (IsAtRest old.assignment.trail.items old.assignment.trail.items) old.clauses
  all_rest =
      all_more (IsAtRest ready.propagates.part old.assignment.trail.items) (IsAtRest old.assignment.trail.items old.assignment.trail.items) old.clauses
      (λ c rest. record {
        if_first = λ h. rest.if_first (in_part (opposite (first c)) h);
        if_second = λ h. rest.if_second (in_part (opposite (second c)) h);
      }) ready.propagates.rest

  levels : AreLevels new
  levels = record {
    within = λ j small. elim (lt_or_eq j (length old.starts.items) (omega (arith, small, count))) [
      | inl earlier ↦ omega (arith, start_before j earlier, ready.ordered.levels.within j earlier, longer)
      | inr last ↦ omega (arith, start_last j last, longer)
    ];
    ascend = λ i j order small. elim (lt_or_eq j (length old.starts.items) (omega (arith, small, count))) [
      | inl earlier ↦ omega (arith, start_before i (omega (arith, order, earlier)), start_before j earlier, ready.ordered.levels.ascend i j order earlier)
      | inr last ↦
          let small_i : i < length old.starts.items = omega (arith, order, last) in
          omega (arith, start_before i small_i, start_last j last, ready.ordered.levels.within i small_i)
    ];
    rests = λ j small.
        subst (All (IsAtRest (front_of new j) (front_of new j))) (sym begins.clauses)
        (elim (lt_or_eq j (length old.starts.items) (omega (arith, small, count))) [
          | inl earlier ↦ subst (λ front. All (IsAtRest front front) old.clauses) (sym (front_before j earlier)) (ready.ordered.levels.rests j earlier)
          | inr last ↦ subst (λ front. All (IsAtRest front front) old.clauses) (sym (front_last j last)) all_rest
        ]);
  }

  root : (m : Lit) → Contains (front_of old 0) m → Contains (front_of new 0) m
  root m among = elim (lt_or 0 (length old.starts.items)) [
    | inl some ↦ subst (λ front. Contains front m) (sym (front_before 0 some)) among
    | inr none_yet ↦ subst (λ front. Contains front m) (sym (front_last 0 (omega (arith, none_yet)))) (take_in (start_of old 0) old.assignment.trail.items m among)
  ]

  held : (clause : List Lit) → IsHeld old clause → IsHeld new clause
  held clause (among_watched id small same) =
      among_watched id (subst (λ cs. id < length cs) (sym begins.clauses) small) (subst (λ cs. AreSame clause (kept_at cs id)) (sym begins.clauses) same)
  held clause (alone m among only true_m) = alone m among only (root m true_m)

  whole : IsWhole new
  whole =
      let watched : AreWatched (root_of new) (length new.assignment.values) old.clauses old.watchers =
      subst (λ n. AreWatched (root_of new) n old.clauses old.watchers) (sym (ap length begins.assigns.values ∙ length-set old.assignment.values l.var (Some l.positive)))
      (watched_grows (root_of old) (root_of new) (length old.assignment.values) old.clauses old.watchers root ready.ordered.whole.watched) in
      record {
        watched =
            subst (λ cs. AreWatched (root_of new) (length new.assignment.values) cs new.watchers) (sym begins.clauses)
            (subst (AreWatched (root_of new) (length new.assignment.values) old.clauses) (sym begins.watchers) watched);
        truths =
            subst (λ vs. AreTrue vs new.assignment.trail.items) (sym begins.assigns.values)
            (subst (AreTrue (slice_set old.assignment.values l.var (Some l.positive))) (sym begins.assigns.trail)
            (truths_more old.assignment.values old.assignment.trail.items l ready.ordered.whole.truths below not_true not_false));
      }

  wider : AreReasons all new.starts.items old.assignment
  wider =
      let are = ready.ordered.reasoned in
      record {
        counted = are.counted;
        room = are.room;
        placed = are.placed;
        reasons = are.reasons;
        chosen = λ k small is.
            subst (λ ss. Contains ss k) (sym begins.starts) (Contains-append_left old.starts.items (length old.assignment.trail.items ∷ []) k (are.chosen k small is));
      }

  ordered : IsOrdered all new
  ordered = record {
    whole = whole;
    numbered = record {
      count = ap (λ (v : Vec ℕ). length v.items) begins.numbers ∙ ready.ordered.numbered.count ∙ sym (ap length begins.clauses);
      below = λ id small.
          subst (λ (v : Vec ℕ). get_or v.items id 0 < length all) (sym begins.numbers) (ready.ordered.numbered.below id (subst (λ cs. id < length cs) begins.clauses small));
      same = λ id small.
          subst (λ (v : Vec ℕ). AreSame (get_or all (get_or v.items id 0) []) (kept_at new.clauses id)) (sym begins.numbers)
          (subst (λ cs. AreSame (get_or all (get_or old.numbers.items id 0) []) (kept_at cs id)) (sym begins.clauses)
          (ready.ordered.numbered.same id (subst (λ cs. id < length cs) begins.clauses small)));
    };
    reasoned =
        reasons_more all new.starts.items old.assignment new.assignment l None begins.assigns ready.ordered.whole.truths below not_true not_false (λ n e. absurd (none_some n e))
        (λ e. subst (λ ss. Contains ss (length old.assignment.trail.items)) (sym begins.starts) (Contains-push old.starts.items (length old.assignment.trail.items))) wider;
    levels = levels;
  }
    where
      none_some : (n : ℕ) → None ≡ Some n → ⊥
      none_some n e = cc

  -- all is kept, and what was propagated is so still
  pub level_ready : IsReady all (length old.assignment.trail.items) new
  level_ready =
      let T = old.assignment.trail.items in
      let T' = new.assignment.trail.items in
      let longer_in : (m : Lit) → Contains T m → Contains T' m = λ m among. subst (λ ts. Contains ts m) (sym begins.assigns.trail) (Contains-append_left T (l ∷ []) m among) in
      record {
        ordered = ordered;
        held = all_more (IsHeld old) (IsHeld new) all held ready.held;
        propagates = record {
          whole = whole;
          part = ready.propagates.part;
          part_in = all_more (Contains T) (Contains T') ready.propagates.part longer_in ready.propagates.part_in;
          covers = λ k d small inside.
              subst (Contains ready.propagates.part) (sym (ap (λ ts. get_or ts k d) begins.assigns.trail ∙ get_or_append_left T (l ∷ []) d k small)) (ready.propagates.covers k d small small);
          rest =
              subst (All (IsAtRest ready.propagates.part T')) (sym begins.clauses)
              (all_more (IsAtRest ready.propagates.part T) (IsAtRest ready.propagates.part T') old.clauses (λ c rest. rest_grows ready.propagates.part T T' c longer_in rest) ready.propagates.rest);
        };
      }
