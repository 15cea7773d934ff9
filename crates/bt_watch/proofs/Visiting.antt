-- One visit after the other.
use Rattle.std.proofs.Common.{◌≡◌, ◌≢◌, ℕ, ◌≤◌, ◌<◌, ◌+◌, inl, inr, arith, Bool, List, [], ◌∷◌, ◌++◌, length, get_or, sym, subst, refl, ap, ◌∙◌, Option, Some, length-set}
use Rattle.std.specs.Prelude.{Contains, slice_set}
use Rattle.std.specs.List.{All}
use Rattle.std.proofs.lemmas.List.{get_or_default, get_or-set_same, length-map}
use Rattle.std.proofs.lemmas.List.Elements.{All-contains, All-set, Contains-append_left, Contains-push}
use Rattle.bt_cnf.specs.declared.literal.Lit.{Lit}
use Rattle.bt_cnf.specs.Truths.{IsTrueIn, IsFalseIn}
use Rattle.bt_cnf.specs.Units.{opposite}
use Rattle.bt_watch.specs.declared.clause_pool.Watch.{Watch}
use Rattle.bt_watch.specs.Watched.{no_lit, first, second}
use Rattle.bt_watch.specs.inner.VisitingClause.{KeepsPair, LeavesOne, WatchesNow}
use Rattle.bt_watch.specs.Keeping.{IsWatchable, IsListed, IsFollowed, kept_at, IsBlocked, AreWatched, AreTrue, IsAtRest, IsSatisfied}
use Rattle.bt_watch.specs.inner.Visiting.{IsDone, IsVisiting}
use Rattle.bt_watch.specs.Watchers.{watchers, watches_of}
use Rattle.bt_watch.specs.inner.Watchers.{Resets, Watches, Unwatches}
use Rattle.bt_watch.specs.WatchersParts.{WatchersParts}
use Rattle.bt_cnf.proofs.Lists.{lit_or, nat_or, lt_or, all_more}
use Rattle.bt_watch.proofs.Keeping.{blocked_set, watchable_left, satisfied_kept, satisfied_grows, watched_grows, rest_kept, rest_left, rest_grows, done_grows, watched_kept, kept_set, truths_more, without_keeps}
use Rattle.bt_watch.proofs.Watches.{number, no_watch, inside_list, number_at, numbers_added, numbers_others, numbers_without, numbers_reset, watch_grows, all_less, all_more_watches, all_reset}

-- the first literal of a clause is one of it
pub first_among : (clause : List Lit) → 2 ≤ length clause → Contains clause (first clause)
first_among clause two = (0, omega (arith, two), get_or_default clause 0 (first clause) no_lit (omega (arith, two)))

-- a clause is done that watches the literal no longer
pub done_none : (false_lit : Lit) (trail clause : List Lit) → first clause ≢ false_lit → second clause ≢ false_lit → IsDone false_lit trail clause
done_none false_lit trail clause not_first not_second = record { if_first = λ e. absurd (not_first e); if_second = λ e. absurd (not_second e) }

-- the first of a pair that lost the literal isn't it
first_left : (vars : ℕ) (false_lit : Lit) (old new : List Lit) → IsWatchable vars old → LeavesOne false_lit old new → first new ≢ false_lit
first_left vars false_lit old new is left e = elim left.pair [
  | inl pair ↦ is.differ (sym pair.0 ∙ e ∙ sym pair.1)
  | inr pair ↦ is.differ (pair.1 ∙ sym e ∙ pair.0)
]

-- the lists without one that a clause no longer watches
unwatched : (w w' : WatchersParts) (false_lit m : Lit) (place id x : ℕ) → Unwatches w w' false_lit place → place < length (watchers w false_lit) → get_or (watchers w false_lit) place 0 ≡ id
    → ((m ≡ false_lit) → id ≢ x) → Contains (watchers w m) x → Contains (watchers w' m) x
unwatched w w' false_lit m place id x un inside is apart among =
    elim (lit_or m false_lit) [
      | inl same ↦
          subst (λ k. Contains (watchers w' k) x) (sym same)
          (without_keeps place (watchers w false_lit) (watchers w' false_lit) x (numbers_without place (watches_of w false_lit) (watches_of w' false_lit) un.without) (subst (λ k. Contains (watchers w k) x) same among)
          (λ e. apart same (sym is ∙ get_or_default (watchers w false_lit) place 0 x inside ∙ e)) inside)
      | inr differs ↦ subst (λ ids. Contains ids x) (sym (numbers_others w w' false_lit m un.one differs)) among
    ]

-- all is kept where the clause watches another literal now
watched_moved : (base : List Lit) (vars : ℕ) (values : List (Option Bool)) (clauses : List (List Lit)) (w w₁ w₂ : WatchersParts) (id : ℕ) (new : List Lit) (l other false_lit : Lit) (place : ℕ)
    → AreWatched base vars clauses w → id < length clauses → LeavesOne false_lit (kept_at clauses id) new → first new ≡ other → WatchesNow values new l → IsFalseIn values false_lit
    → Watches w w₁ l (record { id = id; blocker = other }) → Unwatches w₁ w₂ false_lit place → place < length (watchers w false_lit) → get_or (watchers w false_lit) place 0 ≡ id
    → AreWatched base vars (slice_set clauses id new) w₂
watched_moved base vars values clauses w w₁ w₂ id new l other false_lit place are below left stays now falsity one un inside is =
    let old = kept_at clauses id in
    let size : length (slice_set clauses id new) ≡ length clauses = length-set clauses id new in
    let apart : l ≢ false_lit = λ e. now.not_false (subst (IsFalseIn values) (sym e) falsity) in
    let watch : Watch = record { id = id; blocker = other } in
    let same : watchers w₁ false_lit ≡ watchers w false_lit = numbers_others w w₁ l false_lit one.one (λ e. apart (sym e)) in
    let inside₁ : place < length (watchers w₁ false_lit) = subst (λ ids. place < length ids) (sym same) inside in
    let is₁ : get_or (watchers w₁ false_lit) place 0 ≡ id = ap (λ ids. get_or ids place 0) same ∙ is in
    let old_is : IsWatchable vars old = are.watchable id [] below in
    let not_first : first new ≢ false_lit = first_left vars false_lit old new old_is left in
    let first_was : IsListed w id old → Contains (watchers w (first new)) id = λ listed. elim left.pair [
      | inl pair ↦ subst (λ m. Contains (watchers w m) id) (sym pair.0) listed.by_first
      | inr pair ↦ subst (λ m. Contains (watchers w m) id) (sym pair.0) listed.by_second
    ] in
    let new_listed : IsListed w id old → IsListed w₂ id new = λ listed. record {
      by_first = unwatched w₁ w₂ false_lit (first new) place id id un inside₁ is₁ (λ e. absurd (not_first e)) (watch_grows w w₁ l (first new) watch id one (first_was listed));
      by_second =
          unwatched w₁ w₂ false_lit (second new) place id id un inside₁ is₁ (λ e. absurd (apart (sym now.stands ∙ e)))
          (subst (λ ids. Contains ids id) (sym (ap (watchers w₁) now.stands ∙ numbers_added w w₁ l watch one)) (Contains-push (watchers w l) id));
    } in
    let here : IsFollowed base w₂ id new = elim (are.listed id below) [
      | inl listed ↦ inl (new_listed listed)
      | inr satisfied ↦ inr (satisfied_kept base old new left.permuted satisfied)
    ] in
    let others : (n : ℕ) → n < length clauses → n ≢ id → IsFollowed base w₂ n (kept_at clauses n) = λ n small differs. elim (are.listed n small) [
      | inl listed ↦ inl (record {
        by_first =
            unwatched w₁ w₂ false_lit (first (kept_at clauses n)) place id n un inside₁ is₁ (λ _ e. differs (sym e))
            (watch_grows w w₁ l (first (kept_at clauses n)) watch n one listed.by_first);
        by_second =
            unwatched w₁ w₂ false_lit (second (kept_at clauses n)) place id n un inside₁ is₁ (λ _ e. differs (sym e))
            (watch_grows w w₁ l (second (kept_at clauses n)) watch n one listed.by_second);
      })
      | inr satisfied ↦ inr satisfied
    ] in
    let good = watchable_left vars values false_lit old new l old_is left now in
    let blocks : IsBlocked (slice_set clauses id new) watch = record {
      below = subst (λ n. id < n) (sym size) below;
      among = subst (λ c. Contains c other) (sym (get_or-set_same clauses id new [] below)) (subst (Contains new) stays (first_among new good.two));
    } in
    record {
      lists = un.one.size ∙ one.one.size ∙ are.lists;
      watchable = All-set (IsWatchable vars) clauses id new good are.watchable;
      listed = λ n small. kept_set (IsFollowed base w₂) clauses id n new below here (others n (subst (λ count. n < count) size small));
      blocked =
          all_less (IsBlocked (slice_set clauses id new)) w₁ w₂ false_lit place un (inside_list (watches_of w₁ false_lit) place inside₁)
          (all_more_watches (IsBlocked (slice_set clauses id new)) w w₁ l watch one blocks
          (λ m k d small. blocked_set clauses id new (get_or (watches_of w m) k d) below left.permuted (are.blocked m k d small)));
    }

-- all is kept where a clause leaves a list that it watches no longer
watched_strayed : (base : List Lit) (vars : ℕ) (clauses : List (List Lit)) (w w' : WatchersParts) (false_lit : Lit) (place id : ℕ) → AreWatched base vars clauses w → Unwatches w w' false_lit place
    → place < length (watchers w false_lit) → get_or (watchers w false_lit) place 0 ≡ id → first (kept_at clauses id) ≢ false_lit → second (kept_at clauses id) ≢ false_lit → AreWatched base vars clauses w'
watched_strayed base vars clauses w w' false_lit place id are un inside is not_first not_second =
    let here : (other : ℕ) (m : Lit) → m ≡ first (kept_at clauses other) → m ≡ false_lit → id ≢ other = λ other m e at same. not_first (ap (λ n. first (kept_at clauses n)) same ∙ sym e ∙ at) in
    let there : (other : ℕ) (m : Lit) → m ≡ second (kept_at clauses other) → m ≡ false_lit → id ≢ other = λ other m e at same. not_second (ap (λ n. second (kept_at clauses n)) same ∙ sym e ∙ at) in
    record {
      lists = un.one.size ∙ are.lists;
      watchable = are.watchable;
      listed = λ other small. elim (are.listed other small) [
        | inl listed ↦ inl (record {
          by_first = unwatched w w' false_lit (first (kept_at clauses other)) place id other un inside is (here other (first (kept_at clauses other)) refl) listed.by_first;
          by_second = unwatched w w' false_lit (second (kept_at clauses other)) place id other un inside is (there other (second (kept_at clauses other)) refl) listed.by_second;
        })
        | inr satisfied ↦ inr satisfied
      ];
      blocked = all_less (IsBlocked clauses) w w' false_lit place un (inside_list (watches_of w false_lit) place inside) are.blocked;
    }

-- all is kept where a clause leaves a list, of which a literal is true for good
watched_dropped : (base : List Lit) (vars : ℕ) (clauses : List (List Lit)) (w w' : WatchersParts) (false_lit : Lit) (place id : ℕ) → AreWatched base vars clauses w → Unwatches w w' false_lit place
    → place < length (watchers w false_lit) → get_or (watchers w false_lit) place 0 ≡ id → IsSatisfied base (kept_at clauses id) → AreWatched base vars clauses w'
watched_dropped base vars clauses w w' false_lit place id are un inside is satisfied = record {
  lists = un.one.size ∙ are.lists;
  watchable = are.watchable;
  listed = λ other small. elim (nat_or other id) [
    | inl same ↦ inr (subst (λ n. IsSatisfied base (kept_at clauses n)) (sym same) satisfied)
    | inr differs ↦ elim (are.listed other small) [
      | inl listed ↦ inl (record {
        by_first = unwatched w w' false_lit (first (kept_at clauses other)) place id other un inside is (λ _ e. differs (sym e)) listed.by_first;
        by_second = unwatched w w' false_lit (second (kept_at clauses other)) place id other un inside is (λ _ e. differs (sym e)) listed.by_second;
      })
      | inr good ↦ inr good
    ]
  ];
  blocked = all_less (IsBlocked clauses) w w' false_lit place un (inside_list (watches_of w false_lit) place inside) are.blocked;
}

-- the lists name clauses
pub named_below : (base : List Lit) (vars : ℕ) (clauses : List (List Lit)) (w : WatchersParts) (false_lit : Lit) (place id : ℕ) → AreWatched base vars clauses w → place < length (watchers w false_lit)
    → get_or (watchers w false_lit) place 0 ≡ id → id < length clauses
named_below base vars clauses w false_lit place id are inside is =
    let small : place < length (watches_of w false_lit) = inside_list (watches_of w false_lit) place inside in
    subst (λ n. n < length clauses) (sym (number_at (watches_of w false_lit) place small) ∙ is) (are.blocked false_lit place no_watch small).below

-- the clauses on a list so far are done still, where one of them was changed and is done
done_set : (false_lit : Lit) (trail : List Lit) (clauses : List (List Lit)) (ids : List ℕ) (id place : ℕ) (new : List Lit) → id < length clauses → IsDone false_lit trail new
    → ((k : ℕ) → k < place → k < length ids → IsDone false_lit trail (kept_at clauses (get_or ids k 0)))
    → (k : ℕ) → k < place → k < length ids → IsDone false_lit trail (kept_at (slice_set clauses id new) (get_or ids k 0))
done_set false_lit trail clauses ids id place new below new_done done k before inside =
    kept_set (λ _ c. IsDone false_lit trail c) clauses id (get_or ids k 0) new below new_done (λ _. done k before inside)

-- with the one that was changed
done_next : (false_lit : Lit) (trail : List Lit) (clauses : List (List Lit)) (ids : List ℕ) (id place : ℕ) (new : List Lit) → id < length clauses → IsDone false_lit trail new → get_or ids place 0 ≡ id
    → ((k : ℕ) → k < place → k < length ids → IsDone false_lit trail (kept_at clauses (get_or ids k 0)))
    → (k : ℕ) → k < place + 1 → k < length ids → IsDone false_lit trail (kept_at (slice_set clauses id new) (get_or ids k 0))
done_next false_lit trail clauses ids id place new below new_done is done k before inside =
    kept_set (λ _ c. IsDone false_lit trail c) clauses id (get_or ids k 0) new below new_done
    (λ differs. elim (lt_or k place) [
      | inl earlier ↦ done k earlier inside
      | inr late ↦
          let here : k ≡ place = omega (arith, before, late) in
          absurd (differs (ap (λ n. get_or ids n 0) here ∙ is))
    ])

module _ (part : List Lit) (false_lit : Lit) (place : ℕ) (base : List Lit) (values : List (Option Bool)) (trail : List Lit) (clauses : List (List Lit)) (w : WatchersParts) (id : ℕ) (new : List Lit)
    (v : IsVisiting part false_lit place base values trail clauses w) (inside : place < length (watchers w false_lit)) (is : get_or (watchers w false_lit) place 0 ≡ id) where
  below : id < length clauses
  below = named_below base (length values) clauses w false_lit place id v.watched inside is

  -- the clause keeps its pair, and nothing is said of it
  pub keeps : KeepsPair (kept_at clauses id) new → IsDone false_lit trail new → IsVisiting part false_lit place base values trail (slice_set clauses id new) w
  unfolding below
  keeps kept done = record {
    watched = watched_kept base (length values) clauses w id new v.watched below kept;
    base_in = v.base_in;
    truths = v.truths;
    rest = All-set (IsAtRest part trail) clauses id new (rest_kept part trail (kept_at clauses id) new (v.rest id [] below) kept) v.rest;
    part_in = v.part_in;
    lit_is_false = v.lit_is_false;
    done = done_set false_lit trail clauses (watchers w false_lit) id place new below done v.done;
  }

  -- the clause keeps its pair, and is done
  pub goes_on : KeepsPair (kept_at clauses id) new → IsDone false_lit trail new → IsVisiting part false_lit (place + 1) base values trail (slice_set clauses id new) w
  unfolding below
  goes_on kept done = record {
    watched = watched_kept base (length values) clauses w id new v.watched below kept;
    base_in = v.base_in;
    truths = v.truths;
    rest = All-set (IsAtRest part trail) clauses id new (rest_kept part trail (kept_at clauses id) new (v.rest id [] below) kept) v.rest;
    part_in = v.part_in;
    lit_is_false = v.lit_is_false;
    done = done_next false_lit trail clauses (watchers w false_lit) id place new below done is v.done;
  }

  -- the clause watches another literal now
  pub moves : (w₁ w₂ : WatchersParts) (l other : Lit) → LeavesOne false_lit (kept_at clauses id) new → first new ≡ other → WatchesNow values new l → Watches w w₁ l (record { id = id; blocker = other })
      → Unwatches w₁ w₂ false_lit place
      → IsVisiting part false_lit place base values trail (slice_set clauses id new) w₂
  unfolding below
  moves w₁ w₂ l other left stands now one un =
      let apart : l ≢ false_lit = λ e. now.not_false (subst (IsFalseIn values) (sym e) v.lit_is_false) in
      let same : watchers w₁ false_lit ≡ watchers w false_lit = numbers_others w w₁ l false_lit one.one (λ e. apart (sym e)) in
      let not_first : first new ≢ false_lit = first_left (length values) false_lit (kept_at clauses id) new (v.watched.watchable id [] below) left in
      let not_second : second new ≢ false_lit = λ e. apart (sym now.stands ∙ e) in
      record {
        watched = watched_moved base (length values) values clauses w w₁ w₂ id new l other false_lit place v.watched below left stands now v.lit_is_false one un inside is;
        base_in = v.base_in;
        truths = v.truths;
        rest =
            All-set (IsAtRest part trail) clauses id new
            (rest_left values part trail false_lit (kept_at clauses id) new l v.truths.true_in v.part_in (v.rest id [] below) left now) v.rest;
        part_in = v.part_in;
        lit_is_false = v.lit_is_false;
        done = λ k before small.
            let early : k + 1 < length (watchers w₁ false_lit) = subst (λ ids. k + 1 < length ids) (sym same) (omega (arith, before, inside)) in
            let stays : get_or (watchers w₂ false_lit) k 0 ≡ get_or (watchers w false_lit) k 0 =
            (numbers_without place (watches_of w₁ false_lit) (watches_of w₂ false_lit) un.without).others k 0 (λ e. absurd (omega (arith, e, before))) early ∙ ap (λ ids. get_or ids k 0) same in
            subst (λ n. IsDone false_lit trail (kept_at (slice_set clauses id new) n)) (sym stays)
            (done_set false_lit trail clauses (watchers w false_lit) id place new below (done_none false_lit trail new not_first not_second) v.done k before (omega (arith, before, inside)));
      }

-- a clause leaves a list that it watches no longer
pub strays : (part : List Lit) (false_lit : Lit) (place : ℕ) (base : List Lit) (values : List (Option Bool)) (trail : List Lit) (clauses : List (List Lit)) (w w' : WatchersParts) (id : ℕ)
    → IsVisiting part false_lit place base values trail clauses w → place < length (watchers w false_lit) → get_or (watchers w false_lit) place 0 ≡ id
    → first (kept_at clauses id) ≢ false_lit → second (kept_at clauses id) ≢ false_lit → Unwatches w w' false_lit place → IsVisiting part false_lit place base values trail clauses w'
strays part false_lit place base values trail clauses w w' id v inside is not_first not_second un = record {
  watched = watched_strayed base (length values) clauses w w' false_lit place id v.watched un inside is not_first not_second;
  base_in = v.base_in;
  truths = v.truths;
  rest = v.rest;
  part_in = v.part_in;
  lit_is_false = v.lit_is_false;
  done = λ k before small.
      let stays : get_or (watchers w' false_lit) k 0 ≡ get_or (watchers w false_lit) k 0 =
      (numbers_without place (watches_of w false_lit) (watches_of w' false_lit) un.without).others k 0 (λ e. absurd (omega (arith, e, before))) (omega (arith, before, inside)) in
      subst (λ n. IsDone false_lit trail (kept_at clauses n)) (sym stays) (v.done k before (omega (arith, before, inside)));
}

-- a literal that was unset is true
pub grows : (part : List Lit) (false_lit : Lit) (place : ℕ) (base : List Lit) (values : List (Option Bool)) (trail : List Lit) (clauses : List (List Lit)) (w : WatchersParts) (l : Lit)
    → IsVisiting part false_lit place base values trail clauses w → l.var < length values → (IsTrueIn values l → ⊥) → (IsFalseIn values l → ⊥)
    → IsVisiting part false_lit place base (slice_set values l.var (Some l.positive)) (trail ++ l ∷ []) clauses w
grows part false_lit place base values trail clauses w l v inside not_true not_false =
    let more = trail ++ l ∷ [] in
    let truths = truths_more values trail l v.truths inside not_true not_false in
    let wider : (m : Lit) → Contains trail m → Contains more m = λ m among. Contains-append_left trail (l ∷ []) m among in
    record {
      watched = subst (λ n. AreWatched base n clauses w) (sym (length-set values l.var (Some l.positive))) v.watched;
      base_in = all_more (Contains trail) (Contains more) base wider v.base_in;
      truths = truths;
      rest = all_more (IsAtRest part trail) (IsAtRest part more) clauses (λ c rest. rest_grows part trail more c wider rest) v.rest;
      part_in = all_more (Contains trail) (Contains more) part wider v.part_in;
      lit_is_false = truths.true_in (opposite false_lit) (wider (opposite false_lit) (v.truths.in_trail (opposite false_lit) v.lit_is_false));
      done = λ k before small. done_grows false_lit trail more (kept_at clauses (get_or (watchers w false_lit) k 0)) wider (v.done k before small);
    }

-- a clause whose first literal is true
pub satisfied_first : (values : List (Option Bool)) (trail clause : List Lit) → AreTrue values trail → 2 ≤ length clause → IsTrueIn values (first clause) → IsSatisfied trail clause
satisfied_first values trail clause truths two true_first = record {
  lit = first clause;
  among = first_among clause two;
  holds = truths.in_trail (first clause) true_first;
}

-- a clause is done that has a true literal
pub done_true : (false_lit : Lit) (trail clause : List Lit) → IsSatisfied trail clause → IsDone false_lit trail clause
done_true false_lit trail clause is = record { if_first = λ _. is; if_second = λ _. is }

-- a clause that gets another blocking literal
pub resets : (part : List Lit) (false_lit : Lit) (place at : ℕ) (base : List Lit) (values : List (Option Bool)) (trail : List Lit) (clauses : List (List Lit)) (w w' : WatchersParts) (watch : Watch)
    → IsVisiting part false_lit at base values trail clauses w → Resets w w' false_lit place watch → place < length (watches_of w false_lit) → get_or (watchers w false_lit) place 0 ≡ watch.id → IsBlocked clauses watch
    → IsVisiting part false_lit at base values trail clauses w'
resets part false_lit place at base values trail clauses w w' watch v one inside is blocks =
    let same : (m : Lit) → watchers w' m ≡ watchers w m = λ m. numbers_reset w w' false_lit m place watch one inside is in
    record {
      watched = record {
        lists = one.one.size ∙ v.watched.lists;
        watchable = v.watched.watchable;
        listed = λ id small.
            elim (v.watched.listed id small) [
              | inl listed ↦ inl (record {
                by_first = subst (λ ids. Contains ids id) (sym (same (first (kept_at clauses id)))) listed.by_first;
                by_second = subst (λ ids. Contains ids id) (sym (same (second (kept_at clauses id)))) listed.by_second;
              })
              | inr satisfied ↦ inr satisfied
            ];
        blocked = all_reset (IsBlocked clauses) w w' false_lit place watch one blocks v.watched.blocked;
      };
      base_in = v.base_in;
      truths = v.truths;
      rest = v.rest;
      part_in = v.part_in;
      lit_is_false = v.lit_is_false;
      done = λ k before small.
          subst (λ ids. IsDone false_lit trail (kept_at clauses (get_or ids k 0))) (sym (same false_lit)) (v.done k before (subst (λ ids. k < length ids) (same false_lit) small));
    }

-- a clause whose blocking literal is true
pub passes : (part : List Lit) (false_lit : Lit) (place : ℕ) (base : List Lit) (values : List (Option Bool)) (trail : List Lit) (clauses : List (List Lit)) (w : WatchersParts) (watch : Watch)
    → IsVisiting part false_lit place base values trail clauses w → get_or (watchers w false_lit) place 0 ≡ watch.id → IsBlocked clauses watch → IsTrueIn values watch.blocker
    → IsVisiting part false_lit (place + 1) base values trail clauses w
passes part false_lit place base values trail clauses w watch v is blocks true_blocker = record {
  watched = v.watched;
  base_in = v.base_in;
  truths = v.truths;
  rest = v.rest;
  part_in = v.part_in;
  lit_is_false = v.lit_is_false;
  done = λ k before small. elim (lt_or k place) [
    | inl earlier ↦ v.done k earlier small
    | inr late ↦
        let here : k ≡ place = omega (arith, before, late) in
        subst (λ n. IsDone false_lit trail (kept_at clauses n)) (sym (ap (λ n. get_or (watchers w false_lit) n 0) here ∙ is))
        (done_true false_lit trail (kept_at clauses watch.id) (record { lit = watch.blocker; among = blocks.among; holds = v.truths.in_trail watch.blocker true_blocker }))
  ];
}

-- once all clauses of a literal's list were visited, all is at rest by a longer part of the trail
pub visited : (part : List Lit) (false_lit : Lit) (place : ℕ) (base : List Lit) (values : List (Option Bool)) (trail : List Lit) (clauses : List (List Lit)) (w : WatchersParts)
    → IsVisiting part false_lit place base values trail clauses w → length (watches_of w false_lit) ≤ place → (id : ℕ) → id < length clauses → IsDone false_lit trail (kept_at clauses id)
visited part false_lit place base values trail clauses w v all id below =
    let on_list : Contains (watchers w false_lit) id → IsDone false_lit trail (kept_at clauses id) = λ (k, small, is).
    subst (λ n. IsDone false_lit trail (kept_at clauses n)) (get_or_default (watchers w false_lit) k 0 id small ∙ is) (v.done k (omega (arith, all, small, length-map (watches_of w false_lit) number)) small) in
    elim (v.watched.listed id below) [
      | inl listed ↦ record {
        if_first = λ e. (on_list (subst (λ m. Contains (watchers w m) id) e listed.by_first)).if_first e;
        if_second = λ e. (on_list (subst (λ m. Contains (watchers w m) id) e listed.by_second)).if_second e;
      }
      | inr satisfied ↦
          done_true false_lit trail (kept_at clauses id)
          (satisfied_grows base trail (kept_at clauses id) (λ l among. All-contains (Contains trail) base l v.base_in among) satisfied)
    ]

-- a clause leaves a list, of which a literal is true for good
pub drops : (part : List Lit) (false_lit : Lit) (place : ℕ) (base : List Lit) (values : List (Option Bool)) (trail : List Lit) (clauses : List (List Lit)) (w w' : WatchersParts) (id : ℕ)
    → IsVisiting part false_lit place base values trail clauses w → place < length (watchers w false_lit) → get_or (watchers w false_lit) place 0 ≡ id → IsSatisfied base (kept_at clauses id) → Unwatches w w' false_lit place
    → IsVisiting part false_lit place base values trail clauses w'
drops part false_lit place base values trail clauses w w' id v inside is satisfied un = record {
  watched = watched_dropped base (length values) clauses w w' false_lit place id v.watched un inside is satisfied;
  base_in = v.base_in;
  truths = v.truths;
  rest = v.rest;
  part_in = v.part_in;
  lit_is_false = v.lit_is_false;
  done = λ k before small.
      let stays : get_or (watchers w' false_lit) k 0 ≡ get_or (watchers w false_lit) k 0 =
      (numbers_without place (watches_of w false_lit) (watches_of w' false_lit) un.without).others k 0 (λ e. absurd (omega (arith, e, before))) (omega (arith, before, inside)) in
      subst (λ n. IsDone false_lit trail (kept_at clauses n)) (sym stays) (v.done k before (omega (arith, before, inside)));
}

-- more is true for good
pub roots : (part : List Lit) (false_lit : Lit) (place : ℕ) (base more : List Lit) (values : List (Option Bool)) (trail : List Lit) (clauses : List (List Lit)) (w : WatchersParts)
    → IsVisiting part false_lit place base values trail clauses w → ((l : Lit) → Contains base l → Contains more l) → All (Contains trail) more → IsVisiting part false_lit place more values trail clauses w
roots part false_lit place base more values trail clauses w v grows inside = record {
  watched = watched_grows base more (length values) clauses w grows v.watched;
  base_in = inside;
  truths = v.truths;
  rest = v.rest;
  part_in = v.part_in;
  lit_is_false = v.lit_is_false;
  done = v.done;
}
