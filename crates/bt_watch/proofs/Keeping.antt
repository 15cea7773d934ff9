-- What a visit of a clause keeps.
use Rattle.std.proofs.Common.{◌≡◌, ◌≢◌, ℕ, ◌≤◌, ◌<◌, ◌+◌, ◌-◌, ◌⊎◌, inl, inr, arith, Bool, true, false, not, List, [], ◌∷◌, ◌++◌, length, get_or, sym, subst, refl, ap, ap₂, ◌∙◌, Option, None, Some, length-set, get_or-set_same, get_or-set_other}
use Rattle.std.specs.Prelude.{Contains, IsPermutation, slice_set}
use Rattle.std.specs.List.{All}
use Rattle.std.proofs.lemmas.List.Elements.{All-set, All-contains, Contains-append_left, Contains-push, Contains-push_cases, All-push}
use Rattle.std.proofs.lemmas.List.Sorted.{All-permutation, Contains-permutation, length_permutation}
use Rattle.bt_cnf.specs.Formulas.{LitsBelow}
use Rattle.bt_cnf.specs.declared.literal.Lit.{Lit}
use Rattle.bt_cnf.specs.Truths.{IsTrueIn, IsFalseIn}
use Rattle.bt_cnf.specs.Units.{opposite}
use Rattle.bt_watch.specs.declared.clause_pool.Watch.{Watch}
use Rattle.bt_watch.specs.inner.VisitingClause.{KeepsPair, LeavesOne, WatchesNow}
use Rattle.bt_watch.specs.Keeping.{IsWatchable, IsListed, IsFollowed, kept_at, IsBlocked, AreWatched, AreTrue, IsAtRest, IsSatisfied}
use Rattle.bt_watch.specs.inner.Visiting.{IsDone}
use Rattle.bt_watch.specs.Watchers.{watchers, watches_of}
use Rattle.bt_watch.specs.inner.Watchers.{IsWithout}
use Rattle.bt_watch.specs.WatchersParts.{WatchersParts}
use Rattle.bt_cnf.proofs.Lists.{nat_or}

-- a clause stays watchable where its pair is kept
pub watchable_kept : (vars : ℕ) (old new : List Lit) → IsWatchable vars old → KeepsPair old new → IsWatchable vars new
watchable_kept vars old new is kept = record {
  two = subst (λ n. 2 ≤ n) (sym (length_permutation old new kept.permuted)) is.two;
  below = All-permutation (λ l. l.var < vars) old new kept.permuted is.below;
  differ = λ e. elim kept.pair [
    | inl pair ↦ is.differ (sym pair.0 ∙ e ∙ pair.1)
    | inr pair ↦ is.differ (sym pair.1 ∙ sym e ∙ pair.0)
  ];
}

-- or where another literal takes the place of one of the pair
pub watchable_left : (vars : ℕ) (values : List (Option Bool)) (false_lit : Lit) (old new : List Lit) (l : Lit) → IsWatchable vars old → LeavesOne false_lit old new → WatchesNow values new l
    → IsWatchable vars new
watchable_left vars values false_lit old new l is left now = record {
  two = subst (λ n. 2 ≤ n) (sym (length_permutation old new left.permuted)) is.two;
  below = All-permutation (λ m. m.var < vars) old new left.permuted is.below;
  differ = λ e. now.differs (sym now.stands ∙ sym e);
}

listed_kept : (w : WatchersParts) (id : ℕ) (old new : List Lit) → IsListed w id old → KeepsPair old new → IsListed w id new
listed_kept w id old new is kept = elim kept.pair [
  | inl pair ↦ record {
    by_first = subst (λ l. Contains (watchers w l) id) (sym pair.0) is.by_first;
    by_second = subst (λ l. Contains (watchers w l) id) (sym pair.1) is.by_second;
  }
  | inr pair ↦ record {
    by_first = subst (λ l. Contains (watchers w l) id) (sym pair.0) is.by_second;
    by_second = subst (λ l. Contains (watchers w l) id) (sym pair.1) is.by_first;
  }
]

pub satisfied_kept : (trail old new : List Lit) → IsPermutation old new → IsSatisfied trail old → IsSatisfied trail new
satisfied_kept trail old new permuted is = record { lit = is.lit; among = Contains-permutation old new is.lit permuted is.among; holds = is.holds }

followed_kept : (base : List Lit) (w : WatchersParts) (id : ℕ) (old new : List Lit) → IsFollowed base w id old → KeepsPair old new → IsFollowed base w id new
followed_kept base w id old new is kept = elim is [
  | inl listed ↦ inl (listed_kept w id old new listed kept)
  | inr satisfied ↦ inr (satisfied_kept base old new kept.permuted satisfied)
]

pub rest_kept : (part trail old new : List Lit) → IsAtRest part trail old → KeepsPair old new → IsAtRest part trail new
rest_kept part trail old new is kept = elim kept.pair [
  | inl pair ↦ record {
    if_first = λ h. satisfied_kept trail old new kept.permuted (is.if_first (subst (λ l. Contains part (opposite l)) pair.0 h));
    if_second = λ h. satisfied_kept trail old new kept.permuted (is.if_second (subst (λ l. Contains part (opposite l)) pair.1 h));
  }
  | inr pair ↦ record {
    if_first = λ h. satisfied_kept trail old new kept.permuted (is.if_second (subst (λ l. Contains part (opposite l)) pair.0 h));
    if_second = λ h. satisfied_kept trail old new kept.permuted (is.if_first (subst (λ l. Contains part (opposite l)) pair.1 h));
  }
]

-- the clause at a number after one was changed
pub kept_set : (P : ℕ → List Lit → Type 0) (clauses : List (List Lit)) (id other : ℕ) (new : List Lit) → id < length clauses → P id new → (other ≢ id → P other (kept_at clauses other))
    → P other (kept_at (slice_set clauses id new) other)
kept_set P clauses id other new below at_new at_old =
    elim (nat_or other id) [
      | inl same ↦ subst (λ n. P n (kept_at (slice_set clauses id new) n)) (sym same) (subst (P id) (sym (get_or-set_same clauses id new [] below)) at_new)
      | inr differs ↦ subst (P other) (sym (get_or-set_other clauses id other new [] differs)) (at_old differs)
    ]

-- the blocking literal of a clause is one of it still where a clause has another order
pub blocked_set : (clauses : List (List Lit)) (id : ℕ) (new : List Lit) (watch : Watch) → id < length clauses → IsPermutation (kept_at clauses id) new → IsBlocked clauses watch
    → IsBlocked (slice_set clauses id new) watch
blocked_set clauses id new watch below permuted is = record {
  below = subst (λ n. watch.id < n) (sym (length-set clauses id new)) is.below;
  among =
      kept_set (λ n c. n ≡ watch.id → Contains c watch.blocker) clauses id watch.id new below
      (λ e. Contains-permutation (kept_at clauses id) new watch.blocker permuted (subst (λ n. Contains (kept_at clauses n) watch.blocker) (sym e) is.among)) (λ _ _. is.among) refl;
}

-- all is kept where a clause keeps its pair
pub watched_kept : (base : List Lit) (vars : ℕ) (clauses : List (List Lit)) (w : WatchersParts) (id : ℕ) (new : List Lit) → AreWatched base vars clauses w → id < length clauses
    → KeepsPair (kept_at clauses id) new → AreWatched base vars (slice_set clauses id new) w
watched_kept base vars clauses w id new are below kept =
    let old = kept_at clauses id in
    let size : length (slice_set clauses id new) ≡ length clauses = length-set clauses id new in
    record {
      lists = are.lists;
      watchable = All-set (IsWatchable vars) clauses id new (watchable_kept vars old new (are.watchable id [] below) kept) are.watchable;
      listed = λ other inside.
          kept_set (IsFollowed base w) clauses id other new below (followed_kept base w id old new (are.listed id below) kept) (λ differs. are.listed other (subst (λ n. other < n) size inside));
      blocked = λ l k d small. blocked_set clauses id new (get_or (watches_of w l) k d) below kept.permuted (are.blocked l k d small);
    }

-- a literal isn't true and false
pub not_both : (values : List (Option Bool)) (l : Lit) → IsTrueIn values l → IsFalseIn values l → ⊥
not_both values l true_l false_l = apart l.positive (sym true_l ∙ false_l)
  where
    apart : (b : Bool) → Some b ≡ Some (not b) → ⊥
    apart true e = cc
    apart false e = cc

-- all is at rest by a clause that watches another literal now, which isn't false
pub rest_left : (values : List (Option Bool)) (part trail : List Lit) (false_lit : Lit) (old new : List Lit) (l : Lit) → ((m : Lit) → Contains trail m → IsTrueIn values m) → All (Contains trail) part
    → IsAtRest part trail old → LeavesOne false_lit old new → WatchesNow values new l → IsAtRest part trail new
rest_left values part trail false_lit old new l true_in inside rest left now = record {
  if_first = λ h. satisfied_kept trail old new left.permuted (elim left.pair [
    | inl pair ↦ rest.if_first (subst (λ m. Contains part (opposite m)) pair.0 h)
    | inr pair ↦ rest.if_second (subst (λ m. Contains part (opposite m)) pair.0 h)
  ]);
  if_second = λ h.
      let false_l : Contains part (opposite l) = subst (λ m. Contains part (opposite m)) now.stands h in
      absurd (now.not_false (true_in (opposite l) (All-contains (Contains trail) part (opposite l) inside false_l)));
}

-- more of the trail
pub satisfied_grows : (trail more clause : List Lit) → ((l : Lit) → Contains trail l → Contains more l) → IsSatisfied trail clause → IsSatisfied more clause
satisfied_grows trail more clause grows is = record { lit = is.lit; among = is.among; holds = grows is.lit is.holds }

-- more that is true for good
pub watched_grows : (base more : List Lit) (vars : ℕ) (clauses : List (List Lit)) (w : WatchersParts) → ((l : Lit) → Contains base l → Contains more l) → AreWatched base vars clauses w
    → AreWatched more vars clauses w
watched_grows base more vars clauses w grows are = record {
  lists = are.lists;
  watchable = are.watchable;
  listed = λ id small. elim (are.listed id small) [
    | inl listed ↦ inl listed
    | inr satisfied ↦ inr (satisfied_grows base more (kept_at clauses id) grows satisfied)
  ];
  blocked = are.blocked;
}

pub rest_grows : (part trail more clause : List Lit) → ((l : Lit) → Contains trail l → Contains more l) → IsAtRest part trail clause → IsAtRest part more clause
rest_grows part trail more clause grows rest = record {
  if_first = λ h. satisfied_grows trail more clause grows (rest.if_first h);
  if_second = λ h. satisfied_grows trail more clause grows (rest.if_second h);
}

pub done_grows : (false_lit : Lit) (trail more clause : List Lit) → ((l : Lit) → Contains trail l → Contains more l) → IsDone false_lit trail clause → IsDone false_lit more clause
done_grows false_lit trail more clause grows done = record {
  if_first = λ h. satisfied_grows trail more clause grows (done.if_first h);
  if_second = λ h. satisfied_grows trail more clause grows (done.if_second h);
}

-- the trail with an unset literal more
pub truths_more : (values : List (Option Bool)) (trail : List Lit) (l : Lit) → AreTrue values trail → l.var < length values → (IsTrueIn values l → ⊥) → (IsFalseIn values l → ⊥)
    → AreTrue (slice_set values l.var (Some l.positive)) (trail ++ l ∷ [])
truths_more values trail l truths inside not_true not_false =
    let after = slice_set values l.var (Some l.positive) in
    record {
      below =
          subst (λ n. LitsBelow n (trail ++ l ∷ [])) (sym (length-set values l.var (Some l.positive)))
          (All-push (λ m. m.var < length values) trail l truths.below inside);
      true_in = λ m among. elim (Contains-push_cases trail l m among) [
        | inl before ↦
            let true_m : IsTrueIn values m = truths.true_in m before in
            let other : m.var ≢ l.var = λ e. unset m true_m e in
            get_or-set_other values l.var m.var (Some l.positive) None other ∙ true_m
        | inr same ↦ subst (IsTrueIn after) same (get_or-set_same values l.var (Some l.positive) None inside)
      ];
      in_trail = λ m true_m. elim (nat_or m.var l.var) [
        | inl e ↦
            let sign : Some l.positive ≡ Some m.positive =
            sym (get_or-set_same values l.var (Some l.positive) None inside) ∙ ap (λ n. get_or after n None) (sym e) ∙ true_m in
            subst (Contains (trail ++ l ∷ [])) (made l m (sym e) sign) (Contains-push trail l)
        | inr other ↦
            Contains-append_left trail (l ∷ []) m (truths.in_trail m (sym (get_or-set_other values l.var m.var (Some l.positive) None other) ∙ true_m))
      ];
    }
  where
    inner : (a b : Bool) → (a ≡ b) ⊎ (a ≡ not b)
    inner true true = inl refl
    inner true false = inr refl
    inner false true = inr refl
    inner false false = inl refl

    unset : (m : Lit) → IsTrueIn values m → m.var ≡ l.var → ⊥
    unset m true_m e =
        let here : get_or values l.var None ≡ Some m.positive = ap (λ n. get_or values n None) (sym e) ∙ true_m in
        elim (inner m.positive l.positive) [
          | inl same ↦ not_true (here ∙ ap (λ b. Some b) same)
          | inr differs ↦ not_false (here ∙ ap (λ b. Some b) differs)
        ]

    made : (a b : Lit) → a.var ≡ b.var → Some a.positive ≡ Some b.positive → a ≡ b
    made a b var sign =
        let same : a.positive ≡ b.positive = cc in
        let make : ℕ → Bool → Lit = λ v p. record { var = v; positive = p } in
        ap₂ make var same

-- what is on a list without one of its items
pub without_keeps : (place : ℕ) (old new : List ℕ) (x : ℕ) → IsWithout place old new → Contains old x → (get_or old place x ≢ x) → place < length old → Contains new x
without_keeps place old new x without (k, below, is) differs inside =
    let apart : k ≢ place = λ e. differs (ap (λ n. get_or old n x) (sym e) ∙ is) in
    elim (lt_or (k + 1) (length old)) [
      | inl earlier ↦ (k, omega (arith, without.size, earlier), without.others k x apart earlier ∙ is)
      | inr late ↦
          let end : k ≡ length old - 1 = omega (arith, below, late) in
          let before : place + 1 < length old = omega (arith, below, late, apart, inside) in
          (place, omega (arith, without.size, before), without.last x before ∙ ap (λ n. get_or old n x) (sym end) ∙ is)
    ]
  where
    lt_or : (m n : ℕ) → (m < n) ⊎ (n ≤ m)
    lt_or m n = grind arith

pub without_all : {X : Type 0} (P : X → Type 0) (place : ℕ) (old new : List X) → IsWithout place old new → place < length old → All P old → All P new
without_all P place old new without inside all = λ k d below.
    elim (nat_or k place) [
      | inl same ↦
          let before : place + 1 < length old = omega (arith, below, without.size, same) in
          subst P (sym (ap (λ n. get_or new n d) same ∙ without.last d before)) (all (length old - 1) d (omega (arith, inside)))
      | inr differs ↦
          let before : k + 1 < length old = omega (arith, below, without.size) in
          subst P (sym (without.others k d differs before)) (all k d (omega (arith, before)))
    ]
