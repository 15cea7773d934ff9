-- One more clause that is watched.
use Rattle.std.proofs.Common.{◌≡◌, ℕ, ◌≤◌, ◌<◌, ◌+◌, inl, inr, arith, List, [], ◌∷◌, ◌++◌, length, get_or, sym, subst, ◌∙◌, length-append}
use Rattle.std.specs.Prelude.{Contains}
use Rattle.std.specs.List.{All}
use Rattle.std.proofs.lemmas.List.{get_or_append_left, get_or_default, get_or_push}
use Rattle.std.proofs.lemmas.List.Elements.{All-push, Contains-push}
use Rattle.bt_cnf.specs.declared.literal.Lit.{Lit}
use Rattle.bt_watch.specs.declared.clause_pool.Watch.{Watch}
use Rattle.bt_watch.specs.Watched.{no_lit, first, second}
use Rattle.bt_watch.specs.Keeping.{IsWatchable, IsListed, IsFollowed, kept_at, IsBlocked, AreWatched}
use Rattle.bt_watch.specs.Watchers.{watchers, watches_of}
use Rattle.bt_watch.specs.inner.Watchers.{Watches}
use Rattle.bt_watch.specs.WatchersParts.{WatchersParts}
use Rattle.bt_cnf.proofs.Lists.{nat_or}
use Rattle.bt_watch.proofs.Visiting.{first_among}
use Rattle.bt_watch.proofs.Watches.{all_more_watches, numbers_added, watch_grows}

-- the second literal of a clause is one of it
second_among : (clause : List Lit) → 2 ≤ length clause → Contains clause (second clause)
second_among clause two = (1, omega (arith, two), get_or_default clause 1 (second clause) no_lit (omega (arith, two)))

-- the clauses are watched still, with one more
pub watched_more : (base : List Lit) (vars : ℕ) (clauses : List (List Lit)) (w w₁ w₂ : WatchersParts) (lits : List Lit) (id : ℕ) → AreWatched base vars clauses w → IsWatchable vars lits → id ≡ length clauses
    → Watches w w₁ (first lits) (record { id = id; blocker = second lits }) → Watches w₁ w₂ (second lits) (record { id = id; blocker = first lits }) → AreWatched base vars (clauses ++ lits ∷ []) w₂
watched_more base vars clauses w w₁ w₂ lits id are good is one two =
    let more = clauses ++ lits ∷ [] in
    let size : length more ≡ length clauses + 1 = length-append clauses (lits ∷ []) in
    let new : id < length more = omega (arith, size, is) in
    let by_first : Watch = record { id = id; blocker = second lits } in
    let by_second : Watch = record { id = id; blocker = first lits } in
    let last : kept_at more id ≡ lits = get_or_push clauses lits [] id (sym is) in
    let wider : (l : Lit) → All (IsBlocked more) (watches_of w l) = λ l k d small.
    let before = are.blocked l k d small in
    record {
      below = omega (arith, before.below, size);
      among = subst (λ c. Contains c (get_or (watches_of w l) k d).blocker) (sym (get_or_append_left clauses (lits ∷ []) [] (get_or (watches_of w l) k d).id before.below)) before.among;
    } in
    let first_blocked : IsBlocked more by_first = record { below = new; among = subst (λ c. Contains c (second lits)) (sym last) (second_among lits good.two) } in
    let second_blocked : IsBlocked more by_second = record { below = new; among = subst (λ c. Contains c (first lits)) (sym last) (first_among lits good.two) } in
    let here : IsListed w₂ id lits = record {
      by_first = watch_grows w₁ w₂ (second lits) (first lits) by_second id two (subst (λ ids. Contains ids id) (sym (numbers_added w w₁ (first lits) by_first one)) (Contains-push (watchers w (first lits)) id));
      by_second = subst (λ ids. Contains ids id) (sym (numbers_added w₁ w₂ (second lits) by_second two)) (Contains-push (watchers w₁ (second lits)) id);
    } in
    let grows : (m : Lit) (x : ℕ) → Contains (watchers w m) x → Contains (watchers w₂ m) x =
    λ m x among. watch_grows w₁ w₂ (second lits) m by_second x two (watch_grows w w₁ (first lits) m by_first x one among) in
    record {
      lists = two.one.size ∙ one.one.size ∙ are.lists;
      watchable = All-push (IsWatchable vars) clauses lits are.watchable good;
      listed = λ n below. elim (nat_or n id) [
        | inl same ↦
            let at : lits ≡ kept_at more n = sym (get_or_push clauses lits [] n (sym is ∙ sym same)) in
            inl (subst (IsListed w₂ n) at (subst (λ k. IsListed w₂ k lits) (sym same) here))
        | inr differs ↦
            let small : n < length clauses = omega (arith, below, size, is, differs) in
            let at : kept_at clauses n ≡ kept_at more n = sym (get_or_append_left clauses (lits ∷ []) [] n small) in
            subst (IsFollowed base w₂ n) at (elim (are.listed n small) [
              | inl before ↦ inl (record {
                by_first = grows (first (kept_at clauses n)) n before.by_first;
                by_second = grows (second (kept_at clauses n)) n before.by_second;
              })
              | inr satisfied ↦ inr satisfied
            ])
      ];
      blocked = all_more_watches (IsBlocked more) w₁ w₂ (second lits) by_second two second_blocked (all_more_watches (IsBlocked more) w w₁ (first lits) by_first one first_blocked wider);
    }
