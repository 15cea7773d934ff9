-- The lists of the clauses that watch a literal, and the numbers on them.
use Rattle.std.proofs.Common.{◌≡◌, ◌≢◌, ℕ, ◌<◌, ◌+◌, ◌-◌, inl, inr, arith, List, [], ◌∷◌, ◌++◌, length, get_or, map, sym, subst, ap, ◌∙◌}
use Rattle.std.specs.Prelude.{Contains}
use Rattle.std.specs.List.{All}
use Rattle.std.proofs.lemmas.List.{get_or-map, length-map, map-append}
use Rattle.std.proofs.Math.Seq.{map-set_same}
use Rattle.std.proofs.lemmas.List.Elements.{All-push, All-set, Contains-append_left}
use Rattle.bt_cnf.specs.declared.literal.Lit.{Lit}
use Rattle.bt_watch.specs.declared.clause_pool.Watch.{Watch}
use Rattle.bt_watch.specs.Watched.{no_lit}
use Rattle.bt_watch.specs.Watchers.{watchers, watches_of}
use Rattle.bt_watch.specs.inner.Watchers.{ChangesOne, IsWithout, Resets, Unwatches, Watches}
use Rattle.bt_watch.specs.WatchersParts.{WatchersParts}
use Rattle.bt_cnf.proofs.Lists.{lit_or}
use Rattle.bt_watch.proofs.Keeping.{without_all}

abbrev pub number : Watch → ℕ
number watch = watch.id

-- stands where a list has no clause
abbrev pub no_watch : Watch
no_watch = record { id = 0; blocker = no_lit }

-- there are as many numbers as clauses
pub inside_list : (ws : List Watch) (place : ℕ) → place < length (map number ws) → place < length ws
inside_list ws place inside = omega (arith, inside, length-map ws number)

pub inside_numbers : (ws : List Watch) (place : ℕ) → place < length ws → place < length (map number ws)
inside_numbers ws place inside = omega (arith, inside, length-map ws number)

pub number_at : (ws : List Watch) (place : ℕ) → place < length ws → get_or (map number ws) place 0 ≡ (get_or ws place no_watch).id
number_at ws place inside = get_or-map number ws place no_watch 0 inside

pub numbers_added : (w w' : WatchersParts) (l : Lit) (watch : Watch) → Watches w w' l watch → watchers w' l ≡ watchers w l ++ watch.id ∷ []
numbers_added w w' l watch one = ap (map number) one.added ∙ map-append number (watches_of w l) (watch ∷ [])

pub numbers_others : (w w' : WatchersParts) (l m : Lit) → ChangesOne w w' l → m ≢ l → watchers w' m ≡ watchers w m
numbers_others w w' l m one differs = ap (map number) (one.others m differs)

pub numbers_without : (place : ℕ) (old new : List Watch) → IsWithout place old new → IsWithout place (map number old) (map number new)
numbers_without place old new without =
    let size_old : length (map number old) ≡ length old = length-map old number in
    let size_new : length (map number new) ≡ length new = length-map new number in
    record {
      size = omega (arith, without.size, size_old, size_new);
      last = λ d below.
          let small : place + 1 < length old = omega (arith, below, size_old) in
          get_or-map number new place no_watch d (omega (arith, small, without.size))
          ∙ ap number (without.last no_watch small)
          ∙ sym (get_or-map number old (length old - 1) no_watch d (omega (arith, small)))
          ∙ ap (λ n. get_or (map number old) (n - 1) d) (sym size_old);
      others = λ k d differs below.
          let small : k + 1 < length old = omega (arith, below, size_old) in
          get_or-map number new k no_watch d (omega (arith, small, without.size))
          ∙ ap number (without.others k no_watch differs small)
          ∙ sym (get_or-map number old k no_watch d (omega (arith, small)));
    }

-- a clause that gets another blocking literal keeps its number
pub numbers_reset : (w w' : WatchersParts) (l m : Lit) (place : ℕ) (watch : Watch) → Resets w w' l place watch → place < length (watches_of w l) → get_or (watchers w l) place 0 ≡ watch.id
    → watchers w' m ≡ watchers w m
numbers_reset w w' l m place watch one inside is =
    elim (lit_or m l) [
      | inl same ↦
          let here : watchers w' l ≡ watchers w l =
          ap (map number) one.reset ∙ map-set_same number (watches_of w l) place watch no_watch (sym is ∙ number_at (watches_of w l) place inside) in
          subst (λ k. watchers w' k ≡ watchers w k) (sym same) here
      | inr differs ↦ numbers_others w w' l m one.one differs
    ]

-- a clause on a list is on it still where one more watches a literal
pub watch_grows : (w w' : WatchersParts) (l m : Lit) (watch : Watch) (x : ℕ) → Watches w w' l watch → Contains (watchers w m) x → Contains (watchers w' m) x
watch_grows w w' l m watch x one among =
    elim (lit_or m l) [
      | inl same ↦
          subst (λ ids. Contains ids x) (sym (ap (watchers w') same ∙ numbers_added w w' l watch one))
          (Contains-append_left (watchers w l) (watch.id ∷ []) x (subst (λ k. Contains (watchers w k) x) same among))
      | inr differs ↦ subst (λ ids. Contains ids x) (sym (numbers_others w w' l m one.one differs)) among
    ]

-- what holds of all on the lists holds where one is taken off
pub all_less : (P : Watch → Type 0) (w w' : WatchersParts) (false_lit : Lit) (place : ℕ) → Unwatches w w' false_lit place → place < length (watches_of w false_lit)
    → ((l : Lit) → All P (watches_of w l)) → (l : Lit) → All P (watches_of w' l)
all_less P w w' false_lit place un inside all l =
    elim (lit_or l false_lit) [
      | inl same ↦ subst (λ k. All P (watches_of w' k)) (sym same) (without_all P place (watches_of w false_lit) (watches_of w' false_lit) un.without inside (all false_lit))
      | inr differs ↦ subst (All P) (sym (un.one.others l differs)) (all l)
    ]

-- or one is added
pub all_more_watches : (P : Watch → Type 0) (w w' : WatchersParts) (l : Lit) (watch : Watch) → Watches w w' l watch → P watch → ((m : Lit) → All P (watches_of w m)) → (m : Lit) → All P (watches_of w' m)
all_more_watches P w w' l watch one holds all m =
    elim (lit_or m l) [
      | inl same ↦ subst (All P) (sym (ap (watches_of w') same ∙ one.added)) (All-push P (watches_of w l) watch (all l) holds)
      | inr differs ↦ subst (All P) (sym (one.one.others m differs)) (all m)
    ]

-- or one is changed
pub all_reset : (P : Watch → Type 0) (w w' : WatchersParts) (l : Lit) (place : ℕ) (watch : Watch) → Resets w w' l place watch → P watch → ((m : Lit) → All P (watches_of w m)) → (m : Lit) → All P (watches_of w' m)
all_reset P w w' l place watch one holds all m =
    elim (lit_or m l) [
      | inl same ↦ subst (All P) (sym (ap (watches_of w') same ∙ one.reset)) (All-set P (watches_of w l) place watch holds (all l))
      | inr differs ↦ subst (All P) (sym (one.one.others m differs)) (all m)
    ]
