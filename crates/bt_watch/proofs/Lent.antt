-- The list of a literal, taken out of the lists and put back.
use Rattle.std.proofs.Common.{◌≡◌, ◌≢◌, ℕ, ◌+◌, ◌-◌, ◌<◌, ◌≤◌, zero, suc, inl, inr, arith, List, [], ◌∷◌, ◌++◌, length, length-append, get_or, map, set, sym, subst, ap, ◌∙◌, vec_len, Option, Some, None}
use Rattle.std.specs.Prelude.{slice_get, Contains}
use Rattle.std.specs.Global.{Vec}
use Rattle.std.specs.List.{All, AllWithin}
use Rattle.std.specs.Vec.{with_item}
use Rattle.std.proofs.lemmas.List.{get_or_default, get_or-map, get_or-set_same, get_or-set_other, length-map, length-set, map-append, map-set, set-get_or, set-set}
use Rattle.std.proofs.lemmas.List.Elements.{All-contains, All-push}
use Rattle.bt_cnf.specs.declared.literal.Lit.{Lit}
use Rattle.bt_cnf.specs.Truths.{IsTrueIn, IsFalseIn}
use Rattle.bt_watch.specs.declared.assignment.Assignment.{Assignment}
use Rattle.bt_watch.specs.declared.clause_pool.Watch.{Watch}
use Rattle.bt_watch.specs.declared.search.Search.{Search}
use Rattle.bt_watch.specs.Assigning.{Assigns}
use Rattle.bt_watch.specs.Watched.{no_lit}
use Rattle.bt_watch.specs.inner.VisitingById.{VisitsById}
use Rattle.bt_cnf.specs.Codes.{code_of}
use Rattle.bt_watch.specs.Keeping.{kept_at, AreTrue, AreWatched, IsBlocked, IsWatchable}
use Rattle.bt_watch.specs.inner.Loads.{AreEmptyLists}
use Rattle.bt_watch.specs.Propagating.{root_of, GoesOn}
use Rattle.bt_watch.specs.inner.PropagatingLit.{with_watches, Advances, ComesTo, PropagatesLit, Visiting}
use Rattle.bt_watch.specs.inner.Watchers.{lists_of, with_list, ChangesOne, IsWithout, Resets, Unwatches, Watches}
use Rattle.bt_watch.specs.Watchers.{watchers, watches_of}
use Rattle.bt_watch.specs.WatchersParts.{WatchersParts}
use Rattle.bt_watch.specs.declared.search.Visited.TheVariants as visited
use Rattle.bt_watch.specs.declared.watched.Visit.TheVariants as visit
use Rattle.bt_cnf.proofs.Lists.{lit_or}
use Rattle.bt_watch.proofs.Advancing.{blocked_at, numbered_at, starts}
use Rattle.bt_watch.proofs.Codes.{code_below, code_same}
use Rattle.bt_watch.proofs.Keeping.{watchable_kept, watchable_left}
use Rattle.bt_watch.proofs.Watches.{inside_numbers, no_watch}
use Rattle.bt_watch.proofs.Advancing

with_here : (w : WatchersParts) (l : Lit) (list : List Watch) → code_of l < length w.lists → watches_of (with_list w l list) l ≡ list
with_here w l list below = get_or-set_same w.lists (code_of l) list [] below

with_there : (w : WatchersParts) (l m : Lit) (list : List Watch) → m ≢ l → watches_of (with_list w l list) m ≡ watches_of w m
with_there w l m list differs = get_or-set_other w.lists (code_of l) (code_of m) list [] (λ e. differs (code_same m l e))

-- another list in the place of one that was put there
with_twice : (w : WatchersParts) (l : Lit) (one two : List Watch) → with_list (with_list w l one) l two ≡ with_list w l two
with_twice w l one two = let make : List (List Watch) → WatchersParts = λ lists. record { lists = lists } in ap make (set-set w.lists (code_of l) one two)

-- a list that is put back
with_own : (w : WatchersParts) (l : Lit) → with_list w l (watches_of w l) ≡ w
with_own w l = let make : List (List Watch) → WatchersParts = λ lists. record { lists = lists } in ap make (set-get_or w.lists (code_of l) [])

changes : (w : WatchersParts) (l : Lit) (one two : List Watch) → ChangesOne (with_list w l one) (with_list w l two) l
changes w l one two = record {
  size = length-set w.lists (code_of l) two ∙ sym (length-set w.lists (code_of l) one);
  others = λ m differs. with_there w l m two differs ∙ sym (with_there w l m one differs);
}

-- one more clause is on a literal's list
watches_list : (w w' : WatchersParts) (l : Lit) (watch : Watch) → code_of l < length w.lists → w' ≡ with_list w l (watches_of w l ++ watch ∷ []) → Watches w w' l watch
watches_list w w' l watch below is =
    let list = watches_of w l ++ watch ∷ [] in
    subst (λ v. Watches w v l watch) (sym is) (record {
      added = with_here w l list below;
      one = record { size = length-set w.lists (code_of l) list; others = λ m differs. with_there w l m list differs };
    })

-- the vector that stands where a literal's list does is another now
pub put_at : (lists : Vec (Vec Watch)) (l : Lit) (place : ℕ) (now : Vec Watch) → place ≡ code_of l → lists_of (with_item lists place now) ≡ set (lists_of lists) (code_of l) now.items
put_at lists l place now at = map-set (λ (v : Vec Watch). v.items) lists.items place now ∙ ap (λ n. set (lists_of lists) n now.items) at

-- one more list is empty
pub empty_more : (count : ℕ) (was now : Vec (Vec Watch)) (list : Vec Watch) → AreEmptyLists count (lists_of was) → now.items ≡ was.items ++ list ∷ [] → list.items ≡ []
    → AreEmptyLists (count + 1) (lists_of now)
empty_more count was now list are is empty =
    let same : lists_of now ≡ lists_of was ++ list.items ∷ [] = ap (map (λ (v : Vec Watch). v.items)) is ∙ map-append (λ (v : Vec Watch). v.items) was.items (list ∷ []) in
    record {
      size = ap length same ∙ length-append (lists_of was) (list.items ∷ []) ∙ ap (λ n. n + 1) are.size;
      empty = subst (All (λ ws. ws ≡ [])) (sym same) (All-push (λ ws. ws ≡ []) (lists_of was) list.items are.empty empty);
    }

-- or it has one more clause
pub pushed_at : (lists : Vec (Vec Watch)) (w : WatchersParts) (l : Lit) (place : ℕ) (watch : Watch) (was now : Vec Watch) → record { lists = lists_of lists } ≡ w → code_of l < length w.lists
    → place ≡ code_of l → was ≡ get_or lists.items place was → now.items ≡ was.items ++ watch ∷ [] → Watches w (record { lists = lists_of (with_item lists place now) }) l watch
pushed_at lists w l place watch was now view below' at stood is =
    let below : code_of l < length (lists_of lists) = subst (λ (v : WatchersParts). code_of l < length v.lists) (sym view) below' in
    let make : List (List Watch) → WatchersParts = λ ls. record { lists = ls } in
    let inside : code_of l < length lists.items = subst (λ n. code_of l < n) (length-map lists.items (λ (v : Vec Watch). v.items)) below in
    let stands : was ≡ get_or lists.items (code_of l) was = subst (λ n. was ≡ get_or lists.items n was) at stood in
    let own : get_or (lists_of lists) (code_of l) [] ≡ was.items = get_or-map (λ (v : Vec Watch). v.items) lists.items (code_of l) was [] inside ∙ ap (λ (v : Vec Watch). v.items) (sym stands) in
    subst (λ v. Watches v (make (lists_of (with_item lists place now))) l watch) view
    (watches_list (make (lists_of lists)) (make (lists_of (with_item lists place now))) l watch below
    (ap make (put_at lists l place now at ∙ ap (set (lists_of lists) (code_of l)) (is ∙ ap (λ ws. ws ++ watch ∷ []) (sym own)))))

-- where a list was taken out, the others are as if it stood there
resets_out : (w : WatchersParts) (l : Lit) (list : List Watch) (place : ℕ) (watch : Watch) → code_of l < length w.lists → Resets (with_list w l list) (with_list w l (set list place watch)) l place watch
resets_out w l list place watch below = record {
  reset = with_here w l (set list place watch) below ∙ ap (λ ws. set ws place watch) (sym (with_here w l list below));
  one = changes w l list (set list place watch);
}

unwatches_out : (w : WatchersParts) (l : Lit) (list less : List Watch) (place : ℕ) → code_of l < length w.lists → IsWithout place list less → Unwatches (with_list w l list) (with_list w l less) l place
unwatches_out w l list less place below without = record {
  without = subst (λ ws. IsWithout place ws (watches_of (with_list w l less) l)) (sym (with_here w l list below)) (subst (IsWithout place list) (sym (with_here w l less below)) without);
  one = changes w l list less;
}

watches_out : (w w' : WatchersParts) (false_lit l : Lit) (list : List Watch) (watch : Watch) → code_of false_lit < length w.lists → l ≢ false_lit → Watches w w' l watch
    → Watches (with_list w false_lit list) (with_list w' false_lit list) l watch
watches_out w w' false_lit l list watch below apart one =
    let below' : code_of false_lit < length w'.lists = subst (λ n. code_of false_lit < n) (sym one.one.size) below in
    record {
      added = with_there w' false_lit l list apart ∙ one.added ∙ ap (λ ws. ws ++ watch ∷ []) (sym (with_there w false_lit l list apart));
      one = record {
        size = length-set w'.lists (code_of false_lit) list ∙ one.one.size ∙ sym (length-set w.lists (code_of false_lit) list);
        others = λ m differs. elim (lit_or m false_lit) [
          | inl same ↦
              ap (watches_of (with_list w' false_lit list)) same ∙ with_here w' false_lit list below' ∙ sym (with_here w false_lit list below)
              ∙ sym (ap (watches_of (with_list w false_lit list)) same)
          | inr other ↦ with_there w' false_lit m list other ∙ one.one.others m differs ∙ sym (with_there w false_lit m list other)
        ];
      };
    }

-- what a vector is without one of its items
pub record LostOne (place : ℕ) (was now : Vec Watch) : Type 0 where
  pub size : vec_len now + 1 ≡ vec_len was
  pub last : (d : Watch) → place + 1 < vec_len was → get_or now.items place d ≡ get_or was.items (vec_len was - 1) d
  pub others : (k : ℕ) (d : Watch) → k ≢ place → k + 1 < vec_len was → get_or now.items k d ≡ get_or was.items k d

pub without_of : (place : ℕ) (was now : Vec Watch) → LostOne place was now → IsWithout place was.items now.items
without_of place was now lost =
    let len : vec_len was ≡ length was.items = was.ok.0 in
    record {
      size = omega (arith, lost.size, was.ok.0, now.ok.0);
      last = λ d below. lost.last d (omega (arith, below, len)) ∙ ap (λ n. get_or was.items (n - 1) d) len;
      others = λ k d differs below. lost.others k d differs (omega (arith, below, len));
    }

-- a search from whose lists one was taken out
pub standing : (s : Search) (false_lit : Lit) (list : List Watch) → AreWatched (root_of s) (length s.assignment.values) s.clauses (with_list s.watchers false_lit list) → false_lit.var < length s.assignment.values
    → code_of false_lit < length s.watchers.lists
standing s false_lit list watched variable =
    code_below false_lit (length s.assignment.values) (length s.watchers.lists) variable (sym (length-set s.watchers.lists (code_of false_lit) list) ∙ watched.lists)

module _ (s : Search) (false_lit : Lit) (list : List Watch) (place : ℕ) (watch : Watch) (watched : AreWatched (root_of s) (length s.assignment.values) s.clauses (with_list s.watchers false_lit list))
    (variable : false_lit.var < length s.assignment.values) (inside : place < length list) (at : watch ≡ get_or list place watch) where
  stands : code_of false_lit < length s.watchers.lists
  stands = standing s false_lit list watched variable

  inside_out : place < length (watches_of (with_list s.watchers false_lit list) false_lit)
  inside_out = subst (λ ws. place < length ws) (sym (with_here s.watchers false_lit list stands)) inside

  at_out : watch ≡ get_or (watches_of (with_list s.watchers false_lit list) false_lit) place watch
  at_out = at ∙ ap (λ ws. get_or ws place watch) (sym (with_here s.watchers false_lit list stands))

  numbered : get_or (watchers (with_list s.watchers false_lit list) false_lit) place 0 ≡ watch.id
  numbered = numbered_at (watches_of (with_list s.watchers false_lit list) false_lit) place watch inside_out at_out

  numbers_inside : place < length (watchers (with_list s.watchers false_lit list) false_lit)
  numbers_inside = inside_numbers (watches_of (with_list s.watchers false_lit list) false_lit) place inside_out

  blocked : IsBlocked s.clauses watch
  blocked = blocked_at (root_of s) (length s.assignment.values) s.clauses (with_list s.watchers false_lit list) false_lit place watch watched inside_out at_out

  pub id_below : watch.id < length s.clauses
  id_below = blocked.below

  pub watchable : IsWatchable (length s.assignment.values) (kept_at s.clauses watch.id)
  watchable = watched.watchable watch.id [] id_below

  pub blocker_below : watch.blocker.var < length s.assignment.values
  blocker_below = All-contains (λ (l : Lit). l.var < length s.assignment.values) (kept_at s.clauses watch.id) watch.blocker watchable.below blocked.among

  passed : IsTrueIn s.assignment.values watch.blocker → Advances false_lit place (with_watches s false_lit list) (with_watches s false_lit list) visited.Stays
  passed true_blocker = Advancing.passed (with_watches s false_lit list) false_lit place watch watched inside_out at_out true_blocker

  -- a clause whose blocking literal is true for good leaves the list
  pub dropped : (less : List Watch) → Contains (root_of s) watch.blocker → IsWithout place list less → Advances false_lit place (with_watches s false_lit list) (with_watches s false_lit less) visited.Leaves
  dropped less good without =
      Advancing.dropped (with_watches s false_lit list) false_lit place watch (with_list s.watchers false_lit less) watched inside_out at_out good (unwatches_out s.watchers false_lit list less place stands without)

  module _ (clauses : List (List Lit)) where
    -- the literal that is watched now is one of a variable, and has a list
    pub new_watch_below : (l other : Lit) → VisitsById s.assignment.values false_lit watch.id s.clauses clauses (visit.NewWatch l other) → l.var < length s.assignment.values
    new_watch_below l other visits =
        let good = watchable_left (length s.assignment.values) s.assignment.values false_lit (kept_at s.clauses watch.id) visits.clause l watchable visits.visits.0 visits.visits.2 in
        subst (λ (m : Lit). m.var < length s.assignment.values) visits.visits.2.stands (good.below 1 no_lit (omega (arith, good.two)))

    pub new_watch_stands : (l other : Lit) → VisitsById s.assignment.values false_lit watch.id s.clauses clauses (visit.NewWatch l other) → code_of l < length s.watchers.lists
    new_watch_stands l other visits =
        code_below l (length s.assignment.values) (length s.watchers.lists) (new_watch_below l other visits)
        (sym (length-set s.watchers.lists (code_of false_lit) list) ∙ watched.lists)

    -- and so is one that is made true
    pub unit_below : (l : Lit) → VisitsById s.assignment.values false_lit watch.id s.clauses clauses (visit.UnitLit l) → l.var < length s.assignment.values
    unit_below l visits =
        let good = watchable_kept (length s.assignment.values) (kept_at s.clauses watch.id) visits.clause watchable visits.visits.0 in
        subst (λ (m : Lit). m.var < length s.assignment.values) visits.visits.2.stands (good.below 0 no_lit (omega (arith, good.two)))

    pub stays : (other : Lit) → VisitsById s.assignment.values false_lit watch.id s.clauses clauses (visit.Satisfied other)
        → Advances false_lit place (with_watches s false_lit list)
        (with_watches (record { assignment = s.assignment; clauses = clauses; watchers = s.watchers; numbers = s.numbers; starts = s.starts }) false_lit
        (set list place (record { id = watch.id; blocker = other })))
        visited.Stays
    stays other visits =
        let now : Watch = record { id = watch.id; blocker = other } in
        Advancing.stays (with_watches s false_lit list) false_lit place watch.id clauses id_below watchable numbers_inside numbered other (with_list s.watchers false_lit (set list place now)) visits
        (resets_out s.watchers false_lit list place now stands)

    pub stale : (less : List Watch) → VisitsById s.assignment.values false_lit watch.id s.clauses clauses visit.Stale → IsWithout place list less
        → Advances false_lit place (with_watches s false_lit list)
        (with_watches (record { assignment = s.assignment; clauses = clauses; watchers = s.watchers; numbers = s.numbers; starts = s.starts }) false_lit less) visited.Leaves
    stale less visits without =
        Advancing.stale (with_watches s false_lit list) false_lit place watch.id clauses id_below watchable numbers_inside numbered (with_list s.watchers false_lit less) visits
        (unwatches_out s.watchers false_lit list less place stands without)

    pub moved : (l other : Lit) (w : WatchersParts) (less : List Watch) → AreTrue s.assignment.values s.assignment.trail.items
        → VisitsById s.assignment.values false_lit watch.id s.clauses clauses (visit.NewWatch l other) → IsFalseIn s.assignment.values false_lit
        → Watches s.watchers w l (record { id = watch.id; blocker = other }) → IsWithout place list less
        → Advances false_lit place (with_watches s false_lit list)
        (with_watches (record { assignment = s.assignment; clauses = clauses; watchers = w; numbers = s.numbers; starts = s.starts }) false_lit less) visited.Leaves
    moved l other w less truths visits falsity one without =
        let apart : l ≢ false_lit = λ e. visits.visits.2.not_false (subst (IsFalseIn s.assignment.values) (sym e) falsity) in
        Advancing.leaves (with_watches s false_lit list) false_lit place watch.id clauses id_below watchable numbers_inside numbered l other (with_list w false_lit list) (with_list w false_lit less) truths visits falsity
        (watches_out s.watchers w false_lit l list (record { id = watch.id; blocker = other }) stands apart one)
        (unwatches_out w false_lit list less place (subst (λ n. code_of false_lit < n) (sym one.one.size) stands) without)

    pub forced : (l : Lit) (now : Assignment) (reason : Option ℕ) → AreTrue s.assignment.values s.assignment.trail.items → reason ≡ slice_get s.numbers.items watch.id
        → VisitsById s.assignment.values false_lit watch.id s.clauses clauses (visit.UnitLit l) → Assigns s.assignment now l reason
        → Advances false_lit place (with_watches s false_lit list)
        (with_watches (record { assignment = now; clauses = clauses; watchers = s.watchers; numbers = s.numbers; starts = s.starts }) false_lit list) visited.Stays
    forced l now reason truths number visits assigns =
        Advancing.forces (with_watches s false_lit list) false_lit place watch.id clauses id_below watchable numbers_inside numbered l now reason truths number visits assigns

    pub failed : VisitsById s.assignment.values false_lit watch.id s.clauses clauses visit.Conflict
        → Advances false_lit place (with_watches s false_lit list)
        (with_watches (record { assignment = s.assignment; clauses = clauses; watchers = s.watchers; numbers = s.numbers; starts = s.starts }) false_lit list) (visited.Conflict watch.id)
    failed visits = Advancing.fails (with_watches s false_lit list) false_lit place watch.id clauses id_below watchable numbers_inside numbered visits

module _ (s : Search) (false_lit : Lit) (list : List Watch) (variable : false_lit.var < length s.assignment.values) where
  module _ (watched : AreWatched (root_of s) (length s.assignment.values) s.clauses (with_list s.watchers false_lit list)) where
    -- the blocking literals are of variables
    pub blockers_below : All (λ (w : Watch). w.blocker.var < length s.assignment.values) list
    blockers_below k d small = blocker_below s false_lit list k (get_or list k d) watched variable small (get_or_default list k d (get_or list k d) small)

  -- the clauses are passed whose blocking literals are true
  skips : (part : List Lit) (from count : ℕ) → Visiting part false_lit from (with_watches s false_lit list) → AllWithin (λ (w : Watch). IsTrueIn s.assignment.values w.blocker) list from (from + count)
      → from + count ≤ length list → Visiting part false_lit (from + count) (with_watches s false_lit list)
  skips part from zero v trues within =
      let same : from ≡ from + 0 = omega arith in
      subst (λ n. Visiting part false_lit n (with_watches s false_lit list)) same v
  skips part from (suc count) v trues within =
      let place = from + count in
      let watch = get_or list place no_watch in
      let inside : place < length list = omega (arith, within) in
      let before : Visiting part false_lit place (with_watches s false_lit list) = skips part from count v (λ k d low high. trues k d low (omega (arith, high))) (omega (arith, within)) in
      let true_blocker : IsTrueIn s.assignment.values watch.blocker = trues place no_watch (omega arith) (omega arith) in
      let after = (passed s false_lit list place watch before.watched variable inside (get_or_default list place no_watch watch inside) true_blocker).2 part before in
      let same : place + 1 ≡ from + suc count = omega arith in
      subst (λ n. Visiting part false_lit n (with_watches s false_lit list)) same after

  skipped : (part : List Lit) (from place : ℕ) → Visiting part false_lit from (with_watches s false_lit list) → from ≤ place → place ≤ length list
      → AllWithin (λ (w : Watch). IsTrueIn s.assignment.values w.blocker) list from place → Visiting part false_lit place (with_watches s false_lit list)
  skipped part from place v order within trues =
      let same : from + (place - from) ≡ place = omega (arith, order) in
      subst (λ n. Visiting part false_lit n (with_watches s false_lit list)) same
      (skips part from (place - from) v (λ k d low high. trues k d low (omega (arith, high, same))) (omega (arith, same, within)))

  module _ (seen : List Watch) (same : seen ≡ list) (part : List Lit) (from : ℕ) (v : Visiting part false_lit from (with_watches s false_lit list)) where
    pub comes_to : (place : ℕ) → ComesTo s.assignment.values seen from place → Visiting part false_lit place (with_watches s false_lit list)
    comes_to place at =
        let here : ComesTo s.assignment.values list from place = subst (λ ws. ComesTo s.assignment.values ws from place) same at in
        skipped part from place v here.order (omega (arith, here.within)) here.trues

    pub comes_behind : (place : ℕ) → from ≤ place → place ≡ length list → AllWithin (λ (w : Watch). IsTrueIn s.assignment.values w.blocker) seen from (length seen)
        → Visiting part false_lit place (with_watches s false_lit list)
    comes_behind place order end trues =
        skipped part from place v order (omega (arith, end))
        (subst (AllWithin (λ (w : Watch). IsTrueIn s.assignment.values w.blocker) list from) (sym end) (subst (λ ws. AllWithin (λ (w : Watch). IsTrueIn s.assignment.values w.blocker) ws from (length ws)) same trues))

-- a search is that with its own list
pub with_taken : (s : Search) (false_lit : Lit) (w : WatchersParts) (other list : List Watch) → w ≡ with_list s.watchers false_lit other → list ≡ watches_of s.watchers false_lit
    → with_watches (record { assignment = s.assignment; clauses = s.clauses; watchers = w; numbers = s.numbers; starts = s.starts }) false_lit list ≡ s
with_taken s false_lit w other list out is =
    let back : with_list w false_lit list ≡ s.watchers =
    ap (λ v. with_list v false_lit list) out ∙ with_twice s.watchers false_lit other list ∙ ap (with_list s.watchers false_lit) is ∙ with_own s.watchers false_lit in
    let make : WatchersParts → Search = λ v. record { assignment = s.assignment; clauses = s.clauses; watchers = v; numbers = s.numbers; starts = s.starts } in
    ap make back

goes_of : (false_lit : Lit) (old new : Search) (failed : Option ℕ) → PropagatesLit false_lit old new failed → GoesOn old new
goes_of false_lit old new (Some id) propagates = propagates.0
goes_of false_lit old new None propagates = propagates.0

-- the clauses are watched after all were visited
whole_after : (false_lit : Lit) (old new : Search) (failed : Option ℕ) → AreWatched (root_of old) (length old.assignment.values) old.clauses old.watchers → AreTrue old.assignment.values old.assignment.trail.items
    → IsFalseIn old.assignment.values false_lit → PropagatesLit false_lit old new failed → AreWatched (root_of new) (length new.assignment.values) new.clauses new.watchers
whole_after false_lit old new (Some id) watched truths falsity propagates = (propagates.2 (record { watched = watched; truths = truths })).watched
whole_after false_lit old new None watched truths falsity propagates = (propagates.1 [] (starts false_lit old watched truths falsity)).2.watched

-- so the list has its place still
pub standing_after : (old new : Search) (false_lit : Lit) (list : List Watch) (failed : Option ℕ) → AreWatched (root_of old) (length old.assignment.values) old.clauses old.watchers
    → AreTrue old.assignment.values old.assignment.trail.items → IsFalseIn old.assignment.values false_lit → false_lit.var < length old.assignment.values → PropagatesLit false_lit old (with_watches new false_lit list) failed
    → code_of false_lit < length new.watchers.lists
standing_after old new false_lit list failed watched truths falsity variable propagates =
    standing new false_lit list (whole_after false_lit old (with_watches new false_lit list) failed watched truths falsity propagates)
    (subst (λ n. false_lit.var < n) (sym (goes_of false_lit old (with_watches new false_lit list) failed propagates).variables) variable)

-- the number of clauses that are visited
pub len_of : (s : Search) (false_lit : Lit) (list : List Watch) (place : ℕ) → Visiting [] false_lit place (with_watches s false_lit list) → false_lit.var < length s.assignment.values
    → length (watches_of (with_list s.watchers false_lit list) false_lit) ≡ length list
len_of s false_lit list place v variable = ap length (with_here s.watchers false_lit list (standing s false_lit list v.watched variable))
