-- What one visit makes of the search.
use Rattle.std.proofs.Common.{◌≡◌, ℕ, ◌<◌, ◌+◌, arith, List, [], ◌∷◌, ◌++◌, length, get_or, map, sym, subst, refl, ap, ◌∙◌, Some, None, length-set, length-append, get_or-set_same, append-nil, Bool, true, false, not, Option, zero, suc, append_assoc}
use Rattle.std.specs.Prelude.{◌≤◌, Contains, IsPermutation, slice_get, slice_set, take}
use Rattle.std.specs.List.{All}
use Rattle.std.specs.Global.{Vec}
use Rattle.std.proofs.lemmas.List.{get_or_default}
use Rattle.std.proofs.lemmas.List.Elements.{All-contains, All-nil, All-set, Contains-append_left}
use Rattle.std.proofs.lemmas.List.Sorted.{Contains-permutation, IsPermutation-refl, IsPermutation-sym, IsPermutation-trans}
use Rattle.bt_cnf.specs.declared.literal.Lit.{Lit}
use Rattle.bt_cnf.specs.Truths.{IsTrueIn, IsFalseIn, unset}
use Rattle.bt_cnf.specs.Units.{clause_at}
use Rattle.bt_watch.specs.declared.assignment.Assignment.{Assignment}
use Rattle.bt_watch.specs.declared.search.Search.{Search}
use Rattle.bt_watch.specs.declared.clause_pool.Watch.{Watch}
use Rattle.bt_watch.specs.Assigning.{Assigns}
use Rattle.bt_watch.specs.Watched.{no_lit, first, second}
use Rattle.bt_watch.specs.inner.VisitingById.{VisitsById}
use Rattle.bt_watch.specs.Keeping.{IsWatchable, kept_at, IsBlocked, IsAtRest, AreWatched, AreTrue}
use Rattle.bt_watch.specs.inner.Visiting.{IsVisiting}
use Rattle.bt_watch.specs.Reasons.{AreSame, AreNumbered, AreReasons, IsReasoned}
use Rattle.bt_watch.specs.Propagating.{GoesOn, root_of}
use Rattle.bt_watch.specs.inner.PropagatingLit.{Visiting, Advances}
use Rattle.bt_watch.specs.Watchers.{watchers, watches_of}
use Rattle.bt_watch.specs.inner.Watchers.{Resets, Watches, Unwatches}
use Rattle.bt_watch.specs.WatchersParts.{WatchersParts}
use Rattle.bt_watch.specs.declared.search.Visited.TheVariants as visited
use Rattle.bt_watch.specs.declared.watched.Visit.TheVariants as visit
use Rattle.bt_cnf.proofs.Lists.{none_in, all_more}
use Rattle.bt_watch.proofs.Backjumped.{take_in, take_wider}
use Rattle.bt_watch.proofs.Keeping.{rest_kept, rest_left, watchable_kept, watched_kept, kept_set}
use Rattle.bt_watch.proofs.Reasoning.{got_none, reasons_more, unit_reason}
use Rattle.bt_watch.proofs.Visiting.{done_none, done_true, drops, first_among, goes_on, grows, keeps, moves, passes, resets, roots, satisfied_first, strays}
use Rattle.bt_watch.proofs.Watches.{number, no_watch, inside_list, inside_numbers, number_at}

-- each item of a list is among them
pub all_here : {X : Type 0} (xs : List X) → All (Contains xs) xs
all_here xs k d small = (k, small, get_or_default xs k _ d small)

-- the same literals in another order
pub same_permuted : (clause old new : List Lit) → AreSame clause old → IsPermutation old new → AreSame clause new
same_permuted clause old new same permuted l = (
  (λ among. Contains-permutation old new l permuted ((same l).0 among)),
  (λ among. (same l).1 (Contains-permutation new old l (IsPermutation-sym old new permuted) among)),
)

-- an unset variable that is set
unset_less : (values : List (Option Bool)) (var : ℕ) (value : Bool) → var < length values → get_or values var None ≡ None → unset (slice_set values var (Some value)) + 1 ≡ unset values
unset_less [] var value below is = absurd (omega (arith, below))
unset_less (None ∷ values) zero value below is = refl
unset_less (Some old ∷ values) zero value below is = cc
unset_less (None ∷ values) (suc var) value below is = ap (λ n. n + 1) (unset_less values var value (omega (arith, below)) is)
unset_less (Some old ∷ values) (suc var) value below is = unset_less values var value (omega (arith, below)) is

-- a variable is unset that is neither true nor false
neither : (value : Option Bool) (b : Bool) → (value ≡ Some b → ⊥) → (value ≡ Some (not b) → ⊥) → value ≡ None
neither None b not_true not_false = refl
neither (Some true) true not_true not_false = absurd (not_true refl)
neither (Some true) false not_true not_false = absurd (not_false refl)
neither (Some false) true not_true not_false = absurd (not_false refl)
neither (Some false) false not_true not_false = absurd (not_true refl)

-- the trail is longer by one, and one variable fewer is unset
pub room_kept : (old now : Assignment) (l : Lit) (reason : Option ℕ) → Assigns old now l reason → l.var < length old.values → (IsTrueIn old.values l → ⊥) → (IsFalseIn old.values l → ⊥)
    → unset now.values + length now.trail.items ≡ unset old.values + length old.trail.items
room_kept old now l reason assigns below not_true not_false =
    let less = unset_less old.values l.var l.positive below (neither (get_or old.values l.var None) l.positive not_true not_false) in
    let longer : length now.trail.items ≡ length old.trail.items + 1 = ap length assigns.trail ∙ length-append old.trail.items (l ∷ []) in
    let fewer : unset now.values + 1 ≡ unset old.values = ap (λ vs. unset vs + 1) assigns.values ∙ less in
    omega (arith, longer, fewer)

-- what was true before the first choice is on the trail
pub root_in : (s : Search) → All (Contains s.assignment.trail.items) (root_of s)
root_in s k d small = take_in (get_or s.starts.items 0 (length s.assignment.trail.items)) s.assignment.trail.items (get_or (root_of s) k d) (k, small, get_or_default (root_of s) k (get_or (root_of s) k d) d small)

first_rises : (xs : List ℕ) (a b : ℕ) → a ≤ b → get_or xs 0 a ≤ get_or xs 0 b
first_rises [] a b order = order
first_rises (x ∷ xs) a b order = omega arith

-- with more literals on the trail no fewer were true before the first choice
pub root_more : (old new : Search) (more : List Lit) → new.starts ≡ old.starts → new.assignment.trail.items ≡ old.assignment.trail.items ++ more → (m : Lit) → Contains (root_of old) m → Contains (root_of new) m
root_more old new more starts trail m among =
    let before = old.assignment.trail.items in
    let longer : length before ≤ length new.assignment.trail.items = omega (arith, ap length trail, length-append before more) in
    let rises = first_rises old.starts.items (length before) (length new.assignment.trail.items) longer in
    subst (λ (v : Vec ℕ). Contains (take (get_or v.items 0 (length new.assignment.trail.items)) new.assignment.trail.items) m) (sym starts)
    (subst (λ ts. Contains (take (get_or old.starts.items 0 (length new.assignment.trail.items)) ts) m) (sym trail)
    (take_wider (get_or old.starts.items 0 (length before)) (get_or old.starts.items 0 (length new.assignment.trail.items)) before more m rises among))

-- the clause at a place of a list
pub numbered_at : (ws : List Watch) (place : ℕ) (watch : Watch) → place < length ws → watch ≡ get_or ws place watch → get_or (map number ws) place 0 ≡ watch.id
numbered_at ws place watch inside is = number_at ws place inside ∙ ap number (get_or_default ws place no_watch watch inside ∙ sym is)

pub blocked_at : (base : List Lit) (vars : ℕ) (clauses : List (List Lit)) (w : WatchersParts) (false_lit : Lit) (place : ℕ) (watch : Watch) → AreWatched base vars clauses w → place < length (watches_of w false_lit)
    → watch ≡ get_or (watches_of w false_lit) place watch → IsBlocked clauses watch
blocked_at base vars clauses w false_lit place watch are inside is = subst (IsBlocked clauses) (sym is) (are.blocked false_lit place watch inside)

-- the clauses are the same but for the order of one
goes : (old : Search) (assignment : Assignment) (w : WatchersParts) (clauses : List (List Lit)) (id : ℕ) (new more : List Lit) → id < length old.clauses → clauses ≡ slice_set old.clauses id new
    → IsPermutation (kept_at old.clauses id) new → assignment.trail.items ≡ old.assignment.trail.items ++ more → length assignment.values ≡ length old.assignment.values
    → unset assignment.values + length assignment.trail.items ≡ unset old.assignment.values + length old.assignment.trail.items
    → ((all : List (List Lit)) → AreNumbered all old → IsReasoned all old → AreReasons all old.starts.items assignment)
    → ((front : List Lit) → All (Contains old.assignment.trail.items) front → IsAtRest front front (kept_at old.clauses id) → IsAtRest front front new)
    → GoesOn old (record { assignment = assignment; clauses = clauses; watchers = w; numbers = old.numbers; starts = old.starts })
goes old assignment w clauses id new more below one permuted trail variables room reasoned rests = record {
  numbers = refl;
  starts = refl;
  reasoned = reasoned;
  rests = λ front inside rest. subst (All (IsAtRest front front)) (sym one) (All-set (IsAtRest front front) old.clauses id new (rests front inside (rest id [] below)) rest);
  more = more;
  trail = trail;
  variables = variables;
  count = ap length one ∙ length-set old.clauses id new;
  clauses = λ other.
      subst (λ cs. IsPermutation (kept_at old.clauses other) (kept_at cs other)) (sym one)
      (kept_set (λ n c. IsPermutation (kept_at old.clauses n) c) old.clauses id other new below permuted (λ _. IsPermutation-refl (kept_at old.clauses other)));
  room = room;
}

module _ (old : Search) (false_lit : Lit) (place id : ℕ) (clauses : List (List Lit)) (below : id < length old.clauses) (is_old : IsWatchable (length old.assignment.values) (kept_at old.clauses id))
    (inside : place < length (watchers old.watchers false_lit)) (is : get_or (watchers old.watchers false_lit) place 0 ≡ id) where
  pub stays : (other : Lit) (w : WatchersParts) → VisitsById old.assignment.values false_lit id old.clauses clauses (visit.Satisfied other) → Resets old.watchers w false_lit place (record { id = id; blocker = other })
      → Advances false_lit place old (record { assignment = old.assignment; clauses = clauses; watchers = w; numbers = old.numbers; starts = old.starts }) visited.Stays
  stays other w at one =
      let kept = at.visits.0 in
      let watch : Watch = record { id = id; blocker = other } in
      let good = watchable_kept (length old.assignment.values) (kept_at old.clauses id) at.clause is_old kept in
      let here : kept_at (slice_set old.clauses id at.clause) id ≡ at.clause = get_or-set_same old.clauses id at.clause [] below in
      let blocks : IsBlocked (slice_set old.clauses id at.clause) watch = record {
        below = subst (λ n. id < n) (sym (length-set old.clauses id at.clause)) below;
        among = subst (λ c. Contains c other) (sym here) (subst (Contains at.clause) at.visits.2 (first_among at.clause good.two));
      } in (
        goes old old.assignment w clauses id at.clause [] below at.one kept.permuted (sym (append-nil old.assignment.trail.items)) refl refl (λ all numbered are. are)
            (λ front inside_front rest. rest_kept front front (kept_at old.clauses id) at.clause rest kept),
        ap length one.reset ∙ length-set (watches_of old.watchers false_lit) place watch,
        λ part v.
            subst (λ cs. IsVisiting part false_lit (place + 1) (root_of old) old.assignment.values old.assignment.trail.items cs w) (sym at.one)
            (resets part false_lit place (place + 1) (root_of old) old.assignment.values old.assignment.trail.items (slice_set old.clauses id at.clause) old.watchers w watch
            (goes_on part false_lit place (root_of old) old.assignment.values old.assignment.trail.items old.clauses old.watchers id at.clause v inside is kept
            (done_true false_lit old.assignment.trail.items at.clause
            (satisfied_first old.assignment.values old.assignment.trail.items at.clause v.truths good.two (subst (IsTrueIn old.assignment.values) (sym at.visits.2) at.visits.3))))
            one (inside_list (watches_of old.watchers false_lit) place inside) is blocks),
      )

  pub forces : (l : Lit) (now : Assignment) (reason : Option ℕ) → AreTrue old.assignment.values old.assignment.trail.items → reason ≡ slice_get old.numbers.items id
      → VisitsById old.assignment.values false_lit id old.clauses clauses (visit.UnitLit l) → Assigns old.assignment now l reason
      → Advances false_lit place old (record { assignment = now; clauses = clauses; watchers = old.watchers; numbers = old.numbers; starts = old.starts }) visited.Stays
  forces l now reason truths number at assigns =
      let kept = at.visits.0 in
      let leaves = at.visits.2 in
      let good = watchable_kept (length old.assignment.values) (kept_at old.clauses id) at.clause is_old kept in
      let inside_l : l.var < length old.assignment.values = subst (λ (m : Lit). m.var < length old.assignment.values) leaves.stands (good.below 0 no_lit (omega (arith, good.two))) in
      let after = slice_set old.assignment.values l.var (Some l.positive) in
      let new : Search = record { assignment = now; clauses = clauses; watchers = old.watchers; numbers = old.numbers; starts = old.starts } in (
        goes old now old.watchers clauses id at.clause (l ∷ []) below at.one kept.permuted assigns.trail (ap length assigns.values ∙ length-set old.assignment.values l.var (Some l.positive))
            (room_kept old.assignment now l reason assigns inside_l leaves.not_true leaves.not_false)
            (λ all numbered are. reasons_more all old.starts.items old.assignment now l reason assigns truths inside_l leaves.not_true leaves.not_false
            (λ n is_some. unit_reason all old id at.clause l n numbered truths below kept (omega (arith, good.two)) leaves (sym number ∙ is_some))
            (λ is_none. absurd (got_none old.numbers.items id (sym number ∙ is_none) (subst (λ n. id < n) (sym numbered.count) below))) are)
            (λ front inside_front rest. rest_kept front front (kept_at old.clauses id) at.clause rest kept),
        refl,
        λ part v.
            let v' = grows part false_lit place (root_of old) old.assignment.values old.assignment.trail.items old.clauses old.watchers l v inside_l leaves.not_true leaves.not_false in
            let true_first : IsTrueIn after (first at.clause) =
            subst (IsTrueIn after) (sym leaves.stands) (get_or-set_same old.assignment.values l.var (Some l.positive) None inside_l) in
            subst (λ vs. IsVisiting part false_lit (place + 1) (root_of new) vs now.trail.items clauses old.watchers) (sym assigns.values)
            (roots part false_lit (place + 1) (root_of old) (root_of new) after now.trail.items clauses old.watchers
            (subst (λ ts. IsVisiting part false_lit (place + 1) (root_of old) after ts clauses old.watchers) (sym assigns.trail)
            (subst (λ cs. IsVisiting part false_lit (place + 1) (root_of old) after (old.assignment.trail.items ++ l ∷ []) cs old.watchers) (sym at.one)
            (goes_on part false_lit place (root_of old) after (old.assignment.trail.items ++ l ∷ []) old.clauses old.watchers id at.clause v' inside is kept
            (done_true false_lit (old.assignment.trail.items ++ l ∷ []) at.clause
            (satisfied_first after (old.assignment.trail.items ++ l ∷ []) at.clause v'.truths good.two true_first)))))
            (root_more old new (l ∷ []) refl assigns.trail) (root_in new)),
      )

  pub leaves : (l other : Lit) (w₁ w₂ : WatchersParts) → AreTrue old.assignment.values old.assignment.trail.items → VisitsById old.assignment.values false_lit id old.clauses clauses (visit.NewWatch l other) → IsFalseIn old.assignment.values false_lit
      → Watches old.watchers w₁ l (record { id = id; blocker = other }) → Unwatches w₁ w₂ false_lit place
      → Advances false_lit place old (record { assignment = old.assignment; clauses = clauses; watchers = w₂; numbers = old.numbers; starts = old.starts }) visited.Leaves
  leaves l other w₁ w₂ truths at falsity one un =
      let left = at.visits.0 in
      let now = at.visits.2 in
      let same : watches_of w₁ false_lit ≡ watches_of old.watchers false_lit = one.one.others false_lit (λ e. now.not_false (subst (IsFalseIn old.assignment.values) e falsity)) in (
        goes old old.assignment w₂ clauses id at.clause [] below at.one left.permuted (sym (append-nil old.assignment.trail.items)) refl refl (λ all numbered are. are)
            (λ front inside_front rest. rest_left old.assignment.values front front false_lit (kept_at old.clauses id) at.clause l
            (λ m h. truths.true_in m (All-contains (Contains old.assignment.trail.items) front m inside_front h)) (all_here front) rest left now),
        un.without.size ∙ ap length same,
        λ part v.
            subst (λ cs. IsVisiting part false_lit place (root_of old) old.assignment.values old.assignment.trail.items cs w₂) (sym at.one)
            (moves part false_lit place (root_of old) old.assignment.values old.assignment.trail.items old.clauses old.watchers id at.clause v inside is w₁ w₂ l other left at.visits.1 now one un),
      )

  pub stale : (w : WatchersParts) → VisitsById old.assignment.values false_lit id old.clauses clauses visit.Stale → Unwatches old.watchers w false_lit place
      → Advances false_lit place old (record { assignment = old.assignment; clauses = clauses; watchers = w; numbers = old.numbers; starts = old.starts }) visited.Leaves
  stale w at un =
      let kept = at.visits.0 in
      let here : kept_at (slice_set old.clauses id at.clause) id ≡ at.clause = get_or-set_same old.clauses id at.clause [] below in (
        goes old old.assignment w clauses id at.clause [] below at.one kept.permuted (sym (append-nil old.assignment.trail.items)) refl refl (λ all numbered are. are)
            (λ front inside_front rest. rest_kept front front (kept_at old.clauses id) at.clause rest kept),
        un.without.size,
        λ part v.
            subst (λ cs. IsVisiting part false_lit place (root_of old) old.assignment.values old.assignment.trail.items cs w) (sym at.one)
            (strays part false_lit place (root_of old) old.assignment.values old.assignment.trail.items (slice_set old.clauses id at.clause) old.watchers w id
            (keeps part false_lit place (root_of old) old.assignment.values old.assignment.trail.items old.clauses old.watchers id at.clause v inside is kept
            (done_none false_lit old.assignment.trail.items at.clause at.visits.1 at.visits.2)) inside is
            (λ e. at.visits.1 (sym (ap first here) ∙ e)) (λ e. at.visits.2 (sym (ap second here) ∙ e)) un),
      )

  pub fails : VisitsById old.assignment.values false_lit id old.clauses clauses visit.Conflict
      → Advances false_lit place old (record { assignment = old.assignment; clauses = clauses; watchers = old.watchers; numbers = old.numbers; starts = old.starts }) (visited.Conflict id)
  fails at =
      let here : kept_at clauses id ≡ at.clause = ap (λ cs. kept_at cs id) at.one ∙ get_or-set_same old.clauses id at.clause [] below in (
        goes old old.assignment old.watchers clauses id at.clause [] below at.one at.visits.0.permuted (sym (append-nil old.assignment.trail.items)) refl refl (λ all numbered are. are)
            (λ front inside_front rest. rest_kept front front (kept_at old.clauses id) at.clause rest at.visits.0),
        (
          subst (λ n. id < n) (sym (ap length at.one ∙ length-set old.clauses id at.clause)) below,
          subst (All (IsFalseIn old.assignment.values)) (sym here) at.visits.1,
        ),
        λ whole. record {
          watched =
              subst (λ cs. AreWatched (root_of old) (length old.assignment.values) cs old.watchers) (sym at.one)
              (watched_kept (root_of old) (length old.assignment.values) old.clauses old.watchers id at.clause whole.watched below at.visits.0);
          truths = whole.truths;
        },
      )

-- the numbers are those of the clauses still
pub numbered_goes : (all : List (List Lit)) (old new : Search) → GoesOn old new → AreNumbered all old → AreNumbered all new
numbered_goes all old new goes are =
    let same : (id : ℕ) → get_or new.numbers.items id 0 ≡ get_or old.numbers.items id 0 = λ id. ap (λ (v : Vec ℕ). get_or v.items id 0) goes.numbers in
    record {
      count = ap (λ (v : Vec ℕ). length v.items) goes.numbers ∙ are.count ∙ sym goes.count;
      below = λ id small. subst (λ n. n < length all) (sym (same id)) (are.below id (subst (λ n. id < n) goes.count small));
      same = λ id small. subst (λ n. AreSame (clause_at all n) (kept_at new.clauses id)) (sym (same id))
          (same_permuted (clause_at all (get_or old.numbers.items id 0)) (kept_at old.clauses id) (kept_at new.clauses id) (are.same id (subst (λ n. id < n) goes.count small)) (goes.clauses id));
    }

-- one visit after the other
pub goes_twice : (old mid new : Search) → GoesOn old mid → GoesOn mid new → GoesOn old new
goes_twice old mid new a b = record {
  more = a.more ++ b.more;
  trail = b.trail ∙ ap (λ ls. ls ++ b.more) a.trail ∙ append_assoc old.assignment.trail.items a.more b.more;
  variables = b.variables ∙ a.variables;
  count = b.count ∙ a.count;
  room = b.room ∙ a.room;
  numbers = b.numbers ∙ a.numbers;
  starts = b.starts ∙ a.starts;
  reasoned = λ all numbered are. b.reasoned all (numbered_goes all old mid a numbered) (a.reasoned all numbered are);
  rests = λ front inside rest.
      b.rests front (all_more (Contains old.assignment.trail.items) (Contains mid.assignment.trail.items) front
      (λ l among. subst (λ ts. Contains ts l) (sym a.trail) (Contains-append_left old.assignment.trail.items a.more l among)) inside) (a.rests front inside rest);
  clauses = λ id. IsPermutation-trans (kept_at old.clauses id) (kept_at mid.clauses id) (kept_at new.clauses id) (a.clauses id) (b.clauses id);
}

-- nothing was visited
pub goes_not : (s : Search) → GoesOn s s
goes_not s = record { more = []; trail = sym (append-nil s.assignment.trail.items); variables = refl; count = refl; room = refl; numbers = refl; starts = refl; reasoned = λ all numbered are. are; rests = λ front inside rest. rest; clauses = λ id. IsPermutation-refl (kept_at s.clauses id) }

goes_relisted : (s : Search) (w : WatchersParts) → GoesOn s (record { assignment = s.assignment; clauses = s.clauses; watchers = w; numbers = s.numbers; starts = s.starts })
goes_relisted s w = record { more = []; trail = sym (append-nil s.assignment.trail.items); variables = refl; count = refl; room = refl; numbers = refl; starts = refl; reasoned = λ all numbered are. are; rests = λ front inside rest. rest; clauses = λ id. IsPermutation-refl (kept_at s.clauses id) }

-- a clause whose blocking literal is true isn't looked at
pub passed : (old : Search) (false_lit : Lit) (place : ℕ) (watch : Watch) → AreWatched (root_of old) (length old.assignment.values) old.clauses old.watchers → place < length (watches_of old.watchers false_lit)
    → watch ≡ get_or (watches_of old.watchers false_lit) place watch → IsTrueIn old.assignment.values watch.blocker → Advances false_lit place old old visited.Stays
passed old false_lit place watch watched inside is true_blocker = (
  goes_not old,
  refl,
  λ part v.
      passes part false_lit place (root_of old) old.assignment.values old.assignment.trail.items old.clauses old.watchers watch v (numbered_at (watches_of old.watchers false_lit) place watch inside is)
      (blocked_at (root_of old) (length old.assignment.values) old.clauses old.watchers false_lit place watch watched inside is) true_blocker,
)

-- a clause leaves the list, whose blocking literal is true for good
pub dropped : (old : Search) (false_lit : Lit) (place : ℕ) (watch : Watch) (w : WatchersParts) → AreWatched (root_of old) (length old.assignment.values) old.clauses old.watchers
    → place < length (watches_of old.watchers false_lit) → watch ≡ get_or (watches_of old.watchers false_lit) place watch → Contains (root_of old) watch.blocker → Unwatches old.watchers w false_lit place
    → Advances false_lit place old (record { assignment = old.assignment; clauses = old.clauses; watchers = w; numbers = old.numbers; starts = old.starts }) visited.Leaves
dropped old false_lit place watch w watched inside is good un =
    let blocks = blocked_at (root_of old) (length old.assignment.values) old.clauses old.watchers false_lit place watch watched inside is in (
      goes_relisted old w,
      un.without.size,
      λ part v.
          drops part false_lit place (root_of old) old.assignment.values old.assignment.trail.items old.clauses old.watchers w watch.id v (inside_numbers (watches_of old.watchers false_lit) place inside)
          (numbered_at (watches_of old.watchers false_lit) place watch inside is) (record { lit = watch.blocker; among = blocks.among; holds = good }) un,
    )

-- all is at rest by no part of the trail
pub starts : (false_lit : Lit) (s : Search) → AreWatched (root_of s) (length s.assignment.values) s.clauses s.watchers → AreTrue s.assignment.values s.assignment.trail.items
    → IsFalseIn s.assignment.values false_lit → Visiting [] false_lit 0 s
starts false_lit s watched truths falsity = record {
  watched = watched;
  base_in = root_in s;
  truths = truths;
  rest = λ k d below. record { if_first = λ h. absurd (none_in _ h); if_second = λ h. absurd (none_in _ h) };
  part_in = All-nil (Contains s.assignment.trail.items);
  lit_is_false = falsity;
  done = λ k before small. absurd (omega (arith, before));
}
