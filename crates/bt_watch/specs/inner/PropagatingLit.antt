-- Propagating by the clauses on the list of a literal that is false.
use Rattle.std.specs.Prelude.{◌≡◌, ◌+◌, ◌<◌, ◌≤◌, ℕ, Bool, Option, Some, None, List, length, Contains}
use Rattle.std.specs.List.{AllWithin, HoldsAt}
use Rattle.bt_cnf.specs.declared.literal.Lit.{Lit}
use Rattle.bt_cnf.specs.Truths.{IsTrueIn}
use Rattle.bt_watch.specs.declared.clause_pool.Watch.{Watch}
use Rattle.bt_watch.specs.declared.search.Search.{Search}
use Rattle.bt_watch.specs.declared.search.Visited.{Visited}
use Rattle.bt_watch.specs.declared.search.Visited.TheVariants.{Stays, Leaves, Conflict}
use Rattle.bt_watch.specs.declared.search.Next.{Next}
use Rattle.bt_watch.specs.declared.search.Next.TheVariants.{Nothing, Done, Open}
use Rattle.bt_watch.specs.inner.Visiting.{IsVisiting}
use Rattle.bt_watch.specs.Watchers.{watches_of}
use Rattle.bt_watch.specs.inner.Watchers.{with_list}
use Rattle.bt_watch.specs.Propagating.{root_of, FailsAt, GoesOn, IsWhole}

-- the search, where the literal has this list
abbrev pub with_watches : Search → Lit → List Watch → Search
with_watches s l list = record { assignment = s.assignment; clauses = s.clauses; watchers = with_list s.watchers l list; numbers = s.numbers; starts = s.starts }

-- the search visits the list of a false literal, and came to this place
abbrev pub Visiting : List Lit → Lit → ℕ → Search → Type 0
Visiting part false_lit place s = IsVisiting part false_lit place (root_of s) s.assignment.values s.assignment.trail.items s.clauses s.watchers

-- the blocking literals of the clauses of a list are true from one place of it up to another, which it has
pub record ComesTo (values : List (Option Bool)) (list : List Watch) (from place : ℕ) : Type 0 where
  pub order : from ≤ place
  pub within : place < length list
  pub trues : AllWithin (λ (w : Watch). IsTrueIn values w.blocker) list from place

-- what comes next on a list, from a place on: nothing, as all blocking literals are true; or a clause whose blocking
-- literal is true for good; or one that is to be visited
abbrev pub Finds : List (Option Bool) → List Lit → List Watch → ℕ → Next → Type 0
Finds values root list from Nothing = AllWithin (λ (w : Watch). IsTrueIn values w.blocker) list from (length list)
Finds values root list from (Done place) = ComesTo values list from place
    × HoldsAt (λ (w : Watch). IsTrueIn values w.blocker × Contains root w.blocker) list place
Finds values root list from (Open place) = ComesTo values list from place

-- what a visit of the clause at a place makes of the search
abbrev pub Advances : Lit → ℕ → Search → Search → Visited → Type 0
Advances false_lit place old new Stays =
    GoesOn old new × (length (watches_of new.watchers false_lit) ≡ length (watches_of old.watchers false_lit))
    × ((part : List Lit) → Visiting part false_lit place old → Visiting part false_lit (place + 1) new)
Advances false_lit place old new Leaves =
    GoesOn old new × (length (watches_of new.watchers false_lit) + 1 ≡ length (watches_of old.watchers false_lit))
    × ((part : List Lit) → Visiting part false_lit place old → Visiting part false_lit place new)
Advances false_lit place old new (Conflict id) = GoesOn old new × FailsAt new id × (IsWhole old → IsWhole new)

-- all clauses on the literal's list were visited, or one was found whose literals are all false
abbrev pub PropagatesLit : Lit → Search → Search → Option ℕ → Type 0
PropagatesLit false_lit old new None = GoesOn old new
    × ((part : List Lit) → Visiting part false_lit 0 old → (place : ℕ) × (length (watches_of new.watchers false_lit) ≤ place) × Visiting part false_lit place new)
PropagatesLit false_lit old new (Some id) = GoesOn old new × FailsAt new id × (IsWhole old → IsWhole new)
