-- How the lists of the clauses that watch a literal change.
use Rattle.std.specs.Prelude.{◌≡◌, ◌≢◌, ◌+◌, ◌-◌, ◌<◌, ℕ, ◌++◌, ◌∷◌, [], List, length, map, slice_index_or, slice_set}
use Rattle.std.specs.Global.{Vec}
use Rattle.bt_cnf.specs.declared.literal.Lit.{Lit}
use Rattle.bt_watch.specs.declared.clause_pool.Watch.{Watch}
use Rattle.bt_cnf.specs.Codes.{code_of}
use Rattle.bt_watch.specs.WatchersParts.{WatchersParts}
use Rattle.bt_watch.specs.Watchers.{watches_of}

-- the lists of clauses that vectors have
abbrev pub lists_of : Vec (Vec Watch) → List (List Watch)
lists_of vectors = map (λ (v : Vec Watch). v.items) vectors.items

-- the literal has this list, and the other lists stay
abbrev pub with_list : WatchersParts → Lit → List Watch → WatchersParts
with_list w l list = record { lists = slice_set w.lists (code_of l) list }

-- a list lost what stood at a place, where the last item stands now
pub record IsWithout {X : Type 0} (place : ℕ) (old new : List X) : Type 0 where
  pub size : length new + 1 ≡ length old
  pub last : (d : X) → place + 1 < length old → slice_index_or new place d ≡ slice_index_or old (length old - 1) d
  pub others : (k : ℕ) (d : X) → k ≢ place → k + 1 < length old → slice_index_or new k d ≡ slice_index_or old k d

-- there are as many lists as before, and those of other literals stay
pub record ChangesOne (old new : WatchersParts) (l : Lit) : Type 0 where
  pub size : length new.lists ≡ length old.lists
  pub others : (m : Lit) → m ≢ l → watches_of new m ≡ watches_of old m

-- one more clause watches the literal
pub record Watches (old new : WatchersParts) (l : Lit) (watch : Watch) : Type 0 where
  pub added : watches_of new l ≡ watches_of old l ++ watch ∷ []
  pub one : ChangesOne old new l

-- the list of the literal has another clause at a place
pub record Resets (old new : WatchersParts) (l : Lit) (place : ℕ) (watch : Watch) : Type 0 where
  pub reset : watches_of new l ≡ slice_set (watches_of old l) place watch
  pub one : ChangesOne old new l

-- the clause at a place watches the literal no longer
pub record Unwatches (old new : WatchersParts) (l : Lit) (place : ℕ) : Type 0 where
  pub without : IsWithout place (watches_of old l) (watches_of new l)
  pub one : ChangesOne old new l
