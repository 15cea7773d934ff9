use Rattle.std.proofs.Common.{◌≡◌, ◌<◌, length, subst, Some}
use Rattle.std.specs.Prelude.{Contains, slice_get, take}
use Rattle.bt_cnf.specs.declared.literal.Lit.{Lit}
use Rattle.bt_watch.specs.Levels.{start_of}
use Rattle.bt_cnf.proofs.Lists.{got_at, got_within}
use Rattle.bt_watch.proofs.Backjumped.{place_in_take}
use Rattle.bt_watch.proofs.Roots.{before_root}
use Rattle.bt_watch.proofs.search.is_rooted.Goals as goal

pub returns-then-place-root : goal.returns-then-place-root
returns-then-place-root c = λ told.
    let s = c.args.search.now in
    let trail = s.assignment.trail.items in
    let place = c.in-Some.place.now in
    let lit : Lit = c.args.lit.now in
    let is : slice_get trail place ≡ Some lit = subst (λ ts. slice_get ts place ≡ Some lit) c.deref.ensures.value (c.is_at.ensures told) in
    let below : place < start_of s 0 = before_root s.starts.items (length trail) place (subst (λ n. place < n) c.requires c.if-place-root.true) (got_within trail place lit is) in
    subst (Contains (take (start_of s 0) trail)) (got_at trail place lit lit is) (place_in_take (start_of s 0) trail place lit below (got_within trail place lit is))
