use Rattle.std.proofs.Common.{◌≡◌, [], arith, length, subst, sym}
use Rattle.bt_sat.specs.inner.Analysing.{MarksSeen}
use Rattle.bt_sat.specs.inner.Lemmas.{IsListing}
use Rattle.bt_sat.proofs.Picking
use Rattle.bt_sat.proofs.lemmas.pick.Goals as goal

pub loop-place-init : goal.loop-place-init
loop-place-init c =
    let s = c.args.search.now in
    let lits = c.args.lits.now in
    let end = length s.assignment.trail.items in
    let size : c.len-bound.result ≡ end = omega (arith, c.len-bound.ensures) in
    let marks : MarksSeen s.assignment.places.items lits end [] c.mark_seen.new.agenda =
    subst (λ xs. MarksSeen xs lits end [] c.mark_seen.new.agenda) c.deref.ensures.value
    (subst (λ n. MarksSeen c.deref.result.now lits n [] c.mark_seen.new.agenda) size (subst (λ xs. MarksSeen c.deref.result.now lits c.len-bound.result xs c.mark_seen.new.agenda) c.clear.ensures c.in_ok-mark_seen.ensures)) in
    subst (λ xs. IsListing s.assignment.places.items lits end c.mark_seen.new.agenda xs c.len-bound.result) (sym c.clear-2.ensures.items)
    (subst (IsListing s.assignment.places.items lits end c.mark_seen.new.agenda []) (sym size) (Picking.begun s lits c.requires.traceable c.requires.falses c.mark_seen.new.agenda marks))

pub loop-place-smaller : goal.loop-place-smaller
loop-place-smaller c = c.loop-place.invariant.before c.in-Some.place c.in-Some.ensures.0.0

pub loop-place-preserved : goal.loop-place-preserved
loop-place-preserved c =
    let s = c.args.search.now in
    let lits = c.args.lits.now in
    let end = length s.assignment.trail.items in
    subst (λ xs. IsListing s.assignment.places.items lits end c.take_greatest.new.self xs c.in-Some.place) (sym c.in_ok-push.ensures.items)
    (Picking.listed_next s.assignment.places.items lits end c.loop-place.analysis.agenda c.loop-place.analysis.picked.items c.loop-place.bound c.in-Some.place c.take_greatest.new.self c.loop-place.invariant c.in-Some.ensures)

pub returns : goal.returns
returns c =
    Picking.listed c.args.search.now c.args.lits.now c.requires.traceable c.requires.falses c.loop-place.analysis.agenda c.loop-place.analysis.picked.items c.loop-place.bound c.loop-place.invariant c.in_default.ensures
