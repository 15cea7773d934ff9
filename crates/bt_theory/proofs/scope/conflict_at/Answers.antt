use Rattle.std.proofs.Common.{◌<◌, get_or, length, map, arith, refl}
use Rattle.std.proofs.lemmas.List.{get_or_default}
use Rattle.bt_theory.specs.inner.Scopes.{parts_of}
use Rattle.bt_theory.proofs.Scoped.{found_among, paired_at, same_after}
use Rattle.bt_theory.proofs.scope.conflict_at.Goals as goal

pub conflict-requires : goal.conflict-requires
conflict-requires c =
    let scopes = c.args.scopes.now in
    let place = c.args.place in
    let scope = get_or scopes place c.index-scopes-place.result in
    let l : place < length scopes = omega arith in
    paired_at scopes (map parts_of scopes) place scope refl l (get_or_default scopes place scope c.index-scopes-place.result l) c.requires

pub returns-clause-same : goal.returns-clause-same
returns-clause-same c =
    let scopes = c.args.scopes.now in
    let place = c.args.place in
    let scope = get_or scopes place c.index-scopes-place.result in
    let l : place < length scopes = omega arith in
    same_after scopes (map parts_of scopes) place scope refl l (get_or_default scopes place scope c.index-scopes-place.result l) c.conflict.new.self c.in_ok-found.ensures.same

pub returns-clause-found : goal.returns-clause-found
returns-clause-found c =
    let scopes = c.args.scopes.now in
    let place = c.args.place in
    let scope = get_or scopes place c.index-scopes-place.result in
    let l : place < length scopes = omega arith in
    found_among scopes (map parts_of scopes) place scope refl l (get_or_default scopes place scope c.index-scopes-place.result l) c.args.assignment.now c.in_ok-found.found c.in_ok-found.ensures.found
