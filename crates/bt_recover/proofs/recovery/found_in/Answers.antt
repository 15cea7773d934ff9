use Rattle.std.proofs.Common.{◌≡◌, ◌∙◌, ap, map, inl, refl, subst}
use Rattle.std.proofs.lemmas.Result.{err_from_is_err_and}
use Rattle.bt_recover.specs.inner.Edges.{naming_of, net_with}
use Rattle.bt_recover.proofs.OneRecovery.{net_refused}
use Rattle.bt_recover.proofs.NetworkLemmas.{large_exists}
use Rattle.bt_recover.proofs.WiredLemmas.{wired}
use Rattle.bt_recover.proofs.PreferLemmas.{numbered_of}
use Rattle.bt_recover.proofs.recovery.found_in.Goals as goal

pub returns-then-has_many : goal.returns-then-has_many
returns-then-has_many c =
    inl (large_exists c.args.grid.now c.in_ok-pairs.ensures.clean (naming_of c.in_ok-names.names) c.in_ok-names.ensures (c.has_many.ensures.0 c.if-has_many.true))

pub net_of-requires-clause-wired : goal.net_of-requires-clause-wired
net_of-requires-clause-wired c =
    wired c.args.grid.now (net_with (naming_of c.in_ok-names.names) c.in_ok-edges.edges.items) (naming_of c.in_ok-names.names)
    (numbered_of c.args.grid.now c.in_ok-pairs.ensures.clean (naming_of c.in_ok-names.names) c.in_ok-edges.edges.items c.in_ok-joints.joints.items c.in_ok-names.ensures (c.in_ok-edges.ensures ∙ ap (map (λ joint. joint.edge)) c.deref.ensures.value) c.in_ok-joints.ensures)

pub returns-in_err-pairs : goal.returns-in_err-pairs
returns-in_err-pairs c =
    let p = err_from_is_err_and c.from_residual.result c.from_residual.ensures.1 in
    rw (p.1, p.2) c.in_err-pairs.ensures.refused

pub returns-in_err-net : goal.returns-in_err-net
returns-in_err-net c =
    let p = err_from_is_err_and c.from_residual-in_err-net.result c.from_residual-in_err-net.ensures.1 in
    rw (p.1, p.2)
    (net_refused c.args.grid.now (net_with (naming_of c.in_ok-names.names) c.in_ok-edges.edges.items) (naming_of c.in_ok-names.names) _
    (numbered_of c.args.grid.now c.in_ok-pairs.ensures.clean (naming_of c.in_ok-names.names) c.in_ok-edges.edges.items c.in_ok-joints.joints.items c.in_ok-names.ensures (c.in_ok-edges.ensures ∙ ap (map (λ joint. joint.edge)) c.deref.ensures.value) c.in_ok-joints.ensures)
    (record { gives = refl; takes = refl; merges = refl }) c.in_err-net.ensures)

pub returns : goal.returns
returns c = record {
  clean = c.in_ok-pairs.ensures.clean;
  names = c.in_ok-names.ensures;
  joints = c.in_ok-joints.ensures;
  net_is = subst (λ es. c.in_ok-net.net ≡ net_with (naming_of c.in_ok-names.names) es) (c.in_ok-edges.ensures ∙ ap (map (λ joint. joint.edge)) c.deref.ensures.value) c.in_ok-net.ensures.0;
  network = c.in_ok-net.ensures.1;
}
