use Rattle.std.proofs.Common.{◌+◌, sym, subst, arith}
use Rattle.std.proofs.lemmas.Option.{slice_get-get_or}
use Rattle.bt_model.proofs.Places.{zip_length}
use Rattle.bt_recover.specs.Preferred.{IsTakenFirst}
use Rattle.bt_recover.specs.inner.Edges.{IsJoint}
use Rattle.bt_recover.proofs.PreferLemmas.{PreferredUpTo, preferred_skip, preferred_more, preferred_all, zip_get, taken_functional}
use Rattle.bt_recover.proofs.preferring.takes_of.Goals.{in-Some, in_default}
use Rattle.bt_recover.proofs.preferring.takes_of.Goals as goal

pub loop-a-preserved : goal.loop-a-preserved
loop-a-preserved c = λ naming chains same zip.
    let splitters = c.args.splitters.now in
    let P = IsTakenFirst c.args.grid.now c.args.priorities.now in
    elim c.match-taken.branch [
      | in-Some w ↦
          let at = zip_get (IsJoint c.args.grid.now naming) chains c.args.joints.now c.loop-a.a _ zip (slice_get-get_or c.args.joints.now c.loop-a.a _ c.loop-a-test.true) in
          subst (λ es. PreferredUpTo P splitters chains es.items (c.loop-a.a + 1)) (sym w.takes-is)
          (preferred_more P (taken_functional c.args.grid.now c.args.priorities.now) splitters chains c.loop-a.takes.items c.loop-a.a w.in-Some.k at.0 c.requires.once at.1 (w.in-Some.ensures.told naming at.0 same at.2) (c.loop-a.invariant naming chains same zip))
      | in_default w ↦
          let at = zip_get (IsJoint c.args.grid.now naming) chains c.args.joints.now c.loop-a.a _ zip (slice_get-get_or c.args.joints.now c.loop-a.a _ c.loop-a-test.true) in
          subst (λ es. PreferredUpTo P splitters chains es.items (c.loop-a.a + 1)) (sym w.takes-is)
          (preferred_skip P splitters chains c.loop-a.takes.items c.loop-a.a at.0 at.1 (w.in_default.ensures.told naming at.0 same at.2) (c.loop-a.invariant naming chains same zip))
    ]

pub returns : goal.returns
returns c = λ naming chains same zip.
    preferred_all (IsTakenFirst c.args.grid.now c.args.priorities.now) c.args.splitters.now chains c.loop-a.takes.items c.loop-a.a
    (let e = zip_length (IsJoint c.args.grid.now naming) chains c.args.joints.now zip in omega arith) (c.loop-a.invariant naming chains same zip)
