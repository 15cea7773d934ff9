use Rattle.std.proofs.Common.{◌≡◌, ◌-◌, ◌++◌, false, refl, arith}
use Rattle.bt_io.specs.Passages.{passage}
use Rattle.bt_designs.specs.declared.held.Held.{Held}
use Rattle.bt_designs.specs.declared.held.TheConstants.{MOST_CHECKED}
use Rattle.bt_top.specs.inner.Claims.{IsClaimed}
use Rattle.bt_top.specs.inner.Fronts.{IsFrontOf}
use Rattle.bt_top.specs.inner.Gathering.{IsGatheredOf}
use Rattle.bt_top.proofs.Gathered.{front_answered, front_gathered, gathered_not, gathered_on, grows, memory_gathered, open_gathered}
use Rattle.bt_top.proofs.blocks.claim_answer.Goals as goal

pub returns-in-Err : goal.returns-in-Err
returns-in-Err g c =
    gathered_not g.S.Source.left g.S.Source.faults c.args.source.now c.loop-fault.source c.gather_on.new.source c.loop-fault.gathered c.loop-fault.invariant.so_far (IsClaimed c.args.claim) c.in-Err.fault c.in-Err.ensures

pub returns-in-Err-front_of : goal.returns-in-Err-front_of
returns-in-Err-front_of g c =
    let left = g.S.Source.left in
    let faults = g.S.Source.faults in
    let first = c.args.source.now in
    let here = c.gather_on.new.source in
    let new = c.gather_on.new.gathered in
    let on : IsGatheredOf (passage g.S.Source.left g.S.Source.faults c.args.source.now c.gather_on.new.source) c.gather_on.new.gathered =
    gathered_on left faults first c.loop-fault.source here c.loop-fault.gathered c.loop-fault.invariant.so_far new c.in-Ok.ensures in
    memory_gathered (passage left faults first here) new on

pub answer_behind-requires-clause-fit : goal.answer_behind-requires-clause-fit
answer_behind-requires-clause-fit g c =
    let left = g.S.Source.left in
    let faults = g.S.Source.faults in
    let first = c.args.source.now in
    let here = c.gather_on.new.source in
    let new = c.gather_on.new.gathered in
    let on : IsGatheredOf (passage g.S.Source.left g.S.Source.faults c.args.source.now c.gather_on.new.source) c.gather_on.new.gathered =
    gathered_on left faults first c.loop-fault.source here c.loop-fault.gathered c.loop-fault.invariant.so_far new c.in-Ok.ensures in
    let held : Held = record { skipped = c.gather_on.new.gathered.skipped; bytes = c.deref.result; ended = c.gather_on.new.gathered.ended } in
    (front_gathered (passage left faults first here) new on (IsClaimed c.args.claim) held refl c.deref.ensures.value refl c.in-Ok-Some.field-0 c.in-Ok-Some.ensures c.in-Ok-Some.front c.in-Ok-Some.field-0-is).0

pub returns-in-Ok-Some : goal.returns-in-Ok-Some
returns-in-Ok-Some g c =
    let left = g.S.Source.left in
    let faults = g.S.Source.faults in
    let first = c.args.source.now in
    let here = c.gather_on.new.source in
    let new = c.gather_on.new.gathered in
    let on : IsGatheredOf (passage g.S.Source.left g.S.Source.faults c.args.source.now c.gather_on.new.source) c.gather_on.new.gathered =
    gathered_on left faults first c.loop-fault.source here c.loop-fault.gathered c.loop-fault.invariant.so_far new c.in-Ok.ensures in
    let held : Held = record { skipped = c.gather_on.new.gathered.skipped; bytes = c.deref.result; ended = c.gather_on.new.gathered.ended } in
    let front = c.in-Ok-Some.front in
    let is : IsFrontOf (IsClaimed c.args.claim) new.ended (on.blanks ++ new.bytes.items) front =
    front_gathered (passage left faults first here) new on (IsClaimed c.args.claim) held refl c.deref.ensures.value refl c.in-Ok-Some.field-0 c.in-Ok-Some.ensures front c.in-Ok-Some.field-0-is in
    front_answered left faults first here c.answer_behind.new.source new on (IsClaimed c.args.claim) front (MOST_CHECKED - new.skipped - c.len-in-Ok-Some.result) c.answer_behind.result
    (omega (arith, new.bytes.ok, c.len-in-Ok-Some.ensures)) is c.answer_behind.ensures

pub loop-fault-smaller-in-loop-fault : goal.loop-fault-smaller-in-loop-fault
loop-fault-smaller-in-loop-fault g c =
    let left = g.S.Source.left in
    let faults = g.S.Source.faults in
    let first = c.args.source.now in
    let here = c.gather_on.new.source in
    let new = c.gather_on.new.gathered in
    let on : IsGatheredOf (passage g.S.Source.left g.S.Source.faults c.args.source.now c.gather_on.new.source) c.gather_on.new.gathered =
    gathered_on left faults first c.loop-fault.source here c.loop-fault.gathered c.loop-fault.invariant.so_far new c.in-Ok.ensures in
    let held : Held = record { skipped = c.gather_on.new.gathered.skipped; bytes = c.deref.result; ended = c.gather_on.new.gathered.ended } in
    let goes : c.gather_on.new.gathered.ended ≡ false = open_gathered (passage left faults first here) new on (IsClaimed c.args.claim) held refl c.deref.ensures.value refl c.in-Ok-None.field-0 c.in-Ok-None.ensures c.in-Ok-None.field-0-is in
    let more = grows c.loop-fault.gathered new (passage left faults c.loop-fault.source here) c.in-Ok.ensures goes in
    let few = on.few in
    omega (arith, more, few)

pub loop-fault-preserved-in-loop-fault : goal.loop-fault-preserved-in-loop-fault
loop-fault-preserved-in-loop-fault g c =
    let left = g.S.Source.left in
    let faults = g.S.Source.faults in
    let first = c.args.source.now in
    let here = c.gather_on.new.source in
    let new = c.gather_on.new.gathered in
    let on : IsGatheredOf (passage g.S.Source.left g.S.Source.faults c.args.source.now c.gather_on.new.source) c.gather_on.new.gathered =
    gathered_on left faults first c.loop-fault.source here c.loop-fault.gathered c.loop-fault.invariant.so_far new c.in-Ok.ensures in
    let held : Held = record { skipped = c.gather_on.new.gathered.skipped; bytes = c.deref.result; ended = c.gather_on.new.gathered.ended } in
    record {
      so_far = on;
      goes = open_gathered (passage left faults first here) new on (IsClaimed c.args.claim) held refl c.deref.ensures.value refl c.in-Ok-None.field-0 c.in-Ok-None.ensures c.in-Ok-None.field-0-is;
    }

pub loop-fault-smaller : goal.loop-fault-smaller
loop-fault-smaller g c =
    let left = g.S.Source.left in
    let faults = g.S.Source.faults in
    let first = c.args.source.now in
    let here = c.gather_on.new.source in
    let new = c.gather_on.new.gathered in
    let on : IsGatheredOf (passage g.S.Source.left g.S.Source.faults c.args.source.now c.gather_on.new.source) c.gather_on.new.gathered =
    gathered_on left faults first c.loop-fault.source here c.loop-fault.gathered c.loop-fault.invariant.so_far new c.in-Ok.ensures in
    let more = grows c.loop-fault.gathered new (passage left faults c.loop-fault.source here) c.in-Ok.ensures c.if-gathered.false in
    let few = on.few in
    omega (arith, more, few)

pub loop-fault-preserved : goal.loop-fault-preserved
loop-fault-preserved g c =
    let left = g.S.Source.left in
    let faults = g.S.Source.faults in
    let first = c.args.source.now in
    let here = c.gather_on.new.source in
    let new = c.gather_on.new.gathered in
    let on : IsGatheredOf (passage g.S.Source.left g.S.Source.faults c.args.source.now c.gather_on.new.source) c.gather_on.new.gathered =
    gathered_on left faults first c.loop-fault.source here c.loop-fault.gathered c.loop-fault.invariant.so_far new c.in-Ok.ensures in
    record { so_far = on; goes = c.if-gathered.false }
