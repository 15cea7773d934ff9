use Rattle.std.proofs.Common.{◌+◌, arith, refl, ap, sym, ◌∙◌, subst}
use Rattle.std.proofs.lemmas.Result.{err_from_is_err_and}
use Rattle.bt_json.specs.Stands.{json_of}
use Rattle.bt_json.specs.inner.Reading.{due, deliver}
use Rattle.bt_json.specs.inner.Running.{Faults, rest_after}
use Rattle.bt_json.specs.inner.Frames.{opened}
use Rattle.bt_json.specs.inner.Ahead.{place_of, step_ahead}
use Rattle.bt_json.specs.inner.Nested.{frame_of, Outside}
use Rattle.bt_json.proofs.FrameSteps.{reads_moved, nested_led, nested_ends, item_led, inside}
use Rattle.bt_json.proofs.reader.+reading.Goals as goal

-- ---- a list or an object

pub fill-loop-ahead-init : goal.fill-loop-ahead-init
fill-loop-ahead-init t c = record {
  from = c.first-ahead.ensures.later.0;
  inside = c.first-ahead.ensures.later.1;
  filled = c.requires.filled;
  read = λ around. c.first-ahead.ensures.read (frame_of c.args.nested.now) around.frames c.requires.fresh refl;
}

pub fill-returns-in-End-clause-read : goal.fill-returns-in-End-clause-read
fill-returns-in-End-clause-read t c =
    let there = ap place_of c.in-End.is in
    let from = c.loop-ahead.invariant.from in
    let inside = c.loop-ahead.invariant.inside in (
      (omega arith, omega arith),
      λ around. c.loop-ahead.invariant.read around
          ∙ ap (λ a. rest_after c.args.bytes.now (place_of a) (step_ahead a (frame_of c.loop-ahead.nested) around.frames)) c.in-End.is,
    )

pub fill-returns-in_err-due-clause-read : goal.fill-returns-in_err-due-clause-read
fill-returns-in_err-due-clause-read t c =
    let old = frame_of c.loop-ahead.nested in
    let p = err_from_is_err_and c.from_residual.result c.from_residual.ensures.1 in
    rw (p.1, p.2) (λ around.
    subst (Faults c.in_err-due.field-0.0) (sym (item_led c.args.bytes.now c.loop-ahead.ahead c.in-Item.at old around.frames _ c.in-Item.is (c.loop-ahead.invariant.read around)))
    (c.in_err-due.ensures.read around.frames))

pub fill-returns-in_err-value-clause-read : goal.fill-returns-in_err-value-clause-read
fill-returns-in_err-value-clause-read t c =
    let bs = c.args.bytes.now in
    let old = frame_of c.loop-ahead.nested in
    let p = err_from_is_err_and c.from_residual-in_err-value.result c.from_residual-in_err-value.ensures.1 in
    rw (p.1, p.2) (λ around.
    subst (Faults c.in_err-value.field-0.0) (sym (item_led bs c.loop-ahead.ahead c.in-Item.at old around.frames _ c.in-Item.is (c.loop-ahead.invariant.read around) ∙ c.in_ok-due.ensures.read.1 around.frames))
    (c.in_err-value.ensures.read (inside c.args.depth (frame_of c.read_name.new.self) around)))

pub fill-returns-in_err-ahead-clause-read : goal.fill-returns-in_err-ahead-clause-read
fill-returns-in_err-ahead-clause-read t c =
    let bs = c.args.bytes.now in
    let old = frame_of c.loop-ahead.nested in
    let p = err_from_is_err_and c.from_residual-in_err-ahead.result c.from_residual-in_err-ahead.ensures.1 in
    rw (p.1, p.2) (λ around.
    subst (Faults c.in_err-ahead.field-0.0) (sym (item_led bs c.loop-ahead.ahead c.in-Item.at old around.frames _ c.in-Item.is (c.loop-ahead.invariant.read around) ∙ c.in_ok-due.ensures.read.1 around.frames
    ∙ c.in_ok-value.ensures.read.1 (inside c.args.depth (frame_of c.read_name.new.self) around)))
    (c.in_err-ahead.ensures.read around.frames))

pub fill-loop-ahead-preserved : goal.fill-loop-ahead-preserved
fill-loop-ahead-preserved t c =
    let bs = c.args.bytes.now in
    let old = frame_of c.loop-ahead.nested in
    let there = ap place_of c.in-Item.is in
    let name = c.in_ok-due.ensures.read.0 in
    let value = c.in_ok-value.ensures.read.0 in
    let ahead = c.in_ok-ahead.ensures.read.0 in
    record {
      from = let from = c.loop-ahead.invariant.from in omega arith;
      inside = ahead.1;
      filled = c.in_ok-ahead.ensures.filled c.in_ok-value.ensures.full (c.in_ok-due.ensures.named c.loop-ahead.invariant.filled);
      read = λ around. item_led bs c.loop-ahead.ahead c.in-Item.at old around.frames _ c.in-Item.is (c.loop-ahead.invariant.read around) ∙ c.in_ok-due.ensures.read.1 around.frames
          ∙ c.in_ok-value.ensures.read.1 (inside c.args.depth (frame_of c.read_name.new.self) around) ∙ c.in_ok-ahead.ensures.read.1 around.frames;
    }

pub read_nested-returns-in_err-end-clause-read : goal.read_nested-returns-in_err-end-clause-read
read_nested-returns-in_err-end-clause-read t c =
    let p = err_from_is_err_and c.from_residual.result c.from_residual.ensures.1 in
    rw (p.1, p.2) c.in_err-end.ensures.read

pub read_nested-returns-in_err-tree-clause-read : goal.read_nested-returns-in_err-tree-clause-read
read_nested-returns-in_err-tree-clause-read t c =
    let p = err_from_is_err_and c.from_residual-in_err-tree.result c.from_residual-in_err-tree.ensures.1 in
    rw (p.1, p.2) (λ around. tt)

pub read_nested-returns-clause-read : goal.read_nested-returns-clause-read
read_nested-returns-clause-read t c =
    let end = c.in_ok-end.end in (
      c.in_ok-end.ensures.read.0,
      λ around. c.in_ok-end.ensures.read.1 around
          ∙ ap (λ v. rest_after c.args.bytes.now end (deliver v around.frames end)) (sym c.in_ok-tree.ensures.value),
    )

pub read_nested-returns-clause-full : goal.read_nested-returns-clause-full
read_nested-returns-clause-full t c = c.in_ok-tree.ensures.full c.in_ok-end.ensures.filled

-- ---- values

pub read_value-returns-in_err-at-clause-read : goal.read_value-returns-in_err-at-clause-read
read_value-returns-in_err-at-clause-read t c =
    let p = err_from_is_err_and c.from_residual.result c.from_residual.ensures.1 in
    rw (p.1, p.2) (λ around. c.in_err-at.ensures.read around.frames)

pub read_value-returns-in-None-clause-read : goal.read_value-returns-in-None-clause-read
read_value-returns-in-None-clause-read t c =
    let at = c.in_ok-at in
    reads_moved c.args.bytes.now c.args.start at.at (λ (around : Outside c.args.depth). around.frames) (λ around. due around.frames) (λ k. due k) (λ r. r.1) (λ r k. deliver (json_of r.0) k r.1)
    c.read_leaf.result at.ensures.read.0.0 (λ around. at.ensures.read.1 around.frames) c.read_leaf.ensures.read

pub read_value-returns-in_err-begun-clause-read : goal.read_value-returns-in_err-begun-clause-read
read_value-returns-in_err-begun-clause-read t c =
    let at = c.in_ok-at in
    let p = err_from_is_err_and c.from_residual-in_err-begun.result c.from_residual-in_err-begun.ensures.1 in
    rw (p.1, p.2) (λ around. subst (Faults c.in_err-begun.field-0.0) (sym (at.ensures.read.1 around.frames))
    (nested_ends c.args.bytes.now at.at c.args.depth at.kind c.in_err-begun.field-0.0 c.in_err-begun.ensures c.requires.shallow at.ensures.token around))

pub read_value-returns-in-Some-clause-read : goal.read_value-returns-in-Some-clause-read
read_value-returns-in-Some-clause-read t c =
    let bs = c.args.bytes.now in
    let at = c.in_ok-at in
    let later = at.ensures.read.0 in
    let depth = c.args.depth in
    reads_moved bs c.args.start (at.at + 1) (λ (around : Outside depth). around) (λ around. due around.frames) (λ around. opened (frame_of c.in-Some.nested) around.frames) (λ r. r.1) (λ r around. deliver (json_of r.0) around.frames r.1)
    c.read_nested.result (omega arith) (λ around. at.ensures.read.1 around.frames ∙ nested_led bs at.at depth at.kind c.in_ok-begun.field-0 c.in-Some.nested c.in-Some.is c.in_ok-begun.ensures at.ensures.token around) c.read_nested.ensures.read
