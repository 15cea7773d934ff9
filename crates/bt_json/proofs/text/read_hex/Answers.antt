use Rattle.std.proofs.Common.{arith, ◌+◌, ◌<◌, ◌∙◌}
use Rattle.bt_json.proofs.Texts.{hex_grows, hex_breaks, text_cut, hex_before, hex_behind}
use Rattle.bt_json.proofs.text.read_hex.Goals as goal

pub returns-then-at-bytes-clause-err : goal.returns-then-at-bytes-clause-err
returns-then-at-bytes-clause-err c = λ t.
    let i = c.loop-index.index in
    hex_before c.args.bytes.now c.args.start i c.loop-index.unit t _ (omega arith) (c.loop-index.invariant.spelled t) ∙ text_cut c.args.bytes.now (c.args.start + i) t _ (omega arith)

pub returns-in_default-clause-err : goal.returns-in_default-clause-err
returns-in_default-clause-err c = λ t.
    let i = c.loop-index.index in
    hex_before c.args.bytes.now c.args.start i c.loop-index.unit t _ (omega arith) (c.loop-index.invariant.spelled t)
    ∙ hex_breaks c.args.bytes.now (c.args.start + i) t _ c.loop-index.unit (omega arith) c.in_default.ensures

pub overflow_mul-unit : goal.overflow_mul-unit
overflow_mul-unit c =
    let d : c.in-Some.digit < 16 = c.in-Some.ensures.2 in
    let g = hex_grows c.loop-index.unit c.in-Some.digit c.loop-index.index (omega arith) c.loop-index.invariant.small d in
    omega arith

pub overflow_add-unit : goal.overflow_add-unit
overflow_add-unit c =
    let d : c.in-Some.digit < 16 = c.in-Some.ensures.2 in
    let g = hex_grows c.loop-index.unit c.in-Some.digit c.loop-index.index (omega arith) c.loop-index.invariant.small d in
    omega arith

pub loop-index-preserved : goal.loop-index-preserved
loop-index-preserved c =
    let d : c.in-Some.digit < 16 = c.in-Some.ensures.2 in
    record {
      inside = omega arith;
      small = (hex_grows c.loop-index.unit c.in-Some.digit c.loop-index.index (omega arith) c.loop-index.invariant.small d).0;
      spelled = λ t. hex_behind c.args.bytes.now c.args.start c.loop-index.index c.loop-index.unit c.in-Some.digit t _ (omega arith) (omega arith) c.in-Some.ensures.0 c.in-Some.ensures.1 (c.loop-index.invariant.spelled t);
    }
