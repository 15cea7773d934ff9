use Rattle.std.proofs.Common.{arith, ◌≡◌, true, get_or, sym, ◌∙◌}
use Rattle.bt_json.specs.inner.Running.{is_plain}
use Rattle.bt_json.proofs.Texts.{plain_goes_on, plain_begins, utf8_more, utf8_none}
use Rattle.bt_json.proofs.text.plain_end.Goals as goal

pub loop-at-init : goal.loop-at-init
loop-at-init c = record {
  from = omega arith;
  inside = c.requires;
  utf8 = utf8_none c.args.bytes.now c.args.start;
  read = plain_begins c.args.bytes.now c.args.start;
}

pub loop-at-preserved : goal.loop-at-preserved
loop-at-preserved c =
    let plain : is_plain (get_or c.args.bytes.now c.loop-at.at 0) ≡ true = sym c.is_plain.ensures ∙ c.if-is_plain.true in
    record {
      from = omega arith;
      inside = omega arith;
      utf8 = utf8_more c.args.bytes.now c.args.start c.loop-at.at c.loop-at.invariant.from (omega arith) plain c.loop-at.invariant.utf8;
      read = λ t. plain_goes_on c.args.bytes.now c.args.start c.loop-at.at t c.loop-at.invariant.from (omega arith) plain (c.loop-at.invariant.read t);
    }
