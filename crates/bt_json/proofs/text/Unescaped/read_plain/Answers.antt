use Rattle.std.proofs.Common.{◌<◌, length, ◌∙◌}
use Rattle.std.specs.Prelude.{string_bytes, slice_range}
use Rattle.bt_json.specs.inner.Unescaping.{around}
use Rattle.bt_json.proofs.Texts.{plain_in, some_plain, slice_some}
use Rattle.bt_json.proofs.text.Unescaped.read_plain.Goals as goal

pub returns-in_ok-push_plain-clause-ok : goal.returns-in_ok-push_plain-clause-ok
returns-in_ok-push_plain-clause-ok c = λ role k.
    let t = around c.args.self.now role k in
    let bs = c.args.bytes.now in
    let e = c.plain_end-end in
    let some : 0 < length (slice_range bs c.args.start e.result) = slice_some bs c.args.start e.result c.if-start-end.true e.ensures.later.1 in
    e.ensures.read t ∙ some_plain bs e.result t (slice_range bs c.args.start e.result) some
    ∙ plain_in bs e.result t (slice_range bs c.args.start e.result) (string_bytes c.push_plain.new.self.bytes) c.push_plain.new.self.high c.in_ok-push_plain.ensures
