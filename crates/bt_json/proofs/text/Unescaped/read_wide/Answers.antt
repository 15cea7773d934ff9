use Rattle.std.proofs.Common.{◌∙◌}
use Rattle.std.specs.Prelude.{string_bytes, slice_range}
use Rattle.std.proofs.lemmas.Result.{err_from_is_err_and}
use Rattle.bt_json.specs.inner.Unescaping.{around}
use Rattle.bt_json.proofs.Texts.{plain_in}
use Rattle.bt_json.proofs.text.Unescaped.read_wide.Goals as goal

pub returns-in_err-end-clause-err : goal.returns-in_err-end-clause-err
returns-in_err-end-clause-err c =
    let p = err_from_is_err_and c.from_residual.result c.from_residual.ensures.1 in
    rw (p.1, p.2) (λ role k. c.in_err-end.ensures.err (around c.args.self.now role k))

pub returns-clause-ok : goal.returns-clause-ok
returns-clause-ok c = λ role k.
    let t = around c.args.self.now role k in
    let bs = c.args.bytes.now in
    let end = c.in_ok-end.end in
    c.in_ok-end.ensures.ok t ∙ plain_in bs end t (slice_range bs c.args.start end) (string_bytes c.push_plain.new.self.bytes) c.push_plain.new.self.high c.in_ok-push_plain.ensures
