use Rattle.std.proofs.Common.{arith, true, ◌≡◌, ◌+◌, ◌-◌, sym, ap, ◌∙◌}
use Rattle.std.specs.Prelude.{string_bytes}
use Rattle.bt_json.specs.inner.Reading.{between, finish_text}
use Rattle.bt_json.specs.inner.Running.{rest_after}
use Rattle.bt_json.specs.inner.Unescaping.{around}
use Rattle.bt_json.proofs.Texts.{text_cut, closing}
use Rattle.bt_json.proofs.text.Unescaped.read.Goals as goal

pub returns-then-stop-bytes-clause-err : goal.returns-then-stop-bytes-clause-err
returns-then-stop-bytes-clause-err c = λ role k.
    c.loop-text.invariant.read role k ∙ c.in_ok-stop.ensures.ok role k ∙ text_cut c.args.bytes.now c.in_ok-stop.stop (around c.read_plain.new.self role k) between (omega arith)

pub returns-then-bytes-stop-eq34-clause-ok : goal.returns-then-bytes-stop-eq34-clause-ok
returns-then-bytes-stop-eq34-clause-ok c = λ role k.
    let n = c.in_ok-stop.stop in
    let bs = c.args.bytes.now in
    let place : n ≡ n + 1 - 1 = omega arith in
    c.loop-text.invariant.read role k ∙ c.in_ok-stop.ensures.ok role k ∙ closing bs n (around c.read_plain.new.self role k) (omega arith) c.if-bytes-stop-eq34.true
    ∙ ap (λ s. rest_after bs (n + 1) (finish_text true n s role k)) (sym c.in_ok-into_string.ensures)
    ∙ ap (λ m. rest_after bs (n + 1) (finish_text true m (string_bytes c.in_ok-into_string.field-0) role k)) place
