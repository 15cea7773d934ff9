use Rattle.std.proofs.Common.{arith, ◌≡◌, ◌+◌, sym, ap, ◌∙◌, subst}
use Rattle.std.specs.Prelude.{string_bytes}
use Rattle.std.proofs.lemmas.Result.{err_from_is_err_and}
use Rattle.bt_json.specs.inner.Reading.{escape, with_unit}
use Rattle.bt_json.specs.inner.Running.{Faults, rest_after, step_within}
use Rattle.bt_json.specs.inner.Unescaping.{around}
use Rattle.bt_json.proofs.Texts.{escape_u, escape_short, escape_breaks, unit_in, text_cut}
use Rattle.bt_json.proofs.text.Unescaped.read_escape.Goals as goal

pub returns-then-start-bytes-clause-err : goal.returns-then-start-bytes-clause-err
returns-then-start-bytes-clause-err c = λ role k. text_cut c.args.bytes.now c.args.start (around c.args.self.now role k) escape (omega arith)

pub returns-in_err-unit-clause-err : goal.returns-in_err-unit-clause-err
returns-in_err-unit-clause-err c =
    let p = err_from_is_err_and c.from_residual.result c.from_residual.ensures.1 in
    rw (p.1, p.2) (λ role k.
    let t = around c.args.self.now role k in
    subst (Faults c.in_err-unit.field-0.0) (sym (escape_u c.args.bytes.now c.args.start t (omega arith) c.if-bytes-start-eq117.true)) (c.in_err-unit.ensures.err t))

pub returns-then-bytes-start-eq117-clause-ok : goal.returns-then-bytes-start-eq117-clause-ok
returns-then-bytes-start-eq117-clause-ok c = λ role k.
    let t = around c.args.self.now role k in
    let bs = c.args.bytes.now in
    let x = with_unit t.out t.high c.in_ok-unit.unit in
    let n : c.args.start + 1 + 4 ≡ c.args.start + 5 = omega arith in
    escape_u bs c.args.start t (omega arith) c.if-bytes-start-eq117.true ∙ c.in_ok-unit.ensures.ok t ∙ ap (λ m. rest_after bs m (step_within 0 t x)) n
    ∙ unit_in bs (c.args.start + 5) t (string_bytes c.push_unit.new.self.bytes) c.push_unit.new.self.high x c.in_ok-push_unit.ensures

pub returns-in_default-clause-err : goal.returns-in_default-clause-err
returns-in_default-clause-err c = λ role k.
    escape_breaks c.args.bytes.now c.args.start (around c.args.self.now role k) (omega arith) c.if-bytes-start-eq117.false (sym c.in_default.is ∙ c.short_escape.ensures)

pub returns-clause-ok : goal.returns-clause-ok
returns-clause-ok c = λ role k.
    let t = around c.args.self.now role k in
    let bs = c.args.bytes.now in
    let x = with_unit t.out t.high c.in-Some.unit in
    escape_short bs c.args.start t c.in-Some.unit (omega arith) c.if-bytes-start-eq117.false (sym c.in-Some.is ∙ c.short_escape.ensures)
    ∙ unit_in bs (c.args.start + 1) t (string_bytes c.push_unit-2.new.self.bytes) c.push_unit-2.new.self.high x c.in_ok-push_unit-2.ensures
