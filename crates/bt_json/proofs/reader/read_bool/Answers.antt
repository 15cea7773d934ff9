use Rattle.std.proofs.Common.{ap, sym, ◌∙◌}
use Rattle.std.proofs.lemmas.Result.{err_from_is_err_and}
use Rattle.bt_json.specs.Json.{boolean}
use Rattle.bt_json.specs.inner.Reading.{deliver}
use Rattle.bt_json.specs.inner.Running.{rest_after}
use Rattle.bt_json.proofs.Trees.{json-Bool}
use Rattle.bt_json.proofs.reader.read_bool.Goals as goal

pub returns-in_err-end-clause-read : goal.returns-in_err-end-clause-read
returns-in_err-end-clause-read c =
    let p = err_from_is_err_and c.from_residual.result c.from_residual.ensures.1 in
    rw (p.1, p.2) (λ k. c.in_err-end.ensures (boolean c.args.value, k))

pub returns-clause-read : goal.returns-clause-read
returns-clause-read c =
    let end = c.in_ok-end.end in
    (c.in_ok-end.ensures.0, λ k. c.in_ok-end.ensures.1 (boolean c.args.value, k) ∙ ap (λ v. rest_after c.args.bytes.now end (deliver v k end)) (sym (json-Bool c.args.value)))
