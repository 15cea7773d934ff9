use Rattle.std.proofs.Common.{sym, ◌∙◌, ap}
use Rattle.bt_json.specs.Json.{number}
use Rattle.bt_json.specs.declared.kind.Phase.TheVariants.{BeforeWhole}
use Rattle.bt_json.specs.inner.Reading.{deliver, in_number}
use Rattle.bt_json.specs.inner.Running.{rest_of, rest_after}
use Rattle.bt_json.proofs.number.Numeral.read.Goals as goal

pub returns : goal.returns
returns c =
    let bs = c.args.bytes.now in
    let rest = c.in_ok-end.ensures in (
      rest.0,
      λ k.
          ap (λ n. rest_of bs c.args.start (in_number BeforeWhole n k)) (sym c.new-numeral.ensures) ∙ rest.1 k
          ∙ ap (λ n. rest_after bs c.in_ok-end.end (deliver (number n) k c.in_ok-end.end)) (sym c.in_ok-into_decimal.ensures.ok),
    )
