use Rattle.std.proofs.Common.{◌++◌, [], ◌∷◌, ◌∙◌, subst}
use Rattle.bt_io.specs.Bytes.{WritesText}
use Rattle.bt_io.specs.Passages.{passage}
use Rattle.bt_print.proofs.FormulaTexts.{product}
use Rattle.bt_print.proofs.rows.print_term.Goals as goal

pub returns-in-Some : goal.returns-in-Some
returns-in-Some g c =
    let coefficient = c.text-len.ensures.written in
    let letter = c.as_bytes-letter.ensures.value in
    let number = c.as_bytes-number.ensures.value ∙ c.format.ensures.text in
    let column = (λ i. letter i ++ number i) ∙ (rw c.in-Some.is at c.name-place.ensures) in
    subst (λ text. WritesText (passage g.K.Sink.held g.K.Sink.faults c.args.sink.now c.write_pieces.new.sink) text c.write_pieces.result)
    (product _ c.as_bytes-letter.result.now c.as_bytes-number.result.now ∙ (λ i. 32 ∷ (coefficient i ++ 42 ∷ [] ++ column i))) c.write_pieces.ensures
