use Rattle.std.proofs.Common.{◌++◌, [], ◌∷◌, ◌∙◌, subst}
use Rattle.std.specs.Prelude.{codes}
use Rattle.bt_io.specs.Bytes.{WritesText}
use Rattle.bt_io.specs.Passages.{passage}
use Rattle.bt_print.proofs.TraceTexts.{three}
use Rattle.bt_print.proofs.traces.print_wide_head.Goals as goal

pub returns : goal.returns
returns g c =
    let place = c.as_bytes-place.ensures.value ∙ c.place_name.ensures in
    let row = c.as_bytes-row.ensures.value ∙ c.format.ensures.text in
    let column = c.as_bytes-column.ensures.value ∙ c.format-2.ensures.text in
    subst (λ text. WritesText (passage g.K.Sink.held g.K.Sink.faults c.args.sink.now c.write_pieces.new.sink) text c.write_pieces.result)
    (three (codes "wide ") c.as_bytes-place.result.now c.as_bytes-row.result.now c.as_bytes-column.result.now
    ∙ (λ i. codes "wide " ++ place i ++ 32 ∷ [] ++ row i ++ 32 ∷ [] ++ column i ++ 10 ∷ [])) c.write_pieces.ensures
