use Rattle.std.proofs.Common.{◌++◌, [], ◌∷◌, ◌∙◌, ap, subst}
use Rattle.std.specs.Prelude.{codes}
use Rattle.bt_io.specs.Bytes.{WritesText}
use Rattle.bt_io.specs.Passages.{passage}
use Rattle.bt_frac.specs.Texts.{frac_text}
use Rattle.bt_print.specs.FormulaText.{relation_text}
use Rattle.bt_print.proofs.FormulaTexts.{three}
use Rattle.bt_print.proofs.rows.print_head.Goals as goal

pub returns : goal.returns
returns g c =
    let number = c.as_bytes-number.ensures.value ∙ c.format.ensures.text in
    let relation = c.as_bytes-relation.ensures.value ∙ c.relation_name.ensures ∙ ap relation_text c.relation.ensures in
    let bound = c.text-len.ensures.written ∙ ap frac_text c.bound.ensures.value in
    subst (λ text. WritesText (passage g.K.Sink.held g.K.Sink.faults c.args.sink.now c.write_pieces.new.sink) text c.write_pieces.result)
    (three (codes "c row ") c.as_bytes-number.result.now c.as_bytes-relation.result.now _
    ∙ (λ i. codes "c row " ++ number i ++ 32 ∷ [] ++ relation i ++ 32 ∷ [] ++ bound i)) c.write_pieces.ensures
