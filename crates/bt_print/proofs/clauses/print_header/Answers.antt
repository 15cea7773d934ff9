use Rattle.std.proofs.Common.{◌++◌, [], ◌∷◌, ◌∙◌, ap, subst}
use Rattle.std.specs.Prelude.{codes, decimal}
use Rattle.bt_io.specs.Bytes.{WritesText}
use Rattle.bt_io.specs.Passages.{passage}
use Rattle.bt_print.proofs.FormulaTexts.{two}
use Rattle.bt_print.proofs.clauses.print_header.Goals as goal

pub returns : goal.returns
returns g c =
    let vars = c.as_bytes-vars.ensures.value ∙ c.format.ensures.text ∙ ap decimal c.vars.ensures.value in
    let clauses = c.as_bytes-clauses.ensures.value ∙ c.format-2.ensures.text ∙ ap decimal c.clauses.ensures in
    subst (λ text. WritesText (passage g.K.Sink.held g.K.Sink.faults c.args.sink.now c.write_pieces.new.sink) text c.write_pieces.result)
    (two (codes "p cnf ") c.as_bytes-vars.result.now c.as_bytes-clauses.result.now
    ∙ (λ i. codes "p cnf " ++ vars i ++ 32 ∷ [] ++ clauses i ++ 10 ∷ [])) c.write_pieces.ensures
