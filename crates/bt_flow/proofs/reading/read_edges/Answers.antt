use Rattle.std.proofs.Common.{◌+◌, codes, length, ap, subst}
use Rattle.std.specs.Bool.{⊤}
use Rattle.std.proofs.lemmas.Result.{err_from_is_err_and}
use Rattle.bt_frac.specs.Ratio.{IsLowest}
use Rattle.bt_frac.specs.Texts.{frac_text}
use Rattle.bt_flow.specs.StateText.{mark_text}
use Rattle.bt_flow.specs.StateLines.{Fills, numbers, marks}
use Rattle.bt_flow.specs.Parts.{IsListLine}
use Rattle.bt_flow.specs.inner.Lines.{IsLineFault, StopsAtList}
use Rattle.bt_flow.proofs.FracTexts.{frac_text_lacks}
use Rattle.bt_flow.proofs.Faults.{refused_second, some_items}
use Rattle.bt_flow.proofs.reading.read_edges.Goals as goal

pub read_list-requires : goal.read_list-requires
read_list-requires c = frac_text_lacks

pub returns-in_err-backed-clause-err : goal.returns-in_err-backed-clause-err
returns-in_err-backed-clause-err c =
    let n = c.args.net.now in
    let middle = c.in_ok-flows.rest.now in
    let fault = c.in_err-backed.field-0.0 in
    let count = ap length c.edges-count.ensures.edges in
    let p = err_from_is_err_and c.from_residual-in_err-backed.result c.from_residual-in_err-backed.ensures.1 in
    rw (p.1, p.2)
    (refused_second c.args.number (Fills (numbers (codes "flow") (length n.edges))) (Fills (marks (length n.edges))) c.args.text.now middle fault
    (some_items IsLowest frac_text (codes "flow") (length n.edges) c.args.text.now c.in_ok-flows.flows.items middle
    (subst (λ m. IsListLine IsLowest frac_text (codes "flow") m c.args.text.now c.in_ok-flows.flows.items middle) count c.in_ok-flows.ensures.ok))
    (subst (λ m. IsLineFault (c.args.number + 1) (StopsAtList (λ _. ⊤) mark_text (codes "mark") m middle) fault) count c.in_err-backed.ensures.err))
