use Rattle.std.proofs.Common.{codes, subst}
use Rattle.std.proofs.lemmas.Result.{err_from_is_err_and}
use Rattle.bt_frac.specs.Ratio.{IsLowest}
use Rattle.bt_frac.specs.Texts.{frac_text}
use Rattle.bt_flow.specs.StateLines.{Fills, numbers}
use Rattle.bt_flow.specs.Parts.{IsListLine}
use Rattle.bt_flow.specs.inner.Lines.{IsLineFault, StopsAtList}
use Rattle.bt_flow.proofs.FracTexts.{frac_text_lacks}
use Rattle.bt_flow.proofs.Faults.{refused_second, some_items}
use Rattle.bt_flow.proofs.reading.read_ends.Goals as goal

pub read_list-requires : goal.read_list-requires
read_list-requires c = frac_text_lacks

pub read_list-requires-2 : goal.read_list-requires-2
read_list-requires-2 c = frac_text_lacks

pub returns-in_err-rooms-clause-err : goal.returns-in_err-rooms-clause-err
returns-in_err-rooms-clause-err c =
    let n = c.args.net.now in
    let middle = c.in_ok-loads.rest.now in
    let fault = c.in_err-rooms.field-0.0 in
    let p = err_from_is_err_and c.from_residual-in_err-rooms.result c.from_residual-in_err-rooms.ensures.1 in
    rw (p.1, p.2)
    (refused_second 2 (Fills (numbers (codes "load") n.inputs)) (Fills (numbers (codes "room") n.outputs)) c.args.text.now middle fault
    (some_items IsLowest frac_text (codes "load") n.inputs c.args.text.now c.in_ok-loads.loads.items middle
    (subst (λ m. IsListLine IsLowest frac_text (codes "load") m c.args.text.now c.in_ok-loads.loads.items middle) c.inputs.ensures c.in_ok-loads.ensures.ok))
    (subst (λ m. IsLineFault 3 (StopsAtList IsLowest frac_text (codes "room") m middle) fault) c.outputs.ensures c.in_err-rooms.ensures.err))
