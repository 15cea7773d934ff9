use Rattle.std.proofs.lemmas.Result.{err_from_is_err_and}
use Rattle.bt_flow.proofs.Faults.{refused_line}
use Rattle.bt_flow.proofs.reading.list.read_list.Goals as goal

pub returns-in_err-items-clause-err : goal.returns-in_err-items-clause-err
returns-in_err-items-clause-err g c =
    let p = err_from_is_err_and c.from_residual-in_err-items.result c.from_residual-in_err-items.ensures.1 in
    rw (p.1, p.2)
    (refused_line g.T.Item.can_stand g.T.Item.word c.args.number c.args.word.now c.args.count c.args.text.now c.in_ok-line.line.now c.in_ok-line.rest.now c.in_err-items.field-0.0
    c.in_ok-line.ensures.ok c.in_err-items.ensures.err)
