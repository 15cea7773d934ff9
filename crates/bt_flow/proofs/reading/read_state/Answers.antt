use Rattle.std.proofs.Common.{Ok, sym, subst}
use Rattle.std.proofs.lemmas.Result.{err_from_is_err_and}
use Rattle.bt_text.specs.Answers.{Answers}
use Rattle.bt_flow.specs.declared.fault.StateFault.TheVariants.{Memory}
use Rattle.bt_flow.specs.StateReading.{IsStateRead}
use Rattle.bt_flow.proofs.StateAnswers.{refused_title, refused_ends, refused_edges, refused_end, read_answer}
use Rattle.bt_flow.proofs.reading.read_state.Goals as goal

pub returns-in_err-rest : goal.returns-in_err-rest
returns-in_err-rest c =
    let p = err_from_is_err_and c.from_residual.result c.from_residual.ensures.1 in
    rw (p.1, p.2) (refused_title c.args.net.now c.args.property c.args.bytes.now c.in_err-rest.field-0.0 c.in_err-rest.ensures.err)

pub returns-in_err-ends : goal.returns-in_err-ends
returns-in_err-ends c =
    let p = err_from_is_err_and c.from_residual-in_err-ends.result c.from_residual-in_err-ends.ensures.1 in
    rw (p.1, p.2) (refused_ends c.args.net.now c.args.property c.args.bytes.now c.in_ok-rest.rest.now c.in_err-ends.field-0.0 c.in_ok-rest.ensures.ok c.in_err-ends.ensures.err)

pub returns-in_err-edges : goal.returns-in_err-edges
returns-in_err-edges c =
    let p = err_from_is_err_and c.from_residual-in_err-edges.result c.from_residual-in_err-edges.ensures.1 in
    rw (p.1, p.2)
    (refused_edges c.args.net.now c.args.property c.args.bytes.now c.in_ok-rest.rest.now c.in_ok-ends.ends.rest.now c.in_ok-ends.ends.loads.items c.in_ok-ends.ends.rooms.items c.in_err-edges.field-0.0
    c.in_ok-rest.ensures.ok c.in_ok-ends.ensures.ok c.in_err-edges.ensures.err)

pub returns-in_err-read_end : goal.returns-in_err-read_end
returns-in_err-read_end c =
    let p = err_from_is_err_and c.from_residual-in_err-read_end.result c.from_residual-in_err-read_end.ensures.1 in
    rw (p.1, p.2)
    (refused_end c.args.net.now c.args.property c.args.bytes.now c.in_ok-rest.rest.now c.in_ok-ends.ends.rest.now c.in_ok-edges.edges.rest.now c.in_ok-ends.ends.loads.items c.in_ok-ends.ends.rooms.items
    c.in_ok-edges.edges.flows.items c.in_ok-edges.edges.backed.items c.in_err-read_end.field-0.0 c.in_ok-rest.ensures.ok c.in_ok-ends.ensures.ok c.in_ok-edges.ensures.ok c.in_err-read_end.ensures.err)

pub returns : goal.returns
returns c =
    let n = c.args.net.now in
    let p = c.args.property in
    subst (λ t. Answers Memory (IsStateRead n p c.args.bytes.now) (Ok t)) (sym c.new.ensures.state)
    (read_answer n p c.args.bytes.now c.in_ok-rest.rest.now c.in_ok-ends.ends.rest.now c.in_ok-edges.edges.rest.now _ c.in_ok-rest.ensures.ok c.in_ok-ends.ensures.ok c.in_ok-edges.ensures.ok
    c.in_ok-read_end.ensures.ok)
