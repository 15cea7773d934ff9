use Rattle.std.proofs.Common.{Ok, sym, subst}
use Rattle.std.proofs.lemmas.Result.{err_from_is_err_and}
use Rattle.bt_text.specs.Answers.{Answers}
use Rattle.bt_flow.specs.declared.fault.StateFault.TheVariants.{Memory}
use Rattle.bt_same.specs.PairReading.{IsPairRead}
use Rattle.bt_same.proofs.PairAnswers.{no_memory, refused_title, refused_ends, refused_first, refused_second, refused_end, read_answer}
use Rattle.bt_same.proofs.reading.read_pair.Goals as goal

pub returns-in_err-rest : goal.returns-in_err-rest
returns-in_err-rest c =
    let p = err_from_is_err_and c.from_residual.result c.from_residual.ensures.1 in
    rw (p.1, p.2) (refused_title c.args.first.now c.args.second.now c.args.bytes.now c.in_err-rest.field-0.0 c.in_err-rest.ensures.err)

pub returns-in_err-ends : goal.returns-in_err-ends
returns-in_err-ends c =
    let p = err_from_is_err_and c.from_residual-in_err-ends.result c.from_residual-in_err-ends.ensures.1 in
    rw (p.1, p.2)
    (refused_ends c.args.first.now c.args.second.now c.args.bytes.now c.in_ok-rest.rest.now c.in_ok-rest.ensures.ok c.in_err-ends.field-0.0 c.in_err-ends.ensures.err)

pub returns-in_err-of_first : goal.returns-in_err-of_first
returns-in_err-of_first c =
    let p = err_from_is_err_and c.from_residual-in_err-of_first.result c.from_residual-in_err-of_first.ensures.1 in
    rw (p.1, p.2)
    (refused_first c.args.first.now c.args.second.now c.args.bytes.now c.in_ok-rest.rest.now c.in_ok-rest.ensures.ok c.in_ok-ends.ends.loads.items c.in_ok-ends.ends.rooms.items
    c.in_ok-ends.ends.rest.now c.in_ok-ends.ensures.ok c.in_err-of_first.field-0.0 c.in_err-of_first.ensures.err)

pub returns-in_err-of_second : goal.returns-in_err-of_second
returns-in_err-of_second c =
    let p = err_from_is_err_and c.from_residual-in_err-of_second.result c.from_residual-in_err-of_second.ensures.1 in
    rw (p.1, p.2)
    (refused_second c.args.first.now c.args.second.now c.args.bytes.now c.in_ok-rest.rest.now c.in_ok-rest.ensures.ok c.in_ok-ends.ends.loads.items c.in_ok-ends.ends.rooms.items
    c.in_ok-ends.ends.rest.now c.in_ok-ends.ensures.ok c.in_ok-of_first.of_first.flows.items c.in_ok-of_first.of_first.backed.items c.in_ok-of_first.of_first.rest.now c.in_ok-of_first.ensures.ok
    c.in_err-of_second.field-0.0 c.in_err-of_second.ensures.err)

pub returns-in_err-read_end : goal.returns-in_err-read_end
returns-in_err-read_end c =
    let p = err_from_is_err_and c.from_residual-in_err-read_end.result c.from_residual-in_err-read_end.ensures.1 in
    rw (p.1, p.2)
    (refused_end c.args.first.now c.args.second.now c.args.bytes.now c.in_ok-rest.rest.now c.in_ok-rest.ensures.ok c.in_ok-ends.ends.loads.items c.in_ok-ends.ends.rooms.items
    c.in_ok-ends.ends.rest.now c.in_ok-ends.ensures.ok c.in_ok-of_first.of_first.flows.items c.in_ok-of_first.of_first.backed.items c.in_ok-of_first.of_first.rest.now c.in_ok-of_first.ensures.ok
    c.in_ok-of_second.of_second.flows.items c.in_ok-of_second.of_second.backed.items c.in_ok-of_second.of_second.rest.now c.in_ok-of_second.ensures.ok c.in_err-read_end.field-0.0
    c.in_err-read_end.ensures.err)

pub returns-in_err-pair : goal.returns-in_err-pair
returns-in_err-pair c =
    let p = err_from_is_err_and c.from_residual-in_err-pair.result c.from_residual-in_err-pair.ensures.1 in
    rw (p.1, p.2) (no_memory c.args.first.now c.args.second.now c.args.bytes.now)

pub returns : goal.returns
returns c =
    subst (λ pair. Answers Memory (IsPairRead c.args.first.now c.args.second.now c.args.bytes.now) (Ok pair)) (sym c.in_ok-pair.ensures)
    (read_answer c.args.first.now c.args.second.now c.args.bytes.now c.in_ok-rest.rest.now c.in_ok-rest.ensures.ok c.in_ok-ends.ends.loads.items c.in_ok-ends.ends.rooms.items
    c.in_ok-ends.ends.rest.now c.in_ok-ends.ensures.ok c.in_ok-of_first.of_first.flows.items c.in_ok-of_first.of_first.backed.items c.in_ok-of_first.of_first.rest.now c.in_ok-of_first.ensures.ok
    c.in_ok-of_second.of_second.flows.items c.in_ok-of_second.of_second.backed.items c.in_ok-of_second.of_second.rest.now c.in_ok-of_second.ensures.ok c.requires c.in_ok-read_end.ensures.ok)
