use Rattle.std.proofs.Common.{Ok, subst}
use Rattle.bt_io.specs.Passages.{passage}
use Rattle.bt_cert.specs.inner.Defining.{ReadsDefinitions}
use Rattle.bt_cert.proofs.DefinedFed.{checks_behind, ended_checked, head_read}
use Rattle.bt_cert.proofs.check.check_text.Goals as goal

pub returns-in-Ok-Some : goal.returns-in-Ok-Some
returns-in-Ok-Some g c =
    let source = passage g.S.Source.left g.S.Source.faults c.args.source.now c.read_on.new.source in
    let read = head_read c.args.formula.now c.new-defining.result c.args.head.now c.take.new.formula c.take.new.self c.new-defining.ensures.read c.in_ok-take.ensures in
    let reached =
    subst (λ o. ReadsDefinitions c.args.limit source c.take.new.formula c.take.new.self c.read_on.new.formula c.read_on.new.self (Ok o)) c.in-Ok-Some.field-0-is c.in-Ok-Some.ensures.reads in
    checks_behind g.S.Source.left g.S.Source.faults c.args.source.now c.read_on.new.source c.check_steps.new.source c.args.formula.now c.new-defining.ensures.known c.args.head.now
    c.args.limit c.in-Ok-Some.taken c.take.new.formula c.take.new.self c.read_on.new.formula c.read_on.new.self read reached c.read_on.ensures.count c.check_steps.result
    c.check_steps.ensures

pub returns-in-Ok-None : goal.returns-in-Ok-None
returns-in-Ok-None g c =
    let source = passage g.S.Source.left g.S.Source.faults c.args.source.now c.read_on.new.source in
    let read = head_read c.args.formula.now c.new-defining.result c.args.head.now c.take.new.formula c.take.new.self c.new-defining.ensures.read c.in_ok-take.ensures in
    let reached =
    subst (λ o. ReadsDefinitions c.args.limit source c.take.new.formula c.take.new.self c.read_on.new.formula c.read_on.new.self (Ok o)) c.in-Ok-None.field-0-is c.in-Ok-None.ensures.reads in
    record {
      checked = ended_checked c.args.formula.now c.new-defining.ensures.known c.args.head.now c.args.limit source c.take.new.formula c.take.new.self c.read_on.new.formula c.read_on.new.self
          c.finish_steps.result read reached c.finish_steps.ensures;
      count = c.read_on.ensures.count;
    }
