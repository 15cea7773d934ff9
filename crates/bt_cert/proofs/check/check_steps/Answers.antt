use Rattle.std.proofs.Common.{◌+◌, [], subst}
use Rattle.bt_io.specs.Passages.{passage}
use Rattle.bt_cert.specs.inner.Stages.{HasRead, ReadsOn}
use Rattle.bt_cert.specs.declared.reading.TheConstants.{FIRST_LINE}
use Rattle.bt_cert.proofs.Feeding.{whole_checked}
use Rattle.bt_cert.proofs.check.check_steps.Goals as goal

pub returns-in-Ok : goal.returns-in-Ok
returns-in-Ok g c =
    let source = passage g.S.Source.left g.S.Source.faults c.args.source.now c.read_rest.new.source in
    record {
      checked = whole_checked (FIRST_LINE + c.args.defining.now.count) c.args.formula.now c.in_ok-reading.ensures.known c.args.defining.now.part c.args.limit source
          c.in_ok-reading.reading c.take.new.self c.read_rest.new.reading c.finish.result c.in_ok-reading.ensures.formula
          (subst (λ n. HasRead (FIRST_LINE + n) [] c.in_ok-reading.reading) c.count.ensures.value c.in_ok-reading.ensures.read)
          (subst (λ part. ReadsOn c.in_ok-reading.reading part c.take.new.self) c.part.ensures c.take.ensures.reads)
          c.in-Ok.ensures.rest c.finish.ensures;
      count = c.read_rest.ensures.count;
    }
