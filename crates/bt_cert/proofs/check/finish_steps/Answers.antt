use Rattle.std.proofs.Common.{◌+◌, [], subst}
use Rattle.bt_cert.specs.inner.Stages.{HasRead, ReadsOn}
use Rattle.bt_cert.specs.declared.reading.TheConstants.{FIRST_LINE}
use Rattle.bt_cert.proofs.Feeding.{finished}
use Rattle.bt_cert.proofs.check.finish_steps.Goals as goal

pub returns : goal.returns
returns c =
    finished (FIRST_LINE + c.args.defining.now.count) c.args.formula.now c.args.defining.now.part c.in_ok-reading.reading c.take.new.self c.finish.result c.in_ok-reading.ensures.formula
    (subst (λ n. HasRead (FIRST_LINE + n) [] c.in_ok-reading.reading) c.count.ensures.value c.in_ok-reading.ensures.read)
    (subst (λ part. ReadsOn c.in_ok-reading.reading part c.take.new.self) c.part.ensures c.take.ensures.reads) c.finish.ensures
