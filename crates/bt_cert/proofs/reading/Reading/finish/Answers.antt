use Rattle.std.proofs.Common.{sym, subst}
use Rattle.bt_text.specs.Answers.{UnlessMemory}
use Rattle.bt_cert.specs.Certificates.{AreStepsRead}
use Rattle.bt_cert.specs.declared.fault.CertFault.TheVariants.{Memory}
use Rattle.bt_cert.proofs.reading.Reading.finish.Goals as goal

pub returns : goal.returns
returns c = λ start text read.
    subst (UnlessMemory Memory (AreStepsRead start c.args.self.known.formula text)) (sym c.answer.ensures) (c.take_last_line.ensures start text read)
