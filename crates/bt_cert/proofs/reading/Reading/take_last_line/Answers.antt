use Rattle.std.proofs.Common.{sym, ◌∙◌}
use Rattle.std.proofs.lemmas.Bool.{false≢true}
use Rattle.bt_cert.proofs.Endings.{ends_here}
use Rattle.bt_cert.proofs.reading.Reading.take_last_line.Goals as goal

pub returns-else-reads_steps : goal.returns-else-reads_steps
returns-else-reads_steps c = λ start text read.
    ends_here start c.args.self.now text (λ steps. absurd (false≢true (sym c.if-reads_steps.false ∙ c.reads_steps.ensures.1 steps))) read
