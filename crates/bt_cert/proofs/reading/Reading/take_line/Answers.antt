use Rattle.std.proofs.Common.{◌∷◌, [], ◌++◌, sym, ◌∙◌, ap, subst}
use Rattle.bt_cert.specs.inner.Stages.{ReadsOn, advanced}
use Rattle.bt_cert.proofs.Stages.{line_reads}
use Rattle.bt_cert.proofs.reading.Reading.take_line.Goals as goal

pub returns-clause-reads : goal.returns-clause-reads
returns-clause-reads c =
    subst (ReadsOn c.args.self.now (c.args.line.now ++ 10 ∷ [])) (sym (c.advance.ensures ∙ ap (λ p. advanced p c.find-found.result) c.find-found.ensures.same))
    (line_reads c.args.self.now c.find-found.new.self.known c.args.line.now c.find-found.result c.requires.stage c.requires.lacks c.find-found.ensures.found)
