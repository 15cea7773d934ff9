use Rattle.std.proofs.Common.{sym, ◌∙◌, ap, subst}
use Rattle.bt_cert.specs.inner.Stages.{IsEnded, advanced}
use Rattle.bt_cert.proofs.Endings.{ends_here, last_line_read}
use Rattle.bt_cert.proofs.reading.Reading.take_part.Goals as goal

pub returns-then-has_no_part : goal.returns-then-has_no_part
returns-then-has_no_part c = λ start text read. ends_here start c.args.self.now text (λ steps. c.has_no_part.ensures.none c.if-has_no_part.true) read

pub returns : goal.returns
returns c = λ start text read.
    subst (IsEnded start c.args.self.now.known.formula text) (sym (c.advance.ensures ∙ ap (λ p. advanced p c.find-found.result) c.find-found.ensures.same))
    (last_line_read start c.args.self.now c.find-found.new.self.known text c.find-found.result c.requires.stage (c.has_no_part.ensures.some c.if-has_no_part.false) c.find-found.ensures.found read)
