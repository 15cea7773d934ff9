use Rattle.std.proofs.Common.{sym, ◌∙◌}
use Rattle.std.proofs.lemmas.Bool.{false≢true}
use Rattle.bt_cert.proofs.Takes.{taken_none, taken_line, taken_all, taken_dropped}
use Rattle.bt_cert.proofs.reading.Reading.take.Goals as goal

pub loop-rest-init : goal.loop-rest-init
loop-rest-init c = taken_none c.args.self.now c.args.piece.now

pub loop-rest-preserved : goal.loop-rest-preserved
loop-rest-preserved c =
    taken_line c.args.self.now c.args.piece.now c.loop-rest.self c.take_line.new.self c.loop-rest.rest.now c.in-Some.line.now c.in-Some.after.now c.loop-rest.invariant
    c.in-Some.ensures.some c.take_line.ensures.reads c.take_line.ensures.line

pub returns-in_default-clause-reads : goal.returns-in_default-clause-reads
returns-in_default-clause-reads c =
    taken_all c.args.self.now c.args.piece.now c.loop-rest.self c.keep.new.self c.loop-rest.rest.now c.loop-rest.invariant c.keep.ensures.reads

pub returns-then-reads_blanks-clause-reads : goal.returns-then-reads_blanks-clause-reads
returns-then-reads_blanks-clause-reads c =
    taken_all c.args.self.now c.args.piece.now c.loop-rest.self c.pass_blanks.new.self c.loop-rest.rest.now c.loop-rest.invariant c.pass_blanks.ensures.reads

pub returns-else-reads_blanks-clause-reads : goal.returns-else-reads_blanks-clause-reads
returns-else-reads_blanks-clause-reads c =
    taken_dropped c.args.self.now c.args.piece.now c.loop-rest.self c.loop-rest.rest.now c.loop-rest.invariant
    (λ steps. false≢true (sym c.loop-rest-test.false ∙ c.reads_steps.ensures.1 steps)) (λ blanks. false≢true (sym c.if-reads_blanks.false ∙ c.reads_blanks.ensures.1 blanks))
