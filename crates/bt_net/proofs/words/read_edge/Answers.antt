use Rattle.bt_net.proofs.Spelling.{cut_words}
use Rattle.bt_net.proofs.words.read_edge.Goals as goal

pub returns-in_err-start-2-clause-none : goal.returns-in_err-start-2-clause-none
returns-in_err-start-2-clause-none c =
    rw c.from_residual-in_err-start-2.ensures (λ e fits is.
    c.in_err-start-2.ensures.none e.start fits.0 (cut_words c.args.line.now c.in_ok-ends.ends.now _ _ e fits c.in_ok-ends.ensures.some c.in_ok-start.ensures.some is).0)

pub returns-in_err-target-clause-none : goal.returns-in_err-target-clause-none
returns-in_err-target-clause-none c =
    rw c.from_residual-in_err-target.ensures (λ e fits is.
    c.in_err-target.ensures.none e.target e.cap fits.1 fits.2 (cut_words c.args.line.now c.in_ok-ends.ends.now _ _ e fits c.in_ok-ends.ensures.some c.in_ok-start.ensures.some is).1)
