use Rattle.bt_net.proofs.PrioritySpelling.{cut_numbers}
use Rattle.bt_net.proofs.priority.read_numbers.Goals as goal

pub returns-in_err-first-2-clause-none : goal.returns-in_err-first-2-clause-none
returns-in_err-first-2-clause-none c = rw c.from_residual-in_err-first-2.ensures (λ k a small few is.
    c.in_err-first-2.ensures.none k small (cut_numbers c.args.words.now _ _ k a small is c.in_ok-first.ensures.some).0)

pub returns-in_err-second-clause-none : goal.returns-in_err-second-clause-none
returns-in_err-second-clause-none c = rw c.from_residual-in_err-second.ensures (λ k a small few is.
    c.in_err-second.ensures.none a few (cut_numbers c.args.words.now _ _ k a small is c.in_ok-first.ensures.some).1)
