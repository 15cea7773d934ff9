use Rattle.bt_net.proofs.Spelling.{cut_cap, uncut_cap}
use Rattle.bt_net.proofs.words.read_target_and_cap.Goals as goal

pub returns-in_err-read_target-clause-none : goal.returns-in_err-read_target-clause-none
returns-in_err-read_target-clause-none c =
    rw c.from_residual.ensures (λ t cap fits small is.
    c.in_err-read_target.ensures.none t fits (uncut_cap c.args.words.now t cap fits c.in_default.ensures.none is).0)

pub returns-in_err-read_target-2-clause-none : goal.returns-in_err-read_target-2-clause-none
returns-in_err-read_target-2-clause-none c =
    rw c.from_residual-in_err-read_target-2.ensures (λ t cap fits small is.
    c.in_err-read_target-2.ensures.none t fits (cut_cap c.args.words.now c.in-Some.target.now c.in-Some.cap.now t cap fits c.in-Some.ensures.some is).0)

pub returns-in_err-read_cap-clause-none : goal.returns-in_err-read_cap-clause-none
returns-in_err-read_cap-clause-none c =
    rw c.from_residual-in_err-read_cap.ensures (λ t cap fits small is.
    c.in_err-read_cap.ensures.none cap small (cut_cap c.args.words.now c.in-Some.target.now c.in-Some.cap.now t cap fits c.in-Some.ensures.some is).1)
