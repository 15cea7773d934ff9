use Rattle.std.proofs.Common.{sym, subst, alloc_error}
use Rattle.bt_text.specs.Answers.{UnlessMemory}
use Rattle.bt_top.specs.Making.{IsMade}
use Rattle.bt_top.proofs.make.make.Goals as goal

pub returns-in-Butterfly : goal.returns-in-Butterfly
returns-in-Butterfly g c =
    subst (λ family. UnlessMemory alloc_error (IsMade family c.args.order c.args.limits) c.butterfly_made.result) (sym c.in-Butterfly.is) c.butterfly_made.ensures

pub returns-in-Chain : goal.returns-in-Chain
returns-in-Chain g c =
    subst (λ family. UnlessMemory alloc_error (IsMade family c.args.order c.args.limits) c.chain_made.result) (sym c.in-Chain.is) c.chain_made.ensures
