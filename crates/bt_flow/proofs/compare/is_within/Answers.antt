use Rattle.std.proofs.Common.{pos, ◌*◌}
use Rattle.bt_flow.proofs.Both.{fails_first, passes_first}
use Rattle.bt_flow.proofs.Compared.{at_cap, at_none}
use Rattle.bt_flow.proofs.compare.is_within.Goals as goal

pub returns-then-is_at_most : goal.returns-then-is_at_most
returns-then-is_at_most c = λ x d some e.
    passes_first c.is_at_most.result c.is_at_most-then-is_at_most.result c.if-is_at_most.true
    (c.is_at_most.ensures (pos 0) x d some (at_none c.cap_of.result d c.cap_of.ensures) e)
    (c.is_at_most-then-is_at_most.ensures x (pos (c.args.cap * d)) d some e (at_cap c.cap_of-then-is_at_most.result c.args.cap d c.cap_of-then-is_at_most.ensures))

pub returns-else-is_at_most : goal.returns-else-is_at_most
returns-else-is_at_most c = λ x d some e.
    fails_first c.is_at_most.result c.if-is_at_most.false (c.is_at_most.ensures (pos 0) x d some (at_none c.cap_of.result d c.cap_of.ensures) e)
