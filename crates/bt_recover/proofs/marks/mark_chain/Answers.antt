use Rattle.std.proofs.Common.{ℕ}
use Rattle.bt_model.specs.Chains.{LinksTo}
use Rattle.bt_recover.proofs.MarkLemmas.{start_free, none_tells}
use Rattle.bt_recover.proofs.marks.mark_chain.Goals as goal

pub mark_from-requires-clause-free : goal.mark_from-requires-clause-free
mark_from-requires-clause-free c =
    start_free c.args.grid.now c.args.i
    (none_tells ((p : ℕ) → LinksTo c.args.grid.now p c.args.i → ⊥) (λ p. LinksTo c.args.grid.now p c.args.i)
    c.link_before.result c.is_none.result c.is_none.ensures c.if-is_none.true c.link_before.ensures)
