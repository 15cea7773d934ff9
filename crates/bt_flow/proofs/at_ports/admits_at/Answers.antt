use Rattle.bt_flow.proofs.AtEdges.{admits_at_none, admits_at_free, admits_at_full}
use Rattle.bt_flow.proofs.at_ports.admits_at.Goals as goal

pub returns-then-not-full : goal.returns-then-not-full
returns-then-not-full c = λ s x some e.
    admits_at_free c.args.net.now c.edges.result.now c.args.place _ c.edges.ensures.edges c.requires s x c.args.full c.is_within.result
    (c.is_within.ensures x s.denominator some e) c.if-is_within.true c.if-not-full.true

pub returns-else-not-full : goal.returns-else-not-full
returns-else-not-full c = λ s x some e.
    admits_at_full c.args.net.now c.edges.result.now c.args.place _ c.edges.ensures.edges c.requires s x c.args.full c.is_within.result
    (c.is_within.ensures x s.denominator some e) c.if-is_within.true c.if-not-full.false c.is_full.result (c.is_full.ensures x s.denominator some e)

pub returns-else-is_within : goal.returns-else-is_within
returns-else-is_within c = λ s x some e.
    admits_at_none c.args.net.now c.edges.result.now c.args.place _ c.edges.ensures.edges c.requires s x c.args.full c.is_within.result
    (c.is_within.ensures x s.denominator some e) c.if-is_within.false
