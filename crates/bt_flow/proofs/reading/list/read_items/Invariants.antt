use Rattle.bt_flow.proofs.Words.{Walks}
use Rattle.bt_flow.proofs.reading.list.read_items.Given as goal

-- the items so far are spelled by the front of the text, and the rest is still to be read
abbrev pub invariant-loop : goal.invariant-loop
invariant-loop g l = Walks g.T.Item.can_stand g.T.Item.word l.count l.text l.items.items l.counter l.rest
