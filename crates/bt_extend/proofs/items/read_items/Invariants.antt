use Rattle.std.proofs.Common.{length}
use Rattle.bt_extend.proofs.ItemLists.{Walks}
use Rattle.bt_extend.proofs.items.read_items.Given as goal

-- the items so far are the words at the front of the text
abbrev pub invariant-loop-item : goal.invariant-loop-item
invariant-loop-item g l = Walks g.T.Item.can_stand g.T.Item.word l.text l.items.items l.rest

abbrev pub decreases-loop-item : goal.decreases-loop-item
decreases-loop-item g l = length l.rest
