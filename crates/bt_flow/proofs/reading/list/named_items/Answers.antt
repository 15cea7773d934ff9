use Rattle.bt_flow.specs.StateLines.{SpellsItems}
use Rattle.bt_flow.proofs.Faults.{refused_after}
use Rattle.bt_flow.proofs.reading.list.named_items.Goals as goal

pub returns-in-Some-clause-err : goal.returns-in-Some-clause-err
returns-in-Some-clause-err g c =
    refused_after _ _ _ c.in-Some.text.now (SpellsItems g.T.Item.can_stand g.T.Item.word c.args.count) _ c.in-Some.ensures.some c.read_items.ensures.err
