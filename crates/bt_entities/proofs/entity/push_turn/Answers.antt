use Rattle.bt_entities.proofs.Behind.{behind}
use Rattle.bt_entities.proofs.entity.push_turn.Goals as goal

pub returns : goal.returns
returns c =
    behind c.args.text.now.items c.extend_from_slice.new.self.items c.push_number.new.text.items _ _
    c.in_ok-extend_from_slice.ensures.items (rw c.direction.ensures at c.in_ok-push_number.ensures)
