use Rattle.std.specs.Prelude.{codes}
use Rattle.bt_entities.specs.Written.{hand_text}
use Rattle.bt_entities.proofs.Behind.{five_behind}
use Rattle.bt_entities.proofs.entity.push_some_hand.Goals as goal

pub returns : goal.returns
returns c =
    five_behind c.args.text.now.items c.extend_from_slice.new.self.items c.extend_from_slice-2.new.self.items c.extend_from_slice-3.new.self.items c.extend_from_slice-4.new.self.items c.extend_from_slice-5.new.self.items
    (codes ",\"") c.args.name.now (codes "\":\"") (hand_text c.args.hand) (codes "\"")
    c.in_ok-extend_from_slice.ensures.items c.in_ok-extend_from_slice-2.ensures.items c.in_ok-extend_from_slice-3.ensures.items
    (rw c.hand_word.ensures at c.in_ok-extend_from_slice-4.ensures.items) c.in_ok-extend_from_slice-5.ensures.items
