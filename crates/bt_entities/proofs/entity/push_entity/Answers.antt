use Rattle.std.proofs.Common.{◌+◌, ◌∙◌, ap, ◌++◌}
use Rattle.bt_entities.specs.Written.{comma_before, number_member, name_member, position_member, direction_member, priority_members, type_member}
use Rattle.bt_entities.proofs.Behind.{six_behind, entity_parts}
use Rattle.bt_entities.proofs.entity.push_entity.Goals as goal

pub returns : goal.returns
returns c =
    let old = c.args.text.now.items in
    let part = c.args.part in
    let n = number_member (c.args.index + 1) in
    let priority = priority_members part.kind c.args.priority in
    six_behind old c.push_comma.new.text.items c.push_head.new.text.items c.push_position.new.text.items c.push_turn.new.text.items c.push_priority.new.text.items c.extend_from_slice.new.self.items
    (comma_before c.args.index) (n ++ name_member part) (position_member part) (direction_member c.args.version part) priority (type_member part.kind)
    c.in_ok-push_comma.ensures c.in_ok-push_head.ensures c.in_ok-push_position.ensures c.in_ok-push_turn.ensures c.in_ok-push_priority.ensures
    (rw c.type_and_end.ensures at c.in_ok-extend_from_slice.ensures.items)
    ∙ ap (λ t. old ++ t) (entity_parts (comma_before c.args.index) n (name_member part) (position_member part) (direction_member c.args.version part) priority (type_member part.kind))
