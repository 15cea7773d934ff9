use Rattle.std.specs.Prelude.{codes}
use Rattle.bt_entities.specs.Places.{width_of, height_of}
use Rattle.bt_entities.specs.Written.{halves_text, twice_middle}
use Rattle.bt_entities.proofs.Behind.{five_behind}
use Rattle.bt_entities.proofs.entity.push_position.Goals as goal

pub returns : goal.returns
returns c =
    let part = c.args.part in
    let x = twice_middle part.cell.x (width_of part.kind part.dir) in
    let y = twice_middle part.cell.y (height_of part.kind part.dir) in
    five_behind c.args.text.now.items c.extend_from_slice.new.self.items c.push_x.new.text.items c.extend_from_slice-2.new.self.items c.push_y.new.text.items c.extend_from_slice-3.new.self.items
    (codes ",\"position\":{\"x\":") (halves_text x) (codes ",\"y\":") (halves_text y) (codes "}")
    c.in_ok-extend_from_slice.ensures.items c.in_ok-push_x.ensures c.in_ok-extend_from_slice-2.ensures.items c.in_ok-push_y.ensures c.in_ok-extend_from_slice-3.ensures.items
