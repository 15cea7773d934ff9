use Rattle.std.proofs.Common.{refl}
use Rattle.bt_json.specs.Stands.{json_of}
use Rattle.bt_entities.specs.inner.Pieces.{special_of}
use Rattle.bt_entities.proofs.Placed.{told_off, told_special, is_entity}
use Rattle.bt_entities.proofs.blueprint.part_of.Goals as goal

pub returns-in_default : goal.returns-in_default
returns-in_default c = λ major first p s.
    told_off (special_of c.args.reading) major first c.args.place (json_of c.args.entity.now) c.args.piece.now c.args.shift p s c.in_default.ensures

pub returns-in-Some-special : goal.returns-in-Some-special
returns-in-Some-special c = λ major first p s.
    told_special (special_of c.args.reading) major first c.args.place (json_of c.args.entity.now) c.args.piece.now c.args.shift c.in-Some.cell c.in-Some-special.member
    p s c.in-Some.ensures (c.in-Some-special.ensures major p)

pub returns : goal.returns
returns c = λ major first p s.
    is_entity (special_of c.args.reading) major first (json_of c.args.entity.now) c.args.piece.now c.args.shift _
    p s c.in-Some.ensures refl refl refl (c.in_default-special.ensures major p)
