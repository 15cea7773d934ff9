use Rattle.bt_json.specs.Stands.{json_of}
use Rattle.std.proofs.lemmas.Result.{err_from_is_err_and}
use Rattle.bt_entities.proofs.Lowest.{begun, bad_type, bad_priority}
use Rattle.bt_entities.proofs.Placed.{kind_typed}
use Rattle.bt_entities.proofs.piece.with_members.Goals as goal

pub returns-in_default-kind_of : goal.returns-in_default-kind_of
returns-in_default-kind_of c =
    let v = json_of c.args.entity.now in
    bad_type c.args.major v (begun c.args.major v _ _ _ c.in-Some-direction.dir c.requires c.in-Some.ensures c.in-Some-direction.ensures) c.in_default-kind_of.ensures

pub returns-in_err-priority : goal.returns-in_err-priority
returns-in_err-priority c =
    let v = json_of c.args.entity.now in
    let p = err_from_is_err_and c.from_residual.result c.from_residual.ensures.1 in
    rw (p.1, p.2) (bad_priority c.args.major v _
    (begun c.args.major v _ _ _ c.in-Some-direction.dir c.requires c.in-Some.ensures c.in-Some-direction.ensures)
    (kind_typed c.args.major v c.in-Some-kind_of.kind c.in-Some-kind_of.ensures) c.in_err-priority.ensures)
