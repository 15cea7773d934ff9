use Rattle.std.proofs.Common.{◌<◌, arith, length}
use Rattle.std.proofs.lemmas.Bool.Decides.{nat_tests}
use Rattle.bt_sat.proofs.Served.{one_told}
use Rattle.bt_sat.proofs.serving.tell.Goals as goal

pub returns : goal.returns
returns g c =
    let some : 0 < length c.args.choosers.now = grind (arith, nat_tests) in
    one_told g.C.Chooser.told_clauses c.args.choosers.now c.serving_place-place.result c.args.steps c.args.clause.now c.told.new.self _ (c.serving_place-place.ensures.serves some)
    c.in_ok-told.ensures.gains
