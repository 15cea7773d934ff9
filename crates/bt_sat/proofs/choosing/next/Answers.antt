use Rattle.std.proofs.Common.{◌-◌, length}
use Rattle.bt_sat.proofs.Served.{same_part}
use Rattle.bt_sat.proofs.choosing.next.Goals as goal

pub returns-in-None-clause-same : goal.returns-in-None-clause-same
returns-in-None-clause-same g c =
    same_part g.C.Chooser.told_clauses c.serving_place-serving.result (length c.args.choosers.now - c.serving_place-serving.result) c.args.choosers.now c.next.new.choosers
    c.next.ensures.same
