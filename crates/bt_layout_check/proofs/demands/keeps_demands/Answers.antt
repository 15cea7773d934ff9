use Rattle.std.proofs.Common.{sym, subst}
use Rattle.std.specs.List.{All}
use Rattle.bt_net.specs.declared.network.Demand.{Demand}
use Rattle.bt_model.specs.Requests.{HasEnds, ends_of}
use Rattle.bt_layout_check.proofs.demands.keeps_demands.Goals as goal

pub keeps_demand-requires-clause-named : goal.keeps_demand-requires-clause-named
keeps_demand-requires-clause-named c =
    let all = subst (All (λ (d : Demand). HasEnds c.args.request.now.net (ends_of d))) (sym c.demands-demand-items.ensures) c.requires.request.ends in
    all c.loop-demand.demand-index _ c.loop-demand-test.true
