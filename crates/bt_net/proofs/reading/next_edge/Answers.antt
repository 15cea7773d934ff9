use Rattle.std.proofs.lemmas.Bool.{iff_false}
use Rattle.bt_net.proofs.NetLines.{last_same}
use Rattle.bt_net.proofs.reading.next_edge.Goals as goal

pub returns-else-admits : goal.returns-else-admits
returns-else-admits c = λ e is new. iff_false c.admits.ensures c.if-admits.false
    (last_same c.args.wiring.now c.args.line.now e c.in_ok-edge.edge c.requires new c.in_ok-edge.ensures.fits c.in_ok-edge.ensures.some is)
