use Rattle.bt_net.specs.Network.{Network}
use Rattle.bt_top.specs.SameCertificates.{IsSameTextChecked}
use Rattle.bt_top.proofs.Fronts.{behind_blanks, line_at_hand}
use Rattle.bt_top.proofs.same_front.behind_both.Goals as goal

pub returns-in-Some : goal.returns-in-Some
returns-in-Some c =
    let text = c.skip_blanks-text.result.now in
    let nets : Network × Network = (c.args.first, c.args.second) in
    behind_blanks c.args.ended (IsSameTextChecked nets) c.args.rest.now text (line_at_hand c.args.ended text c.in-Some.title.now c.in-Some.lines.now c.in-Some.ensures.some) c.skip_blanks-text.ensures
    c.behind_title.result (c.behind_title.ensures c.args.ended c.in-Some.ensures.some)
