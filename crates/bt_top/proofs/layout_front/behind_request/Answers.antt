use Rattle.bt_top.specs.NoneCertificates.{IsNoneTextChecked}
use Rattle.bt_top.proofs.Fronts.{behind_blanks, line_at_hand}
use Rattle.bt_top.proofs.layout_front.behind_request.Goals as goal

pub returns-in-Some : goal.returns-in-Some
returns-in-Some c =
    let text = c.skip_blanks-text.result.now in
    behind_blanks c.args.ended (IsNoneTextChecked c.args.request.now) c.args.rest.now text (line_at_hand c.args.ended text c.in-Some.title.now c.in-Some.lines.now c.in-Some.ensures.some) c.skip_blanks-text.ensures
    c.behind_title.result (c.behind_title.ensures c.args.ended text c.in-Some.ensures.some)
