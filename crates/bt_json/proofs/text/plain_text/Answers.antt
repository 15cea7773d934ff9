use Rattle.std.proofs.Common.{None, ◌∙◌}
use Rattle.std.specs.Prelude.{[], slice_range}
use Rattle.bt_json.proofs.Texts.{closing_plain}
use Rattle.bt_json.proofs.text.plain_text.Goals as goal

pub returns-then-stands_at-clause-ok : goal.returns-then-stands_at-clause-ok
returns-then-stands_at-clause-ok c = λ role k.
    let y = c.stands_at.ensures.yes c.if-stands_at.true in
    let bs = c.args.bytes.now in
    let end = c.plain_end-end.result in
    c.plain_end-end.ensures.read (record { out = []; high = None; role = role; frames = k }) ∙ closing_plain bs end role k (slice_range bs c.args.start end) y.0 y.1
