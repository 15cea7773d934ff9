use Rattle.std.proofs.Common.{◌<◌, length, arith}
use Rattle.bt_designs.proofs.ToldParts.{text_at_end, text_before}
use Rattle.bt_designs.proofs.told.text_part.Goals as goal

pub returns-then-held-clause-some : goal.returns-then-held-clause-some
returns-then-held-clause-some c = text_at_end c.args.held c.requires c.if-held.true

pub returns-else-is_empty-clause-some : goal.returns-else-is_empty-clause-some
returns-else-is_empty-clause-some c =
    let some : 0 < length c.skip_blanks.result.now = grind arith in
    text_before c.args.held c.whole_lines-lines.result.now c.skip_blanks.result.now c.requires c.if-held.false c.whole_lines-lines.ensures c.skip_blanks.ensures some
