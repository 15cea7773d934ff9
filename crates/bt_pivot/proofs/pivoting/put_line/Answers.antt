use Rattle.bt_pivot.proofs.KeptSums.{lines_start, lines_set}
use Rattle.bt_pivot.proofs.pivoting.put_line.Goals as goal

pub returns-then-class-left-clause-kept : goal.returns-then-class-left-clause-kept
returns-then-class-left-clause-kept c t = lines_start t c.args.lines.now c.args.kept.now.sums.items

pub returns-clause-kept : goal.returns-clause-kept
returns-clause-kept c t =
    lines_set t c.args.lines.now c.args.lines.now c.args.kept.now.sums.items c.args.kept.now.sums.items c.forget.new.self.sums.items c.args.class _ (lines_start t c.args.lines.now c.args.kept.now.sums.items) c.forget.ensures
