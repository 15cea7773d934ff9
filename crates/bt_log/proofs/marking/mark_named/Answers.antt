use Rattle.std.proofs.Common.{arith, [], ◌∷◌, get_or, take, sym, subst}
use Rattle.std.proofs.lemmas.List.{take_more}
use Rattle.bt_log.specs.inner.Marking.{MarksNamed}
use Rattle.bt_log.proofs.Marked.{named_more}
use Rattle.bt_log.proofs.marking.mark_named.Goals as goal

pub loop-hint-preserved : goal.loop-hint-preserved
loop-hint-preserved c =
    let hints = c.args.hints.now in
    let i = c.loop-hint.hint-index in
    subst (λ some. MarksNamed c.args.first some c.args.place c.args.marks.now c.mark.new.marks) (sym (take_more hints i 0 (omega arith)))
    (named_more c.args.first (take i hints) (get_or hints i 0 ∷ []) c.args.place c.args.marks.now c.loop-hint.marks c.mark.new.marks c.loop-hint.invariant c.mark.ensures)
