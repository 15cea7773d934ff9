use Rattle.std.proofs.Common.{ℕ, List, ◌+◌, ◌<◌, arith, length, get_or, take, sym, subst, ◌∙◌}
use Rattle.std.specs.List.{AllZip}
use Rattle.std.proofs.lemmas.List.{get_or_default}
use Rattle.std.proofs.lemmas.List.Elements.{all_zip_more}
use Rattle.bt_log.specs.Trimming.{IsRenamed}
use Rattle.bt_log.proofs.trimming.renamed_all.Goals as goal

pub renamed-requires-clause-named : goal.renamed-requires-clause-named
renamed-requires-clause-named c = λ k less same.
    let inside : c.loop-hint.hint-index < length c.args.hints.now = omega arith in
    c.requires.named k less (c.loop-hint.hint-index, inside, get_or_default c.args.hints.now c.loop-hint.hint-index (c.args.first + k) 0 inside ∙ same)

pub loop-hint-preserved : goal.loop-hint-preserved
loop-hint-preserved c =
    let hints = c.args.hints.now in
    let i = c.loop-hint.hint-index in
    let inside : i < length hints = omega arith in
    let R = IsRenamed c.args.first c.args.kept.now.places.items c.args.place in
    subst (AllZip R (take (i + 1) hints)) (sym {A = List ℕ} c.in_ok-push.ensures.items)
    (all_zip_more R hints c.loop-hint.again.items i (get_or hints i 0) c.renamed.result inside (get_or_default hints i 0 (get_or hints i 0) inside) c.loop-hint.invariant
    c.renamed.ensures)
