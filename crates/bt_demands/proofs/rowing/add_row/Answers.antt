use Rattle.std.proofs.Common.{◌<◌, ◌≤◌, ◌++◌, ◌∷◌, [], append-nil, append_assoc, sym, ◌∙◌, ap, subst}
use Rattle.std.specs.List.{flat_map}
use Rattle.bt_facts.specs.Rules.{some_of}
use Rattle.bt_model.specs.Laying.{end_count}
use Rattle.bt_demands.specs.Rows.{lines_of, place_facts, line_rules}
use Rattle.bt_arena.proofs.Loops.{taken_more, taken_all}
use Rattle.bt_demands.proofs.RowCells.{two_lines}
use Rattle.bt_demands.proofs.rowing.add_row.Goals as goal

pub loop-line-init : goal.loop-line-init
loop-line-init c = sym (append-nil c.add_some_place.new.draft)

pub loop-line-preserved : goal.loop-line-preserved
loop-line-preserved c = taken_more (line_rules c.rect-rect.result c.args.row.kind c.end_count-count.result) c.lines_of-line-items.result c.add_some_place.new.draft c.loop-line.draft c.add_line.new.draft c.loop-line.line-index _ (subst (λ n. c.loop-line.line-index < n) (sym (two_lines c.args.row.kind c.lines_of-line-items.result c.lines_of-line-items.ensures)) c.loop-line-test.true) c.loop-line.invariant (c.in_ok-add_line.ensures)

pub returns : goal.returns
returns c =
    let r = c.args.request.now in
    let kind = c.args.row.kind in
    let rect = c.rect-rect.result in
    let count = c.end_count-count.result in
    let lines = c.lines_of-line-items.result in
    let old = c.args.draft.now in
    taken_all (line_rules rect kind count) lines c.add_some_place.new.draft c.loop-line.draft c.loop-line.line-index (subst (λ n. n ≤ c.loop-line.line-index) (sym (two_lines kind lines c.lines_of-line-items.ensures)) c.loop-line-test.false) c.loop-line.invariant
    ∙ ap (λ l. l ++ flat_map (line_rules rect kind count) lines) c.in_ok-add_some_place.ensures
    ∙ append_assoc old (some_of (flat_map (place_facts rect count) (lines_of kind)) ∷ []) (flat_map (line_rules rect kind count) lines)
    ∙ ap (λ x. old ++ some_of (flat_map (place_facts x count) (lines_of kind)) ∷ flat_map (line_rules x kind count) lines) c.rect-rect.ensures.rect
    ∙ ap (λ n. old ++ some_of (flat_map (place_facts r.rect n) (lines_of kind)) ∷ flat_map (line_rules r.rect kind n) lines) c.end_count-count.ensures.value
    ∙ ap (λ l. old ++ some_of (flat_map (place_facts r.rect (end_count r.net kind)) (lines_of kind)) ∷ flat_map (line_rules r.rect kind (end_count r.net kind)) l) c.lines_of-line-items.ensures
