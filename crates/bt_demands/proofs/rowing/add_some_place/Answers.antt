use Rattle.std.proofs.Common.{◌≡◌, ◌<◌, ◌≤◌, [], ◌∷◌, ◌++◌, OnOk, sym, ◌∙◌, ap, subst}
use Rattle.std.specs.List.{flat_map}
use Rattle.bt_facts.specs.Rules.{rule}
use Rattle.bt_demands.specs.Rows.{lines_of, place_facts}
use Rattle.bt_arena.proofs.Loops.{taken_more, taken_all}
use Rattle.bt_demands.proofs.RowCells.{two_lines}
use Rattle.bt_demands.proofs.rowing.add_some_place.Goals as goal

pub loop-line-preserved : goal.loop-line-preserved
loop-line-preserved c = taken_more (place_facts c.args.rect c.args.count) c.lines_of-line-items.result [] c.loop-line.facts.items c.push_places.new.facts.items c.loop-line.line-index _ (subst (λ n. c.loop-line.line-index < n) (sym (two_lines c.args.kind c.lines_of-line-items.result c.lines_of-line-items.ensures)) c.loop-line-test.true) c.loop-line.invariant (c.in_ok-push_places.ensures)

pub returns : goal.returns
returns c =
    let places : c.deref.result.now ≡ flat_map (place_facts c.args.rect c.args.count) (lines_of c.args.kind) = c.deref.ensures.value
    ∙ taken_all (place_facts c.args.rect c.args.count) c.lines_of-line-items.result [] c.loop-line.facts.items c.loop-line.line-index (subst (λ n. n ≤ c.loop-line.line-index) (sym (two_lines c.args.kind c.lines_of-line-items.result c.lines_of-line-items.ensures)) c.loop-line-test.false) c.loop-line.invariant
    ∙ ap (flat_map (place_facts c.args.rect c.args.count)) c.lines_of-line-items.ensures in
    subst (λ facts. OnOk c.add.result (c.add.new.self ≡ c.args.draft.now ++ rule [] facts ∷ [])) places c.add.ensures
