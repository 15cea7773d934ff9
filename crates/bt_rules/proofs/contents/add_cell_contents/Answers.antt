use Rattle.std.proofs.Common.{◌++◌, ◌∙◌, ap}
use Rattle.bt_rules.specs.Contents.{content_rules, shape_rules, mate_rules}
use Rattle.bt_rules.specs.inner.Parts.{one_class_rules, half_class_rules}
use Rattle.bt_facts.proofs.Drawn.{three_added}
use Rattle.bt_rules.proofs.contents.add_cell_contents.Goals as goal

pub returns : goal.returns
returns c =
    let cell = c.args.cell in
    let r = c.args.request.now in
    let things = c.in_ok-add_things.ensures ∙ ap (λ rect. c.args.draft.now ++ (content_rules cell ++ shape_rules cell ++ mate_rules rect cell)) c.rect.ensures.rect in
    three_added c.args.draft.now c.add_things.new.draft c.add_one_class.new.draft c.add_half_class.new.draft (content_rules cell ++ shape_rules cell ++ mate_rules r.rect cell)
    (one_class_rules r cell) (half_class_rules r cell) things c.in_ok-add_one_class.ensures c.in_ok-add_half_class.ensures
