use Rattle.std.proofs.Common.{◌++◌, ◌∷◌, [], append-nil, sym, ◌∙◌, ap, subst}
use Rattle.bt_parts.specs.Cells.{steps}
use Rattle.bt_facts.specs.declared.fact.Fact.TheVariants.{Lies}
use Rattle.bt_facts.specs.Near.{IsNear}
use Rattle.bt_facts.specs.Rules.{rule}
use Rattle.bt_demands.specs.Rows.{way_of, kind_facts}
use Rattle.bt_arena.proofs.Loops.{item_more}
use Rattle.bt_demands.proofs.RowCells.{grid_near, place_inside}
use Rattle.bt_demands.proofs.rowing.add_all_placed.Goals as goal

pub loop-k-init : goal.loop-k-init
loop-k-init c = sym (append-nil c.args.draft.now)

pub far-there-requires-clause-near : goal.far-there-requires-clause-near
far-there-requires-clause-near c = grid_near c.args.rect c.requires.grid c.args.cell c.requires.cell

pub add_placed-requires : goal.add_placed-requires
add_placed-requires c =
    let there = place_inside c.args.rect c.args.count c.args.line c.args.cell c.requires.cell c.requires.place c.loop-k.k c.loop-k-test.true in
    subst IsNear (sym (c.far-there.ensures ∙ ap (λ way. steps c.loop-k.k way c.args.cell) c.way_of.ensures)) (grid_near c.args.rect c.requires.grid _ there)

pub loop-k-preserved : goal.loop-k-preserved
loop-k-preserved c =
    item_more (λ j. rule (Lies c.args.cell c.args.line ∷ []) (kind_facts c.args.rect (steps j (way_of c.args.line) c.args.cell) c.args.kind)) c.args.draft.now c.loop-k.draft c.add_placed.new.draft c.loop-k.k c.loop-k.invariant
    (c.in_ok-add_placed.ensures ∙ ap (λ there. c.loop-k.draft ++ rule (Lies c.args.cell c.args.line ∷ []) (kind_facts c.args.rect there c.args.kind) ∷ []) (c.far-there.ensures ∙ ap (λ way. steps c.loop-k.k way c.args.cell) c.way_of.ensures))
