use Rattle.std.proofs.Common.{◌∷◌, [], append-nil, sym}
use Rattle.bt_facts.specs.declared.fact.Fact.TheVariants as fact
use Rattle.bt_facts.specs.Rules.{not_all}
use Rattle.bt_arena.proofs.Loops.{mapped_more, mapped_all}
use Rattle.bt_demands.proofs.siding.add_apart.Goals as goal

pub loop-cell-init : goal.loop-cell-init
loop-cell-init c = sym (append-nil c.args.draft.now)

pub loop-cell-preserved : goal.loop-cell-preserved
loop-cell-preserved c = mapped_more (λ x. not_all (fact.Stops x c.args.output ∷ fact.Stops x c.args.other ∷ [])) c.args.border.now c.args.draft.now c.loop-cell.draft c.add.new.self c.loop-cell.cell-index _ c.loop-cell-test.true c.loop-cell.invariant (c.in_ok-add.ensures)

pub returns : goal.returns
returns c = mapped_all (λ x. not_all (fact.Stops x c.args.output ∷ fact.Stops x c.args.other ∷ [])) c.args.border.now c.args.draft.now c.loop-cell.draft c.loop-cell.cell-index c.loop-cell-test.false c.loop-cell.invariant
